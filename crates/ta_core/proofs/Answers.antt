-- The answers: the first k of what was seen, a top k, within the factor or within the guarantee on every table that agrees.
use Rattle.std.proofs.Common.{◌≡◌, ℕ, ◌*◌, ◌<◌, ◌≤◌, List, length, All, Contains, leb-true, sym, subst, ◌∙◌, arith}
use Rattle.ranked_list.specs.declared.row.Row.{Row}
use Rattle.ranked_list.specs.declared.item.Item.{Item}
use Rattle.ranked_list.specs.declared.need.Need.TheVariants.{Done}
use Rattle.monotone_fn.specs.Value.{value}
use Rattle.monotone_fn.proofs.Laws.{value-monotone}
use Rattle.topk_theory.specs.declared.access.Access.{Access}
use Rattle.topk_theory.specs.Aggregate.{IsTop}
use Rattle.topk_theory.specs.Asked.{Run, Answering, threshold_run, threshold_answer}
use Rattle.topk_theory.specs.Transcript.{seen_objects, named_objects}
use Rattle.topk_theory.specs.Threshold.{IsAsked, item_objects}
use Rattle.topk_theory.proofs.Agreement.{seen_is_named}
use Rattle.topk_theory.proofs.AgreementLists.{all_from_members, member_of_all}
use Rattle.topk_theory.proofs.ThresholdLaws.{top_answer}
use Rattle.algorithm_theory.specs.Within.{Factor, IsWithin}
use Rattle.algorithm_theory.specs.Nearby.{early_run, within_run, within_answer, early_stopped_run, early_stopped_answer}
use Rattle.algorithm_theory.specs.Guarantee.{early_guarantee}
use Rattle.algorithm_theory.proofs.Nearness.{theta_within, early_within}
use Rattle.access_log.specs.Log.{AgreesWith}
use Rattle.machine_base.specs.Machine.{MachineState, MakesRun, AreExact, asked_of}
use Rattle.machine_base.proofs.MachineLaws.{whole_run}
use Rattle.machine_base.proofs.Makes.{answer_by}
use Rattle.ta_core.specs.declared.halting.Halting.{Halting}
use Rattle.ta_core.specs.declared.halting.Halting.TheVariants.{Exact, Within, Early}
use Rattle.ta_core.specs.Halting.{IsFit, passes_by}
use Rattle.ta_core.specs.Machine.{IsAnswerWithin, IsAnswerHalting, guarantee_of, run_halting}
use Rattle.ta_core.proofs.Answering.{IsRuleAnswer}
use Rattle.ta_core.proofs.Rules.{rule_answer, early_answer_is}

-- a table that agrees with the log of a machine is asked
table_asked : (run : Run) (t : MachineState) (D : List (List Row)) → MakesRun run t → 0 < t.log.lists → AgreesWith D t.log → IsAsked t.k t.log.count D
table_asked run t D makes some agrees = record {
  table = agrees.table;
  lists = omega (arith, some, agrees.lists);
  positive = makes.posed.positive;
  fits = makes.posed.fits;
}

-- what is within a factor on each table that agrees is fixed to be so, where its objects were seen
answer_within : (answer : Answering) (factor : Factor) (run : Run) (t : MachineState) (items : List Item) → MakesRun run t → AreExact answer t items
    → ((D : List (List Row)) → AgreesWith D t.log → IsWithin (value t.expr) t.k factor D (item_objects items))
    → All (Contains (seen_objects t.log.accesses)) (item_objects items) → IsAnswerWithin answer factor t items
answer_within answer factor run t items makes exact near seen =
    let some = near makes.consistent.0 makes.consistent.1 in
    record {
      exact = exact;
      near = record { on_each = near };
      fixed = record {
        fixes = λ O set holds. record {
          sized = some.sized;
          distinct = some.distinct;
          members = all_from_members (Contains O) (item_objects items) (λ o c.
              member_of_all (Contains O) (named_objects t.log.accesses) o holds
              (seen_is_named t.log.accesses o (member_of_all (Contains (seen_objects t.log.accesses)) (item_objects items) o seen c)));
          always = λ D agrees over. near D agrees;
        };
      };
      seen = seen;
    }

-- ---- exact
exact_answers : (t : MachineState) (items : List Item) → MakesRun threshold_run t → 0 < t.log.lists → IsRuleAnswer Exact t items → IsAnswerHalting Exact t items
exact_answers t items makes some answer =
    answer_by threshold_answer t items makes.consistent answer.exact.on_each
    (λ D agrees.
    subst (λ xs. IsTop (value t.expr) t.k D (item_objects xs)) (sym (answer.exact.on_each D agrees))
    (top_answer (value t.expr) t.k t.log.count D (value-monotone t.expr) (table_asked threshold_run t D makes some agrees)))
    (λ o c. seen_is_named t.log.accesses o (member_of_all (Contains (seen_objects t.log.accesses)) (item_objects items) o answer.seen c))

-- ---- within a factor, which is at least 1 where the rule is fit
fair_of_fit : (p q : ℕ) → IsFit (passes_by (Within p q)) → q ≤ p
fair_of_fit p q fit =
    let one : q * 1 ≤ p * 1 = leb-true (q * 1) (p * 1) (fit.reached 1 1 1 (omega arith)) in
    omega arith

theta_answers : (t : MachineState) (p q : ℕ) (items : List Item) → q ≤ p → MakesRun (within_run (record { p = p; q = q })) t → 0 < t.log.lists
    → IsRuleAnswer (Within p q) t items → IsAnswerHalting (Within p q) t items
theta_answers t p q items fair makes some answer =
    let factor : Factor = record { p = p; q = q } in
    answer_within (within_answer factor) factor (within_run factor) t items makes answer.exact (λ D agrees.
    subst (λ xs. IsWithin (value t.expr) t.k factor D (item_objects xs)) (sym (answer.exact.on_each D agrees))
    (theta_within (value t.expr) t.k t.log.count factor D (value-monotone t.expr) (table_asked (within_run factor) t D makes some agrees) fair)) answer.seen

-- ---- early
early_exact : (t : MachineState) (from : ℕ) (items : List Item) → AreExact (rule_answer (Early from)) t items → AreExact (early_stopped_answer from) t items
early_exact t from items exact = record { on_each = λ D agrees. exact.on_each D agrees ∙ early_answer_is (asked_of t) from D }

early_near : (t : MachineState) (from : ℕ) (items : List Item) (D : List (List Row)) → MakesRun (early_stopped_run from) t → t.need ≡ Done → 0 < t.log.lists
    → AreExact (early_stopped_answer from) t items → AgreesWith D t.log → IsWithin (value t.expr) t.k (guarantee_of t items) D (item_objects items)
early_near t from items D makes done some exact agrees =
    let V = value t.expr in
    let run : t.log.accesses ≡ early_run V t.k from D = whole_run (early_stopped_run from) t makes done D agrees in
    let near = early_within V t.k t.log.count from D (value-monotone t.expr) (table_asked (early_stopped_run from) t D makes some agrees) in
    let over : ℕ → List Access → List Item → Type 0 = λ m A xs. IsWithin V t.k (early_guarantee V m A (item_objects xs)) D (item_objects xs) in
    subst (λ m. over m t.log.accesses items) agrees.lists
    (subst (λ A. over (length D) A items) (sym run) (subst (λ xs. over (length D) (early_run V t.k from D) xs) (sym (exact.on_each D agrees)) near))

early_answers : (t : MachineState) (from : ℕ) (items : List Item) → MakesRun (early_stopped_run from) t → t.need ≡ Done → 0 < t.log.lists
    → IsRuleAnswer (Early from) t items → IsAnswerHalting (Early from) t items
early_answers t from items makes done some answer =
    let exact = early_exact t from items answer.exact in
    answer_within (early_stopped_answer from) (guarantee_of t items) (early_stopped_run from) t items makes exact
    (λ D agrees. early_near t from items D makes done some exact agrees) answer.seen

-- ---- the answer by a rule is that of the algorithm that halts so
pub rule_answers : (rule : Halting) (t : MachineState) (items : List Item) → IsFit (passes_by rule) → MakesRun (run_halting rule) t → t.need ≡ Done → 0 < t.log.lists
    → IsRuleAnswer rule t items → IsAnswerHalting rule t items
rule_answers Exact t items fit makes done some answer = exact_answers t items makes some answer
rule_answers (Within p q) t items fit makes done some answer = theta_answers t p q items (fair_of_fit p q fit) makes some answer
rule_answers (Early from) t items fit makes done some answer = early_answers t from items makes done some answer
