-- What each machine answers is what its method promises.
use Rattle.std.proofs.Common.{◌≡◌, ℕ, None, List, [], length, Result, Ok, Err, IfOk, refl, sym, subst}
use Rattle.ranked_list.specs.declared.item.Item.{Item}
use Rattle.ranked_list.specs.declared.need.Need.TheVariants.{Done}
use Rattle.monotone_fn.specs.Value.{value}
use Rattle.topk_theory.specs.declared.access.Access.{Access}
use Rattle.topk_theory.specs.Threshold.{item_objects}
use Rattle.algorithm_theory.specs.Guarantee.{early_guarantee}
use Rattle.algorithm_theory.specs.Within.{IsWithin}
use Rattle.machine_base.specs.declared.answer.Answer.{Answer}
use Rattle.machine_base.specs.Machine.{MachineState, asked_of, IsSameLog, MakesRun, IsAnswerBy}
use Rattle.ta_core.specs.declared.halting.Halting.{Halting}
use Rattle.ta_core.specs.declared.halting.Halting.TheVariants as halts
use Rattle.ta_core.specs.Machine.{ThresholdState, IsAnswerHalting, MakesItsRun as MakesHaltingRun, IsAnswer as IsHaltingAnswer}
use Rattle.restricted_core.specs.Machine.{RestrictedState, MakesItsRun, IsAnswer}
use Rattle.query_text.specs.declared.algorithm.Algorithm.TheVariants.{Ta, Theta, Early}
use Rattle.cert_text.specs.Guarantee.{guarantee_by}
use Rattle.query_core.specs.declared.machine.Machine.{Machine}
use Rattle.query_core.specs.declared.machine.Machine.TheVariants as machines
use Rattle.query_core.specs.Methods.{Method, method_with, run_with, items_with, IsGoodBy, FixesBy, AnswersWith}
use Rattle.query_core.specs.Machines.{algorithm_halting, method_of, state_of}
use Rattle.query_core.proofs.Answering.{EndsWith, ends_with}
use Rattle.query_core.proofs.Halting.{halting_makes}

-- a method guarantees no factor
abbrev pub HasNoFactor : Method → Type 0
HasNoFactor method = (V : List ℕ → ℕ) (m : ℕ) (A : List Access) (Y : List ℕ) → guarantee_by method.algorithm V m A Y ≡ None

-- then its answer is a top k, and fixed
plain_answers : (method : Method) (t : MachineState) (items : List Item) → HasNoFactor method → IsAnswerBy (items_with method) t items → AnswersWith method t items
plain_answers method t items none answers =
    let Y = item_objects items in
    record {
      exact = answers.exact;
      good = record {
        on_each = λ D agrees.
            subst (λ g. IsGoodBy g (asked_of t) D Y) (sym (none (value t.expr) (length D) t.log.accesses Y)) (answers.top.on_each D agrees);
      };
      fixed = subst (λ g. FixesBy g (asked_of t) t.log.lists t.log.count t.log.accesses Y) (sym (none (value t.expr) t.log.lists t.log.accesses Y)) answers.fixed.fixes;
    }

-- a rule of halting guarantees a top k, or a factor
within_answers : (p q : ℕ) (t : MachineState) (items : List Item) → IsAnswerHalting (halts.Within p q) t items → AnswersWith (method_with (Theta p q) []) t items
within_answers p q t items answers = record {
  exact = answers.exact;
  good = record { on_each = λ D agrees. answers.near.on_each D agrees };
  fixed = answers.fixed.fixes;
}

early_answers : (depth : ℕ) (t : MachineState) (items : List Item) → IsAnswerHalting (halts.Early depth) t items → AnswersWith (method_with (Early depth) []) t items
early_answers depth t items answers =
    let Y = item_objects items in
    let A = t.log.accesses in
    record {
      exact = answers.exact;
      good = record {
        on_each = λ D agrees.
            subst (λ m. IsWithin (value t.expr) t.k (early_guarantee (value t.expr) m A Y) D Y) (sym agrees.lists) (answers.near.on_each D agrees);
      };
      fixed = answers.fixed.fixes;
    }

halting_answers : (rule : Halting) (t : MachineState) (items : List Item) → IsAnswerHalting rule t items → AnswersWith (method_with (algorithm_halting rule) []) t items
halting_answers halts.Exact t items answers = plain_answers (method_with Ta []) t items (λ V m A Y. refl) answers
halting_answers (halts.Within p q) t items answers = within_answers p q t items answers
halting_answers (halts.Early depth) t items answers = early_answers depth t items answers

-- what holds of an answer, so of how a call for it ends
ok_map : {E : Type 0} → (P Q : Answer → Type 0) (ending : Result Answer E) → ((answer : Answer) → P answer → Q answer) → IfOk ending P → IfOk ending Q
ok_map P Q (Ok answer) each h = each answer h
ok_map P Q (Err fault) each h = tt

-- how a call for the answer of each machine ends
pub plain_ends : {E : Type 0} → (machine other : Machine) (ending : Result Answer E) → HasNoFactor (method_of other) → machine ≡ other → (state_of machine).need ≡ Done
    → MakesRun (run_with (method_of other)) (state_of other)
    → IfOk ending (λ answer. IsAnswerBy (items_with (method_of other)) (state_of other) answer.items)
    → IfOk ending (λ answer. IsSameLog answer.transcript (state_of other).log) → EndsWith machine ending
plain_ends machine other ending none is done run items log =
    ends_with machine other ending is done run
    (ok_map (λ answer. IsAnswerBy (items_with (method_of other)) (state_of other) answer.items) (λ answer. AnswersWith (method_of other) (state_of other) answer.items)
    ending (λ answer h. plain_answers (method_of other) (state_of other) answer.items none h) items)
    log

pub threshold_ends : {E : Type 0} → (machine : Machine) (t : ThresholdState) (ending : Result Answer E) → machine ≡ machines.Ta t → (state_of machine).need ≡ Done
    → MakesHaltingRun t → IfOk ending (λ answer. IsHaltingAnswer t answer.items) → IfOk ending (λ answer. IsSameLog answer.transcript t.state.log)
    → EndsWith machine ending
threshold_ends machine t ending is done run items log =
    ends_with machine (machines.Ta t) ending is done (halting_makes t.halting t.state run)
    (ok_map (λ answer. IsHaltingAnswer t answer.items) (λ answer. AnswersWith (method_of (machines.Ta t)) t.state answer.items) ending
    (λ answer h. halting_answers t.halting t.state answer.items h) items)
    log

pub restricted_ends : {E : Type 0} → (machine : Machine) (t : RestrictedState) (ending : Result Answer E) → machine ≡ machines.Taz t → (state_of machine).need ≡ Done
    → MakesItsRun t → IfOk ending (λ answer. IsAnswer t answer.items) → IfOk ending (λ answer. IsSameLog answer.transcript t.state.log) → EndsWith machine ending
restricted_ends machine t ending is done run items log = plain_ends machine (machines.Taz t) ending (λ V m A Y. refl) is done run items log
