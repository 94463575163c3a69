-- What a machine that is done answers.
use Rattle.std.proofs.Common.{◌≡◌, ℕ, inl, inr, true, List, [], length, All, Contains, sym, subst, ◌∙◌}
use Rattle.std.proofs.lemmas.Bool.{cases_Bool, cases_lt}
use Rattle.ranked_list.specs.declared.row.Row.{Row}
use Rattle.ranked_list.specs.declared.item.Item.{Item}
use Rattle.ranked_list.specs.declared.need.Need.TheVariants.{Row as RowAt, Grade, Done}
use Rattle.machine_base.specs.Held.{Held}
use Rattle.monotone_fn.specs.Value.{value}
use Rattle.monotone_fn.proofs.Laws.{value-monotone}
use Rattle.topk_theory.specs.Order.{IsFirstK}
use Rattle.topk_theory.specs.Transcript.{seen_objects}
use Rattle.topk_theory.specs.Threshold.{ta_run_to, item_objects}
use Rattle.topk_theory.proofs.AgreementLists.{all_from_members, contains_map_from, member_of_all}
use Rattle.access_log.specs.Log.{AgreesWith}
use Rattle.machine_base.specs.declared.base.Base.{Base}
use Rattle.machine_base.specs.Base.{shown}
use Rattle.machine_base.specs.Machine.{MachineState, AreExact}
use Rattle.machine_base.specs.Board.{OnBoard}
use Rattle.machine_base.proofs.Held.{held_asked}
use Rattle.ta_core.specs.declared.halting.Halting.{Halting}
use Rattle.ta_core.specs.Halting.{Halt, halting_depth, halting_answer, passes_by}
use Rattle.ta_core.specs.Reading.{RowProgress, first_or_zero, need_at}
use Rattle.ta_core.specs.Kept.{Keeps}
use Rattle.ta_core.proofs.HaltingLaws.{IsHalting, halting_of, own}
use Rattle.ta_core.proofs.Rules.{rule_answer}
use Rattle.ta_core.proofs.BoardSteps.{depth_first, first_of_depth}
use Rattle.ta_core.proofs.Runs.{need_in_row, need_after_row}
use Rattle.ta_core.proofs.Steps.{made_of_reading}

done_from_need : (m : ℕ) (r : RowProgress) → need_at m r ≡ Done → r.done ≡ true
done_from_need m r e =
    elim (cases_Bool r.done) [
      | inl done ↦ done
      | inr open' ↦ elim (cases_lt (length r.objects) m) [
        | inl short ↦ absurd (not_row (length r.objects) r.depth (sym (need_in_row m r open' short) ∙ e))
        | inr whole ↦ absurd (not_grade (length r.grades) (first_or_zero r.waiting) (sym (need_after_row m r open' whole) ∙ e))
      ]
    ]
  where
    not_row : (l d : ℕ) → RowAt l d ≡ Done → ⊥
    not_row l d e = cc

    not_grade : (l o : ℕ) → Grade l o ≡ Done → ⊥
    not_grade l o e = cc

-- the items are the answer by the rule alone, and their objects were seen
pub record IsRuleAnswer (rule : Halting) (t : MachineState) (items : List Item) : Type 0 where
  pub exact : AreExact (rule_answer rule) t items
  pub seen : All (Contains (seen_objects t.log.accesses)) (item_objects items)

-- the first k of the board, once the run is made
pub answers : (rule : Halting) (base : Base) (board : Held) (r : RowProgress) (items : List Item) → Keeps (passes_by rule) base board r
    → need_at base.transcript.lists r ≡ Done → ((others : List Item) → IsFirstK board.k board.items others → others ≡ items)
    → IsRuleAnswer rule (shown base (need_at base.transcript.lists r)) items
answers rule base board r items kept done only =
    let V = value base.expr in
    let halt : Halt = record { k = base.k; passes = passes_by rule } in
    let m : ℕ = base.transcript.lists in
    let n : ℕ = base.transcript.count in
    let A = base.transcript.accesses in
    let first : (D : List (List Row)) → AgreesWith D base.transcript → IsFirstK board.k board.items (halting_answer V halt D) = λ D agrees.
    let on = kept.on_table D agrees in
    let made = made_of_reading V halt n D A r (done_from_need m r done) on.reading in
    let asked : IsHalting halt n D = halting_of halt n D kept.fit (held_asked base.expr base.k base.room m n A D kept.base agrees) in
    let bare : OnBoard V D (ta_run_to D (halting_depth V halt D)) [] board.items = subst (λ B. OnBoard V D B [] board.items) made.run (subst (λ ws. OnBoard V D A ws board.items) made.none on.board) in
    subst (λ c. IsFirstK c board.items (halting_answer V halt D)) (sym kept.same_k)
    (depth_first V base.k n D (halting_depth V halt D) board.items (halting_answer V halt D) agrees.table (own V halt n D (value-monotone base.expr) asked).within bare (first_of_depth V base.k n D (halting_depth V halt D) agrees.table)) in
    let exact : (D : List (List Row)) → AgreesWith D base.transcript → items ≡ halting_answer V halt D = λ D agrees. sym (only (halting_answer V halt D) (first D agrees)) in
    let some = kept.base.agreeing.0 in
    let agrees_some : AgreesWith some base.transcript = kept.base.agreeing.1 in
    let on_some = kept.on_table some agrees_some in
    record {
      exact = record { on_each = exact };
      seen = all_from_members (Contains (seen_objects A)) (item_objects items) (λ o c.
          let from = contains_map_from (λ (i : Item). i.object) items o c in
          let held = first some agrees_some in
          subst (λ x. Contains (seen_objects A) x) from.2
          (on_some.board.only from.0 (member_of_all (Contains board.items) (halting_answer V halt some) from.0 held.held (subst (λ xs. Contains xs from.0) (exact some agrees_some) from.1))).0);
    }
