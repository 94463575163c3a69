-- What follows of a machine that makes its run.
use Rattle.std.proofs.Common.{◌≡◌, ℕ, ◌+◌, ◌≤◌, List, length, Option, Some, None, slice_get, refl, sym, ap, subst, ◌∙◌, arith}
use Rattle.std.proofs.lemmas.List.{take_all}
use Rattle.ranked_list.specs.declared.row.Row.{Row}
use Rattle.ranked_list.specs.declared.need.Need.{Need}
use Rattle.ranked_list.specs.declared.need.Need.TheVariants.{Row as RowAt, Grade, Done}
use Rattle.ranked_list.proofs.Members.{past_end}
use Rattle.topk_theory.specs.declared.access.Access.{Access}
use Rattle.topk_theory.specs.declared.access.Access.TheVariants.{Sorted, Random}
use Rattle.topk_theory.specs.Asked.{Run}
use Rattle.topk_theory.specs.Transcript.{list_at, depth_of}
use Rattle.topk_theory.specs.Machine.{need_of, CanServe}
use Rattle.topk_theory.proofs.AgreementRows.{list_at_length}
use Rattle.access_log.specs.Log.{Log, AgreesWith, with_access}
use Rattle.machine_base.specs.Machine.{MachineState, asked_of, IsSameLog, IsOneMore, IsInRange, MakesRun}

-- the log with one more access is one more on
pub one_more : (before after : Log) (access : Access) → after ≡ with_access before access → IsOneMore access before after
one_more before after access e = record {
  lists = ap (λ (log : Log). log.lists) e;
  count = ap (λ (log : Log). log.count) e;
  accesses = ap (λ (log : Log). log.accesses) e;
}

pub same_log : (one other : Log) → one ≡ other → IsSameLog one other
same_log one other e = record {
  lists = ap (λ (log : Log). log.lists) e;
  count = ap (λ (log : Log). log.count) e;
  accesses = ap (λ (log : Log). log.accesses) e;
}

-- a machine that needs nothing has made its whole run, on every table that agrees
nothing_next : (made : List Access) (next : Option Access) → Done ≡ need_of made next → next ≡ None
nothing_next made None e = refl
nothing_next made (Some (Sorted list object grade)) e = absurd (cc)
nothing_next made (Some (Random list object grade)) e = absurd (cc)

pub whole_run : (run : Run) (t : MachineState) → MakesRun run t → t.need ≡ Done → (D : List (List Row)) → AgreesWith D t.log
    → t.log.accesses ≡ run (asked_of t) D
whole_run run t makes done D agrees =
    let at = makes.on_run D agrees in
    let whole : List Access = run (asked_of t) D in
    let past : length whole ≤ length t.log.accesses = past_end whole (length t.log.accesses) (nothing_next t.log.accesses (slice_get whole (length t.log.accesses)) (sym done ∙ at.next)) in
    sym at.begins ∙ take_all (length t.log.accesses) whole past

-- what is needed is of one of the lists, and a row is the next one of its list
next_row : (log : Log) (made : List Access) (next : Option Access) (list depth : ℕ) → RowAt list depth ≡ need_of made next → depth ≡ depth_of list made + 1
next_row log made None list depth e = absurd (cc)
next_row log made (Some (Sorted other object grade)) list depth e =
    let same : other ≡ list = cc in
    let deep : depth ≡ depth_of other made + 1 = cc in
    deep ∙ ap (λ l. depth_of l made + 1) same
next_row log made (Some (Random other object grade)) list depth e = absurd (cc)

in_range_of : (run : Run) (t : MachineState) (need : Need) → MakesRun run t → t.need ≡ need → IsInRange t.log need
in_range_of run t (RowAt list depth) makes is =
    let D = makes.consistent.0 in
    let agrees : AgreesWith D t.log = makes.consistent.1 in
    let serves : CanServe D (RowAt list depth) = subst (CanServe D) is (makes.served D agrees) in
    let long : length (list_at D list) ≡ t.log.count = list_at_length t.log.count D list agrees.table serves.0 in
    record {
      listed = omega (arith, serves.0, agrees.lists);
      next = next_row t.log t.log.accesses (slice_get (run (asked_of t) D) (length t.log.accesses)) list depth (sym is ∙ (makes.on_run D agrees).next);
      from_one = serves.1;
      within = omega (arith, serves.2);
    }
in_range_of run t (Grade list object) makes is =
    let D = makes.consistent.0 in
    let agrees : AgreesWith D t.log = makes.consistent.1 in
    let serves : CanServe D (Grade list object) = subst (CanServe D) is (makes.served D agrees) in
    omega (arith, serves.0, agrees.lists)
in_range_of run t Done makes is = tt

pub in_range : (run : Run) (t : MachineState) → MakesRun run t → IsInRange t.log t.need
in_range run t makes = in_range_of run t t.need makes refl
