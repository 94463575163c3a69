use Rattle.std.proofs.Common.{sym, ◌∙◌, ap, subst, take, arith, refl}
use Rattle.std.specs.Prelude.{nat_eq}
use Rattle.std.specs.HashSet.{contains}
use Rattle.ranked_list.specs.Table.{IsRanked}
use Rattle.ranked_list.specs.Rows.{last_row, in_order, TellsObjects}
use Rattle.ranked_list.proofs.RankLaws.{IsRanked-push}
use Rattle.ranked_list.proofs.RowLaws.{last_row-push, TellsObjects-push}
use Rattle.ranked_list.proofs.TableLaws.{at_place, found_order, found_fault, fault_of_order, fault_of_object}
use Rattle.std.proofs.lemmas.List.{take_all}
use Rattle.std.proofs.lemmas.Bool.{not-true, not-false, false≢true}
use Rattle.ranked_list.proofs.table.put_objects.Goals as goal

pub returns-then-is_err-clause-ranked : goal.returns-then-is_err-clause-ranked
returns-then-is_err-clause-ranked c =
    let rows = c.args.rows.now in
    let row = c.in-Some.row in
    let at = at_place rows c.loop-place.place row c.in-Some.ensures in (
      λ e. absurd (false≢true e),
      λ ranked.
          absurd (fault_of_order rows c.loop-place.place row at (λ order.
          found_fault c.loop-place.place c.loop-place.last row c.check_next.result c.check_next.ensures (sym c.is_err.ensures.value ∙ c.if-is_err.true)
          (ap (λ last. in_order last row) c.loop-place.invariant.last ∙ order)) ranked),
    )

pub returns-then-not-branch-clause-ranked : goal.returns-then-not-branch-clause-ranked
returns-then-not-branch-clause-ranked c =
    let rows = c.args.rows.now in
    let row = c.in-Some.row in
    let at = at_place rows c.loop-place.place row c.in-Some.ensures in (
      λ e. absurd (false≢true e),
      λ ranked.
          absurd (fault_of_object rows c.loop-place.place row at
          (sym (c.loop-place.invariant.tells row.object) ∙ not-false _ (sym c.in_ok-put.ensures.tells ∙ c.if-not-branch.true)) ranked),
    )

pub loop-place-preserved : goal.loop-place-preserved
loop-place-preserved c =
    let rows = c.args.rows.now in
    let row = c.in-Some.row in
    let place = c.loop-place.place in
    let before = c.loop-place.invariant in
    let at = at_place rows place row c.in-Some.ensures in
    let order = ap (λ last. in_order last row) (sym before.last) ∙ found_order place c.loop-place.last row c.check_next.result c.check_next.ensures (sym c.is_err.ensures.value ∙ c.if-is_err.false) in
    let new = sym (before.tells row.object) ∙ not-true _ (sym c.in_ok-put.ensures.tells ∙ c.if-not-branch.false) in
    record {
      ranked = subst IsRanked (sym at.front) (IsRanked-push (take place rows) row before.ranked order new);
      last = sym (ap last_row at.front ∙ last_row-push (take place rows) row);
      tells =
          subst (TellsObjects (contains nat_eq c.put.new.set)) (sym at.front)
          (TellsObjects-push (contains nat_eq c.loop-place.set) (contains nat_eq c.put.new.set) (take place rows) row before.tells c.in_ok-put.ensures.adds);
    }

pub returns-clause-ranked : goal.returns-clause-ranked
returns-clause-ranked c =
    let whole = take_all c.loop-place.place c.args.rows.now (omega (arith, c.len-place-end.ensures)) in (
      λ e. subst IsRanked whole c.loop-place.invariant.ranked,
      λ ranked. refl,
    )

pub returns-clause-tells : goal.returns-clause-tells
returns-clause-tells c = λ e.
    let whole = take_all c.loop-place.place c.args.rows.now (omega (arith, c.len-place-end.ensures)) in
    subst (TellsObjects (contains nat_eq c.loop-place.set)) whole c.loop-place.invariant.tells
