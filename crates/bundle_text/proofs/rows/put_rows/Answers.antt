use Rattle.std.proofs.Common.{ℕ, List, [], ◌∷◌, ◌++◌, length, map, Some, sym, ap, ◌∙◌, arith}
use Rattle.std.specs.Slice.Iter.{iter_rest}
use Rattle.std.proofs.lemmas.Iterator.{YieldsList-from_slice}
use Rattle.std.proofs.lemmas.Iterator.Consumers.{YieldsList-turn, YieldsList-end}
use Rattle.std.proofs.lemmas.List.{length_push}
use Rattle.std.proofs.lemmas.Option.{slice_get-get_or}
use Rattle.topk_base.specs.Lines.{unlines}
use Rattle.tk_io.proofs.Putting.{puts_none, puts_next_of, puts_all}
use Rattle.ranked_list.specs.declared.row.Row.{Row}
use Rattle.bundle_text.specs.Bundle.{row_line}
use Rattle.bundle_text.proofs.rows.put_rows.Goals as goal

pub loop-row-init : goal.loop-row-init
loop-row-init g c = puts_none _

pub loop-row-preserved : goal.loop-row-preserved
loop-row-preserved g c =
    let rows = c.args.rows.now in
    let t = YieldsList-turn (YieldsList-from_slice rows (ap iter_rest c.into_iter-row-iterator.ensures.into_iter_gives ∙ c.iter-row-items.ensures.rest)) c.loop-row.yielded _ c.loop-row.yielded_by _ _ c.in-Some.row c.in-Some.is c.next.ensures.steps in
    rw (length_push c.loop-row.yielded c.in-Some.row)
    (puts_next_of (λ (line : List ℕ). line ++ 10 ∷ []) row_line rows (length c.loop-row.yielded) c.in-Some.row.now _ _ _
    (slice_get-get_or rows (length c.loop-row.yielded) c.in-Some.row.now t.0 ∙ ap Some (sym t.1)) c.loop-row.invariant c.put_row.ensures)

pub returns : goal.returns
returns g c =
    let t = YieldsList-end (YieldsList-from_slice c.args.rows.now (ap iter_rest c.into_iter-row-iterator.ensures.into_iter_gives ∙ c.iter-row-items.ensures.rest)) c.loop-row.yielded _ c.loop-row.yielded_by _ _ c.in-None.is c.next.ensures.steps in
    puts_all (λ (rows : List Row). unlines (map row_line rows)) c.args.rows.now (length c.loop-row.yielded) _ _ (omega (arith, t.1)) c.loop-row.invariant
