use Rattle.std.proofs.Common.{ℕ, List, [], ◌∷◌, ◌++◌, length, map, Some, sym, ap, ◌∙◌, arith}
use Rattle.std.specs.Slice.Iter.{iter_rest}
use Rattle.std.proofs.lemmas.Iterator.{YieldsList-from_slice}
use Rattle.std.proofs.lemmas.Iterator.Consumers.{YieldsList-turn, YieldsList-end}
use Rattle.std.proofs.lemmas.List.{length_push}
use Rattle.std.proofs.lemmas.Option.{slice_get-get_or}
use Rattle.topk_base.specs.Lines.{unlines}
use Rattle.tk_io.proofs.Putting.{puts_none, puts_next_of, puts_all}
use Rattle.cert_text.specs.Certificate.{answer_line}
use Rattle.cert_text.proofs.writing.put_items.Goals as goal

pub loop-item-init : goal.loop-item-init
loop-item-init g c = puts_none _

pub loop-item-preserved : goal.loop-item-preserved
loop-item-preserved g c =
    let items = c.args.items.now in
    let place = length c.loop-item.yielded in
    let t = YieldsList-turn (YieldsList-from_slice items (ap iter_rest c.into_iter-item-iterator.ensures.into_iter_gives ∙ c.iter-item-items.ensures.rest)) c.loop-item.yielded _ c.loop-item.yielded_by _ _ c.in-Some.item c.in-Some.is c.next.ensures.steps in
    rw (length_push c.loop-item.yielded c.in-Some.item)
    (puts_next_of (λ (line : List ℕ). line ++ 10 ∷ []) answer_line items place c.in-Some.item.now _ _ _
    (slice_get-get_or items place c.in-Some.item.now t.0 ∙ ap Some (sym t.1)) c.loop-item.invariant (rw c.from.ensures at c.put_line.ensures))

pub returns : goal.returns
returns g c =
    let items = c.args.items.now in
    let t = YieldsList-end (YieldsList-from_slice items (ap iter_rest c.into_iter-item-iterator.ensures.into_iter_gives ∙ c.iter-item-items.ensures.rest)) c.loop-item.yielded _ c.loop-item.yielded_by _ _ c.in-None.is c.next.ensures.steps in
    puts_all (λ xs. unlines (map answer_line xs)) items (length c.loop-item.yielded) _ _ (omega (arith, t.1)) c.loop-item.invariant
