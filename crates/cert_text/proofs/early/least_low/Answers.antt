use Rattle.std.proofs.Common.{ℕ, [], ◌∷◌, map, get_or, take, Some, unwrap_or, refl, sym, ap, ap₂, ◌∙◌, arith}
use Rattle.std.proofs.lemmas.List.{take_more, take_all, map-append}
use Rattle.ranked_list.specs.declared.item.Item.{Item}
use Rattle.monotone_fn.specs.Value.{value, least}
use Rattle.topk_theory.specs.Bounds.{low}
use Rattle.topk_theory.proofs.ThresholdLists.{map_map}
use Rattle.cert_text.specs.Lows.{least_so_far, lesser}
use Rattle.cert_text.proofs.LeastLows.{one_more, all_told}
use Rattle.cert_text.proofs.early.least_low.Goals as goal

pub loop-item-init : goal.loop-item-init
loop-item-init c = refl

pub loop-item-preserved : goal.loop-item-preserved
loop-item-preserved c =
    let f : Item → ℕ = λ item. low (value c.args.expr.now) c.args.transcript.now.lists c.args.transcript.now.accesses item.object in
    let items = c.args.items.now in
    let i = c.loop-item.item-index in
    let none : Item = record { object = 0; low = 0; high = 0 } in
    ap Some (c.lesser.ensures ∙ ap₂ lesser c.loop-item.invariant c.low-number.ensures)
    ∙ sym (one_more (map f (take i items)) (f (get_or items i none)))
    ∙ ap least_so_far (sym (ap (map f) (take_more items i none c.loop-item-test.true) ∙ map-append f (take i items) (get_or items i none ∷ [])))

pub returns : goal.returns
returns c =
    let V = value c.args.expr.now in
    let m = c.args.transcript.now.lists in
    let A = c.args.transcript.now.accesses in
    let f : Item → ℕ = λ item. low V m A item.object in
    let items = c.args.items.now in
    let i = c.loop-item.item-index in
    c.unwrap_or.ensures ∙ ap (λ o. unwrap_or o 0) c.loop-item.invariant ∙ all_told (map f (take i items)) ∙ ap (λ xs. least (map f xs)) (take_all i items (omega arith))
    ∙ sym (ap least (map_map (low V m A) (λ (item : Item). item.object) items))
