use Rattle.std.proofs.Common.{◌≡◌, ◌∙◌, ◌+◌, cond, true, Some, drop, sym, ap}
use Rattle.std.specs.Str.{bytes_eq}
use Rattle.test_mem_source.specs.declared.mem_shelf.HeldSource.{HeldSource}
use Rattle.test_mem_source.specs.Shelved.{source_at}
use Rattle.test_mem_source.specs.OnShelf.{placed_sources}
use Rattle.test_mem_source.proofs.ShelfLaws.{source_drop}
use Rattle.test_mem_source.proofs.mem_shelf.source_of.Goals as goal

pub returns-then-eq : goal.returns-then-eq
returns-then-eq c =
    let place = c.args.place.now in
    let later = source_at (placed_sources (drop (c.loop-held.held-index + 1) c.args.sources.now)) place in
    let is_here : bytes_eq c.held-item.result.place.items place ≡ true =
    ap (λ p. bytes_eq p place) (sym c.as_slice.ensures.value) ∙ (sym c.eq.ensures ∙ c.if-eq.true) in
    sym (c.loop-held.invariant
    ∙ (source_drop c.args.sources.now place c.loop-held.held-index c.held-item.result c.loop-held-test.true
    ∙ (ap (λ (held : HeldSource). cond (bytes_eq held.place.items place) (Some held.source) later) (sym c.held-item.is)
    ∙ ap (λ b. cond b (Some c.held-item.result.source) later) is_here)))
