use Rattle.std.proofs.Common.{◌≡◌, ◌∙◌, Some, false, sym, ap}
use Rattle.test_mem_source.specs.InMemory.{next_call}
use Rattle.test_mem_source.specs.Shelved.{source_at}
use Rattle.test_mem_source.specs.OnShelf.{is_among, placed_sources}
use Rattle.test_mem_source.proofs.ShelfLaws.{given}
use Rattle.test_mem_source.proofs.mem_shelf.MemShelfShelf.take.Goals as goal

pub returns-else-is_err-clause-answer : goal.returns-else-is_err-clause-answer
returns-else-is_err-clause-answer c =
    let fails = c.self.inside.fail_takes.items in
    let sources = c.self.inside.sources.items in
    let call = next_call c.self.inside.take_calls in
    let not_due : is_among fails call ≡ false =
    ap (λ xs. is_among xs call) (sym c.deref.ensures.value) ∙ (ap (is_among c.deref.result.now) (sym c.saturating_add-call.ensures) ∙ sym c.if-not-fails.ensures.value) in
    let held : source_at (placed_sources sources) c.args.place.now ≡ Some c.in-Some.source.now =
    ap (λ held. source_at (placed_sources held) c.args.place.now) (sym c.deref-2.ensures.value)
    ∙ (ap (source_at (placed_sources c.deref-2.result.now)) (sym c.as_bytes.ensures.value) ∙ sym c.in-Some.ensures) in
    rw (← c.self.view_is)
    (given fails call (source_at (placed_sources sources) c.args.place.now) c.in-Some.source.now not_due held ∙ ap Some (sym c.in-Ok.ensures))
