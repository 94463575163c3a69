use Rattle.std.proofs.Common.{◌∙◌, sym, ap}
use Rattle.source_api.specs.Places.{counts_at}
use Rattle.source_api.specs.Entries.{noted_entries}
use Rattle.source_api.proofs.LedgerLaws.{found_some, pushed, push_known, counts_push, begun_of}
use Rattle.source_api.proofs.ledger.Ledger.know.Goals as goal

pub returns-then-is_some-clause-known : goal.returns-then-is_some-clause-known
returns-then-is_some-clause-known c =
    let entries = c.self.inside.entries.items in
    rw (← c.self.view_is)
    (found_some c.deref.result.now entries c.as_bytes.result.now c.args.place.now c.entry_at.result c.deref.ensures.value c.as_bytes.ensures.value c.entry_at.ensures (sym c.if-is_some.ensures))

pub returns-clause-known : goal.returns-clause-known
returns-clause-known c =
    let entries = c.self.inside.entries.items in
    push_known (noted_entries entries) _ c.args.place.now
    (pushed entries c.push.new.self.items _ c.args.place.now c.in_ok-push.ensures.items (begun_of (record { place = c.in_ok-place.place; counts = c.none.result }) _ (c.in_ok-place.ensures.items ∙ c.as_bytes-2.ensures.value) c.none.ensures))

pub returns-clause-same : goal.returns-clause-same
returns-clause-same c = λ place.
    let entries = c.self.inside.entries.items in
    rw (← c.self.view_is)
    (ap (λ ns. counts_at ns place) (pushed entries c.push.new.self.items _ c.args.place.now c.in_ok-push.ensures.items (begun_of (record { place = c.in_ok-place.place; counts = c.none.result }) _ (c.in_ok-place.ensures.items ∙ c.as_bytes-2.ensures.value) c.none.ensures))
    ∙ counts_push (noted_entries entries) c.args.place.now place)
