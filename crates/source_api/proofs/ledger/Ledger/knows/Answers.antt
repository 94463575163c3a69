use Rattle.std.proofs.Common.{List, ap, ◌∙◌}
use Rattle.source_api.specs.Places.{Noted, is_known}
use Rattle.source_api.proofs.LedgerLaws.{found_known}
use Rattle.source_api.proofs.ledger.Ledger.knows.Goals as goal

pub returns : goal.returns
returns c =
    c.is_some.ensures
    ∙ found_known c.deref.result.now c.self.inside.entries.items c.as_bytes.result.now c.args.place.now c.entry_at.result c.deref.ensures.value c.as_bytes.ensures.value c.entry_at.ensures
    ∙ ap (λ (ns : List Noted). is_known ns c.args.place.now) c.self.view_is
