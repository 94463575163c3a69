use Rattle.std.proofs.Common.{◌∙◌, sym, ap}
use Rattle.source_api.specs.declared.ledger.Entry.{Entry}
use Rattle.source_api.proofs.LedgerLaws.{found, not_found, counts_found, counts_unknown}
use Rattle.source_api.proofs.ledger.Ledger.at.Goals as goal

pub returns-in-Some : goal.returns-in-Some
returns-in-Some c =
    let entries = c.self.inside.entries.items in
    let e = c.index.result.now in
    rw (← c.self.view_is)
    (ap (λ (y : Entry). y.counts) c.index.ensures
    ∙ sym (counts_found entries c.args.place.now c.in-Some.at e
    (found c.deref.result.now entries c.as_bytes.result.now c.args.place.now c.in-Some.at e c.deref.ensures.value c.as_bytes.ensures.value c.in-Some.ensures)))

pub returns-in-None : goal.returns-in-None
returns-in-None c =
    let entries = c.self.inside.entries.items in
    rw (← c.self.view_is)
    (c.none.ensures
    ∙ sym (counts_unknown _ c.args.place.now
    (not_found c.deref.result.now entries c.as_bytes.result.now c.args.place.now c.deref.ensures.value c.as_bytes.ensures.value c.in-None.ensures)))
