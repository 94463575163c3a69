use Rattle.std.proofs.Common.{◌∙◌, sym, ap}
use Rattle.std.proofs.lemmas.Bool.{both_ways}
use Rattle.source_api.proofs.LedgerLaws.{is_of, found, not_found, counts_set, counts_elsewhere, known_set, of_another}
use Rattle.source_api.proofs.ledger.Ledger.set.Goals as goal

pub unreachable-requires : goal.unreachable-requires
unreachable-requires c =
    let entries = c.self.inside.entries.items in
    both_ways _
    (not_found c.deref.result.now entries c.as_bytes.result.now c.args.place.now c.deref.ensures.value c.as_bytes.ensures.value c.in_default.ensures)
    (rw (← c.self.view_is) at c.requires)

pub returns-clause-here : goal.returns-clause-here
returns-clause-here c =
    let entries = c.self.inside.entries.items in
    let e = c.index_mut.result.now in
    let at = found c.deref.result.now entries c.as_bytes.result.now c.args.place.now c.in-Some.at e c.deref.ensures.value c.as_bytes.ensures.value c.in-Some.ensures in
    counts_set entries c.args.place.now c.in-Some.at _ at (ap (is_of c.args.place.now) c.index_mut.ensures.value ∙ at.here e)

pub returns-clause-elsewhere : goal.returns-clause-elsewhere
returns-clause-elsewhere c = λ other apart.
    let entries = c.self.inside.entries.items in
    let e = c.index_mut.result.now in
    let at = found c.deref.result.now entries c.as_bytes.result.now c.args.place.now c.in-Some.at e c.deref.ensures.value c.as_bytes.ensures.value c.in-Some.ensures in
    let not_here = of_another e c.args.place.now other (ap (is_of c.args.place.now) c.index_mut.ensures.value ∙ at.here e) apart in
    rw (← c.self.view_is)
    (counts_elsewhere entries other c.in-Some.at _ e not_here (sym (ap (is_of other) c.index_mut.ensures.value) ∙ not_here))

pub returns-clause-known : goal.returns-clause-known
returns-clause-known c = λ other.
    let entries = c.self.inside.entries.items in
    let e = c.index_mut.result.now in
    let at = found c.deref.result.now entries c.as_bytes.result.now c.args.place.now c.in-Some.at e c.deref.ensures.value c.as_bytes.ensures.value c.in-Some.ensures in
    rw (← c.self.view_is)
    (known_set entries other c.in-Some.at _ e (ap (is_of other) c.index_mut.ensures.value) at.within)
