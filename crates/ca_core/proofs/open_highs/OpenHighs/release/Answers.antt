use Rattle.std.proofs.Common.{Some, set, sym, subst, ◌∙◌}
use Rattle.ca_core.specs.Open.{AreOpen}
use Rattle.ca_core.proofs.Noting.{some_left, none_left}
use Rattle.ca_core.proofs.AtPlaces.{released, released_known}
use Rattle.ca_core.proofs.open_highs.OpenHighs.release.Goals as goal

pub returns-then-is_some-clause-kept : goal.returns-then-is_some-clause-kept
returns-then-is_some-clause-kept c = λ V present opens.
    let log = c.args.transcript.now in
    subst (λ hs. AreOpen V log.lists log.accesses hs c.remove.new.self.heaps.items) (sym c.put.ensures)
    (subst (λ ts. AreOpen V log.lists log.accesses (set c.args.self.now.highs c.args.place (Some c.args.rank)) ts) (sym c.remove.ensures)
    (released V log.lists log.accesses c.args.self.now.highs c.args.self.now.ties.heaps.items c.args.list c.args.place c.args.rank c.requires.list c.requires.there
    (some_left log.lists log.accesses c.args.rank.object c.next_unknown.result c.next_unknown.ensures (sym c.is_some.ensures ∙ c.if-is_some.true)) present opens))

pub returns-else-is_some-clause-kept : goal.returns-else-is_some-clause-kept
returns-else-is_some-clause-kept c = λ V present opens.
    let log = c.args.transcript.now in
    subst (λ ts. AreOpen V log.lists log.accesses c.args.self.now.highs ts) (sym c.remove.ensures)
    (released_known V log.lists log.accesses c.args.self.now.highs c.args.self.now.ties.heaps.items c.args.list c.args.place c.args.rank.object c.requires.list c.requires.there
    (none_left log.lists log.accesses c.args.rank.object c.next_unknown.result c.next_unknown.ensures (sym c.is_some.ensures ∙ c.if-is_some.false)) opens)
