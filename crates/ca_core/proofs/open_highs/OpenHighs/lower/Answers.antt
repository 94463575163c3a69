use Rattle.std.proofs.Common.{None, set, sym, subst}
use Rattle.monotone_fn.specs.Value.{value}
use Rattle.ca_core.specs.Open.{AreOpen}
use Rattle.ca_core.proofs.AtPlaces.{lowered, tied}
use Rattle.ca_core.proofs.Capping.{first_with}
use Rattle.ca_core.proofs.open_highs.OpenHighs.lower.Goals as goal

pub returns-in_default-clause-kept : goal.returns-in_default-clause-kept
returns-in_default-clause-kept c =
    let log = c.args.transcript.now in
    subst (λ hs. AreOpen (value c.args.expr.now) log.lists log.accesses hs c.args.self.now.ties.heaps.items) (sym c.put.ensures)
    (lowered (value c.args.expr.now) log.lists log.accesses c.args.self.now.highs c.args.self.now.ties.heaps.items c.args.place c.args.rank c.requires.fallen c.requires.kept)

pub returns-clause-kept : goal.returns-clause-kept
returns-clause-kept c =
    let log = c.args.transcript.now in
    let highs = c.args.self.now.highs in
    subst (λ hs. AreOpen (value c.args.expr.now) log.lists log.accesses hs c.put-2.new.self.heaps.items) (sym c.remove.ensures)
    (subst (λ ts. AreOpen (value c.args.expr.now) log.lists log.accesses (set highs c.args.place None) ts) (sym c.put-2.ensures)
    (tied (value c.args.expr.now) log.lists log.accesses highs c.args.self.now.ties.heaps.items c.in-Some.list c.args.place c.args.rank c.requires.fallen c.in-Some.ensures c.requires.kept))

pub returns-clause-first : goal.returns-clause-first
returns-clause-first c =
    let log = c.args.transcript.now in
    first_with (value c.args.expr.now) log.lists log.accesses c.args.self.now.highs c.args.self.now.ties.heaps.items c.put-2.new.self.heaps.items c.in-Some.list c.args.place c.args.rank
    c.args.first c.first_of.result c.requires.kept c.requires.fallen c.in-Some.ensures c.requires.first c.put-2.ensures c.first_of.ensures.one c.first_of.ensures.other c.first_of.ensures.either
