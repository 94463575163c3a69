use Rattle.std.proofs.Common.{length, map, sym, subst}
use Rattle.query_server.specs.Homes.{AreHomes, home_of}
use Rattle.query_server.proofs.SourceLaws.{leaves_same, leaves_then}
use Rattle.query_server.proofs.generation.serve_generations.Goals as goal

pub loop-init : goal.loop-init
loop-init g c = record {
  left = leaves_same g.S.Source.list g.S.Source.counts g.S.Source.calls g.S.Source.at_hand c.args.slots.now.items c.args.catalog.now c.requires.empty;
  at_hand = c.requires.at_hand;
}

pub serve_once-requires-clause-homes : goal.serve_once-requires-clause-homes
serve_once-requires-clause-homes g c κs within =
    let left = c.loop.invariant.left in
    subst (AreHomes (length c.loop.slots.items)) (sym left.homes)
    (subst (λ n. AreHomes n (map home_of c.args.catalog.now.entries)) (sym left.kept.size) c.requires.homes)

pub returns-in_default-clause-left : goal.returns-in_default-clause-left
returns-in_default-clause-left g c =
    leaves_then g.S.Source.list g.S.Source.counts g.S.Source.calls g.S.Source.at_hand c.args.slots.now.items c.loop.slots.items c.serve_once.new.slots.items c.args.catalog.now c.loop.catalog
    c.serve_once.new.catalog c.loop.invariant.left c.serve_once.ensures.left

pub returns-in_default-more-clause-left : goal.returns-in_default-more-clause-left
returns-in_default-more-clause-left g c =
    leaves_then g.S.Source.list g.S.Source.counts g.S.Source.calls g.S.Source.at_hand c.args.slots.now.items c.loop.slots.items c.serve_once.new.slots.items c.args.catalog.now c.loop.catalog
    c.serve_once.new.catalog c.loop.invariant.left c.serve_once.ensures.left

pub loop-preserved : goal.loop-preserved
loop-preserved g c = record {
  left = leaves_then g.S.Source.list g.S.Source.counts g.S.Source.calls g.S.Source.at_hand c.args.slots.now.items c.loop.slots.items c.serve_once.new.slots.items c.args.catalog.now c.loop.catalog
      c.serve_once.new.catalog c.loop.invariant.left c.serve_once.ensures.left;
  at_hand = c.in-Ok.ensures.at_hand;
}

pub returns-clause-left : goal.returns-clause-left
returns-clause-left g c = c.loop.invariant.left
