use Rattle.std.proofs.Common.{length, refl, sym, subst, arith}
use Rattle.std.proofs.lemmas.List.{length-set}
use Rattle.std.proofs.lemmas.Option.{slice_get_read}
use Rattle.containers.specs.Tree.{IsSinking}
use Rattle.containers.proofs.HeapLaws.{sinking_on}
use Rattle.containers.proofs.Placing.{moved_on}
use Rattle.containers.proofs.Holes.{IsHole, filled, told, filled_again, hole_begins, own_within, other_within, comes}
use Rattle.containers.proofs.tree.sink.Goals as goal
use Rattle.containers.proofs.tree.sink.Goals.{After-index-nodes-under}

pub loop-under-init : goal.loop-under-init
loop-under-init g c =
    let node = c.index-nodes-from.result in
    record {
      sinking = subst (IsSinking g.T.Ord.cmp c.args.from) (sym (filled_again c.args.nodes.now c.args.from node c.index-nodes-from.is)) c.requires.sinking;
      moved = hole_begins c.args.nodes.now c.args.places.now c.args.from node c.requires.placed c.requires.sinking.within c.index-nodes-from.is;
    }

-- the node under stands apart from the hole
hole : (g : _) (c : After-index-nodes-under g)
    → IsHole c.loop-under.nodes c.loop-under.places c.loop-under.hole c.in-Some.under c.index-nodes-from.result c.index-nodes-under.result
hole g c =
    let l = c.loop-under in
    let size = length-set l.nodes l.hole c.index-nodes-from.result in
    let within = l.invariant.sinking.within in
    let deep = c.in-Some.ensures.greatest.within in
    let positive = c.in-Some.ensures.greatest.positive in
    let is = c.in-Some.ensures.greatest.is in
    record {
      placed = l.invariant.moved.placed;
      here = omega arith;
      there = omega arith;
      apart = omega arith;
      is = slice_get_read l.nodes (length l.nodes) c.in-Some.under c.index-nodes-under.result refl (omega arith) c.index-nodes-under.is;
    }

pub stand-requires-clause-key : goal.stand-requires-clause-key
stand-requires-clause-key g c =
    let l = c.loop-under in
    other_within l.nodes l.places l.hole c.in-Some.under c.index-nodes-from.result c.index-nodes-under.result (hole g (goal.at.stand-requires-clause-key g c).After-index-nodes-under)

pub loop-under-preserved : goal.loop-under-preserved
loop-under-preserved g c =
    let l = c.loop-under in
    let node = c.index-nodes-from.result in
    let come =
    comes l.nodes l.places l.hole c.in-Some.under node c.index-nodes-under.result c.stand.new.nodes c.stand.new.places (hole g (goal.at.loop-under-preserved g c).After-index-nodes-under) c.stand.ensures.nodes c.stand.ensures.places in
    record {
      sinking =
          sinking_on g.T.Ord.cmp g.met.T.Ord.total l.hole c.in-Some.under (filled l.nodes l.hole node) (filled c.stand.new.nodes c.in-Some.under node) l.invariant.sinking
          c.in-Some.ensures.greatest c.in-Some.ensures.order come.exchanged;
      moved =
          moved_on c.args.nodes.now (filled l.nodes l.hole node) (filled c.stand.new.nodes c.in-Some.under node) c.args.places.now (told l.places l.hole node)
          (told c.stand.new.places c.in-Some.under node) l.invariant.moved come.moved;
    }

pub stand-requires-2-clause-key : goal.stand-requires-2-clause-key
stand-requires-2-clause-key g c =
    let l = c.loop-under in own_within l.nodes l.places l.hole c.index-nodes-from.result l.invariant.moved.placed l.invariant.sinking.within
