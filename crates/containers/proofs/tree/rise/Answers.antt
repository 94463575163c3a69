use Rattle.std.proofs.Common.{length, refl, sym, subst, arith}
use Rattle.std.proofs.lemmas.List.{length-set}
use Rattle.std.proofs.lemmas.Option.{slice_get_read}
use Rattle.containers.specs.Tree.{IsRising}
use Rattle.containers.proofs.HeapLaws.{rising_on}
use Rattle.containers.proofs.Placing.{moved_on}
use Rattle.containers.proofs.Holes.{IsHole, filled, told, filled_again, hole_begins, own_within, other_within, swapped_back, comes}
use Rattle.containers.proofs.tree.rise.Goals as goal
use Rattle.containers.proofs.tree.rise.Goals.{After-index-nodes-above}

pub loop-above-init : goal.loop-above-init
loop-above-init g c =
    let node = c.index-nodes-from.result in
    record {
      rising = subst (IsRising g.T.Ord.cmp c.args.from) (sym (filled_again c.args.nodes.now c.args.from node c.index-nodes-from.is)) c.requires.rising;
      moved = hole_begins c.args.nodes.now c.args.places.now c.args.from node c.requires.placed c.requires.rising.within c.index-nodes-from.is;
    }

-- the node above stands apart from the hole
hole : (g : _) (c : After-index-nodes-above g)
    → IsHole c.loop-above.nodes c.loop-above.places c.loop-above.hole c.in-Some.above c.index-nodes-from.result c.index-nodes-above.result
hole g c =
    let l = c.loop-above in
    let size = length-set l.nodes l.hole c.index-nodes-from.result in
    let within = l.invariant.rising.within in
    let positive = c.in-Some.ensures.positive in
    let is = c.in-Some.ensures.is in
    record {
      placed = l.invariant.moved.placed;
      here = omega arith;
      there = omega arith;
      apart = omega arith;
      is = slice_get_read l.nodes (length l.nodes) c.in-Some.above c.index-nodes-above.result refl (omega arith) c.index-nodes-above.is;
    }

pub stand-requires-clause-key : goal.stand-requires-clause-key
stand-requires-clause-key g c =
    let l = c.loop-above in
    other_within l.nodes l.places l.hole c.in-Some.above c.index-nodes-from.result c.index-nodes-above.result (hole g (goal.at.stand-requires-clause-key g c).After-index-nodes-above)

pub loop-above-preserved : goal.loop-above-preserved
loop-above-preserved g c =
    let l = c.loop-above in
    let node = c.index-nodes-from.result in
    let come =
    comes l.nodes l.places l.hole c.in-Some.above node c.index-nodes-above.result c.stand.new.nodes c.stand.new.places (hole g (goal.at.loop-above-preserved g c).After-index-nodes-above) c.stand.ensures.nodes c.stand.ensures.places in
    record {
      rising =
          rising_on g.T.Ord.cmp g.met.T.Ord.total l.hole c.in-Some.above (filled l.nodes l.hole node) (filled c.stand.new.nodes c.in-Some.above node) l.invariant.rising
          c.in-Some.ensures.positive c.in-Some.ensures.is c.in-Some.ensures.order
          (swapped_back l.hole c.in-Some.above (filled l.nodes l.hole node) (filled c.stand.new.nodes c.in-Some.above node) come.exchanged);
      moved =
          moved_on c.args.nodes.now (filled l.nodes l.hole node) (filled c.stand.new.nodes c.in-Some.above node) c.args.places.now (told l.places l.hole node)
          (told c.stand.new.places c.in-Some.above node) l.invariant.moved come.moved;
    }

pub stand-requires-2-clause-key : goal.stand-requires-2-clause-key
stand-requires-2-clause-key g c =
    let l = c.loop-above in own_within l.nodes l.places l.hole c.index-nodes-from.result l.invariant.moved.placed l.invariant.rising.within
