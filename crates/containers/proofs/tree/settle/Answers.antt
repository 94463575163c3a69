use Rattle.std.proofs.Common.{subst}
use Rattle.containers.specs.Tree.{IsUpTo}
use Rattle.containers.proofs.HeapLaws.{loose_rises}
use Rattle.std.proofs.lemmas.List.{set-get_or}
use Rattle.containers.proofs.tree.settle.Goals as goal

pub less_above-requires : goal.less_above-requires
less_above-requires g c = c.requires.loose.within

pub rise-requires-clause-placed : goal.rise-requires-clause-placed
rise-requires-clause-placed g c = c.requires.placed

pub rise-requires-clause-rising : goal.rise-requires-clause-rising
rise-requires-clause-rising g c =
    let same = set-get_or c.args.nodes.now c.args.place c.index-nodes-place.result in
    loose_rises g.T.Ord.cmp g.met.T.Ord.total c.args.place c.in-Some.field-0 c.args.nodes.now c.requires.loose c.in-Some.ensures.positive c.in-Some.ensures.is
    (subst (λ ns. IsUpTo g.T.Ord.cmp ns c.in-Some.field-0 c.args.place) same c.in-Some.ensures.order)

pub returns-in-Some-clause-heap : goal.returns-in-Some-clause-heap
returns-in-Some-clause-heap g c = c.rise.ensures.heap

pub returns-in-Some-clause-moved : goal.returns-in-Some-clause-moved
returns-in-Some-clause-moved g c = c.rise.ensures.moved
