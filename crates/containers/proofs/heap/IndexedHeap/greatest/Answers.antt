use Rattle.std.proofs.Common.{◌∙◌, ap}
use Rattle.containers.specs.Tree.{node_at}
use Rattle.containers.proofs.Putting.{shown_greatest}
use Rattle.containers.proofs.heap.IndexedHeap.greatest.Goals as goal

pub returns-clause-greatest : goal.returns-clause-greatest
returns-clause-greatest g c =
    let i = c.self.inside in
    shown_greatest g.T.Ord.cmp g.met.T.Ord.total i.room i.nodes.items i.places.items c.args.self.now c.copied.result c.self.invariant.keeps c.self.view_is
    (c.copied.ensures ∙ c.first.ensures.value ∙ ap (λ ns. node_at ns 0) c.deref.ensures.value)
