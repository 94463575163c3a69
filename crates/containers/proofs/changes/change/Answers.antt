use Rattle.containers.proofs.HeapLaws.{loose_set}
use Rattle.containers.proofs.Placing.{written, settled}
use Rattle.containers.proofs.changes.change.Goals as goal

pub settle-requires-clause-placed : goal.settle-requires-clause-placed
settle-requires-clause-placed g c = (written g.T.Ord.cmp c.args.nodes.now c.args.places.now c.args.place c.args.node c.requires.keeps c.requires.there).placed

pub settle-requires-clause-loose : goal.settle-requires-clause-loose
settle-requires-clause-loose g c = loose_set g.T.Ord.cmp g.met.T.Ord.total c.args.place c.args.nodes.now c.args.node c.requires.keeps.heap c.requires.within

pub returns-clause-keeps : goal.returns-clause-keeps
returns-clause-keeps g c =
    (settled g.T.Ord.cmp _ c.settle.new.nodes c.args.places.now c.settle.new.places _
    (written g.T.Ord.cmp c.args.nodes.now c.args.places.now c.args.place c.args.node c.requires.keeps c.requires.there) c.settle.ensures.heap c.settle.ensures.moved).0

pub returns-clause-ranks : goal.returns-clause-ranks
returns-clause-ranks g c =
    (settled g.T.Ord.cmp _ c.settle.new.nodes c.args.places.now c.settle.new.places _
    (written g.T.Ord.cmp c.args.nodes.now c.args.places.now c.args.place c.args.node c.requires.keeps c.requires.there) c.settle.ensures.heap c.settle.ensures.moved).1
