use Rattle.std.proofs.Common.{◌+◌, ◌*◌, arith}
use Rattle.containers.specs.Tree.{node_at}
use Rattle.containers.proofs.HeapLaws.{less_upto, not_less, first_under, second_under}
use Rattle.containers.proofs.tree.greatest_under.Goals as goal
use Rattle.containers.proofs.tree.greatest_under.Goals.{else-second-nodes-via-then-second-nodes+else-is_less, else-second-nodes-via-else-second-nodes}

pub is_less-requires-clause-first : goal.is_less-requires-clause-first
is_less-requires-clause-first g c = let second = c.if-second-nodes.true in omega arith

pub is_less-requires-clause-second : goal.is_less-requires-clause-second
is_less-requires-clause-second g c = let second = c.if-second-nodes.true in omega arith

pub returns-then-is_less : goal.returns-then-is_less
returns-then-is_less g c =
    let place = c.args.place in
    second_under g.T.Ord.cmp g.met.T.Ord.total place c.args.nodes.now c.if-second-nodes.true
    (less_upto g.T.Ord.cmp g.met.T.Ord.total (node_at c.args.nodes.now (2 * place + 1)) (node_at c.args.nodes.now (2 * place + 2)) c.is_less.result c.is_less.ensures
    c.if-is_less.true)

pub returns-then-first-nodes : goal.returns-then-first-nodes
returns-then-first-nodes g c =
    let place = c.args.place in
    first_under g.T.Ord.cmp g.met.T.Ord.total place c.args.nodes.now c.if-first-nodes.true
    (λ both. elim c.else-second-nodes.branch [
      | else-second-nodes-via-then-second-nodes+else-is_less w ↦
          not_less g.T.Ord.cmp g.met.T.Ord.total (node_at c.args.nodes.now (2 * place + 1)) (node_at c.args.nodes.now (2 * place + 2)) w.is_less.result w.is_less.ensures
          w.if-is_less.false
      | else-second-nodes-via-else-second-nodes w ↦ absurd (let few = w.if-second-nodes.false in omega arith)
    ])

pub returns-else-first-nodes : goal.returns-else-first-nodes
returns-else-first-nodes g c = c.if-first-nodes.false
