use Rattle.std.proofs.Common.{◌≡◌, ◌-◌, vec_len}
use Rattle.source_api.specs.Counting.{NoneFell}
use Rattle.source_node.specs.Serving.{GivesSome}
use Rattle.source_node.proofs.answer.add_rows.Given as goal

-- the pages so far came, and the source is the same but for what it counted
abbrev pub invariant-loop-alloc : goal.invariant-loop-alloc
invariant-loop-alloc g l =
    (g.S.Source.list l.source ≡ g.S.Source.list l.fn.source) × (g.S.Source.states l.source ≡ g.S.Source.states l.fn.source)
    × (g.S.Source.at_hand l.source ≡ g.S.Source.at_hand l.fn.source) × NoneFell (g.S.Source.counts l.fn.source) (g.S.Source.counts l.source)
    × GivesSome l.from l.count (g.S.Source.list l.fn.source) (g.S.Source.counts l.fn.source) (g.S.Source.counts l.source)
    (g.S.Source.calls l.fn.source) (g.S.Source.calls l.source) l.rows.items

abbrev pub decreases-loop-alloc : goal.decreases-loop-alloc
decreases-loop-alloc g l = l.count - vec_len l.rows
