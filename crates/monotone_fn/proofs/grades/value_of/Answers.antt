-- No value passes the greatest, since none does at the top grades.
use Rattle.std.proofs.Common.{arith}
use Rattle.monotone_fn.specs.Shape.{nodes_of}
use Rattle.monotone_fn.specs.Shown.{tree_of}
use Rattle.monotone_fn.proofs.Walks.{Passes-is_some, position_from-none}
use Rattle.monotone_fn.proofs.grades.value_of.Goals as goal

pub unwrap-requires : goal.unwrap-requires
unwrap-requires c =
    let t = tree_of c.args.root.now in
    let x = c.args.grades.now in
    Passes-is_some x (nodes_of t) 0 c.value_at.new.ended c.value_at.result c.value_at.ensures.passes (position_from-none x (omega (arith, c.requires.made.lists.few)) c.requires.capped 1 (nodes_of t) c.requires.made.small)
