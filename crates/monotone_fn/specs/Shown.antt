-- The tree that a `Node` shows to contracts.
use Rattle.std.specs.Prelude.{ℕ}
use Rattle.monotone_fn.specs.Tree.{Tree, trees, terms}
use Rattle.monotone_fn.specs.declared.node.Node.{Node}
use Rattle.monotone_fn.specs.declared.node.Node.TheVariants.{List, Min, Max, Sum, Median, Wsum}
use Rattle.monotone_fn.specs.declared.node.Term.{Term}

-- the tree of a node
abbrev pub tree_of : Node → Tree
tree_of (List l) = Tree.Grade l
tree_of (Min ts) = Tree.Min (trees ts)
tree_of (Max ts) = Tree.Max (trees ts)
tree_of (Sum ts) = Tree.Sum (trees ts)
tree_of (Median ts) = Tree.Median (trees ts)
tree_of (Wsum us) = Tree.Wsum (terms us)

-- the weight of a term, and its tree
abbrev pub term_of : Term → ℕ × Tree
term_of t = (t.weight, tree_of t.node)
