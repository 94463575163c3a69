-- The nodes of a tree, how deep it is, and which lists it names.
use Rattle.std.specs.Prelude.{ℕ, ◌+◌, ◌<◌, ◌≤◌, max, List, [], ◌∷◌, ◌++◌, length, All, Contains}
use Rattle.monotone_fn.specs.Tree.{Tree, Trees, Terms}
use Rattle.topk_base.specs.declared.TheConstants.{MAX_LISTS}

-- the greatest number of a list, or 0 where there is none
abbrev pub greatest : List ℕ → ℕ
greatest [] = 0
greatest (n ∷ ns) = max n (greatest ns)

-- v is among the numbers and none is greater
pub record IsGreatest (ns : List ℕ) (v : ℕ) : Type 0 where
  pub among : Contains ns v
  pub bounds : All (λ n. n ≤ v) ns

-- the nodes of a tree, in the order in which their texts end: a node after all that it is made of
abbrev mutual
  pub nodes_of : Tree → List Tree
  nodes_of (Tree.Grade l) = Tree.Grade l ∷ []
  nodes_of (Tree.Min ts) = nodes_in ts ++ Tree.Min ts ∷ []
  nodes_of (Tree.Max ts) = nodes_in ts ++ Tree.Max ts ∷ []
  nodes_of (Tree.Sum ts) = nodes_in ts ++ Tree.Sum ts ∷ []
  nodes_of (Tree.Median ts) = nodes_in ts ++ Tree.Median ts ∷ []
  nodes_of (Tree.Wsum us) = nodes_under us ++ Tree.Wsum us ∷ []

  pub nodes_in : Trees → List Tree
  nodes_in Trees.no_tree = []
  nodes_in (Trees.tree_then t ts) = nodes_of t ++ nodes_in ts

  pub nodes_under : Terms → List Tree
  nodes_under Terms.no_term = []
  nodes_under (Terms.term_then w t us) = nodes_of t ++ nodes_under us

-- the nodes that a tree is made of, without itself
abbrev pub nodes_below : Tree → List Tree
nodes_below (Tree.Grade l) = []
nodes_below (Tree.Min ts) = nodes_in ts
nodes_below (Tree.Max ts) = nodes_in ts
nodes_below (Tree.Sum ts) = nodes_in ts
nodes_below (Tree.Median ts) = nodes_in ts
nodes_below (Tree.Wsum us) = nodes_under us

-- how many nodes a tree has
abbrev pub node_count : Tree → ℕ
node_count t = length (nodes_of t)

-- how deep a tree nests: a list alone has depth 1
abbrev mutual
  pub depth : Tree → ℕ
  depth (Tree.Grade l) = 1
  depth (Tree.Min ts) = depth_in ts + 1
  depth (Tree.Max ts) = depth_in ts + 1
  depth (Tree.Sum ts) = depth_in ts + 1
  depth (Tree.Median ts) = depth_in ts + 1
  depth (Tree.Wsum us) = depth_under us + 1

  pub depth_in : Trees → ℕ
  depth_in Trees.no_tree = 0
  depth_in (Trees.tree_then t ts) = max (depth t) (depth_in ts)

  pub depth_under : Terms → ℕ
  depth_under Terms.no_term = 0
  depth_under (Terms.term_then w t us) = max (depth t) (depth_under us)

-- one more than the greatest number of a list that the tree names
abbrev mutual
  pub list_count : Tree → ℕ
  list_count (Tree.Grade l) = l + 1
  list_count (Tree.Min ts) = list_count_in ts
  list_count (Tree.Max ts) = list_count_in ts
  list_count (Tree.Sum ts) = list_count_in ts
  list_count (Tree.Median ts) = list_count_in ts
  list_count (Tree.Wsum us) = list_count_under us

  pub list_count_in : Trees → ℕ
  list_count_in Trees.no_tree = 0
  list_count_in (Trees.tree_then t ts) = max (list_count t) (list_count_in ts)

  pub list_count_under : Terms → ℕ
  list_count_under Terms.no_term = 0
  list_count_under (Terms.term_then w t us) = max (list_count t) (list_count_under us)

-- the lists are numbered from 0, there is one at least and there are few, and each is used
pub record NumbersLists (t : Tree) : Type 0 where
  pub some : 0 < list_count t
  pub few : list_count t ≤ MAX_LISTS
  pub used : (l : ℕ) → l < list_count t → Contains (nodes_of t) (Tree.Grade l)
