-- A list of nodes nests deeper than the lists that its nodes hold.
use Rattle.std.specs.Prelude.{◌≡◌, ℕ, ◌+◌, ◌≤◌, max, List, [], ◌∷◌, map, refl}
use Rattle.std.proofs.Common.{subst, zero-le}
use Rattle.std.proofs.Math.Nat.{le_refl, le_trans, le-max_left, le-max_right, max-le}
use denote.Param.Weighed.{most}
use Rattle.monotone_fn.specs.Tree.{Tree, trees, terms}
use Rattle.monotone_fn.specs.Shape.{depth, depth_in, depth_under}
use Rattle.monotone_fn.specs.Falls.{deepest, deepest_term}
use Rattle.monotone_fn.specs.Shown.{tree_of, term_of}
use Rattle.monotone_fn.specs.declared.node.Node.{Node}
use Rattle.monotone_fn.specs.declared.node.Node.TheVariants.{List as OfList, Min, Max, Sum, Median, Wsum}
use Rattle.monotone_fn.specs.declared.node.Term.{Term}
use Rattle.monotone_fn.specs.declared.node.Nodes.TheDeep.{deep-Node, deep-Term}

pub depth_in-trees : (ts : List Tree) → depth_in (trees ts) ≡ deepest ts
depth_in-trees [] = refl
depth_in-trees (t ∷ ts) = λ i. max (depth t) (depth_in-trees ts i)

pub depth_under-terms : (us : List (ℕ × Tree)) → depth_under (terms us) ≡ deepest_term us
depth_under-terms [] = refl
depth_under-terms (u ∷ us) = λ i. max (depth u.1) (depth_under-terms us i)

operator_le : (ts : List Tree) → max (deepest ts + 1) 0 ≤ depth_in (trees ts) + 1
operator_le ts =
    max-le (subst (λ d. d + 1 ≤ depth_in (trees ts) + 1) (depth_in-trees ts) (le_refl _)) zero-le

wsum_le : (us : List (ℕ × Tree)) → max (deepest_term us + 1) 0 ≤ depth_under (terms us) + 1
wsum_le us =
    max-le (subst (λ d. d + 1 ≤ depth_under (terms us) + 1) (depth_under-terms us) (le_refl _)) zero-le

-- what a node holds nests less deep than the node
pub deep-Node-le : (n : Node) → deep-Node n ≤ depth (tree_of n)
deep-Node-le (OfList l) = zero-le
deep-Node-le (Min ts) = operator_le ts
deep-Node-le (Max ts) = operator_le ts
deep-Node-le (Sum ts) = operator_le ts
deep-Node-le (Median ts) = operator_le ts
deep-Node-le (Wsum us) = wsum_le us

most_nodes : (ns : List Node) → most deep-Node ns ≤ deepest (map tree_of ns)
most_nodes [] = zero-le
most_nodes (n ∷ ns) =
    max-le (le_trans (deep-Node-le n) (le-max_left _ _)) (le_trans (most_nodes ns) (le-max_right (depth (tree_of n)) _))

most_terms : (us : List Term) → most deep-Term us ≤ deepest_term (map term_of us)
most_terms [] = zero-le
most_terms (u ∷ us) =
    max-le (le_trans (max-le (deep-Node-le u.node) zero-le) (le-max_left _ _)) (le_trans (most_terms us) (le-max_right (depth (tree_of u.node)) _))

pub most-deepest : (ns : List Node) → max (most deep-Node ns) 0 ≤ deepest (map tree_of ns)
most-deepest ns = max-le (most_nodes ns) zero-le

pub most-deepest_term : (us : List Term) → max (most deep-Term us) 0 ≤ deepest_term (map term_of us)
most-deepest_term us = max-le (most_terms us) zero-le
