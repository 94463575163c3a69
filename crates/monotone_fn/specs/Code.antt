-- How a tree is told from another: as a tree of numbers that gives it back.
use Rattle.std.specs.Prelude.{◌≡◌, ℕ, zero, suc, refl}
use Rattle.std.specs.Coded.{Coded, code_by}
use base.Stored.{Gv, gnil, gnum, gcons}
use denote.Struct.Codes.{itself}
use Rattle.monotone_fn.specs.Tree.{Tree, Trees, Terms}

abbrev mutual
  pub from_tree : Tree → Gv
  from_tree (Tree.Grade l) = gnum l
  from_tree (Tree.Min ts) = gcons (gnum 0) (from_trees ts)
  from_tree (Tree.Max ts) = gcons (gnum 1) (from_trees ts)
  from_tree (Tree.Sum ts) = gcons (gnum 2) (from_trees ts)
  from_tree (Tree.Median ts) = gcons (gnum 3) (from_trees ts)
  from_tree (Tree.Wsum ts) = gcons (gnum 4) (from_terms ts)

  pub from_trees : Trees → Gv
  from_trees Trees.no_tree = gnil
  from_trees (Trees.tree_then t ts) = gcons (from_tree t) (from_trees ts)

  pub from_terms : Terms → Gv
  from_terms Terms.no_term = gnil
  from_terms (Terms.term_then w t ts) = gcons (gnum w) (gcons (from_tree t) (from_terms ts))

-- an operator by its number
abbrev operator : ℕ → Trees → Terms → Tree
operator zero ts us = Tree.Min ts
operator (suc zero) ts us = Tree.Max ts
operator (suc (suc zero)) ts us = Tree.Sum ts
operator (suc (suc (suc zero))) ts us = Tree.Median ts
operator (suc (suc (suc (suc n)))) ts us = Tree.Wsum us

abbrev number : Gv → ℕ
number gnil = 0
number (gnum n) = n
number (gcons a b) = 0

abbrev mutual
  pub to_tree : Gv → Tree
  to_tree gnil = Tree.Grade 0
  to_tree (gnum l) = Tree.Grade l
  to_tree (gcons a b) = operator (number a) (to_trees b) (to_terms b)

  pub to_trees : Gv → Trees
  to_trees gnil = Trees.no_tree
  to_trees (gnum n) = Trees.no_tree
  to_trees (gcons a b) = Trees.tree_then (to_tree a) (to_trees b)

  pub to_terms : Gv → Terms
  to_terms gnil = Terms.no_term
  to_terms (gnum n) = Terms.no_term
  to_terms (gcons a gnil) = Terms.no_term
  to_terms (gcons a (gnum n)) = Terms.no_term
  to_terms (gcons a (gcons b c)) = Terms.term_then (number a) (to_tree b) (to_terms c)

mutual
  pub to_tree-from_tree : (t : Tree) → to_tree (from_tree t) ≡ t
  to_tree-from_tree (Tree.Grade l) = refl
  to_tree-from_tree (Tree.Min ts) = λ i. Tree.Min (to_trees-from_trees ts i)
  to_tree-from_tree (Tree.Max ts) = λ i. Tree.Max (to_trees-from_trees ts i)
  to_tree-from_tree (Tree.Sum ts) = λ i. Tree.Sum (to_trees-from_trees ts i)
  to_tree-from_tree (Tree.Median ts) = λ i. Tree.Median (to_trees-from_trees ts i)
  to_tree-from_tree (Tree.Wsum ts) = λ i. Tree.Wsum (to_terms-from_terms ts i)

  pub to_trees-from_trees : (ts : Trees) → to_trees (from_trees ts) ≡ ts
  to_trees-from_trees Trees.no_tree = refl
  to_trees-from_trees (Trees.tree_then t ts) = λ i. Trees.tree_then (to_tree-from_tree t i) (to_trees-from_trees ts i)

  pub to_terms-from_terms : (ts : Terms) → to_terms (from_terms ts) ≡ ts
  to_terms-from_terms Terms.no_term = refl
  to_terms-from_terms (Terms.term_then w t ts) = λ i. Terms.term_then w (to_tree-from_tree t i) (to_terms-from_terms ts i)

abbrev pub tree_code : Coded Tree
tree_code = code_by Gv itself from_tree to_tree to_tree-from_tree
