-- An expression as a tree over the grades of one object.
use Rattle.std.specs.Prelude.{ℕ, List, [], ◌∷◌}

mutual
  -- the grade in a list, or an operator over the values of trees
  pub data Tree : Type 0 where
    Grade : ℕ → Tree
    Min : Trees → Tree
    Max : Trees → Tree
    Sum : Trees → Tree
    Median : Trees → Tree
    Wsum : Terms → Tree

  -- trees in order
  pub data Trees : Type 0 where
    no_tree : Trees
    tree_then : Tree → Trees → Trees

  -- weights with trees, in order
  pub data Terms : Type 0 where
    no_term : Terms
    term_then : ℕ → Tree → Terms → Terms

-- the trees of a list
abbrev pub trees : List Tree → Trees
trees [] = Trees.no_tree
trees (t ∷ ts) = Trees.tree_then t (trees ts)

-- the terms of a list of weights and trees
abbrev pub terms : List (ℕ × Tree) → Terms
terms [] = Terms.no_term
terms (t ∷ ts) = Terms.term_then t.0 t.1 (terms ts)
