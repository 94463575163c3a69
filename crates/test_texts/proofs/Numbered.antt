-- An expression over one list numbers it.
use Rattle.std.proofs.Common.{◌≡◌, ℕ, List, [], ◌∷◌, ◌++◌, map, Contains, refl, sym, ap, ◌∙◌, subst, arith}
use Rattle.monotone_fn.specs.declared.node.Term.{Term}
use Rattle.monotone_fn.specs.Tree.{Tree, terms}
use Rattle.monotone_fn.specs.Shape.{nodes_of, NumbersLists}
use Rattle.monotone_fn.specs.Shown.{term_of}

one_list : (weight : ℕ) → NumbersLists (Tree.Wsum (terms ((weight, Tree.Grade 0) ∷ [])))
one_list weight = record {
  some = omega arith;
  few = omega arith;
  used = λ l below. let e : l ≡ 0 = omega (arith, below) in subst (λ l. Contains (nodes_of (Tree.Wsum (terms ((weight, Tree.Grade 0) ∷ [])))) (Tree.Grade l)) (sym e) (0, omega arith, refl);
}

pub one_term : (before items : List Term) (term : Term) (weight : ℕ) → term_of term ≡ (weight, Tree.Grade 0) → before ≡ [] → items ≡ before ++ term ∷ []
    → NumbersLists (Tree.Wsum (terms (map term_of items)))
one_term before items term weight is none one =
    subst (λ us. NumbersLists (Tree.Wsum (terms us))) (sym (ap (map term_of) (one ∙ ap (λ xs. xs ++ term ∷ []) none) ∙ ap (λ t. t ∷ []) is)) (one_list weight)
