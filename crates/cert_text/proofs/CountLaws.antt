-- A lawful query has a name for each list of its expression.
use Rattle.std.proofs.Common.{◌≡◌, ℕ, ◌+◌, ◌≤◌, ◌<◌, max, List, [], ◌∷◌, ◌++◌, length, refl, arith}
use Rattle.std.specs.List.{All}
use Rattle.std.proofs.lemmas.List.Elements.{All-head, All-tail}
use Rattle.monotone_fn.specs.Tree.{Tree, Trees, Terms}
use Rattle.monotone_fn.specs.Shape.{list_count, list_count_in, list_count_under}
use Rattle.query_text.specs.declared.query.Query.{Query}
use Rattle.query_text.specs.Query.{lists_of, lists_among, lists_under, IsLawful}

-- one more than the greatest of some numbers, 0 where there is none
bound : List ℕ → ℕ
bound [] = 0
bound (x ∷ xs) = max (x + 1) (bound xs)

bound-append : (xs ys : List ℕ) → bound (xs ++ ys) ≡ max (bound xs) (bound ys)
unfolding bound
bound-append [] ys = omega arith
bound-append (x ∷ xs) ys = omega (arith, bound-append xs ys)

mutual
  unfolding bound

  list_count_bound : (t : Tree) → list_count t ≡ bound (lists_of t)
  list_count_bound (Tree.Grade list) = omega arith
  list_count_bound (Tree.Min ts) = list_count_in_bound ts
  list_count_bound (Tree.Max ts) = list_count_in_bound ts
  list_count_bound (Tree.Sum ts) = list_count_in_bound ts
  list_count_bound (Tree.Median ts) = list_count_in_bound ts
  list_count_bound (Tree.Wsum us) = list_count_under_bound us

  list_count_in_bound : (ts : Trees) → list_count_in ts ≡ bound (lists_among ts)
  list_count_in_bound Trees.no_tree = refl
  list_count_in_bound (Trees.tree_then t ts) = omega (arith, list_count_bound t, list_count_in_bound ts, bound-append (lists_of t) (lists_among ts))

  list_count_under_bound : (us : Terms) → list_count_under us ≡ bound (lists_under us)
  list_count_under_bound Terms.no_term = refl
  list_count_under_bound (Terms.term_then w t us) = omega (arith, list_count_bound t, list_count_under_bound us, bound-append (lists_of t) (lists_under us))

-- numbers that are all small have a small bound
bound_small : (xs : List ℕ) (n : ℕ) → All (λ x. x < n) xs → bound xs ≤ n
unfolding bound
bound_small [] n all = omega arith
bound_small (x ∷ xs) n all =
    let first : x < n = All-head (λ x. x < n) x xs all in
    omega (arith, bound_small xs n (All-tail (λ x. x < n) x xs all))

pub list_count_names : (query : Query) → IsLawful query → list_count query.expr ≤ length query.names
list_count_names query lawful =
    omega (arith, list_count_bound query.expr, bound_small (lists_of query.expr) (length query.names) lawful.listed)
