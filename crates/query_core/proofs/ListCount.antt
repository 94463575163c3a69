-- A lawful query names as many lists as its expression numbers.
use Rattle.std.proofs.Common.{◌≡◌, ◌≢◌, ℕ, ◌+◌, ◌-◌, ◌<◌, ◌≤◌, ◌⊎◌, max, inl, inr, true, false, cond, List, [], ◌∷◌, ◌++◌, length, AllPairs, Contains, slice_index_or, sym, subst, arith}
use Rattle.std.specs.List.{list_any}
use Rattle.std.specs.Str.{bytes_eq}
use Rattle.std.proofs.lemmas.Bool.{cases_lt}
use Rattle.std.proofs.lemmas.List.Elements.{Contains-append_left, Contains-append_right}
use Rattle.monotone_fn.specs.Tree.{Tree, Trees, Terms}
use Rattle.monotone_fn.specs.Shape.{list_count, list_count_in, list_count_under}
use Rattle.query_text.specs.declared.query.Query.{Query}
use Rattle.query_text.specs.Pieces.{each_once, each_once_after, with_member}
use Rattle.query_text.specs.Query.{IsLawful, lists_of, lists_among, lists_under, name_of, names_given}
use Rattle.topk_theory.proofs.AgreementLists.{contains_nil, contains_here, contains_there, contains_cases, contains_at, contains_map_from, member_of_all}

-- a member of two lists, one after the other
from_append : (xs ys : List ℕ) (x : ℕ) → Contains (xs ++ ys) x → Contains xs x ⊎ Contains ys x
from_append [] ys x h = inr h
from_append (y ∷ xs) ys x h =
    elim (contains_cases y (xs ++ ys) x h) [
      | inl same ↦ inl (subst (λ z. Contains (y ∷ xs) z) same (contains_here y xs))
      | inr rest ↦ elim (from_append xs ys x rest) [ inl l ↦ inl (contains_there y xs x l) | inr r ↦ inr r ]
    ]

-- the greatest of two counts less one is named, where each that isn't 0 is
greatest_named : (xs ys : List ℕ) (m n : ℕ) → (0 < m → Contains xs (m - 1)) → (0 < n → Contains ys (n - 1)) → 0 < max m n → Contains (xs ++ ys) (max m n - 1)
greatest_named xs ys m n left right some =
    elim (cases_lt m n) [
      | inl less ↦ let same : max m n ≡ n = omega arith in subst (λ g. Contains (xs ++ ys) (g - 1)) (sym same) (Contains-append_right xs ys (n - 1) (right (omega arith)))
      | inr more ↦ let same : max m n ≡ m = omega arith in subst (λ g. Contains (xs ++ ys) (g - 1)) (sym same) (Contains-append_left xs ys (m - 1) (left (omega arith)))
    ]

mutual
  last_named : (t : Tree) → 0 < list_count t → Contains (lists_of t) (list_count t - 1)
  last_named (Tree.Grade l) h = let same : l ≡ l + 1 - 1 = omega arith in subst (λ z. Contains (l ∷ []) z) same (contains_here l [])
  last_named (Tree.Min ts) h = last_among ts h
  last_named (Tree.Max ts) h = last_among ts h
  last_named (Tree.Sum ts) h = last_among ts h
  last_named (Tree.Median ts) h = last_among ts h
  last_named (Tree.Wsum us) h = last_under us h

  last_among : (ts : Trees) → 0 < list_count_in ts → Contains (lists_among ts) (list_count_in ts - 1)
  last_among Trees.no_tree h = absurd (omega arith)
  last_among (Trees.tree_then t ts) h = greatest_named (lists_of t) (lists_among ts) (list_count t) (list_count_in ts) (last_named t) (last_among ts) h

  last_under : (us : Terms) → 0 < list_count_under us → Contains (lists_under us) (list_count_under us - 1)
  last_under Terms.no_term h = absurd (omega arith)
  last_under (Terms.term_then weight t us) h = greatest_named (lists_of t) (lists_under us) (list_count t) (list_count_under us) (last_named t) (last_under us) h

mutual
  named_below : (t : Tree) (l : ℕ) → Contains (lists_of t) l → l < list_count t
  named_below (Tree.Grade m) l h = elim (contains_cases m [] l h) [ inl same ↦ omega arith | inr none ↦ absurd (contains_nil l none) ]
  named_below (Tree.Min ts) l h = among_below ts l h
  named_below (Tree.Max ts) l h = among_below ts l h
  named_below (Tree.Sum ts) l h = among_below ts l h
  named_below (Tree.Median ts) l h = among_below ts l h
  named_below (Tree.Wsum us) l h = under_below us l h

  among_below : (ts : Trees) (l : ℕ) → Contains (lists_among ts) l → l < list_count_in ts
  among_below Trees.no_tree l h = absurd (contains_nil l h)
  among_below (Trees.tree_then t ts) l h =
      elim (from_append (lists_of t) (lists_among ts) l h) [
        | inl here ↦ let below : l < list_count t = named_below t l here in omega arith
        | inr there ↦ let below : l < list_count_in ts = among_below ts l there in omega arith
      ]

  under_below : (us : Terms) (l : ℕ) → Contains (lists_under us) l → l < list_count_under us
  under_below Terms.no_term l h = absurd (contains_nil l h)
  under_below (Terms.term_then weight t us) l h =
      elim (from_append (lists_of t) (lists_under us) l h) [
        | inl here ↦ let below : l < list_count t = named_below t l here in omega arith
        | inr there ↦ let below : l < list_count_under us = under_below us l there in omega arith
      ]

-- a member of the list, each once, is a member
with_within : (seen : List (List ℕ)) (x y : List ℕ) → Contains (with_member bytes_eq seen x) y → Contains seen y ⊎ (x ≡ y)
with_within seen x y h =
    let within : List (List ℕ) → Type 0 = λ zs. Contains zs y → Contains seen y ⊎ (x ≡ y) in
    let known : within seen = λ k. inl k in
    let new : within (seen ++ x ∷ []) = λ k. added seen k in
    (elim (list_any (bytes_eq x) seen) as (λ b. within (cond b seen (seen ++ x ∷ []))) [ true ↦ known | false ↦ new ]) h
  where
    added : (zs : List (List ℕ)) → Contains (zs ++ x ∷ []) y → Contains zs y ⊎ (x ≡ y)
    added [] k = elim (contains_cases x [] y k) [ inl same ↦ inr same | inr none ↦ absurd (contains_nil y none) ]
    added (z ∷ zs) k =
        elim (contains_cases z (zs ++ x ∷ []) y k) [
          | inl same ↦ inl (subst (λ w. Contains (z ∷ zs) w) same (contains_here z zs))
          | inr rest ↦ elim (added zs rest) [ inl l ↦ inl (contains_there z zs y l) | inr r ↦ inr r ]
        ]

once_within : (seen xs : List (List ℕ)) (y : List ℕ) → Contains (each_once_after bytes_eq seen xs) y → Contains seen y ⊎ Contains xs y
once_within seen [] y h = inl h
once_within seen (x ∷ xs) y h =
    elim (once_within (with_member bytes_eq seen x) xs y h) [
      | inl held ↦ elim (with_within seen x y held) [ inl l ↦ inl l | inr same ↦ inr (subst (λ z. Contains (x ∷ xs) z) same (contains_here x xs)) ]
      | inr rest ↦ inr (contains_there x xs y rest)
    ]

-- of names that differ, two places with one name are one place
one_place : (names : List (List ℕ)) (i j : ℕ) → AllPairs ◌≢◌ names → i ≤ j → j < length names → slice_index_or names i [] ≡ slice_index_or names j [] → i ≡ j
one_place names i j differ le l same =
    elim (cases_lt i j) [ inl less ↦ absurd (differ i j [] less l same) | inr more ↦ omega arith ]

-- there are as many names as lists
pub lists_counted : (q : Query) → IsLawful q → list_count q.expr ≡ length q.names
lists_counted q lawful =
    let most : list_count q.expr ≤ length q.names =
    elim (cases_lt 0 (list_count q.expr)) [
      | inl some ↦ let within : list_count q.expr - 1 < length q.names = member_of_all (λ list. list < length q.names) (lists_of q.expr) (list_count q.expr - 1) lawful.listed (last_named q.expr some) in omega arith
      | inr none ↦ omega arith
    ] in
    let least : length q.names ≤ list_count q.expr =
    elim (cases_lt 0 (length q.names)) [
      | inl some ↦ least_count some
      | inr none ↦ omega arith
    ] in
    omega arith
  where
    least_count : 0 < length q.names → length q.names ≤ list_count q.expr
    least_count some =
        let last = length q.names - 1 in
        let name = slice_index_or q.names last [] in
        let held : Contains q.names name = contains_at q.names last [] (omega arith) in
        let given : Contains (each_once bytes_eq (names_given q.names q.expr)) name = subst (λ ns. Contains ns name) (sym lawful.numbered) held in
        elim (once_within [] (names_given q.names q.expr) name given) [
          | inl none ↦ absurd (contains_nil name none)
          | inr named ↦
              let from = contains_map_from (name_of q.names) (lists_of q.expr) name named in
              let within : from.0 < length q.names = member_of_all (λ list. list < length q.names) (lists_of q.expr) from.0 lawful.listed from.1 in
              let same : from.0 ≡ last = one_place q.names from.0 last lawful.different (omega arith) (omega arith) from.2 in
              let below : from.0 < list_count q.expr = named_below q.expr from.0 from.1 in
              omega arith
        ]
