-- The lists of a lawful query are numbered as an expression wants them.
use Rattle.std.proofs.Common.{◌≡◌, ◌≢◌, ℕ, zero, suc, ◌<◌, ◌≤◌, Bool, true, false, cond, List, [], ◌∷◌, ◌++◌, length, map, refl, sym, ap, subst, ⊎_elim, ◌⊎◌, inl, inr, arith}
use Rattle.std.specs.List.{list_any, AllPairs, Contains}
use Rattle.std.specs.Str.{bytes_eq}
use Rattle.std.proofs.lemmas.Bool.{cases_order}
use Rattle.monotone_fn.specs.Tree.{Tree, Trees, Terms}
use Rattle.monotone_fn.specs.Shape.{nodes_of, nodes_in, nodes_under, list_count, list_count_in, list_count_under, NumbersLists}
use Rattle.query_text.specs.Pieces.{with_member, each_once_after, each_once}
use Rattle.query_text.specs.Query.{name_of, lists_of, lists_among, lists_under, names_given, HasTree, HasTerm, IsPlain, ArePlain, AreWeighed}
use Rattle.query_text.proofs.ListLaws.{Each}
use Rattle.topk_base.specs.declared.TheConstants.{MAX_LISTS}

-- a list has a member
abbrev pub Has : {A : Type 0} → List A → A → Type 0
Has [] x = ⊥
Has (y ∷ ys) x = (y ≡ x) ⊎ Has ys x

Has-left : {A : Type 0} (xs ys : List A) (x : A) → Has xs x → Has (xs ++ ys) x
Has-left [] ys x h = absurd h
Has-left (y ∷ xs) ys x h = ⊎_elim (λ e. inl e) (λ k. inr (Has-left xs ys x k)) h

Has-right : {A : Type 0} (xs ys : List A) (x : A) → Has ys x → Has (xs ++ ys) x
Has-right [] ys x h = h
Has-right (y ∷ xs) ys x h = inr (Has-right xs ys x h)

Has-parts : {A : Type 0} (xs ys : List A) (x : A) → Has (xs ++ ys) x → Has xs x ⊎ Has ys x
Has-parts [] ys x h = inr h
Has-parts (y ∷ xs) ys x h = ⊎_elim (λ e. inl (inl e)) (λ k. ⊎_elim (λ a. inl (inr a)) (λ b. inr b) (Has-parts xs ys x k)) h

Has-contains : {A : Type 0} (xs : List A) (x : A) → Has xs x → Contains xs x
Has-contains [] x h = absurd h
Has-contains (y ∷ xs) x h =
    ⊎_elim (λ e. (zero, omega arith, e)) (λ k. let c = Has-contains xs x k in (suc c.0, omega (arith, c.1), c.2)) h

-- what stands once stood there
once_has : (seen xs : List (List ℕ)) (x : List ℕ) → Has (each_once_after bytes_eq seen xs) x → Has seen x ⊎ Has xs x
once_has seen [] x h = inl h
once_has seen (y ∷ xs) x h = ⊎_elim (λ a. from_member (list_any (bytes_eq y) seen) a) (λ b. inr (inr b)) (once_has (with_member bytes_eq seen y) xs x h)
  where
    from_member : (b : Bool) → Has (cond b seen (seen ++ y ∷ [])) x → Has seen x ⊎ Has (y ∷ xs) x
    from_member true a = inl a
    from_member false a = ⊎_elim (λ k. inl k) (λ k. ⊎_elim (λ e. inr (inl e)) (λ e. absurd e) k) (Has-parts seen (y ∷ []) x a)

Has-place : (xs : List (List ℕ)) (l : ℕ) → l < length xs → Has xs (name_of xs l)
Has-place [] l h = absurd (omega arith)
Has-place (x ∷ xs) zero h = inl refl
Has-place (x ∷ xs) (suc l) h = inr (Has-place xs l (omega arith))

-- the list of a name that an expression gives
given_has : (names : List (List ℕ)) (ls : List ℕ) (x : List ℕ) → Has (map (name_of names) ls) x → (l : ℕ) × Has ls l × (name_of names l ≡ x)
given_has names [] x h = absurd h
given_has names (l ∷ ls) x h =
    ⊎_elim (λ e. (l, inl refl, e)) (λ k. let r = given_has names ls x k in (r.0, inr r.1, r.2)) h

Has-each : (P : ℕ → Type 0) (ls : List ℕ) (l : ℕ) → Each P ls → Has ls l → P l
Has-each P [] l h k = absurd k
Has-each P (x ∷ ls) l h k = ⊎_elim (λ e. subst P e h.0) (λ r. Has-each P ls l h.1 r) k

-- names that differ have one number each
same_number : (names : List (List ℕ)) → AllPairs ◌≢◌ names → (a b : ℕ) → a < length names → b < length names → name_of names a ≡ name_of names b → a ≡ b
same_number names different a b la lb e =
    ⊎_elim (λ s. s) (λ o. ⊎_elim (λ l. absurd (different a b [] l lb e)) (λ l. absurd (different b a [] l la (sym e))) o) (cases_order a b)

pub Each-left : (P : ℕ → Type 0) (xs ys : List ℕ) → Each P (xs ++ ys) → Each P xs × Each P ys
Each-left P [] ys h = (tt, h)
Each-left P (x ∷ xs) ys h = let r = Each-left P xs ys h.1 in ((h.0, r.0), r.1)

-- the greatest number of a list
mutual
  count_below : (t : Tree) (n : ℕ) → Each (λ l. l < n) (lists_of t) → list_count t ≤ n
  count_below (Tree.Grade l) n h = let k = h.0 in omega arith
  count_below (Tree.Min ts) n h = count_among ts n h
  count_below (Tree.Max ts) n h = count_among ts n h
  count_below (Tree.Sum ts) n h = count_among ts n h
  count_below (Tree.Median ts) n h = count_among ts n h
  count_below (Tree.Wsum us) n h = count_under us n h

  count_among : (ts : Trees) (n : ℕ) → Each (λ l. l < n) (lists_among ts) → list_count_in ts ≤ n
  count_among Trees.no_tree n h = omega arith
  count_among (Trees.tree_then t ts) n h =
      let r = Each-left (λ l. l < n) (lists_of t) (lists_among ts) h in
      let a : list_count t ≤ n = count_below t n r.0 in
      let b : list_count_in ts ≤ n = count_among ts n r.1 in
      omega arith

  count_under : (us : Terms) (n : ℕ) → Each (λ l. l < n) (lists_under us) → list_count_under us ≤ n
  count_under Terms.no_term n h = omega arith
  count_under (Terms.term_then w t us) n h =
      let r = Each-left (λ l. l < n) (lists_of t) (lists_under us) h in
      let a : list_count t ≤ n = count_below t n r.0 in
      let b : list_count_under us ≤ n = count_under us n r.1 in
      omega arith

mutual
  count_some : (t : Tree) → IsPlain t → 0 < list_count t
  count_some (Tree.Grade l) h = omega arith
  count_some (Tree.Min ts) h = some_among ts h.0 h.1
  count_some (Tree.Max ts) h = some_among ts h.0 h.1
  count_some (Tree.Sum ts) h = some_among ts h.0 h.1
  count_some (Tree.Median ts) h = some_among ts h.0 h.1
  count_some (Tree.Wsum us) h = some_under us h.0 h.1

  some_among : (ts : Trees) → HasTree ts → ArePlain ts → 0 < list_count_in ts
  some_among Trees.no_tree h p = absurd h
  some_among (Trees.tree_then t ts) h p = let a : 0 < list_count t = count_some t p.0 in omega arith

  some_under : (us : Terms) → HasTerm us → AreWeighed us → 0 < list_count_under us
  some_under Terms.no_term h p = absurd h
  some_under (Terms.term_then w t us) h p = let a : 0 < list_count t = count_some t p.1 in omega arith

-- a list that is named is a node
mutual
  listed_node : (t : Tree) (l : ℕ) → Has (lists_of t) l → Has (nodes_of t) (Tree.Grade l)
  listed_node (Tree.Grade m) l h = ⊎_elim (λ e. inl (ap Tree.Grade e)) (λ e. absurd e) h
  listed_node (Tree.Min ts) l h = Has-left (nodes_in ts) (Tree.Min ts ∷ []) (Tree.Grade l) (listed_among ts l h)
  listed_node (Tree.Max ts) l h = Has-left (nodes_in ts) (Tree.Max ts ∷ []) (Tree.Grade l) (listed_among ts l h)
  listed_node (Tree.Sum ts) l h = Has-left (nodes_in ts) (Tree.Sum ts ∷ []) (Tree.Grade l) (listed_among ts l h)
  listed_node (Tree.Median ts) l h = Has-left (nodes_in ts) (Tree.Median ts ∷ []) (Tree.Grade l) (listed_among ts l h)
  listed_node (Tree.Wsum us) l h = Has-left (nodes_under us) (Tree.Wsum us ∷ []) (Tree.Grade l) (listed_under us l h)

  listed_among : (ts : Trees) (l : ℕ) → Has (lists_among ts) l → Has (nodes_in ts) (Tree.Grade l)
  listed_among Trees.no_tree l h = absurd h
  listed_among (Trees.tree_then t ts) l h =
      ⊎_elim (λ a. Has-left (nodes_of t) (nodes_in ts) (Tree.Grade l) (listed_node t l a)) (λ b. Has-right (nodes_of t) (nodes_in ts) (Tree.Grade l) (listed_among ts l b))
      (Has-parts (lists_of t) (lists_among ts) l h)

  listed_under : (us : Terms) (l : ℕ) → Has (lists_under us) l → Has (nodes_under us) (Tree.Grade l)
  listed_under Terms.no_term l h = absurd h
  listed_under (Terms.term_then w t us) l h =
      ⊎_elim (λ a. Has-left (nodes_of t) (nodes_under us) (Tree.Grade l) (listed_node t l a)) (λ b. Has-right (nodes_of t) (nodes_under us) (Tree.Grade l) (listed_under us l b))
      (Has-parts (lists_of t) (lists_under us) l h)

-- an expression whose lists are named once each is numbered
pub numbers_lists : (names : List (List ℕ)) (t : Tree) → AllPairs ◌≢◌ names → length names ≤ MAX_LISTS → Each (λ l. l < length names) (lists_of t)
    → each_once bytes_eq (names_given names t) ≡ names → IsPlain t → NumbersLists t
numbers_lists names t different few listed numbered plain = record {
  some = count_some t plain;
  few = omega (arith, count_below t (length names) listed);
  used = λ l below. Has-contains (nodes_of t) (Tree.Grade l) (listed_node t l (has_list l (omega (arith, count_below t (length names) listed))));
}
  where
    has_list : (l : ℕ) → l < length names → Has (lists_of t) l
    has_list l within =
        let named : Has (each_once bytes_eq (names_given names t)) (name_of names l) = subst (λ xs. Has xs (name_of names l)) (sym numbered) (Has-place names l within) in
        ⊎_elim (λ none. absurd none)
        (λ k. let r = given_has names (lists_of t) (name_of names l) k in
        subst (Has (lists_of t)) (same_number names different r.0 l (Has-each (λ m. m < length names) (lists_of t) r.0 listed r.1) within r.2) r.1)
        (once_has [] (names_given names t) (name_of names l) named)
