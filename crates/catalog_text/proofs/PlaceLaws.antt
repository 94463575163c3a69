-- The places of names, while sources are added.
use Rattle.std.proofs.Common.{◌≡◌, ◌+◌, ◌++◌, ℕ, suc, Bool, true, false, cond, List, [], ◌∷◌, length, Some, None, refl, sym, ap, ◌∙◌, arith}
use Rattle.std.specs.Option.{is_some}
use Rattle.std.specs.List.{position, position_from}
use Rattle.std.specs.Str.{bytes_eq}
use Rattle.std.specs.Global.{Vec}
use Rattle.std.specs.Map.{lookup}
use Rattle.std.specs.Cmp.Lexicographic.{nat_list_eq_equiv}
use Rattle.std.proofs.lemmas.Iterator.Adapters.{position_from-zero}
use Rattle.indexmap.specs.IndexMap.{insert_entry}
use Rattle.indexmap.proofs.CallerLemmas.{insert_entry-new}
use Rattle.catalog_text.specs.declared.catalog.Entry.{Entry}
use Rattle.catalog_text.specs.Placed.{Places, place_in, kept_place, PutsFirst, IsPlaced}

-- ---- one more at the end of a list

from_push : {X : Type 0} (test : X → Bool) (i : ℕ) (xs : List X) (y : X)
    → position_from test i (xs ++ y ∷ []) ≡ kept_place (position_from test i xs) (test y) (i + length xs)
from_push test i [] y = let same : i ≡ i + 0 = omega arith in ap (λ n. cond (test y) (Some n) None) same
from_push test i (x ∷ xs) y =
    let same : (i + 1) + length xs ≡ i + suc (length xs) = omega arith in
    by (test x) (from_push test (i + 1) xs y ∙ ap (kept_place (position_from test (i + 1) xs) (test y)) same)
  where
    by : (b : Bool) → position_from test (i + 1) (xs ++ y ∷ []) ≡ kept_place (position_from test (i + 1) xs) (test y) (i + suc (length xs))
        → cond b (Some i) (position_from test (i + 1) (xs ++ y ∷ []))
        ≡ kept_place (cond b (Some i) (position_from test (i + 1) xs)) (test y) (i + suc (length xs))
    by true more = refl
    by false more = more

position_push : {X : Type 0} (test : X → Bool) (xs : List X) (y : X)
    → position test (xs ++ y ∷ []) ≡ kept_place (position test xs) (test y) (length xs)
position_push test xs y =
    let same : 0 + length xs ≡ length xs = omega arith in
    position_from-zero test (xs ++ y ∷ [])
    ∙ (from_push test 0 xs y
    ∙ (ap (kept_place (position_from test 0 xs) (test y)) same
    ∙ ap (λ o. kept_place o (test y) (length xs)) (sym (position_from-zero test xs))))

lookup_push : {K : Type 0} (test : K → Bool) (entries : List (K × ℕ)) (key : K) (new : ℕ)
    → lookup test (entries ++ (key, new) ∷ []) ≡ kept_place (lookup test entries) (test key) new
lookup_push test [] key new = refl
lookup_push test (entry ∷ entries) key new = by (test entry.0) (lookup_push test entries key new)
  where
    by : (b : Bool) → lookup test (entries ++ (key, new) ∷ []) ≡ kept_place (lookup test entries) (test key) new
        → cond b (Some entry.1) (lookup test (entries ++ (key, new) ∷ []))
        ≡ kept_place (cond b (Some entry.1) (lookup test entries)) (test key) new
    by true more = refl
    by false more = more

-- ---- one more source

abbrev same_name : Vec ℕ → Vec ℕ → Bool
same_name a b = bytes_eq a.items b.items

-- a name that has no place is put with one
pub puts_first : (before now : Places) (key : Vec ℕ) (name : List ℕ) (new : ℕ) → key.items ≡ name → is_some (place_in before name) ≡ false
    → now.entries ≡ insert_entry same_name before.entries key new → PutsFirst before now name new
puts_first before now key name new is absent more other =
    let none = ap (place_in before) is ∙ (elim (place_in before name) as (λ o. is_some o ≡ false → o ≡ None) [ None ↦ λ e. refl | Some place ↦ λ e. absurd (cc) ] absent) in
    ap (lookup (λ (k : Vec ℕ). bytes_eq other k.items)) (more ∙ insert_entry-new same_name before key new none)
    ∙ (lookup_push (λ (k : Vec ℕ). bytes_eq other k.items) before.entries key new
    ∙ ap (λ b. kept_place (place_in before other) b new) (nat_list_eq_equiv.symm other key.items ∙ ap (λ n. bytes_eq n other) is))

-- the places are those of the entries with one more
pub places_more : (entries more : List Entry) (before now : Places) (entry : Entry) (name : List ℕ) (new : ℕ) → IsPlaced entries before
    → PutsFirst before now name new → new ≡ length entries → entry.name.items ≡ name → more ≡ entries ++ entry ∷ [] → IsPlaced more now
places_more entries more before now entry name new placed puts counted is whole other =
    puts other
    ∙ (ap (λ o. kept_place o (bytes_eq name other) new) (placed other)
    ∙ (ap (kept_place (position (λ (e : Entry). bytes_eq e.name.items other) entries) (bytes_eq name other)) counted
    ∙ (ap (λ n. kept_place (position (λ (e : Entry). bytes_eq e.name.items other) entries) (bytes_eq n other) (length entries)) (sym is)
    ∙ (sym (position_push (λ (e : Entry). bytes_eq e.name.items other) entries entry)
    ∙ ap (position (λ (e : Entry). bytes_eq e.name.items other)) (sym whole)))))
