-- A text is one catalog.
use Rattle.std.proofs.Common.{◌≡◌, ℕ, Bool, true, false, List, [], ◌∷◌, map, get_or, drop, refl, sym, ap, ◌∙◌, subst}
use Rattle.catalog_text.specs.Catalog.{Listed, IsListed, IsCatalog, IsCatalogOf, spelled}
use Rattle.std.specs.List.{All}
use Rattle.std.proofs.lemmas.List.Elements.{All-head, All-tail}
use Rattle.catalog_text.proofs.TakingLaws.{header_once}
use Rattle.catalog_text.proofs.SourceLaws.{yes_once}

-- a source of these parts
listed_by : List ℕ → List ℕ → Bool → Bool → Listed
listed_by name place random sorted = record { name = name; place = place; random = random; sorted = sorted }

alike : (a b : Listed) → a.name ≡ b.name → a.place ≡ b.place → a.random ≡ b.random → a.sorted ≡ b.sorted → a ≡ b
unfolding listed_by
alike a b name place random sorted =
    ap (λ n. listed_by n a.place a.random a.sorted) name
    ∙ (ap (λ p. listed_by b.name p a.random a.sorted) place
    ∙ (ap (λ r. listed_by b.name b.place r a.sorted) random ∙ ap (listed_by b.name b.place b.random) sorted))

sorted_once : (wide : Bool) (a b : Listed) → spelled wide a ≡ spelled wide b → IsListed wide a → IsListed wide b → a.sorted ≡ b.sorted
sorted_once true a b e left right = yes_once a.sorted b.sorted (ap (λ f. get_or f 3 []) e)
sorted_once false a b e left right = left.access ∙ sym right.access

spelled_once : (wide : Bool) (a b : Listed) → spelled wide a ≡ spelled wide b → IsListed wide a → IsListed wide b → a ≡ b
spelled_once wide a b e left right =
    alike a b (ap (λ f. get_or f 0 []) e) (ap (λ f. get_or f 1 []) e) (yes_once a.random b.random (ap (λ f. get_or f 2 []) e)) (sorted_once wide a b e left right)

all_once : (wide : Bool) (a b : List Listed) → map (spelled wide) a ≡ map (spelled wide) b → All (IsListed wide) a → All (IsListed wide) b → a ≡ b
all_once wide [] [] e left right = refl
all_once wide [] (y ∷ b) e left right = absurd (cc)
all_once wide (x ∷ a) [] e left right = absurd (cc)
all_once wide (x ∷ a) (y ∷ b) e left right =
    let here : x ≡ y = spelled_once wide x y (ap (λ l. get_or l 0 []) e) (All-head (IsListed wide) x a left) (All-head (IsListed wide) y b right) in
    let rest = all_once wide a b (ap (drop 1) e) (All-tail (IsListed wide) x a left) (All-tail (IsListed wide) y b right) in
    ap (λ z. z ∷ a) here ∙ ap (λ z. y ∷ z) rest

of_one : (wide : Bool) (records : List (List (List ℕ))) (a b : List Listed) → IsCatalogOf wide records a → IsCatalogOf wide records b → a ≡ b
of_one wide records a b first second = all_once wide a b (ap (drop 1) (sym first.whole ∙ second.whole)) first.each second.each

pub one_catalog : (records : List (List (List ℕ))) (a b : List Listed) → IsCatalog records a → IsCatalog records b → a ≡ b
one_catalog records a b first second =
    let one = first.1.whole in
    let other = second.1.whole in
    let same : second.0 ≡ first.0 = header_once second.0 first.0 (ap (λ l. get_or l 0 []) (sym other ∙ one)) in
    of_one first.0 records a b first.1 (subst (λ w. IsCatalogOf w records b) same second.1)
