-- Records of two fields.
use Rattle.std.proofs.Common.{◌≡◌, ℕ, true, false, List, [], ◌∷◌, Option, Some, None, refl, ap, ◌∙◌}
use Rattle.std.specs.Option.{is_some, option_map}
use Rattle.std.specs.Borrow.{Bor}
use Rattle.csv.specs.Records.{field_at}
use Rattle.file_source.specs.ListFile.{pair_in}

pub lacks_first : (fields : List (List ℕ)) → None ≡ field_at fields 0 → None ≡ pair_in fields
unfolding field_at
lacks_first [] e = refl
lacks_first (a ∷ fields) e = absurd (cc)

pub lacks_second : (fields : List (List ℕ)) → None ≡ field_at fields 1 → None ≡ pair_in fields
unfolding field_at
lacks_second [] e = refl
lacks_second (a ∷ []) e = refl
lacks_second (a ∷ b ∷ fields) e = absurd (cc)

pub has_third : (fields : List (List ℕ)) (third : Option (Bor (List ℕ))) → option_map (λ s. s.now) third ≡ field_at fields 2 → true ≡ is_some third
    → None ≡ pair_in fields
unfolding field_at
has_third fields None e some = absurd (cc)
has_third [] (Some c) e some = refl
has_third (a ∷ []) (Some c) e some = refl
has_third (a ∷ b ∷ []) (Some c) e some = absurd (cc)
has_third (a ∷ b ∷ d ∷ fields) (Some c) e some = refl

abbrev pub given : List ℕ → List ℕ → Option (List ℕ × List ℕ)
given a b = Some (a, b)

pub is_pair : (fields : List (List ℕ)) (a b : List ℕ) (third : Option (Bor (List ℕ))) → Some a ≡ field_at fields 0 → Some b ≡ field_at fields 1
    → option_map (λ s. s.now) third ≡ field_at fields 2 → false ≡ is_some third → given a b ≡ pair_in fields
unfolding field_at
is_pair fields a b (Some c) first second e none = absurd (cc)
is_pair [] a b None first second e none = absurd (cc)
is_pair (x ∷ []) a b None first second e none = absurd (cc)
is_pair (x ∷ y ∷ []) a b None first second e none =
    let one : a ≡ x = cc in
    let two : b ≡ y = cc in
    ap (λ p. given p b) one ∙ ap (given x) two
is_pair (x ∷ y ∷ z ∷ fields) a b None first second e none = absurd (cc)
