-- Records of three or four fields.
use Rattle.std.proofs.Common.{◌≡◌, ℕ, true, false, List, [], ◌∷◌, Option, Some, None, refl, sym, ap, ◌∙◌}
use Rattle.std.specs.Option.{is_some, option_map}
use Rattle.std.specs.Borrow.{Bor}
use Rattle.csv.specs.Records.{field_at}
use Rattle.catalog_text.specs.Catalog.{fields_in}

pub lacks_first : (fields : List (List ℕ)) → None ≡ field_at fields 0 → None ≡ fields_in fields
unfolding field_at
lacks_first [] e = refl
lacks_first (a ∷ fields) e = absurd (cc)

pub lacks_second : (fields : List (List ℕ)) → None ≡ field_at fields 1 → None ≡ fields_in fields
unfolding field_at
lacks_second [] e = refl
lacks_second (a ∷ []) e = refl
lacks_second (a ∷ b ∷ fields) e = absurd (cc)

pub lacks_third : (fields : List (List ℕ)) → None ≡ field_at fields 2 → None ≡ fields_in fields
unfolding field_at
lacks_third [] e = refl
lacks_third (a ∷ []) e = refl
lacks_third (a ∷ b ∷ []) e = refl
lacks_third (a ∷ b ∷ c ∷ fields) e = absurd (cc)

pub has_fifth : (fields : List (List ℕ)) (fifth : Option (Bor (List ℕ))) → option_map (λ s. s.now) fifth ≡ field_at fields 4
    → true ≡ is_some fifth → None ≡ fields_in fields
unfolding field_at
has_fifth fields None e some = absurd (cc)
has_fifth [] (Some x) e some = refl
has_fifth (a ∷ []) (Some x) e some = refl
has_fifth (a ∷ b ∷ []) (Some x) e some = refl
has_fifth (a ∷ b ∷ c ∷ []) (Some x) e some = absurd (cc)
has_fifth (a ∷ b ∷ c ∷ d ∷ []) (Some x) e some = absurd (cc)
has_fifth (a ∷ b ∷ c ∷ d ∷ f ∷ fields) (Some x) e some = refl

-- three fields, and a fourth if there is one
abbrev pub given : List ℕ → List ℕ → List ℕ → Option (List ℕ) → Option (List ℕ × List ℕ × List ℕ × Option (List ℕ))
given a b c fourth = Some (a, b, c, fourth)

pub has_fields : (fields : List (List ℕ)) (a b c : List ℕ) (fourth fifth : Option (Bor (List ℕ))) → Some a ≡ field_at fields 0
    → Some b ≡ field_at fields 1 → Some c ≡ field_at fields 2
    → option_map (λ s. s.now) fourth ≡ field_at fields 3 → option_map (λ s. s.now) fifth ≡ field_at fields 4
    → false ≡ is_some fifth → given a b c (option_map (λ s. s.now) fourth) ≡ fields_in fields
unfolding field_at
has_fields fields a b c fourth (Some x) first second third o e none = absurd (cc)
has_fields [] a b c fourth None first second third o e none = absurd (cc)
has_fields (x ∷ []) a b c fourth None first second third o e none = absurd (cc)
has_fields (x ∷ y ∷ []) a b c fourth None first second third o e none = absurd (cc)
has_fields (x ∷ y ∷ z ∷ []) a b c fourth None first second third o e none =
    let one : a ≡ x = cc in
    let two : b ≡ y = cc in
    let three : c ≡ z = cc in
    ap (λ p. given p b c (option_map (λ s. s.now) fourth)) one
    ∙ (ap (λ p. given x p c (option_map (λ s. s.now) fourth)) two ∙ (ap (λ p. given x y p (option_map (λ s. s.now) fourth)) three ∙ ap (given x y z) o))
has_fields (x ∷ y ∷ z ∷ w ∷ []) a b c fourth None first second third o e none =
    let one : a ≡ x = cc in
    let two : b ≡ y = cc in
    let three : c ≡ z = cc in
    ap (λ p. given p b c (option_map (λ s. s.now) fourth)) one
    ∙ (ap (λ p. given x p c (option_map (λ s. s.now) fourth)) two ∙ (ap (λ p. given x y p (option_map (λ s. s.now) fourth)) three ∙ ap (given x y z) o))
has_fields (x ∷ y ∷ z ∷ w ∷ v ∷ fields) a b c fourth None first second third o e none = absurd (cc)

abbrev pub fields_if : Option (List ℕ) → List (List ℕ)
fields_if (Some d) = d ∷ []
fields_if None = []

-- the fields of a record that has these
abbrev pub row : List ℕ → List ℕ → List ℕ → Option (List ℕ) → List (List ℕ)
row a b c fourth = a ∷ b ∷ c ∷ fields_if fourth

abbrev first_of : Option (List ℕ × List ℕ × List ℕ × Option (List ℕ)) → List ℕ
first_of (Some p) = p.0
first_of None = []

abbrev second_of : Option (List ℕ × List ℕ × List ℕ × Option (List ℕ)) → List ℕ
second_of (Some p) = p.1
second_of None = []

abbrev third_of : Option (List ℕ × List ℕ × List ℕ × Option (List ℕ)) → List ℕ
third_of (Some p) = p.2
third_of None = []

abbrev fourth_of : Option (List ℕ × List ℕ × List ℕ × Option (List ℕ)) → Option (List ℕ)
fourth_of (Some p) = p.3
fourth_of None = None

pub row_is : (fields : List (List ℕ)) (a b c : List ℕ) (fourth : Option (List ℕ)) → given a b c fourth ≡ fields_in fields → fields ≡ row a b c fourth
row_is [] a b c fourth e = absurd (cc)
row_is (x ∷ []) a b c fourth e = absurd (cc)
row_is (x ∷ y ∷ []) a b c fourth e = absurd (cc)
row_is (x ∷ y ∷ z ∷ []) a b c fourth e =
    sym (ap (λ p. row p b c fourth) (ap first_of e) ∙ (ap (λ p. row x p c fourth) (ap second_of e) ∙ (ap (λ p. row x y p fourth) (ap third_of e) ∙ ap (row x y z) (ap fourth_of e))))
row_is (x ∷ y ∷ z ∷ w ∷ []) a b c fourth e =
    sym (ap (λ p. row p b c fourth) (ap first_of e) ∙ (ap (λ p. row x p c fourth) (ap second_of e) ∙ (ap (λ p. row x y p fourth) (ap third_of e) ∙ ap (row x y z) (ap fourth_of e))))
row_is (x ∷ y ∷ z ∷ w ∷ v ∷ fields) a b c fourth e = absurd (cc)
