-- The lists of names, as far as they are known.
use Rattle.std.proofs.Common.{◌≡◌, ℕ, zero, suc, ◌+◌, ◌<◌, not, nat_lt, cond, List, [], ◌∷◌, ◌++◌, length, get_or, map, take, Option, Some, None, is_none, slice_get, sym, ap, ◌∙◌, subst, arith}
use Rattle.std.specs.List.{position, position_or_len}
use Rattle.std.proofs.lemmas.Bool.{lt-ltb}
use Rattle.std.proofs.lemmas.List.{length-map, length-take-le, map-append, take_more}
use Rattle.query_admission.specs.declared.lists.ListInfo.{ListInfo}

-- the first names are known, and the next one isn't: it is the first that has no list
first_unknown_from : (known_by : List ℕ → Option ListInfo) (names : List (List ℕ)) (known : List ListInfo) (place : ℕ) (name : List ℕ)
    → map known_by (take place names) ≡ map Some known → slice_get names place ≡ Some name → known_by name ≡ None
    → (position_or_len is_none (map known_by names) ≡ place) × (place < length (map known_by names))
first_unknown_from known_by [] known place name so_far at none = absurd cc
first_unknown_from known_by (first ∷ names) known zero name so_far at none =
    let same : first ≡ name = cc in
    let unknown : known_by first ≡ None = ap known_by same ∙ none in
    (ap (λ o. cond (not (is_none o)) (1 + position_or_len is_none (map known_by names)) 0) unknown, omega arith)
first_unknown_from known_by (first ∷ names) [] (suc place) name so_far at none = absurd cc
first_unknown_from known_by (first ∷ names) (list ∷ known) (suc place) name so_far at none =
    let found : known_by first ≡ Some list = cc in
    let rest : map known_by (take place names) ≡ map Some known = cc in
    let later = first_unknown_from known_by names known place name rest at none in
    let one : position_or_len is_none (map known_by (first ∷ names)) ≡ 1 + position_or_len is_none (map known_by names) =
    ap (λ o. cond (not (is_none o)) (1 + position_or_len is_none (map known_by names)) 0) found in
    (omega (arith, one, later.0), omega (arith, later.1))

pub first_unknown : (known_by : List ℕ → Option ListInfo) (names : List (List ℕ)) (known : List ListInfo) (place : ℕ) (name : List ℕ)
    → map known_by (take place names) ≡ map Some known → Some name ≡ slice_get names place → None ≡ known_by name
    → position is_none (map known_by names) ≡ Some place
first_unknown known_by names known place name so_far at none =
    let p = first_unknown_from known_by names known place name so_far (sym at) (sym none) in
    subst (λ n. cond (nat_lt n (length (map known_by names))) (Some n) None ≡ Some place) (sym p.0)
    (ap (λ b. cond b (Some place) None) (lt-ltb place (length (map known_by names)) p.1))

-- the known lists are as many as the names so far
pub as_many_known : (known_by : List ℕ → Option ListInfo) (names : List (List ℕ)) (known : List ListInfo) (place : ℕ) → place < length names
    → map known_by (take place names) ≡ map Some known → length known ≡ place
as_many_known known_by names known place within so_far =
    let each : length (map known_by (take place names)) ≡ length (map Some known) = ap length so_far in
    omega (arith, each, length-map (take place names) known_by, length-map known (λ list. Some list), length-take-le place names (omega arith))

-- one more name is known
pub known_more : (known_by : List ℕ → Option ListInfo) (names : List (List ℕ)) (known : List ListInfo) (place : ℕ) (name : List ℕ) (list : ListInfo)
    → map known_by (take place names) ≡ map Some known → Some name ≡ slice_get names place → Some list ≡ known_by name
    → map known_by (take (suc place) names) ≡ map Some (known ++ list ∷ [])
known_more known_by [] known place name list so_far at found = absurd cc
known_more known_by (first ∷ names) [] zero name list so_far at found =
    let same : first ≡ name = cc in
    let known : known_by first ≡ Some list = ap known_by same ∙ sym found in
    ap (λ o. o ∷ []) known
known_more known_by (first ∷ names) (other ∷ known) zero name list so_far at found = absurd cc
known_more known_by (first ∷ names) [] (suc place) name list so_far at found = absurd cc
known_more known_by (first ∷ names) (other ∷ known) (suc place) name list so_far at found =
    let here : known_by first ≡ Some other = cc in
    let rest : map known_by (take place names) ≡ map Some known = cc in
    let later : map known_by (take (suc place) names) ≡ map Some (known ++ list ∷ []) = known_more known_by names known place name list rest at found in
    ap (λ o. o ∷ map known_by (take (suc place) names)) here ∙ ap (λ os. Some other ∷ os) later

-- what one list more says of itself
pub gathered_more : {X : Type 0} (field : ListInfo → X) (lists : List ListInfo) (place : ℕ) (gathered now : List X) (d : ListInfo) → place < length lists
    → gathered ≡ map field (take place lists) → now ≡ gathered ++ field (get_or lists place d) ∷ [] → now ≡ map field (take (place + 1) lists)
gathered_more field lists place gathered now d within so_far push =
    push
    ∙ ap (λ s. s ++ field (get_or lists place d) ∷ []) so_far
    ∙ sym (map-append field (take place lists) (get_or lists place d ∷ []))
    ∙ ap (map field) (sym (take_more lists place d within))
