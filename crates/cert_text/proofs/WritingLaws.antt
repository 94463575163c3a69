-- One text written after another.
use Rattle.std.proofs.Common.{◌≡◌, ℕ, ◌+◌, List, [], ◌∷◌, ◌++◌, map, take, Some, sym, ap, ◌∙◌, append_assoc, append-nil}
use Rattle.std.specs.List.{slice_get}
use Rattle.std.proofs.lemmas.List.{take_more, map-append}
use Rattle.std.proofs.lemmas.Grind.{flat_map-append}
use Rattle.std.proofs.lemmas.Option.{slice_get_within, get_or_from_slice_get}
use Rattle.cert_text.specs.Certificate.{spaced}
use Rattle.cert_text.specs.Writing.{further}

-- a line of words is its first word and the further ones
pub spaced-cons : (first : List ℕ) (words : List (List ℕ)) → spaced (first ∷ words) ≡ first ++ further words
spaced-cons first [] = sym (append-nil first)
spaced-cons first (next ∷ words) = ap (λ t. first ++ 32 ∷ t) (spaced-cons next words)

-- one word more behind a first word and the further ones so far
pub further_more : {X : Type 0} (text : X → List ℕ) (first : List ℕ) (words : List X) (i : ℕ) (word : X) → slice_get words i ≡ Some word
    → first ++ further (map text (take (i + 1) words)) ≡ (first ++ further (map text (take i words))) ++ 32 ∷ text word
further_more text first words i word found =
    let so_far = further (map text (take i words)) in
    ap (λ ws. first ++ further (map text ws)) (take_more words i word (slice_get_within words i word found) ∙ ap (λ w. take i words ++ w ∷ []) (get_or_from_slice_get words i word word found))
    ∙ ap (λ ws. first ++ further ws) (map-append text (take i words) (word ∷ []))
    ∙ ap (λ t. first ++ t) (flat_map-append (λ (word : List ℕ). 32 ∷ word) (map text (take i words)) (text word ∷ []))
    ∙ ap (λ t. first ++ (so_far ++ 32 ∷ t)) (append-nil (text word))
    ∙ sym (append_assoc first so_far (32 ∷ text word))

-- the parts of the line of a refusal
pub refused_parts : (first line name : List ℕ) (fields : List (List ℕ))
    → spaced (first ∷ line ∷ name ∷ fields) ++ 10 ∷ [] ≡ first ++ ((32 ∷ line) ++ ((32 ∷ name) ++ (further fields ++ 10 ∷ [])))
refused_parts first line name fields =
    ap (λ t. t ++ 10 ∷ []) (spaced-cons first (line ∷ name ∷ fields))
    ∙ append_assoc first (further (line ∷ name ∷ fields)) (10 ∷ [])
    ∙ ap (λ t. first ++ t) (append_assoc (32 ∷ line) (further (name ∷ fields)) (10 ∷ []))
    ∙ ap (λ t. first ++ ((32 ∷ line) ++ t)) (append_assoc (32 ∷ name) (further fields) (10 ∷ []))

-- the parts of the line of an access
pub access_parts : (kind : ℕ) (name object grade : List ℕ)
    → spaced ((kind ∷ []) ∷ name ∷ object ∷ grade ∷ []) ++ 10 ∷ [] ≡ (kind ∷ 32 ∷ []) ++ (name ++ (32 ∷ object ++ (32 ∷ grade ++ 10 ∷ [])))
access_parts kind name object grade =
    ap (λ t. kind ∷ 32 ∷ t)
    (append_assoc name (32 ∷ (object ++ 32 ∷ grade)) (10 ∷ []) ∙ ap (λ t. name ++ 32 ∷ t) (append_assoc object (32 ∷ grade) (10 ∷ [])))
