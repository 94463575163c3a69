-- Words that are put one after another.
use Rattle.std.proofs.Common.{◌≡◌, ℕ, List, [], ◌∷◌, ◌++◌, map, ap, ◌∙◌}
use Rattle.std.proofs.lemmas.List.{map-append}
use Rattle.std.specs.Prelude.{string_bytes, String}

-- a word more, by its bytes
pub word_put : {Z : Type 0} (old now : List (String Z)) (word : String Z) (text : List ℕ) → now ≡ old ++ word ∷ [] → string_bytes word ≡ text
    → map string_bytes now ≡ map string_bytes old ++ text ∷ []
word_put old now word text put is =
    ap (map string_bytes) put ∙ map-append string_bytes old (word ∷ []) ∙ ap (λ (t : List ℕ). map string_bytes old ++ t ∷ []) is
