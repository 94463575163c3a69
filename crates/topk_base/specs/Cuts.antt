-- Where a text is cut: at the first of a byte, and after a word.
use Rattle.std.specs.Prelude.{◌==◌, ℕ, List, [], ◌∷◌, if◌then◌else◌}
use Rattle.std.specs.Option.{option_map}
use Rattle.std.specs.declared.option.Option.{Option}
use Rattle.std.specs.declared.option.Option.TheVariants.{None, Some}

-- what stands before the first of the byte and what stands after it, or None where the text has no such byte
abbrev pub cut_at : ℕ → List ℕ → Option (List ℕ × List ℕ)
cut_at byte [] = None
cut_at byte (first ∷ rest) = if first == byte then Some ([], rest) else option_map (λ cut. (first ∷ cut.0, cut.1)) (cut_at byte rest)

-- what follows the word at the front of a text, or None where the text doesn't begin with it
abbrev pub rest_after : List ℕ → List ℕ → Option (List ℕ)
rest_after [] text = Some text
rest_after (letter ∷ word) [] = None
rest_after (letter ∷ word) (first ∷ text) = if letter == first then rest_after word text else None
