-- The lines of a text.
use Rattle.std.specs.Prelude.{◌≢◌, ◌==◌, ◌&&◌, ℕ, Bool, false, List, [], ◌∷◌, ◌++◌, All, if◌then◌else◌}
use Rattle.std.specs.List.{onto_first, flat_map}

-- whether a text begins with LF
abbrev pub begins_with_end : List ℕ → Bool
begins_with_end [] = false
begins_with_end (byte ∷ rest) = byte == 10

-- a byte in front of lines: LF ends a line, which is empty so far; CR is dropped where LF comes next; any other belongs to the first line
abbrev pub before_lines : ℕ → Bool → List (List ℕ) → List (List ℕ)
before_lines byte end_is_next rest = if byte == 10 then [] ∷ rest else (if (byte == 13) && end_is_next then rest else onto_first byte rest)

-- the lines of a text: each ends with LF, and one CR directly before the LF is dropped; a last line without LF is whole and keeps its CR
unfoldable pub lines : List ℕ → List (List ℕ)
lines [] = []
lines (byte ∷ rest) = before_lines byte (begins_with_end rest) (lines rest)

-- the lines as a text, each ended by LF
abbrev pub unlines : List (List ℕ) → List ℕ
unlines ls = flat_map (λ (line : List ℕ). line ++ 10 ∷ []) ls

-- a line that is read again as it was written: without LF, and not ending in CR
pub record IsPlainLine (line : List ℕ) : Type 0 where
  pub no_end : All (λ byte. byte ≢ 10) line
  pub no_return : (front : List ℕ) → line ≢ front ++ 13 ∷ []
