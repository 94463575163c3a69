-- A query text as pieces: fixed text, numbers and names.
use Rattle.std.specs.Prelude.{◌≡◌, ◌<◌, ◌≤◌, ℕ, Bool, List, [], ◌∷◌, ◌++◌, length, if◌then◌else◌}
use Rattle.std.specs.List.{flat_map, list_any}
use Rattle.std.specs.Str.{bytes_eq}
use Rattle.std.specs.Str.Parse.{digits_value}
use Rattle.topk_base.specs.declared.TheConstants.{MAX_LISTS}

-- fixed text, or a number by its digits with the least and the greatest value that it may have, or the name of a list
pub data Piece : Type 0 where
  fixed : List ℕ → Piece
  number : ℕ → ℕ → List ℕ → Piece
  name : List ℕ → Piece

-- the text of a piece
abbrev pub piece_text : Piece → List ℕ
piece_text (Piece.fixed text) = text
piece_text (Piece.number least most digits) = digits
piece_text (Piece.name text) = text

-- the text of pieces
abbrev pub text_of : List Piece → List ℕ
text_of pieces = flat_map piece_text pieces

-- a number is within its range
abbrev pub IsInRange : Piece → Type 0
IsInRange (Piece.fixed text) = Unit {0}
IsInRange (Piece.number least most digits) = (least ≤ digits_value 10 digits) × (digits_value 10 digits ≤ most)
IsInRange (Piece.name text) = Unit {0}

-- each number is within its range
abbrev pub AreInRange : List Piece → Type 0
AreInRange [] = Unit {0}
AreInRange (piece ∷ pieces) = IsInRange piece × AreInRange pieces

-- the names in order, as often as they stand there
abbrev pub names_in : List Piece → List (List ℕ)
names_in [] = []
names_in (Piece.fixed text ∷ pieces) = names_in pieces
names_in (Piece.number least most digits ∷ pieces) = names_in pieces
names_in (Piece.name text ∷ pieces) = text ∷ names_in pieces

-- a list with one more member at its end, unless it is there
abbrev pub with_member : {A : Type 0} → (A → A → Bool) → List A → A → List A
with_member same seen x = if list_any (same x) seen then seen else seen ++ x ∷ []

-- the members of a list and then those of another, each once, in the order in which they come first
abbrev pub each_once_after : {A : Type 0} → (A → A → Bool) → List A → List A → List A
each_once_after same seen [] = seen
each_once_after same seen (x ∷ xs) = each_once_after same (with_member same seen x) xs

-- the members of a list, each once, in the order in which they come first
abbrev pub each_once : {A : Type 0} → (A → A → Bool) → List A → List A
each_once same xs = each_once_after same [] xs

-- the different names, in the order in which they come first
abbrev pub lists_in : List Piece → List (List ℕ)
lists_in pieces = each_once bytes_eq (names_in pieces)

-- nothing is at fault: each number is within its range, and there aren't too many different names
pub record AreFine (pieces : List Piece) : Type 0 where
  pub ranges : AreInRange pieces
  pub few : length (lists_in pieces) ≤ MAX_LISTS

-- the first fault is a number out of its range, whose first byte is at this place
pub record IsNumberFault (pieces : List Piece) (at : ℕ) : Type 0 where
  pub before : List Piece
  pub least : ℕ
  pub most : ℕ
  pub digits : List ℕ
  pub after : List Piece
  pub parts : pieces ≡ before ++ Piece.number least most digits ∷ after
  pub place : at ≡ length (text_of before)
  pub first : AreFine before
  pub outside : IsInRange (Piece.number least most digits) → ⊥

-- the first fault is one name too many, whose first byte is at this place
pub record IsNameFault (pieces : List Piece) (at : ℕ) : Type 0 where
  pub before : List Piece
  pub text : List ℕ
  pub after : List Piece
  pub parts : pieces ≡ before ++ Piece.name text ∷ after
  pub place : at ≡ length (text_of before)
  pub first : AreFine before
  pub more : MAX_LISTS < length (lists_in (before ++ Piece.name text ∷ []))
