-- What a shelf in memory is.
use Rattle.std.specs.Prelude.{ℕ, List, [], ◌∷◌, Option, Some, None, if◌then◌else◌}
use Rattle.std.specs.Str.{bytes_eq}
use Rattle.test_mem_source.specs.Stored.{Stored}
use Rattle.source_api.specs.Places.{Noted}

-- a place and its text
pub record PlacedText : Type 0 where
  pub place : List ℕ
  pub text : List ℕ

-- a place and its source
pub record PlacedSource : Type 0 where
  pub place : List ℕ
  pub source : Stored

-- the texts and the sources, the last that were added first, the numbers of the calls that fail, how many calls for texts
-- and for sources there were, and what is counted by place
pub record Shelved : Type 0 where
  pub texts : List PlacedText
  pub sources : List PlacedSource
  pub fail_texts : List ℕ
  pub fail_takes : List ℕ
  pub text_calls : ℕ
  pub take_calls : ℕ
  pub ledger : List Noted

-- the text of a place: the last that was added
abbrev pub text_at : List PlacedText → List ℕ → Option (List ℕ)
text_at [] place = None
text_at (placed ∷ more) place = if bytes_eq placed.place place then Some placed.text else text_at more place

-- the source of a place: the last that was added
abbrev pub source_at : List PlacedSource → List ℕ → Option Stored
source_at [] place = None
source_at (placed ∷ more) place = if bytes_eq placed.place place then Some placed.source else source_at more place
