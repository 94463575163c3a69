-- What `clap` finds in the words of a command.
use Rattle.std.specs.Prelude.{◌≡◌, true, List, [], ◌∷◌, IsUtf8}
use Rattle.clap.specs.Words.{App, Row, fault_of, is_simple, is_simple_and_free, matches_of}
use Rattle.clap.specs.Walk.{Text}

-- the words are texts
abbrev pub AllUtf8 : List Text → Type 0
AllUtf8 [] = Unit {0}
AllUtf8 (word ∷ words) = IsUtf8 word × AllUtf8 words

-- the words of the command have no fault, and these are the rows of its matches
pub record Finds (app : App) (words : List Text) (rows : List Row) : Type 0 where
  pub texts : AllUtf8 words
  pub faultless : is_simple_and_free app ≡ true → fault_of app words ≡ []
  pub are : is_simple app ≡ true → rows ≡ matches_of app words

-- the words of the command have a fault
pub record Refuses (app : App) (words : List Text) : Type 0 where
  pub texts : AllUtf8 words
  pub faulty : is_simple_and_free app ≡ true → fault_of app words ≡ [] → ⊥
