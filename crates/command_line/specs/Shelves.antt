-- What a call sees of a shelf.
use Rattle.std.specs.Prelude.{◌≤◌, ◌≡◌, ℕ, List, Option, IfSome, length}
use Rattle.tk_io.specs.Faults.{Rose}
use Rattle.ranked_list.specs.declared.row.Row.{Row}
use Rattle.source_api.specs.declared.ledger.PlaceCounts.{PlaceCounts}
use Rattle.source_api.specs.Places.{CountsTexts, SameAtEach, SameElsewhere, text_limit}

-- a shelf: the texts of its places, the lists of their sources and the versions that these state, where it tells them, and what it has counted at
-- each place
pub record Shelf : Type 0 where
  pub texts : List ℕ → Option (List ℕ)
  pub lists : List ℕ → Option (List Row)
  pub versions : List ℕ → Option ℕ
  pub at : List ℕ → PlaceCounts

-- a shelf tells what it told before
pub record TellsTheSame (before now : Shelf) : Type 0 where
  pub texts : SameAtEach before.texts now.texts
  pub lists : SameAtEach before.lists now.lists
  pub versions : SameAtEach before.versions now.versions

-- a shelf was asked for the text of a place: its count of texts that failed may have gone up there, and nothing else was counted
pub record AsksText (place : List ℕ) (before now : Shelf) : Type 0 where
  pub tells : TellsTheSame before now
  pub here : CountsTexts (before.at place) (now.at place)
  pub elsewhere : SameElsewhere place before.at now.at

-- it gave this text, which is the one that is told, where one is
pub record GivesText (place : List ℕ) (before now : Shelf) (text : List ℕ) : Type 0 where
  pub asked : AsksText place before now
  pub told : IfSome (before.texts place) (λ told. text ≡ told)
  pub within : length text ≤ text_limit

-- it failed to give one: its count of texts of this place that failed went up, or stands at its last value
pub record TextFailed (place : List ℕ) (before now : Shelf) : Type 0 where
  pub asked : AsksText place before now
  pub rose : Rose (before.at place).text_faults (now.at place).text_faults

-- it gave none for lack of memory, which counts nothing
pub record TextRefused (place : List ℕ) (before now : Shelf) : Type 0 where
  pub asked : AsksText place before now
  pub same : now.at place ≡ before.at place
