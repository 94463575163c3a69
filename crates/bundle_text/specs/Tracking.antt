-- What the crate's reader of bundles keeps beside the front that it has read.
use Rattle.std.specs.Prelude.{◌≡◌, ◌==◌, ◌≤◌, ℕ, Bool, false, Option, None, Some, List, [], ◌∷◌, map, length, is_some, IfSome}
use Rattle.containers.specs.Values.{value_of}
use Rattle.std.specs.declared.result.Result.{Result}
use Rattle.std.specs.declared.result.Result.TheVariants.{Ok, Err}
use Rattle.ranked_list.specs.declared.row.Row.{Row}
use Rattle.bundle_text.specs.declared.reader.Reader.{Reader}
use Rattle.bundle_text.specs.declared.bundle.Bundle.{Bundle}
use Rattle.bundle_text.specs.declared.bundle.BundleFault.{BundleFault}
use Rattle.bundle_text.specs.declared.bundle.BundleFault.TheVariants.{BadBundle, Memory}
use Rattle.bundle_text.specs.Bundle.{Content, content}
use Rattle.ranked_list.specs.Rows.{last_row, TellsObjects}
use Rattle.bundle_text.specs.Reading.{InsideList}

-- the front that a reader has read
abbrev pub front_of : Reader → InsideList
front_of reader = record { names = map (λ name. name.items) reader.names.items; closed = reader.closed.items; name = reader.name.items; rows = reader.rows }

-- the test is passed by the objects of the first list, if there is one
abbrev pub TellsFirst : (ℕ → Bool) → List (List Row) → Type 0
TellsFirst test [] = Unit {0}
TellsFirst test (first ∷ more) = TellsObjects test first

-- the object has this number
abbrev pub has_number : ℕ → Option ℕ → Bool
has_number number None = false
has_number number (Some own) = own == number

-- the reader keeps the last row of its open list, the number of that list, and of each object the number of the last list that has it: the open list has the
-- objects of its number, the first list has all that have a number, and no number is greater
pub record IsTracked (reader : Reader) : Type 0 where
  pub last : reader.last ≡ last_row reader.rows
  pub number : reader.number ≡ length reader.closed.items
  pub seen : TellsObjects (λ object. has_number reader.number (value_of reader.given object)) reader.rows
  pub first : TellsFirst (λ object. is_some (value_of reader.given object)) reader.closed.items
  pub past : (object : ℕ) → IfSome (value_of reader.given object) (λ number. number ≤ reader.number)

-- the code gives what the reading of the lines gives, or memory was refused
abbrev pub GivesBundle : Result Bundle BundleFault → Result Content ℕ → Type 0
GivesBundle (Ok bundle) read = read ≡ Ok (content bundle)
GivesBundle (Err (BadBundle line)) read = read ≡ Err line
GivesBundle (Err Memory) read = Unit {0}
