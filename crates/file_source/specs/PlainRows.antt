-- List files whose lines are rows and nothing else.
use Rattle.std.specs.Prelude.{◌≡◌, ◌⊎◌, ◌<◌, ℕ, false, List, [], ◌∷◌, ◌++◌, Option, Some, length, map}
use Rattle.std.specs.Option.{is_none}
use Rattle.std.specs.List.{list_any}
use Rattle.csv.specs.Machine.{next_record}
use Rattle.csv.specs.Reading.{Reached, default_config}
use Rattle.csv.specs.declared.parser.State.TheVariants as st
use Rattle.ranked_list.specs.declared.row.Row.{Row}
use Rattle.topk_base.specs.Numbers.{number_up_to}
use Rattle.file_source.specs.ListFile.{row_of, is_header, without_header, list_records}

-- the text is a number and the end of its line, and then the rest; or a number alone
pub record EndsLine (text : List ℕ) (number : ℕ) (rest : List ℕ) : Type 0 where
  pub digits : List ℕ
  pub read : number_up_to 4294967295 digits ≡ Some number
  pub whole : (text ≡ digits ++ 10 ∷ rest) ⊎ ((text ≡ digits) × (rest ≡ []))

-- the first record of the text is the row, and no header; the rest follows it
pub record BeginsWithRow (text : List ℕ) (row : Row) (rest : List ℕ) : Type 0 where
  pub fields : List (List ℕ)
  pub first : next_record default_config st.StartRecord [] [] text ≡ Some (fields, st.StartRecord, rest)
  pub is : row_of fields ≡ Some row
  pub other : is_header fields ≡ false
  pub shorter : length rest < length text

-- up to the rest the records of the text are these, a header aside, and each is a row
pub record ReadsTo (text : List ℕ) (rows : List (Option Row)) (rest : List ℕ) : Type 0 where
  pub records : List (List (List ℕ))
  pub reached : Reached default_config st.StartRecord text records st.StartRecord rest
  pub are : rows ≡ map row_of (without_header records)
  pub whole : list_any is_none rows ≡ false

-- these are the records of the list file, and each is a row
pub record AreAllRows (text : List ℕ) (rows : List (Option Row)) : Type 0 where
  pub are : rows ≡ list_records text
  pub whole : list_any is_none rows ≡ false
