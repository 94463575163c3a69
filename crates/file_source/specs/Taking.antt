-- What is kept while the records of a list file are read.
use Rattle.std.specs.Prelude.{◌≡◌, ◌||◌, ◌++◌, ℕ, Bool, true, false, List, [], ◌∷◌, Option, Some, None, map}
use Rattle.std.specs.Option.{is_none}
use Rattle.std.specs.List.{list_any}
use Rattle.ranked_list.specs.declared.row.Row.{Row}
use Rattle.source_api.specs.Told.{kept_first}
use Rattle.file_source.specs.declared.list_file.Reading.{Reading}
use Rattle.file_source.specs.ListFile.{row_of, without_header}

-- whether there is a record
abbrev pub has_some : List (List (List ℕ)) → Bool
has_some [] = false
has_some (first ∷ more) = true

-- these records have been taken in
pub record IsTaken (r : Reading) (records : List (List (List ℕ))) : Type 0 where
  pub started : r.started ≡ has_some records
  pub rows : r.records.items ≡ map row_of (without_header records)
  pub broken : r.broken ≡ list_any is_none r.records.items

-- a grade that is kept, or that of the record's row
abbrev pub kept_record : Option ℕ → Option Row → ℕ → Option ℕ
kept_record kept None object = kept
kept_record kept (Some row) object = kept_first kept row object

-- one more record has been put
pub record Puts (before now : Reading) (row : Option Row) : Type 0 where
  pub started : now.started ≡ before.started
  pub rows : now.records.items ≡ before.records.items ++ row ∷ []
  pub broken : now.broken ≡ (before.broken || is_none row)
