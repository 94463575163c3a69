-- What the records of a list file are.
use Rattle.std.specs.Prelude.{ℕ, ◌&&◌, ◌^◌, Bool, false, not, List, [], ◌∷◌, Option, Some, None, length, map, codes, nat_le, nat_lt, if◌then◌else◌}
use Rattle.std.specs.List.{list_any}
use Rattle.std.specs.Option.{is_none}
use Rattle.std.specs.Str.{all_ascii_digits, bytes_eq}
use Rattle.std.specs.Str.Parse.{digits_value}
use Rattle.ranked_list.specs.declared.row.Row.{Row}
use Rattle.csv_records.specs.Records.{records_of}
use Rattle.source_api.specs.Told.{told_of}

-- whether a text is 1 to 10 digits
abbrev pub are_few_digits : List ℕ → Bool
are_few_digits field = (nat_le 1 (length field) && nat_le (length field) 10) && all_ascii_digits field

-- the number that 1 to 10 digits spell, leading zeros among them, where it is below 2^32
abbrev pub field_number : List ℕ → Option ℕ
field_number field = if are_few_digits field && nat_lt (digits_value 10 field) (2 ^ 32) then Some (digits_value 10 field) else None

-- the row of an object and a grade
abbrev pub row_of_numbers : Option ℕ → Option ℕ → Option Row
row_of_numbers None grade = None
row_of_numbers (Some object) None = None
row_of_numbers (Some object) (Some grade) = Some (record { object = object; grade = grade })

-- the two fields of a record that has exactly two
abbrev pub pair_in : List (List ℕ) → Option (List ℕ × List ℕ)
pair_in (first ∷ second ∷ []) = Some (first, second)
pair_in _ = None

-- the row that two fields are: an object's number and a grade
abbrev pub row_of_pair : Option (List ℕ × List ℕ) → Option Row
row_of_pair None = None
row_of_pair (Some pair) = row_of_numbers (field_number pair.0) (field_number pair.1)

-- the row that a record is: two fields, each a number
abbrev pub row_of : List (List ℕ) → Option Row
row_of fields = row_of_pair (pair_in fields)

-- whether two fields are `object` and `grade`
abbrev pub is_header_pair : Option (List ℕ × List ℕ) → Bool
is_header_pair None = false
is_header_pair (Some pair) = bytes_eq pair.0 (codes "object") && bytes_eq pair.1 (codes "grade")

-- whether a record is the header: exactly the fields `object` and `grade`
abbrev pub is_header : List (List ℕ) → Bool
is_header fields = is_header_pair (pair_in fields)

-- the records without a header, which only the first can be
abbrev pub without_header : List (List (List ℕ)) → List (List (List ℕ))
without_header [] = []
without_header (first ∷ more) = if is_header first then more else first ∷ more

-- the records of a list file, each as its row, or None where it is no row
abbrev pub list_records : List ℕ → List (Option Row)
list_records text = map row_of (without_header (records_of text))

-- the rows among the records, in their order
abbrev pub rows_among : List (Option Row) → List Row
rows_among [] = []
rows_among (None ∷ records) = rows_among records
rows_among (Some row ∷ records) = row ∷ rows_among records

-- whether each record is a row
abbrev pub are_rows : List (Option Row) → Bool
are_rows records = not (list_any is_none records)

-- the list is told where each record is a row and no object comes twice
abbrev pub told_records : List (Option Row) → Option (List Row)
told_records records = if are_rows records then told_of None [] (rows_among records) else None
