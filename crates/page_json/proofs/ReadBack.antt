-- What is read of the JSON values that are written.
use Rattle.std.proofs.Common.{◌≡◌, ◌≤◌, ℕ, zero, suc, List, [], ◌∷◌, map, length, Option, Some, codes, true, nat_le, refl, ap, rules}
use Rattle.topk_base.specs.declared.TheConstants.{MAX_PAGE}
use Rattle.ranked_list.specs.declared.row.Row.{Row}
use Rattle.serde_json.specs.Data.{Data}
use Rattle.serde_json.specs.Events.{items_len}
use Rattle.serde_json.specs.View.{items_of}
use Rattle.serde_json.proofs.OnLiterals.{serde_json_on_literals}
use Rattle.page_json.specs.Bodies.{list_of, grade_in, size_of, page_of, grade_of}
use Rattle.page_json.proofs.Written.{number_value, body_value, row_value, rows_value, ReadBack}

pub size_back : (version count : ℕ) → size_of (body_value (codes "count") (number_value count) version) ≡ Some (record { version = version; body = count })
unfolding serde_json_on_literals
size_back zero count = refl
size_back (suc n) count = refl

pub page_back : (version : ℕ) (value : Data) (rows : List Row) → list_of value ≡ Some rows → page_of (body_value (codes "rows") value version) ≡ Some (record { version = version; body = rows })
unfolding serde_json_on_literals
page_back zero value rows is = rw is
page_back (suc n) value rows is = rw is

pub grade_back : (version : ℕ) (value : Data) (grade : Option ℕ) → grade_in value ≡ Some grade → grade_of (body_value (codes "grade") value version) ≡ Some (record { version = version; body = grade })
unfolding serde_json_on_literals
grade_back zero value grade is = rw is
grade_back (suc n) value grade is = rw is

-- the rows of a page are read of the value that is written for them
pub list_back : (rows : List Row) → length rows ≤ MAX_PAGE → ReadBack rows → list_of (rows_value rows) ≡ Some rows
list_back rows small back = let e : nat_le (items_len (items_of (map row_value rows))) MAX_PAGE ≡ true = rw (count_items rows) (search (rules, small)) in rw e back
  where
    count_items : (rows : List Row) → items_len (items_of (map row_value rows)) ≡ length rows
    count_items [] = refl
    count_items (row ∷ rows) = ap suc (count_items rows)
