-- The texts of the JSON values that are written.
use Rattle.std.proofs.Common.{◌≡◌, ℕ, zero, suc, List, [], ◌∷◌, ◌++◌, false, Option, Some, None, map, codes, decimal, refl, sym, ap, ap₂, ◌∙◌, append_assoc}
use Rattle.std.specs.List.{join_with_byte}
use Rattle.ranked_list.specs.declared.row.Row.{Row}
use Rattle.serde_json.specs.Data.{Data}
use Rattle.serde_json.specs.View.{items_of}
use Rattle.serde_json.specs.Written.{compact_text, items_text}
use Rattle.serde_json.proofs.OnLiterals.{serde_json_on_literals}
use Rattle.page_json.specs.Texts.{version_text, size_text, row_text, page_text, grade_text}
use Rattle.page_json.proofs.Written.{number_value, body_value, row_value, rows_value, grade_value}

pub count_text : (value : Data) (version : ℕ) → compact_text (body_value (codes "count") value version) ≡ codes "{\"count\":" ++ (compact_text value ++ version_text version)
unfolding serde_json_on_literals
count_text value zero = refl
count_text value (suc n) = refl

pub rows_text : (value : Data) (version : ℕ) → compact_text (body_value (codes "rows") value version) ≡ codes "{\"rows\":" ++ (compact_text value ++ version_text version)
unfolding serde_json_on_literals
rows_text value zero = refl
rows_text value (suc n) = refl

pub one_grade_text : (value : Data) (version : ℕ) → compact_text (body_value (codes "grade") value version) ≡ codes "{\"grade\":" ++ (compact_text value ++ version_text version)
unfolding serde_json_on_literals
one_grade_text value zero = refl
one_grade_text value (suc n) = refl

four : (x a y b z : List ℕ) → x ++ (a ++ (y ++ (b ++ z))) ≡ x ++ a ++ y ++ b ++ z
four x a y b z = simp append_assoc

three : (x a y z : List ℕ) → x ++ ((a ++ y) ++ z) ≡ x ++ a ++ y ++ z
three x a y z = simp append_assoc

one_row_text : (row : Row) → compact_text (row_value row) ≡ row_text row
one_row_text row = four (codes "[") (decimal row.object) (codes ",") (decimal row.grade) (codes "]")

-- the rows stand between commas
items_joined : (rows : List Row) → items_text false (items_of (map row_value rows)) ≡ join_with_byte 44 (map row_text rows) ++ codes "]"
items_joined [] = refl
items_joined (row ∷ []) = ap (λ text. text ++ codes "]") (one_row_text row)
items_joined (row ∷ next ∷ rows) =
    ap₂ (λ text rest. text ++ (44 ∷ rest)) (one_row_text row) (items_joined (next ∷ rows)) ∙ sym (append_assoc (row_text row) (44 ∷ join_with_byte 44 (map row_text (next ∷ rows))) (codes "]"))

pub text_of_size : (version count : ℕ) → compact_text (body_value (codes "count") (number_value count) version) ≡ size_text version count
text_of_size version count = count_text (number_value count) version

pub text_of_grade : (version : ℕ) (grade : Option ℕ) → compact_text (body_value (codes "grade") (grade_value grade) version) ≡ grade_text version grade
unfolding serde_json_on_literals
text_of_grade version None = one_grade_text (grade_value None) version
text_of_grade version (Some grade) = one_grade_text (grade_value (Some grade)) version

pub text_of_page : (version : ℕ) (rows : List Row) → compact_text (body_value (codes "rows") (rows_value rows) version) ≡ page_text version rows
text_of_page version rows =
    rows_text (rows_value rows) version ∙ ap (λ text. codes "{\"rows\":[" ++ (text ++ version_text version)) (items_joined rows)
    ∙ three (codes "{\"rows\":[") (join_with_byte 44 (map row_text rows)) (codes "]") (version_text version)
