-- How long the texts of bodies are.
use Rattle.std.proofs.Common.{◌<◌, ◌≤◌, ◌+◌, ◌*◌, ◌^◌, ℕ, zero, suc, List, [], ◌∷◌, ◌++◌, map, length, codes, decimal, Option, Some, None, arith, length-append}
use Rattle.std.specs.Prelude.{All, IfSome}
use Rattle.std.specs.List.{join_with_byte}
use Rattle.std.proofs.lemmas.List.Elements.{All-head, All-tail}
use Rattle.std.proofs.lemmas.Fmt.{length-decimal-le}
use Rattle.ranked_list.specs.declared.row.Row.{Row}
use Rattle.page_json.specs.Bodies.{Fits}
use Rattle.page_json.specs.Texts.{version_text, size_text, row_text, page_text, grade_or_null, grade_text}

len_64 : (n : ℕ) → n < 2 ^ 64 → length (decimal n) ≤ 20
len_64 n small = length-decimal-le 20 n (omega arith) (omega (arith, small)) small

len_32 : (n : ℕ) → n < 2 ^ 32 → length (decimal n) ≤ 10
len_32 n small = length-decimal-le 10 n (omega arith) (omega (arith, small)) (omega (arith, small))

version_len : (version : ℕ) → version < 2 ^ 64 → length (version_text version) ≤ 32
version_len zero small = omega arith
version_len (suc n) small = omega (arith, length-append (codes ",\"version\":" ++ decimal (suc n)) (codes "}"), length-append (codes ",\"version\":") (decimal (suc n)), len_64 (suc n) small)

row_len : (row : Row) → Fits row → length (row_text row) ≤ 23
row_len row fits =
    let o = decimal row.object in
    let g = decimal row.grade in
    omega (
      arith,
      length-append (codes "[" ++ o ++ codes "," ++ g) (codes "]"),
      length-append (codes "[" ++ o ++ codes ",") g,
      length-append (codes "[" ++ o) (codes ","),
      length-append (codes "[") o,
      len_32 row.object fits.0,
      len_32 row.grade fits.1,
    )

rows_len : (rows : List Row) → All Fits rows → length (join_with_byte 44 (map row_text rows)) ≤ 24 * length rows
rows_len [] fit = omega arith
rows_len (row ∷ []) fit = omega (arith, row_len row (All-head Fits row [] fit))
rows_len (row ∷ next ∷ rows) fit =
    let rest = join_with_byte 44 (map row_text (next ∷ rows)) in
    omega (arith, length-append (row_text row) (44 ∷ rest), row_len row (All-head Fits row (next ∷ rows) fit), rows_len (next ∷ rows) (All-tail Fits row (next ∷ rows) fit))

pub page_len : (version : ℕ) (rows : List Row) → version < 2 ^ 64 → All Fits rows → length (page_text version rows) ≤ 24 * length rows + 42
page_len version rows small fit =
    let front = codes "{\"rows\":[" in
    let joined = join_with_byte 44 (map row_text rows) in
    omega (arith, length-append (front ++ joined ++ codes "]") (version_text version), length-append (front ++ joined) (codes "]"), length-append front joined, rows_len rows fit, version_len version small)

pub size_len : (version count : ℕ) → version < 2 ^ 64 → count < 2 ^ 64 → length (size_text version count) ≤ 61
size_len version count small fits =
    let front = codes "{\"count\":" in
    omega (arith, length-append (front ++ decimal count) (version_text version), length-append front (decimal count), len_64 count fits, version_len version small)

grade_or_null_len : (grade : Option ℕ) → IfSome grade (λ g. g < 2 ^ 32) → length (grade_or_null grade) ≤ 10
grade_or_null_len None fits = omega arith
grade_or_null_len (Some grade) fits = len_32 grade fits

pub grade_len : (version : ℕ) (grade : Option ℕ) → version < 2 ^ 64 → IfSome grade (λ g. g < 2 ^ 32) → length (grade_text version grade) ≤ 51
grade_len version grade small fits =
    let front = codes "{\"grade\":" in
    omega (arith, length-append (front ++ grade_or_null grade) (version_text version), length-append front (grade_or_null grade), grade_or_null_len grade fits, version_len version small)
