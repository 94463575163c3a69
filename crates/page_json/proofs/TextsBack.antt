-- Texts of bodies read back.
use Rattle.std.proofs.Common.{◌≡◌, ◌<◌, ◌≤◌, ◌^◌, ℕ, zero, suc, List, [], ◌∷◌, ◌++◌, true, nat_lt, Option, Some, None, option_and_then, option_map, map, length, codes, decimal, IsUtf8, refl, sym, ap, ◌∙◌, append-nil, arith, rules}
use Rattle.std.specs.Prelude.{All, IfSome}
use Rattle.std.specs.List.{join_with_byte}
use Rattle.std.proofs.lemmas.Str.{IsUtf8-append, IsUtf8-nil, IsUtf8-from_ascii}
use Rattle.std.proofs.lemmas.List.Elements.{All-head, All-tail}
use Rattle.std.proofs.lemmas.Fmt.{IsAscii-decimal}
use Rattle.json.specs.Token.{Token}
use Rattle.json.specs.Lex.{tokens}
use Rattle.json.specs.Json as json
use Rattle.json.specs.Tree as tree
use Rattle.json.proofs.Printed.Utf8.{IsUtf8-are_ascii}
use Rattle.json.proofs.Printed.Decimals.{IsNumber-decimal}
use Rattle.json.proofs.Printed.Tokens.{tokens-print}
use Rattle.json.proofs.Printed.Trees.{value-json_tokens, ArePrintable-json_tokens}
use Rattle.topk_base.specs.declared.TheConstants.{MAX_PAGE}
use Rattle.ranked_list.specs.declared.row.Row.{Row}
use Rattle.serde_json.specs.Data.{Data, number, array}
use Rattle.serde_json.specs.Read.{read, of_json, of_items, max_depth}
use Rattle.serde_json.specs.View.{items_of}
use Rattle.serde_json.specs.Written.{compact_text, outline, items_outline}
use Rattle.serde_json.proofs.Numbers.{number_of-decimal}
use Rattle.serde_json.proofs.OnLiterals.{serde_json_on_literals}
use Rattle.serde_json.proofs.Texts.{print-outline}
use Rattle.page_json.specs.declared.object.Versioned.{Versioned}
use Rattle.page_json.specs.Bodies.{IsBody, within, row_of, size_of, page_of, grade_of, grade_in, Fits}
use Rattle.page_json.specs.Texts.{version_text, size_text, page_text, grade_text, row_text, grade_or_null}
use Rattle.page_json.proofs.Written.{number_value, body_value, row_value, rows_value, grade_value, ReadBack}
use Rattle.page_json.proofs.ReadBack.{size_back, page_back, grade_back, list_back}
use Rattle.page_json.proofs.WrittenTexts.{text_of_size, text_of_page, text_of_grade}

-- a value whose text is read as it, whatever stands around
record IsKept (d : Data) : Type 0 where
  pub numbers : tree.HasNumbers (outline d)
  pub back : of_json (outline d) ≡ Some d

-- the text of such a value, which isn't nested deep, is read as it
read_text : (d : Data) → IsKept d → tree.depth (outline d) ≤ max_depth → read (compact_text d) ≡ Some d
read_text d kept shallow =
    let whole = λ (ts : List Token). option_and_then of_json (option_and_then (λ p. json.if_last p.0 p.1) (json.value max_depth ts)) in
    let read_whole = λ (r : Option (json.Json × List Token)). option_and_then of_json (option_and_then (λ p. json.if_last p.0 p.1) r) in
    let js = tree.json_tokens (outline d) in
    ap (λ text. whole (tokens text)) (sym (print-outline d)) ∙ ap whole (tokens-print js (ArePrintable-json_tokens (outline d) kept.numbers) ∙ sym (append-nil js))
    ∙ ap read_whole (value-json_tokens (outline d) max_depth [] shallow) ∙ kept.back

kept_number : (n : ℕ) → n < 2 ^ 64 → IsKept (number_value n)
kept_number n small = record { numbers = IsNumber-decimal n small; back = ap (option_map number) (number_of-decimal n small) }

-- ---- objects of one key at a version

kept_count : (value : Data) (version : ℕ) → version < 2 ^ 64 → IsKept value → IsKept (body_value (codes "count") value version)
unfolding serde_json_on_literals
kept_count value zero small kept = record { numbers = (kept.numbers, tt); back = rw kept.back }
kept_count value (suc n) small kept = record { numbers = (kept.numbers, (IsNumber-decimal (suc n) small, tt)); back = rw (kept.back, number_of-decimal (suc n) small) }

kept_rows : (value : Data) (version : ℕ) → version < 2 ^ 64 → IsKept value → IsKept (body_value (codes "rows") value version)
unfolding serde_json_on_literals
kept_rows value zero small kept = record { numbers = (kept.numbers, tt); back = rw kept.back }
kept_rows value (suc n) small kept = record { numbers = (kept.numbers, (IsNumber-decimal (suc n) small, tt)); back = rw (kept.back, number_of-decimal (suc n) small) }

kept_grade : (value : Data) (version : ℕ) → version < 2 ^ 64 → IsKept value → IsKept (body_value (codes "grade") value version)
unfolding serde_json_on_literals
kept_grade value zero small kept = record { numbers = (kept.numbers, tt); back = rw kept.back }
kept_grade value (suc n) small kept = record { numbers = (kept.numbers, (IsNumber-decimal (suc n) small, tt)); back = rw (kept.back, number_of-decimal (suc n) small) }

-- ---- rows

kept_row : (row : Row) → Fits row → IsKept (row_value row)
kept_row row fits =
    let object = row.object in
    let grade = row.grade in
    let named : object < 2 ^ 64 = omega (arith, fits.0) in
    let graded : grade < 2 ^ 64 = omega (arith, fits.1) in
    record { numbers = (IsNumber-decimal object named, (IsNumber-decimal grade graded, tt)); back = rw (number_of-decimal object named, number_of-decimal grade graded) }

numbers_of_rows : (rows : List Row) → All Fits rows → tree.ItemsHaveNumbers (items_outline (items_of (map row_value rows)))
numbers_of_rows [] fit = tt
numbers_of_rows (row ∷ rows) fit = ((kept_row row (All-head Fits row rows fit)).numbers, numbers_of_rows rows (All-tail Fits row rows fit))

back_of_rows : (rows : List Row) → All Fits rows → of_items (items_outline (items_of (map row_value rows))) ≡ Some (items_of (map row_value rows))
back_of_rows [] fit = refl
back_of_rows (row ∷ rows) fit = rw ((kept_row row (All-head Fits row rows fit)).back, back_of_rows rows (All-tail Fits row rows fit))

kept_list : (rows : List Row) → All Fits rows → IsKept (rows_value rows)
kept_list rows fit = record { numbers = numbers_of_rows rows fit; back = ap (option_map array) (back_of_rows rows fit) }

within_true : (bound n : ℕ) → n < bound → within bound n ≡ Some n
within_true bound n small = let e : nat_lt n bound ≡ true = search (rules, small) in rw e

row_back : (row : Row) → Fits row → row_of (row_value row) ≡ Some row
row_back row fits = rw (within_true (2 ^ 32) row.object fits.0, within_true (2 ^ 32) row.grade fits.1)

rows_back : (rows : List Row) → All Fits rows → ReadBack rows
rows_back [] fit = refl
rows_back (row ∷ rows) fit = rw (row_back row (All-head Fits row rows fit), rows_back rows (All-tail Fits row rows fit))

-- ---- UTF-8

utf8_number : (n : ℕ) → n < 2 ^ 64 → IsUtf8 (decimal n)
utf8_number n small = IsUtf8-from_ascii (decimal n) (IsAscii-decimal n small)

utf8_version : (version : ℕ) → version < 2 ^ 64 → IsUtf8 (version_text version)
utf8_version zero small = IsUtf8-are_ascii (codes "}") refl
utf8_version (suc n) small =
    IsUtf8-append (codes ",\"version\":" ++ decimal (suc n)) (codes "}") (IsUtf8-append (codes ",\"version\":") (decimal (suc n)) (IsUtf8-are_ascii (codes ",\"version\":") refl) (utf8_number (suc n) small))
    (IsUtf8-are_ascii (codes "}") refl)

utf8_row : (row : Row) → Fits row → IsUtf8 (row_text row)
utf8_row row fits =
    let object = utf8_number row.object (omega (arith, fits.0)) in
    let grade = utf8_number row.grade (omega (arith, fits.1)) in
    IsUtf8-append _ (codes "]")
    (IsUtf8-append _ (decimal row.grade) (IsUtf8-append _ (codes ",") (IsUtf8-append (codes "[") (decimal row.object) (IsUtf8-are_ascii (codes "[") refl) object) (IsUtf8-are_ascii (codes ",") refl)) grade)
    (IsUtf8-are_ascii (codes "]") refl)

utf8_rows : (rows : List Row) → All Fits rows → IsUtf8 (join_with_byte 44 (map row_text rows))
utf8_rows [] fit = IsUtf8-nil
utf8_rows (row ∷ []) fit = utf8_row row (All-head Fits row [] fit)
utf8_rows (row ∷ next ∷ rows) fit =
    let rest = join_with_byte 44 (map row_text (next ∷ rows)) in
    IsUtf8-append (row_text row) (44 ∷ rest) (utf8_row row (All-head Fits row (next ∷ rows) fit))
    (IsUtf8-append (codes ",") rest (IsUtf8-are_ascii (codes ",") refl) (utf8_rows (next ∷ rows) (All-tail Fits row (next ∷ rows) fit)))

utf8_grade : (grade : Option ℕ) → IfSome grade (λ g. g < 2 ^ 32) → IsUtf8 (grade_or_null grade)
utf8_grade None small = IsUtf8-are_ascii (codes "null") refl
utf8_grade (Some grade) small = utf8_number grade (omega (arith, small))

-- ---- bodies

-- the text of a value that is kept, and of which this is read, is such a body
body_back : {A : Type 0} (reading : Data → Option (Versioned A)) (d : Data) (text : List ℕ) (what : Versioned A) → IsKept d → tree.depth (outline d) ≤ max_depth → compact_text d ≡ text
    → reading d ≡ Some what → IsUtf8 text → IsBody reading text what
body_back reading d text what kept shallow is reads utf8 =
    (utf8, ap (λ t. option_and_then reading (read t)) (sym is) ∙ ap (option_and_then reading) (read_text d kept shallow) ∙ reads)

-- ---- none nests deep

flat_count : (value : Data) (version : ℕ) → tree.depth (outline (body_value (codes "count") value version)) ≤ suc (tree.depth (outline value))
unfolding serde_json_on_literals
flat_count value zero = omega arith
flat_count value (suc n) = omega arith

flat_rows : (value : Data) (version : ℕ) → tree.depth (outline (body_value (codes "rows") value version)) ≤ suc (tree.depth (outline value))
unfolding serde_json_on_literals
flat_rows value zero = omega arith
flat_rows value (suc n) = omega arith

flat_grade : (value : Data) (version : ℕ) → tree.depth (outline (body_value (codes "grade") value version)) ≤ suc (tree.depth (outline value))
unfolding serde_json_on_literals
flat_grade value zero = omega arith
flat_grade value (suc n) = omega arith

flat_list : (rows : List Row) → tree.items_depth (items_outline (items_of (map row_value rows))) ≤ 1
flat_list [] = omega arith
flat_list (row ∷ rows) = omega (arith, flat_list rows)

flat_value : (grade : Option ℕ) → tree.depth (outline (grade_value grade)) ≤ 0
flat_value None = omega arith
flat_value (Some grade) = omega arith

kept_value : (grade : Option ℕ) → IfSome grade (λ g. g < 2 ^ 32) → IsKept (grade_value grade)
kept_value None small = record { numbers = tt; back = refl }
kept_value (Some grade) small = kept_number grade (omega (arith, small))

value_back : (grade : Option ℕ) → IfSome grade (λ g. g < 2 ^ 32) → grade_in (grade_value grade) ≡ Some grade
value_back None small = refl
value_back (Some grade) small = ap (option_map Some) (within_true (2 ^ 32) grade small)

-- ---- the laws

pub size_reads_back : (version count : ℕ) → version < 2 ^ 64 → count < 2 ^ 64 → IsBody size_of (size_text version count) (record { version = version; body = count })
size_reads_back version count small fits =
    let value = number_value count in
    body_back size_of (body_value (codes "count") value version) (size_text version count) _ (kept_count value version small (kept_number count fits)) (omega (arith, flat_count value version))
    (text_of_size version count) (size_back version count)
    (IsUtf8-append (codes "{\"count\":" ++ decimal count) (version_text version) (IsUtf8-append (codes "{\"count\":") (decimal count) (IsUtf8-are_ascii (codes "{\"count\":") refl) (utf8_number count fits))
    (utf8_version version small))

pub page_reads_back : (version : ℕ) (rows : List Row) → version < 2 ^ 64 → length rows ≤ MAX_PAGE → All Fits rows → IsBody page_of (page_text version rows) (record { version = version; body = rows })
page_reads_back version rows small few fit =
    let value = rows_value rows in
    let front = codes "{\"rows\":[" in
    let joined = join_with_byte 44 (map row_text rows) in
    body_back page_of (body_value (codes "rows") value version) (page_text version rows) _ (kept_rows value version small (kept_list rows fit)) (omega (arith, flat_rows value version, flat_list rows))
    (text_of_page version rows) (page_back version value rows (list_back rows few (rows_back rows fit)))
    (IsUtf8-append (front ++ joined ++ codes "]") (version_text version)
    (IsUtf8-append (front ++ joined) (codes "]") (IsUtf8-append front joined (IsUtf8-are_ascii front refl) (utf8_rows rows fit)) (IsUtf8-are_ascii (codes "]") refl)) (utf8_version version small))

pub grade_reads_back : (version : ℕ) (grade : Option ℕ) → version < 2 ^ 64 → IfSome grade (λ g. g < 2 ^ 32) → IsBody grade_of (grade_text version grade) (record { version = version; body = grade })
grade_reads_back version grade small fits =
    let value = grade_value grade in
    let front = codes "{\"grade\":" in
    body_back grade_of (body_value (codes "grade") value version) (grade_text version grade) _ (kept_grade value version small (kept_value grade fits)) (omega (arith, flat_grade value version, flat_value grade))
    (text_of_grade version grade) (grade_back version value grade (value_back grade fits))
    (IsUtf8-append (front ++ grade_or_null grade) (version_text version) (IsUtf8-append front (grade_or_null grade) (IsUtf8-are_ascii front refl) (utf8_grade grade fits)) (utf8_version version small))
