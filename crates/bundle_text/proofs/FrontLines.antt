-- The first line of a text that begins with a row.
use Rattle.std.proofs.Common.{◌≡◌, ◌≢◌, ◌<◌, ◌≤◌, ◌^◌, ℕ, List, [], ◌∷◌, ◌++◌, sym, ap, ap₂, ◌∙◌, subst, arith, append_assoc, append-nil, length-append}
use Rattle.std.specs.List.{All}
use Rattle.std.specs.Fmt.{decimal}
use Rattle.std.proofs.lemmas.List.Elements.{All-append, All-cons, All-nil, All-weaker}
use Rattle.topk_base.specs.Lines.{lines, unlines, IsPlainLine}
use Rattle.topk_base.specs.Numbers.{BeginsWithNumber}
use Rattle.topk_base.proofs.LineLaws.{lines-unlines-append, plain_from_bytes}
use Rattle.topk_base.proofs.NumberLaws.{decimal-up_to, decimal_bytes, up_to-some}
use Rattle.ranked_list.specs.declared.row.Row.{Row}
use Rattle.bundle_text.specs.Bundle.{row_line}
use Rattle.bundle_text.specs.Reading.{row_part}
use Rattle.bundle_text.specs.Fronts.{BeginsWithPart}
use Rattle.bundle_text.proofs.PartLaws.{part_of-row_line}

-- the bytes of a row's line are above CR and LF
high_bytes : (row : Row) → row.object < 2 ^ 32 → row.grade < 2 ^ 32 → All (λ byte. 43 < byte) (row_line row)
high_bytes row object grade =
    let low = λ (n : ℕ) (small : n < 2 ^ 32). All-weaker (λ byte. (48 ≤ byte) × (byte ≤ 57)) (λ byte. 43 < byte) (λ byte range. let high = range.0 in omega arith) (decimal n) (decimal_bytes n (omega arith)) in
    All-append (λ byte. 43 < byte) (decimal row.object) (44 ∷ decimal row.grade) (low row.object object)
    (All-cons (λ byte. 43 < byte) 44 (decimal row.grade) (omega arith) (low row.grade grade))

plain_row : (row : Row) → row.object < 2 ^ 32 → row.grade < 2 ^ 32 → IsPlainLine (row_line row)
plain_row row object grade =
    let high = high_bytes row object grade in
    plain_from_bytes (row_line row) (All-weaker (λ byte. 43 < byte) (λ byte. byte ≢ 10) (λ byte above e. absurd (omega arith)) (row_line row) high)
    (All-weaker (λ byte. 43 < byte) (λ byte. byte ≢ 13) (λ byte above e. absurd (omega arith)) (row_line row) high)

-- a text that begins with the line of a row
line_first : (row : Row) (rest : List ℕ) → row.object < 2 ^ 32 → row.grade < 2 ^ 32 → BeginsWithPart (row_line row ++ 10 ∷ rest) (row_part row) rest
line_first row rest object grade =
    let one : unlines (row_line row ∷ []) ++ rest ≡ row_line row ++ 10 ∷ rest =
    ap (λ t. t ++ rest) (append-nil (row_line row ++ 10 ∷ [])) ∙ append_assoc (row_line row) (10 ∷ []) rest in
    record {
      line = row_line row;
      whole = ap lines (sym one) ∙ lines-unlines-append (row_line row ∷ []) rest (All-cons IsPlainLine (row_line row) [] (plain_row row object grade) (All-nil IsPlainLine));
      is = sym (part_of-row_line row object grade);
      shorter = let size = length-append (row_line row) (10 ∷ rest) in omega arith;
    }

-- two numbers, a comma after the first and LF after the second
pub row_first : (text past_object second past_grade rest : List ℕ) (object grade : ℕ) → BeginsWithNumber text object past_object → past_object ≡ 44 ∷ second
    → BeginsWithNumber second grade past_grade → past_grade ≡ 10 ∷ rest
    → BeginsWithPart text (row_part (record { object = object; grade = grade })) rest
row_first text past_object second past_grade rest object grade first comma next end =
    let o = decimal-up_to 4294967295 object first.digits (omega arith) first.read in
    let g = decimal-up_to 4294967295 grade next.digits (omega arith) next.read in
    let low = up_to-some 4294967295 object first.digits first.read in
    let high = up_to-some 4294967295 grade next.digits next.read in
    let row : Row = record { object = object; grade = grade } in
    let tail : second ≡ decimal grade ++ 10 ∷ rest = next.whole ∙ ap₂ (λ a b. a ++ b) g end in
    let is : text ≡ row_line row ++ 10 ∷ rest =
    first.whole ∙ ap₂ (λ a b. a ++ b) o (comma ∙ ap (λ t. 44 ∷ t) tail)
    ∙ sym (append_assoc (decimal object) (44 ∷ decimal grade) (10 ∷ rest)) in
    subst (λ (t : List ℕ). BeginsWithPart t (row_part row) rest) (sym is) (line_first row rest (omega (arith, low.1)) (omega (arith, high.1)))
