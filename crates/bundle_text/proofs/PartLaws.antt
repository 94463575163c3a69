-- What a line is, and what it is spelled by.
use Rattle.std.proofs.Common.{◌≡◌, ◌≢◌, ◌<◌, ◌≤◌, ◌^◌, ℕ, Bool, true, false, cond, List, [], ◌∷◌, ◌++◌, length, Option, Some, None, refl, ap, ap₂, ◌∙◌, arith, ne_eqb}
use Rattle.std.specs.Prelude.{codes}
use Rattle.std.specs.List.{All}
use Rattle.std.specs.Fmt.{decimal}
use Rattle.std.proofs.lemmas.Fmt.{decimal_nonempty}
use Rattle.std.proofs.lemmas.List.Elements.{All-head, All-weaker}
use Rattle.topk_base.specs.Cuts.{cut_at, rest_after}
use Rattle.topk_base.specs.Numbers.{number_up_to}
use Rattle.topk_base.specs.Names.{is_name}
use Rattle.topk_base.proofs.CutLaws.{rest_after-append, rest_after-some, cut_at-append, cut_at-some}
use Rattle.topk_base.proofs.NumberLaws.{up_to-decimal, up_to-some, decimal-up_to, decimal_bytes}
use Rattle.ranked_list.specs.declared.row.Row.{Row}
use Rattle.bundle_text.specs.Bundle.{list_line, row_line, query_line}
use Rattle.bundle_text.specs.Reading.{Part, list_part, row_part, query_part, no_part, row_of_parts, row_part_of, query_part_or, list_part_or, part_of}

-- how the parts of a line make it what it is
pub part_of-list : (line name : List ℕ) → rest_after (codes "list ") line ≡ Some name → is_name name ≡ true → part_of line ≡ list_part name
unfolding part_of
part_of-list line name h named = rw (h, named) refl

pub part_of-no_name : (line name : List ℕ) → rest_after (codes "list ") line ≡ Some name → is_name name ≡ false → part_of line ≡ no_part
unfolding part_of
part_of-no_name line name h named = rw (h, named) refl

pub part_of-query : (line text : List ℕ) → rest_after (codes "list ") line ≡ None → rest_after (codes "query ") line ≡ Some text
    → part_of line ≡ query_part text
unfolding part_of
part_of-query line text h q = rw (h, q) refl

pub part_of-row : (line : List ℕ) → rest_after (codes "list ") line ≡ None → rest_after (codes "query ") line ≡ None
    → part_of line ≡ row_part_of (cut_at 44 line)
unfolding part_of
part_of-row line h q = rw (h, q) refl

-- what each part says of its line
abbrev pub PartMeans : List ℕ → Part → Type 0
PartMeans line (list_part name) = (line ≡ list_line name) × (is_name name ≡ true)
PartMeans line (row_part row) = (line ≡ row_line row) × (row.object < 2 ^ 32)
PartMeans line (query_part text) = line ≡ query_line text
PartMeans line no_part = Unit {0}

row_means : (line before after : List ℕ) (object grade : Option ℕ) → line ≡ before ++ 44 ∷ after
    → ((n : ℕ) → object ≡ Some n → (before ≡ decimal n) × (n < 2 ^ 32)) → ((n : ℕ) → grade ≡ Some n → after ≡ decimal n)
    → PartMeans line (row_of_parts object grade)
row_means line before after None grade whole of_object of_grade = tt
row_means line before after (Some object) None whole of_object of_grade = tt
row_means line before after (Some object) (Some grade) whole of_object of_grade =
    let o = of_object object refl in
    (whole ∙ ap₂ (λ a b. a ++ 44 ∷ b) o.0 (of_grade grade refl), o.1)

cut_means : (line : List ℕ) (o : Option (List ℕ × List ℕ)) → cut_at 44 line ≡ o → PartMeans line (row_part_of o)
cut_means line None h = tt
cut_means line (Some cut) h =
    let parts = cut_at-some 44 line cut.0 cut.1 h in
    row_means line cut.0 cut.1 (number_up_to 4294967295 cut.0) (number_up_to 4294967295 cut.1) parts.whole
    (λ n e. (decimal-up_to 4294967295 n cut.0 (omega arith) e, let small = up_to-some 4294967295 n cut.0 e in omega (arith, small.1)))
    (λ n e. decimal-up_to 4294967295 n cut.1 (omega arith) e)

list_means : (line name : List ℕ) (b : Bool) → is_name name ≡ b → line ≡ list_line name → PartMeans line (cond b (list_part name) no_part)
list_means line name true named e = (e, named)
list_means line name false named e = tt

means : (line : List ℕ) (o q : Option (List ℕ)) → rest_after (codes "list ") line ≡ o → rest_after (codes "query ") line ≡ q
    → PartMeans line (list_part_or o (query_part_or q (row_part_of (cut_at 44 line))))
means line (Some name) q h k = list_means line name (is_name name) refl (rest_after-some (codes "list ") line name h)
means line None (Some text) h k = rest_after-some (codes "query ") line text k
means line None None h k = cut_means line (cut_at 44 line) refl

-- a line is spelled by what it is
pub part_means : (line : List ℕ) → PartMeans line (part_of line)
unfolding part_of
part_means line = means line (rest_after (codes "list ") line) (rest_after (codes "query ") line) refl refl

-- and what is spelled so is read as it
pub part_of-list_line : (name : List ℕ) → is_name name ≡ true → part_of (list_line name) ≡ list_part name
part_of-list_line name named = part_of-list (list_line name) name (rest_after-append (codes "list ") name) named

pub part_of-query_line : (text : List ℕ) → part_of (query_line text) ≡ query_part text
part_of-query_line text = part_of-query (query_line text) text refl (rest_after-append (codes "query ") text)

pub no_word : (first : ℕ) (text : List ℕ) → first ≤ 57 → (rest_after (codes "list ") (first ∷ text) ≡ None) × (rest_after (codes "query ") (first ∷ text) ≡ None)
no_word first text low = (rw (ne_eqb 108 first (omega arith)) refl, rw (ne_eqb 113 first (omega arith)) refl)

no_word_digits : (digits more : List ℕ) → 0 < length digits → All (λ byte. (48 ≤ byte) × (byte ≤ 57)) digits
    → (rest_after (codes "list ") (digits ++ more) ≡ None) × (rest_after (codes "query ") (digits ++ more) ≡ None)
no_word_digits [] more some all = absurd (omega arith)
no_word_digits (d ∷ digits) more some all = let first = All-head (λ byte. (48 ≤ byte) × (byte ≤ 57)) d digits all in no_word d (digits ++ more) first.1

pub part_of-row_line : (row : Row) → row.object < 2 ^ 32 → row.grade < 2 ^ 32 → part_of (row_line row) ≡ row_part row
part_of-row_line row object grade =
    let digits = decimal_bytes row.object (omega arith) in
    let words = no_word_digits (decimal row.object) (44 ∷ decimal row.grade) (decimal_nonempty row.object (omega arith)) digits in
    let apart = All-weaker (λ byte. (48 ≤ byte) × (byte ≤ 57)) (λ byte. byte ≢ 44) (λ byte range e. let high = range.0 in absurd (omega arith)) (decimal row.object) digits in
    part_of-row (row_line row) words.0 words.1
    ∙ ap row_part_of (cut_at-append 44 (decimal row.object) (decimal row.grade) apart)
    ∙ ap₂ row_of_parts (up_to-decimal 4294967295 row.object (omega arith) (omega arith)) (up_to-decimal 4294967295 row.grade (omega arith) (omega arith))
