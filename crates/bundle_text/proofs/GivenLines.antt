-- The lines that lists in memory print as: none is a query.
use Rattle.std.proofs.Common.{◌≡◌, ◌≢◌, ◌<◌, ◌≤◌, ◌/◌, ◌%◌, ◌==◌, ℕ, zero, suc, Bool, true, false, cond, List, [], ◌∷◌, ◌++◌, map, Option, Some, None, refl, sym, ap, ◌∙◌, arith, lt-ltb}
use Rattle.std.specs.Prelude.{codes}
use Rattle.std.specs.List.{All}
use Rattle.std.specs.Fmt.{decimal, digits, digits_onto, digit_glyph}
use Rattle.std.proofs.lemmas.List.Elements.{All-nil, All-cons, All-append}
use Rattle.topk_base.specs.Cuts.{cut_at, rest_after}
use Rattle.topk_base.specs.Names.{is_name}
use Rattle.topk_base.specs.Numbers.{number_up_to}
use Rattle.topk_base.proofs.CutLaws.{rest_after-append}
use Rattle.ranked_list.specs.declared.row.Row.{Row}
use Rattle.bundle_text.specs.declared.given.GivenList.{GivenList}
use Rattle.bundle_text.specs.Bundle.{list_line, row_line, section, sections}
use Rattle.bundle_text.specs.Given.{rows_given}
use Rattle.bundle_text.specs.Gathering.{lines_given}
use Rattle.bundle_text.specs.Reading.{list_part, query_part, no_part, row_of_parts, row_part_of, part_of}
use Rattle.bundle_text.proofs.PartLaws.{part_of-list_line, part_of-no_name, part_of-row, no_word}
use Rattle.bundle_text.proofs.Outcome.{HasOneLine, AreLines}

-- ---- rows

-- a text whose first byte is at most that of a 9
abbrev StartsLow : List ℕ → Type 0
StartsLow [] = ⊥
StartsLow (first ∷ rest) = first ≤ 57

glyph_low : (d : ℕ) → d < 10 → digit_glyph false d ≤ 57
glyph_low d l = rw (lt-ltb d 10 l) (omega arith)

either_low : (last : Bool) (xs ys : List ℕ) → StartsLow xs → StartsLow ys → StartsLow (cond last xs ys)
either_low true xs ys low more = low
either_low false xs ys low more = more

onto_low : (k n : ℕ) (acc : List ℕ) → StartsLow acc → StartsLow (digits_onto k 10 false n acc)
onto_low zero n acc low = low
onto_low (suc k) n acc low =
    let glyph : digit_glyph false (n % 10) ≤ 57 = glyph_low (n % 10) (omega arith) in
    either_low (n / 10 == 0) (digit_glyph false (n % 10) ∷ acc) (digits_onto k 10 false (n / 10) (digit_glyph false (n % 10) ∷ acc)) glyph
    (onto_low k (n / 10) (digit_glyph false (n % 10) ∷ acc) glyph)

first_low : (k n : ℕ) → StartsLow (digits_onto (suc k) 10 false n [])
first_low k n =
    let glyph : digit_glyph false (n % 10) ≤ 57 = glyph_low (n % 10) (omega arith) in
    either_low (n / 10 == 0) (digit_glyph false (n % 10) ∷ []) (digits_onto k 10 false (n / 10) (digit_glyph false (n % 10) ∷ [])) glyph
    (onto_low k (n / 10) (digit_glyph false (n % 10) ∷ []) glyph)

decimal_low : (n : ℕ) → StartsLow (decimal n)
unfolding digits
decimal_low n = first_low 63 n

no_word_low : (front more : List ℕ) → StartsLow front
    → (rest_after (codes "list ") (front ++ more) ≡ None) × (rest_after (codes "query ") (front ++ more) ≡ None)
no_word_low [] more low = absurd low
no_word_low (first ∷ rest) more low = no_word first (rest ++ more) low

no_query_parts : (object grade : Option ℕ) (query : List ℕ) → row_of_parts object grade ≡ query_part query → ⊥
no_query_parts None grade query e = absurd cc
no_query_parts (Some object) None query e = absurd cc
no_query_parts (Some object) (Some grade) query e = absurd cc

no_query_cut : (cut : Option (List ℕ × List ℕ)) (query : List ℕ) → row_part_of cut ≡ query_part query → ⊥
no_query_cut None query e = absurd cc
no_query_cut (Some cut) query e = no_query_parts (number_up_to 4294967295 cut.0) (number_up_to 4294967295 cut.1) query e

row_is_none : (row : Row) → HasOneLine (row_line row)
row_is_none row query is =
    let words = no_word_low (decimal row.object) (44 ∷ decimal row.grade) (decimal_low row.object) in
    absurd (no_query_cut (cut_at 44 (row_line row)) query (sym (part_of-row (row_line row) words.0 words.1) ∙ is))

rows_are_none : (rows : List Row) → AreLines (map row_line rows)
rows_are_none [] = All-nil HasOneLine
rows_are_none (row ∷ rows) = All-cons HasOneLine (row_line row) (map row_line rows) (row_is_none row) (rows_are_none rows)

-- ---- lists

pub part_of-wild : (name : List ℕ) → is_name name ≡ false → part_of (list_line name) ≡ no_part
part_of-wild name wild = part_of-no_name (list_line name) name (rest_after-append (codes "list ") name) wild

list_is_none : (name : List ℕ) → HasOneLine (list_line name)
list_is_none name query is = by_name (is_name name) refl
  where
    by_name : (b : Bool) → is_name name ≡ b → All (λ byte. byte ≢ 10) query
    by_name true named = absurd (let e : list_part name ≡ query_part query = sym (part_of-list_line name named) ∙ is in cc)
    by_name false wild = absurd (let e : no_part ≡ query_part query = sym (part_of-wild name wild) ∙ is in cc)

pub lists_are_none : (lists : List GivenList) → AreLines (lines_given lists)
lists_are_none [] = All-nil HasOneLine
lists_are_none (list ∷ lists) =
    All-append HasOneLine (section list.name.now (rows_given list.rows.now)) (lines_given lists)
    (All-cons HasOneLine (list_line list.name.now) (map row_line (rows_given list.rows.now)) (list_is_none list.name.now)
    (rows_are_none (rows_given list.rows.now)))
    (lists_are_none lists)

-- they are the sections of what the lists say
pub sections_given : (lists : List GivenList) → sections (map (λ list. list.name.now) lists) (map (λ list. rows_given list.rows.now) lists) ≡ lines_given lists
sections_given [] = refl
sections_given (list ∷ lists) = ap (λ ls. section list.name.now (rows_given list.rows.now) ++ ls) (sections_given lists)
