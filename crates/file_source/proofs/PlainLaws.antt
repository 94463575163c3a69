-- Records that are rows of plain digits.
use Rattle.std.proofs.Common.{◌≡◌, ◌⊎◌, ◌<◌, ◌≤◌, ◌^◌, ◌+◌, ℕ, suc, Bool, true, false, cond, ◌==◌, ◌&&◌, ◌||◌, List, [], ◌∷◌, ◌++◌, length, map, Option, Some, None, inl, inr, refl, sym, ap, ap₂, ◌∙◌, subst, arith, ne_eqb, le-leb, lt-ltb, eqb-true, length-append, codes}
use Rattle.std.specs.Option.{is_none}
use Rattle.std.specs.List.{list_any}
use Rattle.std.specs.Char.{is_ascii_digit}
use Rattle.std.specs.Str.{all_ascii_digits}
use Rattle.std.specs.Str.Parse.{digits_value}
use Rattle.std.proofs.lemmas.Fmt.{length-decimal-le}
use Rattle.std.proofs.lemmas.Bool.Decides.{nat_tests}
use Rattle.std.proofs.lemmas.List.{append-nil}
use Rattle.std.proofs.lemmas.List.Folds.{list_any-append}
use Rattle.std.proofs.lemmas.Option.{none-some}
use Rattle.csv.specs.Machine.{next_record}
use Rattle.csv.specs.Reading.{Reached, default_config, strip_bom}
use Rattle.csv.specs.Writing.{default_writer, needs_byte}
use Rattle.csv.specs.declared.parser.State.{State}
use Rattle.csv.specs.declared.parser.State.TheVariants as st
use Rattle.csv.proofs.RoundTrip.{plain-run, start-same, record-same}
use Rattle.csv_records.proofs.AllRecords.{are_all}
use Rattle.ranked_list.specs.declared.row.Row.{Row}
use Rattle.topk_base.specs.Cuts.{rest_after}
use Rattle.topk_base.specs.Numbers.{number_up_to, BeginsWithNumber}
use Rattle.topk_base.proofs.CutLaws.{rest_after-append, rest_after-some}
use Rattle.topk_base.proofs.NumberLaws.{up_to-some, number_of-some, canonical_from_number, decimal-up_to}
use Rattle.file_source.specs.ListFile.{field_number, row_of, is_header, without_header}
use Rattle.file_source.specs.PlainRows.{EndsLine, BeginsWithRow, ReadsTo, AreAllRows}
use Rattle.file_source.proofs.TakingLaws.{pushed}

-- ---- a number as a field

digit_range : (c : ℕ) → is_ascii_digit c ≡ true → (48 ≤ c) × (c ≤ 57)
digit_range c h = grind (arith, nat_tests)

both : (a b : Bool) → (a && b) ≡ true → (a ≡ true) × (b ≡ true)
both true true h = (refl, refl)
both true false h = absurd (cc)
both false b h = absurd (cc)

-- digits call for no quotes
digits_plain : (digits : List ℕ) → all_ascii_digits digits ≡ true → list_any (needs_byte default_writer) digits ≡ false
digits_plain [] h = refl
digits_plain (c ∷ digits) h =
    let parts = both (is_ascii_digit c) (all_ascii_digits digits) h in
    let range = digit_range c parts.0 in
    let low = range.0 in
    rw (ne_eqb c 44 (λ e. absurd (omega (arith, e))), ne_eqb c 34 (λ e. absurd (omega (arith, e))), ne_eqb c 13 (λ e. absurd (omega (arith, e))), ne_eqb c 10 (λ e. absurd (omega (arith, e))))
    (digits_plain digits parts.1)

-- what a number of 32 bits is as a field
record IsNumberField (digits : List ℕ) (number : ℕ) : Type 0 where
  first : ℕ
  more : List ℕ
  whole : digits ≡ first ∷ more
  low : 48 ≤ first
  high : first ≤ 57
  plain : list_any (needs_byte default_writer) digits ≡ false
  read : field_number digits ≡ Some number

number_field : (digits : List ℕ) (number : ℕ) → number_up_to 4294967295 digits ≡ Some number → IsNumberField digits number
number_field digits number h =
    let small = up_to-some 4294967295 number digits h in
    let most = small.1 in
    let parts = number_of-some digits number small.0 in
    let shape = canonical_from_number digits parts.0 in
    let text = decimal-up_to 4294967295 number digits (omega arith) h in
    let few : length digits ≤ 10 = subst (λ (d : List ℕ). length d ≤ 10) (sym text) (length-decimal-le 10 number (omega arith) (omega arith) (omega arith)) in
    by digits parts.1 shape.digits shape.some few most
  where
    by : (ds : List ℕ) → digits_value 10 ds ≡ number → all_ascii_digits ds ≡ true → 0 < length ds → length ds ≤ 10 → number ≤ 4294967295 → IsNumberField ds number
    by [] value all some few most = absurd (omega arith)
    by (c ∷ ds) value all some few most =
        let parts = both (is_ascii_digit c) (all_ascii_digits ds) all in
        let range = digit_range c parts.0 in record {
          first = c;
          more = ds;
          whole = refl;
          low = range.0;
          high = range.1;
          plain = digits_plain (c ∷ ds) all;
          read = rw (le-leb 1 (length (c ∷ ds)) some, le-leb (length (c ∷ ds)) 10 few, all, value, lt-ltb number (2 ^ 32) (omega arith)) refl;
        }

-- ---- a row as a record

ends_field : (x u : List ℕ) → next_record default_config st.InField [] x (44 ∷ u) ≡ next_record default_config st.StartField (x ∷ []) [] u
unfolding next_record
ends_field x u = refl

ends_line : (x y rest : List ℕ) → next_record default_config st.InField (x ∷ []) y (10 ∷ rest) ≡ Some (x ∷ y ∷ [], st.StartRecord, rest)
unfolding next_record
ends_line x y rest = refl

ends_text : (x y : List ℕ) → next_record default_config st.InField (x ∷ []) y [] ≡ Some (x ∷ y ∷ [], st.StartRecord, [])
unfolding next_record
ends_text x y = refl

-- the first field
first_field : (x tail : List ℕ) (number : ℕ) → IsNumberField x number
    → next_record default_config st.StartRecord [] [] (x ++ tail) ≡ next_record default_config st.InField [] x tail
first_field x tail number f =
    subst (λ (d : List ℕ). next_record default_config st.StartRecord [] [] (d ++ tail) ≡ next_record default_config st.InField [] d tail) (sym f.whole)
    (by f.first f.more f.low (subst (λ (d : List ℕ). list_any (needs_byte default_writer) d ≡ false) f.whole f.plain))
  where
    by : (c : ℕ) (ds : List ℕ) → 48 ≤ c → list_any (needs_byte default_writer) (c ∷ ds) ≡ false
        → next_record default_config st.StartRecord [] [] ((c ∷ ds) ++ tail) ≡ next_record default_config st.InField [] (c ∷ ds) tail
    by c ds low plain =
        record-same [] [] c (ds ++ tail) (ne_eqb c 13 (λ e. absurd (omega (arith, e)))) (ne_eqb c 10 (λ e. absurd (omega (arith, e))))
        ∙ start-same [] [] c (ds ++ tail) (ne_eqb c 34 (λ e. absurd (omega (arith, e))))
        ∙ plain-run [] [] (c ∷ ds) tail plain

-- and the second
second_field : (x y tail : List ℕ) (number : ℕ) → IsNumberField y number
    → next_record default_config st.StartField (x ∷ []) [] (y ++ tail) ≡ next_record default_config st.InField (x ∷ []) y tail
second_field x y tail number f =
    subst (λ (d : List ℕ). next_record default_config st.StartField (x ∷ []) [] (d ++ tail) ≡ next_record default_config st.InField (x ∷ []) d tail) (sym f.whole)
    (by f.first f.more f.low (subst (λ (d : List ℕ). list_any (needs_byte default_writer) d ≡ false) f.whole f.plain))
  where
    by : (c : ℕ) (ds : List ℕ) → 48 ≤ c → list_any (needs_byte default_writer) (c ∷ ds) ≡ false
        → next_record default_config st.StartField (x ∷ []) [] ((c ∷ ds) ++ tail) ≡ next_record default_config st.InField (x ∷ []) (c ∷ ds) tail
    by c ds low plain =
        start-same (x ∷ []) [] c (ds ++ tail) (ne_eqb c 34 (λ e. absurd (omega (arith, e))))
        ∙ plain-run (x ∷ []) [] (c ∷ ds) tail plain

-- the end of the second
line_ends : (text x y rest : List ℕ) (number : ℕ) → IsNumberField y number → (text ≡ y ++ 10 ∷ rest) ⊎ ((text ≡ y) × (rest ≡ []))
    → next_record default_config st.StartField (x ∷ []) [] text ≡ Some (x ∷ y ∷ [], st.StartRecord, rest)
line_ends text x y rest number f (inl e) = rw e (second_field x y (10 ∷ rest) number f ∙ ends_line x y rest)
line_ends text x y rest number f (inr e) =
    rw (e.0, e.1) (ap (next_record default_config st.StartField (x ∷ []) []) (sym (append-nil y)) ∙ second_field x y [] number f ∙ ends_text x y)

line_shorter : (text y rest : List ℕ) (number : ℕ) → IsNumberField y number → (text ≡ y ++ 10 ∷ rest) ⊎ ((text ≡ y) × (rest ≡ [])) → length rest < length text
line_shorter text y rest number f (inl e) =
    let size : length text ≡ length y + suc (length rest) = ap length e ∙ length-append y (10 ∷ rest) in omega arith
line_shorter text y rest number f (inr e) =
    let size : length text ≡ suc (length f.more) = ap length (e.0 ∙ f.whole) in
    let none : length rest ≡ 0 = ap length e.1 in omega arith

-- two fields of digits are no header
no_header : (x y : List ℕ) (number : ℕ) → IsNumberField x number → is_header (x ∷ y ∷ []) ≡ false
no_header x y number f =
    subst (λ (d : List ℕ). is_header (d ∷ y ∷ []) ≡ false) (sym f.whole) (by f.first f.more f.high)
  where
    by : (c : ℕ) (ds : List ℕ) → c ≤ 57 → is_header ((c ∷ ds) ∷ y ∷ []) ≡ false
    by c ds high = rw (ne_eqb c 111 (λ e. absurd (omega (arith, e)))) refl

-- two numbers, a comma after the first and the line's end after the second
pub row_first : (text past second rest : List ℕ) (object grade : ℕ) → BeginsWithNumber text object past → past ≡ 44 ∷ second → EndsLine second grade rest
    → BeginsWithRow text (record { object = object; grade = grade }) rest
row_first text past second rest object grade first comma last =
    let x = first.digits in
    let y = last.digits in
    let o = number_field x object first.read in
    let g = number_field y grade last.read in
    let is : text ≡ x ++ 44 ∷ second = first.whole ∙ ap (λ t. x ++ t) comma in
    record {
      fields = x ∷ y ∷ [];
      first = rw is (first_field x (44 ∷ second) object o ∙ ends_field x second ∙ line_ends second x y rest grade g last.whole);
      is = rw (o.read, g.read) refl;
      other = no_header x y object o;
      shorter =
          let less = line_shorter second y rest grade g last.whole in
          let size : length text ≡ length x + suc (length second) = ap length is ∙ length-append x (44 ∷ second) in omega arith;
    }

-- ---- the records of a text, one after another

-- a text of which nothing was read
pub none_read : (text : List ℕ) → ReadsTo text [] text
unfolding Reached
none_read text = record { records = []; reached = (refl, refl); are = refl; whole = refl }

-- a text of which the header was read
header_record : (rest : List ℕ) → next_record default_config st.StartRecord [] [] (codes "object,grade\n" ++ rest) ≡ Some (codes "object" ∷ codes "grade" ∷ [], st.StartRecord, rest)
unfolding next_record
header_record rest = refl

pub header_read : (text rest : List ℕ) → rest_after (codes "object,grade\n") text ≡ Some rest → ReadsTo text [] rest
unfolding Reached
header_read text rest h = record {
  records = (codes "object" ∷ codes "grade" ∷ []) ∷ [];
  reached = ((codes "object" ∷ codes "grade" ∷ [], st.StartRecord, rest), ap (next_record default_config st.StartRecord [] []) (rest_after-some (codes "object,grade\n") text rest h) ∙ header_record rest, refl, (refl, refl));
  are = refl;
  whole = refl;
}

-- one record more
reached_more : (s : State) (text rest more : List ℕ) (rows : List (List (List ℕ))) (fields : List (List ℕ)) → Reached default_config s text rows st.StartRecord rest
    → next_record default_config st.StartRecord [] [] rest ≡ Some (fields, st.StartRecord, more)
    → Reached default_config s text (rows ++ fields ∷ []) st.StartRecord more
unfolding Reached
reached_more s text rest more [] fields h next =
    ((fields, st.StartRecord, more), ap₂ (λ (t : State) (z : List ℕ). next_record default_config t [] [] z) h.0 h.1 ∙ next, refl, (refl, refl))
reached_more s text rest more (row ∷ rows) fields h next = (h.0, h.1, h.2, reached_more h.0.1 h.0.2 rest more rows fields h.3 next)

pub row_read : (text rest more : List ℕ) (rows now : List (Option Row)) (row : Row) → ReadsTo text rows rest → BeginsWithRow rest row more → now ≡ rows ++ Some row ∷ []
    → ReadsTo text now more
row_read text rest more rows now row h next is = record {
  records = h.records ++ next.fields ∷ [];
  reached = reached_more st.StartRecord text rest more h.records next.fields h.reached next.first;
  are = is ∙ ap₂ (λ (a : List (Option Row)) (b : Option Row). a ++ b ∷ []) h.are (sym next.is) ∙ sym (pushed h.records next.fields (λ none. next.other));
  whole = ap (list_any is_none) is ∙ list_any-append is_none rows (Some row ∷ []) ∙ ap (λ b. b || false) h.whole;
}

-- ---- the whole text

none_left : (rest : List ℕ) → length rest ≡ 0 → next_record default_config st.StartRecord [] [] rest ≡ None
unfolding next_record
none_left [] e = refl
none_left (c ∷ rest) e = absurd (omega arith)

pub all_read : (text rest : List ℕ) (rows : List (Option Row)) → ReadsTo (strip_bom text) rows rest → length rest ≡ 0 → AreAllRows text rows
all_read text rest rows h e =
    let end = none_left rest e in
    record {
      are = h.are ∙ ap (λ (r : List (List (List ℕ))). map row_of (without_header r)) (are_all (strip_bom text) rest st.StartRecord h.records h.reached end);
      whole = h.whole;
    }

-- ---- the byte order mark

pub marked : (text rest : List ℕ) → rest_after (239 ∷ 187 ∷ 191 ∷ []) text ≡ Some rest → rest ≡ strip_bom text
unfolding strip_bom
marked text rest h = rw (rest_after-some (239 ∷ 187 ∷ 191 ∷ []) text rest h) refl

pub unmarked : (text : List ℕ) → rest_after (239 ∷ 187 ∷ 191 ∷ []) text ≡ None → text ≡ strip_bom text
unfolding strip_bom
unmarked [] h = refl
unmarked (a ∷ []) h = refl
unmarked (a ∷ b ∷ []) h = refl
unmarked (a ∷ b ∷ c ∷ rest) h = by ((a == 239) && (b == 187) && (c == 191)) refl
  where
    by : (mark : Bool) → ((a == 239) && (b == 187) && (c == 191)) ≡ mark → a ∷ b ∷ c ∷ rest ≡ cond mark rest (a ∷ b ∷ c ∷ rest)
    by false is = refl
    by true is =
        let last = both ((a == 239) && (b == 187)) (c == 191) is in
        let more = both (a == 239) (b == 187) last.0 in
        let text : a ∷ b ∷ c ∷ rest ≡ (239 ∷ 187 ∷ 191 ∷ []) ++ rest =
        ap (λ x. x ∷ b ∷ c ∷ rest) (eqb-true a 239 more.0) ∙ ap (λ x. 239 ∷ x ∷ c ∷ rest) (eqb-true b 187 more.1) ∙ ap (λ x. 239 ∷ 187 ∷ x ∷ rest) (eqb-true c 191 last.1) in
        absurd (none-some rest (sym h ∙ ap (rest_after (239 ∷ 187 ∷ 191 ∷ [])) text ∙ rest_after-append (239 ∷ 187 ∷ 191 ∷ []) rest))
