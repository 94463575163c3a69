-- Records of a list file and the rows among them.
use Rattle.std.proofs.Common.{◌≡◌, ◌<◌, ◌≤◌, ℕ, zero, suc, ◌+◌, Bool, true, false, cond, List, [], ◌∷◌, ◌++◌, length, map, take, drop, get_or, Option, Some, None, refl, sym, ap, ◌∙◌, arith}
use Rattle.std.specs.Prelude.{IfSome}
use Rattle.std.specs.Option.{is_none}
use Rattle.std.specs.List.{Contains, list_any, slice_get}
use Rattle.std.proofs.lemmas.List.{take-map, take_more, drop-map, length-map}
use Rattle.std.proofs.lemmas.Option.{get_or_from_slice_get, slice_get_within}
use Rattle.ranked_list.specs.declared.row.Row.{Row}
use Rattle.source_api.specs.Told.{IsPage, IsGrade, first_grade, each_once, told_of}
use Rattle.source_api.proofs.ToldLaws.{told_page, told_grade, first_grade_push}
use Rattle.file_source.specs.ListFile.{rows_among, are_rows, told_records}
use Rattle.file_source.specs.Taking.{kept_record}

-- a record that is a row
abbrev some_row : Row → Option Row
some_row row = Some row

-- ---- a record that is no row

pub some_broken : (records : List (Option Row)) → list_any is_none records ≡ true → Contains records None
some_broken [] h = absurd (cc)
some_broken (None ∷ records) h = (0, omega arith, refl)
some_broken (Some row ∷ records) h = let more = some_broken records h in (suc more.0, omega (arith, more.1), more.2)

pub none_broken : (records : List (Option Row)) → list_any is_none records ≡ false → Contains records None → ⊥
none_broken [] h c = let l : c.0 < 0 = c.1 in absurd (omega arith)
none_broken (None ∷ records) h c = absurd (cc)
none_broken (Some row ∷ records) h c = at c.0 c.1 c.2 (none_broken records h)
  where
    at : (k : ℕ) → k < suc (length records) → get_or (Some row ∷ records) k None ≡ None → (Contains records None → ⊥) → ⊥
    at zero l e more = absurd (cc)
    at (suc k) l e more = more (k, omega arith, e)

pub whole_rows : (records : List (Option Row)) → are_rows records ≡ true → records ≡ map (λ row. Some row) (rows_among records)
whole_rows [] h = refl
whole_rows (None ∷ records) h = absurd (cc)
whole_rows (Some row ∷ records) h = ap (λ r. Some row ∷ r) (whole_rows records h)

pub among_rows : (rows : List Row) → rows_among (map (λ row. Some row) rows) ≡ rows
among_rows [] = refl
among_rows (row ∷ rows) = ap (λ r. row ∷ r) (among_rows rows)

-- ---- one more record

pub among_push : (records : List (Option Row)) (row : Row) → rows_among (records ++ Some row ∷ []) ≡ rows_among records ++ row ∷ []
among_push [] row = refl
among_push (None ∷ records) row = among_push records row
among_push (Some first ∷ records) row = ap (λ r. first ∷ r) (among_push records row)

pub among_push_none : (records : List (Option Row)) → rows_among (records ++ None ∷ []) ≡ rows_among records
among_push_none [] = refl
among_push_none (None ∷ records) = among_push_none records
among_push_none (Some first ∷ records) = ap (λ r. first ∷ r) (among_push_none records)

pub grade_push : (records : List (Option Row)) (last : Option Row) (object : ℕ)
    → first_grade (rows_among (records ++ last ∷ [])) object ≡ kept_record (first_grade (rows_among records) object) last object
grade_push records None object = ap (λ r. first_grade r object) (among_push_none records)
grade_push records (Some row) object = ap (λ r. first_grade r object) (among_push records row) ∙ first_grade_push (rows_among records) row object

-- the grades of one record more
pub grade_next : (records : List (Option Row)) (i : ℕ) (row : Option Row) (object : ℕ) (kept now : Option ℕ)
    → kept ≡ first_grade (rows_among (take i records)) object → now ≡ kept_record kept row object → slice_get records i ≡ Some row → now ≡ first_grade (rows_among (take (i + 1) records)) object
grade_next records i row object kept now so_far is found =
    let next : take (i + 1) records ≡ take i records ++ row ∷ [] =
    take_more records i None (slice_get_within records i row found) ∙ ap (λ r. take i records ++ r ∷ []) (get_or_from_slice_get records i row None found) in
    is ∙ (ap (λ k. kept_record k row object) so_far ∙ (sym (grade_push (take i records) row object) ∙ ap (λ r. first_grade (rows_among r) object) (sym next)))

-- ---- what is told

pub told_size : (records : List (Option Row)) (size : ℕ) → size ≡ length records → IfSome (told_records records) (λ rows. size ≡ length rows)
told_size records size is = by (are_rows records) refl
  where
    listed : (b : Bool) → size ≡ length (rows_among records) → IfSome (cond b (Some (rows_among records)) None) (λ rows. size ≡ length rows)
    listed true e = e
    listed false e = tt

    by : (b : Bool) → are_rows records ≡ b → IfSome (cond b (told_of None [] (rows_among records)) None) (λ rows. size ≡ length rows)
    by true e = listed (each_once (rows_among records)) (is ∙ (ap length (whole_rows records e) ∙ length-map (rows_among records) some_row))
    by false e = tt

pub told_rows_page : (records : List (Option Row)) (page : List Row) (from count : ℕ) → 1 ≤ count → map (λ row. Some row) page ≡ take count (drop from records)
    → IfSome (told_records records) (λ rows. IsPage rows from page)
told_rows_page records page from count one is = by (are_rows records) refl
  where
    by : (b : Bool) → are_rows records ≡ b → IfSome (cond b (told_of None [] (rows_among records)) None) (λ rows. IsPage rows from page)
    by true e =
        let whole = whole_rows records e in
        let asked : map (λ row. Some row) page ≡ map (λ row. Some row) (take count (drop from (rows_among records))) = is ∙ ap (λ r. take count (drop from r)) whole
        ∙ (ap (take count) (drop-map some_row from (rows_among records)) ∙ take-map some_row count (drop from (rows_among records))) in
        told_page None [] (rows_among records) page from count one (sym (among_rows page) ∙ (ap rows_among asked ∙ among_rows (take count (drop from (rows_among records)))))
    by false e = tt

pub told_rows_grade : (records : List (Option Row)) (object : ℕ) (grade : Option ℕ) → grade ≡ first_grade (rows_among records) object
    → IfSome (told_records records) (λ rows. IsGrade rows object grade)
told_rows_grade records object grade is = by (are_rows records)
  where
    by : (b : Bool) → IfSome (cond b (told_of None [] (rows_among records)) None) (λ rows. IsGrade rows object grade)
    by true = told_grade None [] (rows_among records) object grade is
    by false = tt
