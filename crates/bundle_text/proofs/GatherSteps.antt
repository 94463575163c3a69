-- Lines taken in one after another.
use Rattle.std.proofs.Common.{◌≡◌, ◌<◌, ◌≤◌, ◌+◌, ◌^◌, ℕ, true, false, List, [], ◌∷◌, ◌++◌, length, map, take, drop, get_or, Result, Ok, Err, refl, sym, ap, ◌∙◌, subst, arith, append_assoc, append-nil, length-append}
use Rattle.std.proofs.lemmas.Bool.{false≢true}
use Rattle.std.proofs.lemmas.List.{length_push, take_more, take_all, take-append-drop, map-append}
use Rattle.std.proofs.lemmas.Grind.{flat_map-append}
use Rattle.bundle_text.specs.declared.given.GivenRow.{GivenRow}
use Rattle.bundle_text.specs.declared.given.GivenList.{GivenList}
use Rattle.bundle_text.specs.declared.reader.Reader.{Reader}
use Rattle.bundle_text.specs.declared.bundle.BundleFault.{BundleFault}
use Rattle.bundle_text.specs.declared.bundle.BundleFault.TheVariants.{BadBundle, Memory}
use Rattle.bundle_text.specs.Bundle.{row_line, section}
use Rattle.bundle_text.specs.Given.{row_given, rows_given}
use Rattle.bundle_text.specs.Gathering.{lines_given, IsCounted, HasTaken, TakesLines}
use Rattle.bundle_text.specs.Reading.{InsideList, Part, list_part, row_part, query_part, no_part, part_of, takes_part, with_part, read_on}
use Rattle.bundle_text.specs.Tracking.{front_of, IsTracked}
use Rattle.bundle_text.proofs.ReadLaws.{read_on-takes, read_on-refuses}

-- ---- one line

-- the number after a line that was taken in
counted_next : (front : InsideList) (part : Part) (number : ℕ) → takes_part front part ≡ true → length front.rows < 2 ^ 32 → IsCounted front number
    → IsCounted (with_part front part) (number + 1)
counted_next front (list_part name) number takes few counted = omega (arith, length_push front.closed front.rows)
counted_next front (row_part row) number takes few counted = omega (arith, length_push front.rows row)
counted_next front (query_part text) number takes few counted = absurd (false≢true takes)
counted_next front no_part number takes few counted = absurd (false≢true takes)

pub taken_line : (front : InsideList) (part : Part) (text : List ℕ) (reader : Reader) (number : ℕ) → part ≡ part_of text → takes_part front part ≡ true
    → IsTracked reader → front_of reader ≡ with_part front part → length front.rows < 2 ^ 32 → IsCounted front number
    → HasTaken (text ∷ []) front number reader (number + 1)
taken_line front part text reader number is takes tracked grown few counted = record {
  tracked = tracked;
  counted = subst (λ f. IsCounted f (number + 1)) (sym grown) (counted_next front part number takes few counted);
  number = refl;
  goes = λ rest. read_on-takes front number text rest (text ∷ rest) part refl is takes ∙ ap (λ f. read_on f (number + 1) rest) (sym grown);
}

pub stopped_line : (front : InsideList) (part : Part) (text : List ℕ) (number : ℕ) → part ≡ part_of text → ((query : List ℕ) → part ≡ query_part query → ⊥)
    → takes_part front part ≡ false → (rest : List (List ℕ)) → read_on front number (text ∷ rest) ≡ Err number
stopped_line front part text number is other refuses rest = read_on-refuses front number text rest (text ∷ rest) part refl is other refuses

-- ---- one after another

pub taken_none : (reader : Reader) (number : ℕ) → IsTracked reader → IsCounted (front_of reader) number → HasTaken [] (front_of reader) number reader number
taken_none reader number tracked counted = record { tracked = tracked; counted = counted; number = omega arith; goes = λ rest. refl }

pub then_taken : (xs ys : List (List ℕ)) (front : InsideList) (from : ℕ) (mid : Reader) (next : ℕ) (now : Reader) (r : Result ℕ BundleFault)
    → HasTaken xs front from mid next → TakesLines ys (front_of mid) next now r → TakesLines (xs ++ ys) front from now r
then_taken xs ys front from mid next now (Ok after) h t = record {
  tracked = t.tracked;
  counted = t.counted;
  number = let first = h.number in let second = t.number in omega (arith, length-append xs ys);
  goes = λ rest. ap (read_on front from) (append_assoc xs ys rest) ∙ h.goes (ys ++ rest) ∙ t.goes rest;
}
then_taken xs ys front from mid next now (Err (BadBundle line)) h t = λ rest. ap (read_on front from) (append_assoc xs ys rest) ∙ h.goes (ys ++ rest) ∙ t rest
then_taken xs ys front from mid next now (Err Memory) h t = tt

-- where it stops it stops whatever lines follow
pub stops_early : (xs ys : List (List ℕ)) (front : InsideList) (from : ℕ) (now : Reader) (fault : BundleFault)
    → TakesLines xs front from now (Err fault) → TakesLines (xs ++ ys) front from now (Err fault)
stops_early xs ys front from now (BadBundle line) t = λ rest. ap (read_on front from) (append_assoc xs ys rest) ∙ t (ys ++ rest)
stops_early xs ys front from now Memory t = tt

-- ---- the lines of members, one member after another

module _ {A : Type 0} (lines_of : List A → List (List ℕ)) (joins : (xs ys : List A) → lines_of (xs ++ ys) ≡ lines_of xs ++ lines_of ys) where
  one_more : (xs : List A) (place : ℕ) (d : A) (front : InsideList) (from : ℕ) (mid : Reader) (next : ℕ) (now : Reader) (r : Result ℕ BundleFault)
      → place < length xs → HasTaken (lines_of (take place xs)) front from mid next
      → TakesLines (lines_of (get_or xs place d ∷ [])) (front_of mid) next now r → TakesLines (lines_of (take (place + 1) xs)) front from now r
  one_more xs place d front from mid next now r within h t =
      let x = get_or xs place d in
      let grown : lines_of (take (place + 1) xs) ≡ lines_of (take place xs) ++ lines_of (x ∷ []) =
      ap lines_of (take_more xs place d within) ∙ joins (take place xs) (x ∷ []) in
      subst (λ ls. TakesLines ls front from now r) (sym grown) (then_taken (lines_of (take place xs)) (lines_of (x ∷ [])) front from mid next now r h t)

  stops_there : (xs : List A) (place : ℕ) (front : InsideList) (from : ℕ) (now : Reader) (fault : BundleFault)
      → TakesLines (lines_of (take place xs)) front from now (Err fault) → TakesLines (lines_of xs) front from now (Err fault)
  stops_there xs place front from now fault t =
      let whole : lines_of (take place xs) ++ lines_of (drop place xs) ≡ lines_of xs =
      sym (joins (take place xs) (drop place xs)) ∙ ap lines_of (take-append-drop place xs) in
      subst (λ ls. TakesLines ls front from now (Err fault)) whole (stops_early (lines_of (take place xs)) (lines_of (drop place xs)) front from now fault t)

  all_taken : (xs : List A) (place : ℕ) (front : InsideList) (from : ℕ) (now : Reader) (next : ℕ) → length xs ≤ place
      → HasTaken (lines_of (take place xs)) front from now next → HasTaken (lines_of xs) front from now next
  all_taken xs place front from now next all h = subst (λ ys. HasTaken (lines_of ys) front from now next) (take_all place xs all) h

-- ---- rows

abbrev pub row_lines : List GivenRow → List (List ℕ)
row_lines rows = map row_line (rows_given rows)

rows_join : (xs ys : List GivenRow) → row_lines (xs ++ ys) ≡ row_lines xs ++ row_lines ys
rows_join xs ys = ap (map row_line) (map-append row_given xs ys) ∙ map-append row_line (rows_given xs) (rows_given ys)

pub row_more : (xs : List GivenRow) (place : ℕ) (d : GivenRow) (front : InsideList) (from : ℕ) (mid : Reader) (next : ℕ) (now : Reader)
    (r : Result ℕ BundleFault)
    → place < length xs → HasTaken (row_lines (take place xs)) front from mid next
    → TakesLines (row_line (row_given (get_or xs place d)) ∷ []) (front_of mid) next now r → TakesLines (row_lines (take (place + 1) xs)) front from now r
row_more xs place d front from mid next now r within h t = one_more row_lines rows_join xs place d front from mid next now r within h t

pub rows_stop : (xs : List GivenRow) (place : ℕ) (front : InsideList) (from : ℕ) (now : Reader) (fault : BundleFault)
    → TakesLines (row_lines (take place xs)) front from now (Err fault) → TakesLines (row_lines xs) front from now (Err fault)
rows_stop xs place front from now fault t = stops_there row_lines rows_join xs place front from now fault t

pub rows_taken : (xs : List GivenRow) (place : ℕ) (front : InsideList) (from : ℕ) (now : Reader) (next : ℕ) → length xs ≤ place
    → HasTaken (row_lines (take place xs)) front from now next → HasTaken (row_lines xs) front from now next
rows_taken xs place front from now next all h = all_taken row_lines rows_join xs place front from now next all h

-- ---- lists

abbrev list_section : GivenList → List (List ℕ)
list_section list = section list.name.now (rows_given list.rows.now)

lists_join : (xs ys : List GivenList) → lines_given (xs ++ ys) ≡ lines_given xs ++ lines_given ys
lists_join xs ys = flat_map-append list_section xs ys

pub list_more : (xs : List GivenList) (place : ℕ) (d : GivenList) (front : InsideList) (from : ℕ) (mid : Reader) (next : ℕ) (now : Reader)
    (r : Result ℕ BundleFault)
    → place < length xs → HasTaken (lines_given (take place xs)) front from mid next
    → TakesLines (list_section (get_or xs place d)) (front_of mid) next now r
    → TakesLines (lines_given (take (place + 1) xs)) front from now r
list_more xs place d front from mid next now r within h t =
    one_more lines_given lists_join xs place d front from mid next now r within h
    (subst (λ ls. TakesLines ls (front_of mid) next now r) (sym (append-nil (list_section (get_or xs place d)))) t)

pub lists_stop : (xs : List GivenList) (place : ℕ) (front : InsideList) (from : ℕ) (now : Reader) (fault : BundleFault)
    → TakesLines (lines_given (take place xs)) front from now (Err fault) → TakesLines (lines_given xs) front from now (Err fault)
lists_stop xs place front from now fault t = stops_there lines_given lists_join xs place front from now fault t

pub lists_taken : (xs : List GivenList) (place : ℕ) (front : InsideList) (from : ℕ) (now : Reader) (next : ℕ) → length xs ≤ place
    → HasTaken (lines_given (take place xs)) front from now next → HasTaken (lines_given xs) front from now next
lists_taken xs place front from now next all h = all_taken lines_given lists_join xs place front from now next all h
