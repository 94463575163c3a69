-- Every table that agrees with the run has the same run and the same answer, so the run fixes the answer.
use Rattle.std.proofs.Common.{◌≡◌, inl, inr, ℕ, zero, suc, ◌+◌, ◌-◌, ◌<◌, ◌≤◌, List, [], ◌∷◌, ◌++◌, length, map, take, Contains, Option, is_none, nat_le, get_or, refl, sym, ap, ap₂, subst, ◌∙◌, arith}
use Rattle.std.specs.List.{flat_map}
use Rattle.std.proofs.lemmas.Bool.{cases_lt, true≢false}
use Rattle.std.proofs.lemmas.List.{length-take-le, get_or-take}
use Rattle.ranked_list.specs.declared.row.Row.{Row}
use Rattle.ranked_list.specs.declared.item.Item.{Item}
use Rattle.ranked_list.specs.Table.{grade_in}
use Rattle.ranked_list.proofs.OptionLaws.{option_cases}
use Rattle.ranked_list.proofs.RankLaws.{no_row}
use Rattle.monotone_fn.specs.Value.{IsMonotone}
use Rattle.topk_theory.specs.declared.access.Access.{Access}
use Rattle.topk_theory.specs.declared.access.Access.TheVariants.{Sorted, Random}
use Rattle.topk_theory.specs.Aggregate.{IsTop, aggregate}
use Rattle.topk_theory.specs.Order.{first_k}
use Rattle.topk_theory.specs.Transcript.{Agrees, list_at, list_numbers, sorted_rows, seen_objects, named_objects}
use Rattle.topk_theory.specs.Bounds.{known_grade}
use Rattle.topk_theory.specs.Fixes.{Fixes}
use Rattle.topk_theory.specs.Threshold.{IsAsked, row_at, sorted_block, scored, item_objects}
use Rattle.topk_theory.specs.NoRandom.{nra_run_to}
use Rattle.topk_theory.specs.Combined.{unknown_lists, missing_grades}
use Rattle.topk_theory.proofs.AgreementLists.{contains_here, contains_there, all_from_members, member_of_all}
use Rattle.topk_theory.proofs.AgreementRows.{list_at_length}
use Rattle.topk_theory.proofs.Agreement.{agrees_front, known_grade_is, seen_is_named}
use Rattle.topk_theory.proofs.BoundsLaws.{grades_by_number}
use Rattle.topk_theory.proofs.ListNumbers.{number_below}
use Rattle.topk_theory.proofs.ThresholdLists.{contains_from_filter, map_same}
use Rattle.topk_theory.proofs.NoRandomRun.{run_rows}
use Rattle.algorithm_theory.specs.Fagin.{fa_stop, fa_depth, fa_rows, fa_seen, fa_asks, fa_run, fa_answer, known_whole}
use Rattle.algorithm_theory.proofs.FaginCommon.{each_known, stop_shown}
use Rattle.algorithm_theory.proofs.FaginLeast.{fa_depth_is_least}
use Rattle.algorithm_theory.proofs.FaginRuns.{fa_run_agrees, fa_knows, seen_of_rows}
use Rattle.algorithm_theory.proofs.FaginTop.{fa_answer_top, answer_seen}

-- another table E agrees with the run on D
pub record IsOther (k n : ℕ) (D E : List (List Row)) : Type 0 where
  pub asked : IsAsked k n D
  pub agrees : Agrees (length D) n E (fa_run k D)

other_asked : (k n : ℕ) (D E : List (List Row)) → IsOther k n D E → IsAsked k n E
other_asked k n D E other = record {
  table = other.agrees.table;
  lists = omega (arith, other.asked.lists, other.agrees.lists);
  positive = other.asked.positive;
  fits = other.asked.fits;
}

-- ---- the rows are the same down to the depth
row_same : (k n : ℕ) (D E : List (List Row)) (list at : ℕ) → IsOther k n D E → list < length D → 1 ≤ at → at ≤ fa_depth k D
    → row_at (list_at E list) at ≡ row_at (list_at D list) at
row_same k n D E list at other l one up =
    let deep : ℕ = fa_depth k D in
    let within = (fa_depth_is_least k n D other.asked).within in
    let front : Agrees (length D) n E (fa_rows k D) = agrees_front (length D) n E (fa_rows k D) (fa_asks k D) other.agrees in
    let long : length (list_at D list) ≡ n = list_at_length n D list other.asked.table l in
    let read : sorted_rows list (fa_rows k D) ≡ take deep (list_at D list) = run_rows n deep D list other.asked.table within l in
    let size : length (sorted_rows list (fa_rows k D)) ≡ deep = ap length read ∙ length-take-le deep (list_at D list) (omega arith) in
    let same : take deep (list_at E list) ≡ take deep (list_at D list) = ap (λ d. take d (list_at E list)) (sym size) ∙ front.drawn.sorted list l ∙ read in
    sym (get_or-take deep (list_at E list) (at - 1) no_row (omega arith)) ∙ ap (λ rows. get_or rows (at - 1) no_row) same ∙ get_or-take deep (list_at D list) (at - 1) no_row (omega arith)

block_same : (start depth : ℕ) (D E : List (List Row)) → length E ≡ length D
    → ((i : ℕ) → i < length D → row_at (list_at E i) depth ≡ row_at (list_at D i) depth) → sorted_block start depth E ≡ sorted_block start depth D
block_same start depth [] [] e h = refl
block_same start depth [] (others ∷ E) e h = absurd (omega arith)
block_same start depth (rows ∷ D) [] e h = absurd (omega arith)
block_same start depth (rows ∷ D) (others ∷ E) e h =
    ap (λ (row : Row). Sorted start row.object row.grade ∷ sorted_block (start + 1) depth E) (h 0 (omega arith))
    ∙ ap (λ rest. Sorted start (row_at rows depth).object (row_at rows depth).grade ∷ rest) (block_same (start + 1) depth D E (omega arith) (λ i l. h (suc i) (omega arith)))

rows_same : (k n : ℕ) (D E : List (List Row)) (depth : ℕ) → IsOther k n D E → depth ≤ fa_depth k D → nra_run_to E depth ≡ nra_run_to D depth
rows_same k n D E zero other up = refl
rows_same k n D E (suc depth) other up =
    ap₂ (λ xs ys. xs ++ ys) (rows_same k n D E depth other (omega arith))
    (block_same 0 (suc depth) D E other.agrees.lists (λ i l. row_same k n D E i (suc depth) other l (omega arith) up))

-- ---- so is the depth
stop_same : (k n : ℕ) (D E : List (List Row)) (depth : ℕ) → IsOther k n D E → depth ≤ fa_depth k D → fa_stop k E depth ≡ fa_stop k D depth
stop_same k n D E depth other up =
    let within = (fa_depth_is_least k n D other.asked).within in
    let asked = other_asked k n D E other in
    stop_shown k n depth E asked.table asked.lists (omega arith)
    ∙ ap₂ (λ m A. nat_le k (known_whole m A)) other.agrees.lists (rows_same k n D E depth other up)
    ∙ sym (stop_shown k n depth D other.asked.table other.asked.lists (omega arith))

depth_same : (k n : ℕ) (D E : List (List Row)) → IsOther k n D E → fa_depth k E ≡ fa_depth k D
depth_same k n D E other =
    let own = fa_depth_is_least k n D other.asked in
    let others = fa_depth_is_least k n E (other_asked k n D E other) in
    elim (cases_lt (fa_depth k E) (fa_depth k D)) [
      | inl less ↦ absurd (
          let up : fa_depth k E ≤ fa_depth k D = omega arith in
          true≢false (sym others.stops ∙ stop_same k n D E (fa_depth k E) other up ∙ own.least (fa_depth k E) others.from_one less))
      | inr ge ↦ elim (cases_lt (fa_depth k D) (fa_depth k E)) [
        | inl more ↦ absurd (
            let up : fa_depth k D ≤ fa_depth k D = omega arith in
            true≢false (sym own.stops ∙ sym (stop_same k n D E (fa_depth k D) other up) ∙ others.least (fa_depth k D) own.from_one more))
        | inr le ↦ omega arith
      ]
    ]

fa_rows_same : (k n : ℕ) (D E : List (List Row)) → IsOther k n D E → fa_rows k E ≡ fa_rows k D
fa_rows_same k n D E other =
    let up : fa_depth k D ≤ fa_depth k D = omega arith in
    ap (nra_run_to E) (depth_same k n D E other) ∙ rows_same k n D E (fa_depth k D) other up

-- ---- and the grades of the seen objects
grade_same : (k n : ℕ) (D E : List (List Row)) (object list : ℕ) → IsOther k n D E → Contains (fa_seen k D) object → list < length D
    → grade_in (list_at E list) object ≡ grade_in (list_at D list) object
grade_same k n D E object list other seen l =
    let run : List Access = fa_run k D in
    elim (option_cases (known_grade run object list)) [
      | inl none ↦ absurd (true≢false (ap (λ (o : Option ℕ). is_none o) (sym none) ∙ each_known (length D) run object list (fa_knows k D object seen) l))
      | inr some ↦ known_grade_is (length D) n E run object list some.0 other.agrees l some.1 ∙ sym (known_grade_is (length D) n D run object list some.0 (fa_run_agrees k n D other.asked) l some.1)
    ]

flat_map_same : (f g : ℕ → List Access) (xs : List ℕ) → ((x : ℕ) → Contains xs x → f x ≡ g x) → flat_map f xs ≡ flat_map g xs
flat_map_same f g [] h = refl
flat_map_same f g (x ∷ xs) h = ap₂ (λ ys zs. ys ++ zs) (h x (contains_here x xs)) (flat_map_same f g xs (λ y c. h y (contains_there x xs y c)))

missing_same : (k n : ℕ) (D E : List (List Row)) (object : ℕ) → IsOther k n D E → Contains (fa_seen k D) object
    → missing_grades E (fa_rows k D) object ≡ missing_grades D (fa_rows k D) object
missing_same k n D E object other seen =
    let A : List Access = fa_rows k D in
    ap (λ m. map (λ list. Random list object (grade_in (list_at E list) object)) (unknown_lists m A object)) other.agrees.lists
    ∙ map_same (λ list. Random list object (grade_in (list_at E list) object)) (λ list. Random list object (grade_in (list_at D list) object)) (unknown_lists (length D) A object) (λ list c.
    let kept = contains_from_filter (λ l. is_none (known_grade A object l)) (list_numbers (length D)) list c in
    ap (λ grade. Random list object grade) (grade_same k n D E object list other seen (number_below (length D) list kept.0)))

pub run_same : (k n : ℕ) (D E : List (List Row)) → IsOther k n D E → fa_run k E ≡ fa_run k D
run_same k n D E other =
    ap (λ A. A ++ flat_map (missing_grades E A) (seen_objects A)) (fa_rows_same k n D E other)
    ∙ ap (λ B. fa_rows k D ++ B) (flat_map_same (missing_grades E (fa_rows k D)) (missing_grades D (fa_rows k D)) (fa_seen k D) (λ o c. missing_same k n D E o other c))

-- ---- so the answer is the same
abbrev with_aggregate : ℕ → ℕ → Item
with_aggregate object v = record { object = object; low = v; high = v }

scored_same : (V : List ℕ → ℕ) (k n : ℕ) (D E : List (List Row)) (object : ℕ) → IsOther k n D E → Contains (fa_seen k D) object
    → scored V E object ≡ scored V D object
scored_same V k n D E object other seen =
    let grades : aggregate V E object ≡ aggregate V D object =
    ap V (grades_by_number (length D) E object other.agrees.lists
    ∙ map_same (λ list. grade_in (list_at E list) object) (λ list. grade_in (list_at D list) object) (list_numbers (length D)) (λ list c. grade_same k n D E object list other seen (number_below (length D) list c))
    ∙ sym (grades_by_number (length D) D object refl)) in
    ap (with_aggregate object) grades

pub answer_same : (V : List ℕ → ℕ) (k n : ℕ) (D E : List (List Row)) → IsOther k n D E → fa_answer V k E ≡ fa_answer V k D
answer_same V k n D E other =
    ap (λ A. first_k k (map (scored V E) (seen_objects A))) (fa_rows_same k n D E other)
    ∙ ap (first_k k) (map_same (scored V E) (scored V D) (fa_seen k D) (λ o c. scored_same V k n D E o other c))

pub fa_fixes : (V : List ℕ → ℕ) (k n : ℕ) (D : List (List Row)) → IsMonotone V → IsAsked k n D
    → Fixes V k (length D) n (fa_run k D) (item_objects (fa_answer V k D))
fa_fixes V k n D monotone asked O set holds =
    let top = fa_answer_top V k n D monotone asked in
    record {
      sized = top.sized;
      distinct = top.distinct;
      members = all_from_members (Contains O) (item_objects (fa_answer V k D)) (λ o c.
          member_of_all (Contains O) (named_objects (fa_run k D)) o holds (seen_is_named (fa_run k D) o (seen_of_rows k D o (answer_seen V k D o c))));
      always = λ E agrees over.
          let other : IsOther k n D E = record { asked = asked; agrees = agrees } in
          subst (λ (items : List Item). IsTop V k E (item_objects items)) (answer_same V k n D E other) (fa_answer_top V k n E monotone (other_asked k n D E other));
    }
