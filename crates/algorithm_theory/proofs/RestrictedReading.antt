-- What the algorithm reads of a table: so many rows of each list of Z and none of another, and the grades of the seen objects.
use Rattle.std.proofs.Common.{◌≡◌, ◌≢◌, ℕ, zero, suc, ◌+◌, ◌-◌, ◌<◌, ◌≤◌, inl, inr, Bool, true, false, cond, List, [], ◌∷◌, ◌++◌, length, map, Contains, Some, get_or, refl, sym, ap, subst, ◌∙◌, arith, append-nil, append_assoc}
use Rattle.std.specs.List.{slice_get, flat_map}
use Rattle.std.proofs.lemmas.Bool.{cases_Bool, cases_order, true≢false}
use Rattle.std.proofs.lemmas.List.{map-append}
use Rattle.std.proofs.lemmas.Option.{slice_get-get_or}
use Rattle.ranked_list.specs.declared.row.Row.{Row}
use Rattle.ranked_list.specs.Table.{IsTable, top_grade}
use Rattle.ranked_list.proofs.RankLaws.{no_row}
use Rattle.topk_theory.specs.declared.access.Access.{Access}
use Rattle.topk_theory.specs.Transcript.{Agrees, Gives, whole, last_grade, list_at, list_numbers, sorted_rows, seen_objects, depth_of, bottom_of}
use Rattle.topk_theory.specs.Bounds.{threshold}
use Rattle.topk_theory.specs.Threshold.{row_at}
use Rattle.topk_theory.specs.Combined.{missing_grades}
use Rattle.topk_theory.proofs.AgreementRows.{list_at_length}
use Rattle.topk_theory.proofs.Agreement.{agrees_push, agrees_none, depth_of_sorted, depth_of_other, bottom_of_sorted, bottom_of_other, sorted_rows_append, seen_in_table}
use Rattle.topk_theory.proofs.ListNumbers.{number_below}
use Rattle.topk_theory.proofs.ThresholdLists.{map_same}
use Rattle.topk_theory.proofs.CombinedRun.{Asks, asks_unsorted, asks_agree}
use Rattle.algorithm_theory.proofs.FaginRuns.{each_asks}
use Rattle.algorithm_theory.specs.Restricted.{lists_in, taz_bottom, taz_threshold, read_at, row_of_first, with_grades, taz_run_to}
use Rattle.algorithm_theory.proofs.RestrictedLists.{lists_with, lists_without}

-- the grade of a row at a depth
abbrev grade_at : List (List Row) → ℕ → ℕ → ℕ
grade_at D depth list = (row_at (list_at D list) depth).grade

-- the accesses are the table's: so many rows of each list of Z, one more of those before a list, and none of any other; the last row that was
-- read of a list gives its bottom
pub record IsRead (Z : ℕ → Bool) (n : ℕ) (D : List (List Row)) (A : List Access) (depth list : ℕ) : Type 0 where
  pub agrees : Agrees (length D) n D A
  pub before : (other : ℕ) → other < list → Z other ≡ true → depth_of other A ≡ suc depth
  pub from : (other : ℕ) → list ≤ other → other < length D → Z other ≡ true → depth_of other A ≡ depth
  pub none : (other : ℕ) → Z other ≡ false → depth_of other A ≡ 0
  pub bottom_before : (other : ℕ) → other < list → Z other ≡ true → bottom_of other A ≡ grade_at D (suc depth) other
  pub bottom_from : (other : ℕ) → list ≤ other → other < length D → Z other ≡ true → 1 ≤ depth → bottom_of other A ≡ grade_at D depth other

pub nothing_read : (Z : ℕ → Bool) (n : ℕ) (D : List (List Row)) → IsTable n D → IsRead Z n D [] 0 0
nothing_read Z n D t = record {
  agrees = agrees_none n D t;
  before = λ other l z. absurd (omega arith);
  from = λ other ge l z. refl;
  none = λ other f. refl;
  bottom_before = λ other l z. absurd (omega arith);
  bottom_from = λ other ge l z positive. absurd (omega arith);
}

pub no_rows : (rows : List Row) → length rows ≡ 0 → rows ≡ []
no_rows [] e = refl
no_rows (row ∷ rows) e = absurd (omega arith)

-- ---- one row more
row_given : (n depth list : ℕ) (D : List (List Row)) (A : List Access) → IsTable n D → depth < n → list < length D → depth_of list A ≡ depth
    → Gives (whole D) A (read_at D (suc depth) list)
row_given n depth list D A t deep l at =
    let long : length (list_at D list) ≡ n = list_at_length n D list t l in
    let one : suc depth - 1 ≡ depth = omega arith in
    let row : Row = row_at (list_at D list) (suc depth) in
    let there : slice_get (list_at D list) depth ≡ Some (get_or (list_at D list) depth no_row) = slice_get-get_or (list_at D list) depth no_row (omega arith) in
    let same : get_or (list_at D list) depth no_row ≡ row = ap (λ p. get_or (list_at D list) p no_row) (sym one) in
    ap (slice_get (list_at D list)) at ∙ there ∙ ap Some same

pub read_more : (Z : ℕ → Bool) (n : ℕ) (D : List (List Row)) (A : List Access) (depth list : ℕ) → IsTable n D → depth < n → list < length D
    → Z list ≡ true → IsRead Z n D A depth list → IsRead Z n D (A ++ read_at D (suc depth) list ∷ []) depth (suc list)
read_more Z n D A depth list t deep l z h =
    let row : Row = row_at (list_at D list) (suc depth) in
    let here : depth_of list A ≡ depth = h.from list (omega arith) l z in
    record {
      agrees = agrees_push (length D) n D A (read_at D (suc depth) list) h.agrees (row_given n depth list D A t deep l here);
      before = λ other less y. elim (cases_order other list) [
        | inl e ↦ subst (λ x. depth_of x (A ++ read_at D (suc depth) list ∷ []) ≡ suc depth) (sym e) (let one = depth_of_sorted list A row.object row.grade in omega arith)
        | inr apart ↦ elim apart [
          | inl lt ↦ depth_of_other other list A row.object row.grade (λ e. absurd (omega arith)) ∙ h.before other lt y
          | inr gt ↦ absurd (omega arith)
        ]
      ];
      from = λ other ge k y. depth_of_other other list A row.object row.grade (λ e. absurd (omega arith)) ∙ h.from other (omega arith) k y;
      none = λ other f. depth_of_other other list A row.object row.grade (λ e. true≢false (sym z ∙ ap Z e ∙ f)) ∙ h.none other f;
      bottom_before = λ other less y. elim (cases_order other list) [
        | inl e ↦ subst (λ x. bottom_of x (A ++ read_at D (suc depth) list ∷ []) ≡ grade_at D (suc depth) x) (sym e) (bottom_of_sorted list A row.object row.grade)
        | inr apart ↦ elim apart [
          | inl lt ↦ bottom_of_other other list A row.object row.grade (λ e. absurd (omega arith)) ∙ h.bottom_before other lt y
          | inr gt ↦ absurd (omega arith)
        ]
      ];
      bottom_from = λ other ge k y one. bottom_of_other other list A row.object row.grade (λ e. absurd (omega arith)) ∙ h.bottom_from other (omega arith) k y one;
    }

-- a list outside Z is passed over
pub read_past : (Z : ℕ → Bool) (n : ℕ) (D : List (List Row)) (A : List Access) (depth list : ℕ) → Z list ≡ false
    → IsRead Z n D A depth list → IsRead Z n D A depth (suc list)
read_past Z n D A depth list f h = record {
  agrees = h.agrees;
  before = λ other less y. elim (cases_order other list) [
    | inl e ↦ absurd (true≢false (sym y ∙ ap Z e ∙ f))
    | inr apart ↦ elim apart [ inl lt ↦ h.before other lt y | inr gt ↦ absurd (omega arith) ]
  ];
  from = λ other ge k y. h.from other (omega arith) k y;
  none = h.none;
  bottom_before = λ other less y. elim (cases_order other list) [
    | inl e ↦ absurd (true≢false (sym y ∙ ap Z e ∙ f))
    | inr apart ↦ elim apart [ inl lt ↦ h.bottom_before other lt y | inr gt ↦ absurd (omega arith) ]
  ];
  bottom_from = λ other ge k y one. h.bottom_from other (omega arith) k y one;
}

-- ---- the row of a depth, down to a list
pub row_more : (Z : ℕ → Bool) (D : List (List Row)) (A : List Access) (depth list : ℕ) → Z list ≡ true
    → A ++ row_of_first Z D depth (suc list) ≡ (A ++ row_of_first Z D depth list) ++ read_at D depth list ∷ []
row_more Z D A depth list t =
    ap (λ ls. A ++ map (read_at D depth) ls) (lists_with Z list t)
    ∙ ap (λ B. A ++ B) (map-append (read_at D depth) (lists_in Z list) (list ∷ []))
    ∙ sym (append_assoc A (row_of_first Z D depth list) (read_at D depth list ∷ []))

pub row_read : (Z : ℕ → Bool) (n : ℕ) (D : List (List Row)) (A : List Access) (depth list : ℕ) → IsTable n D → depth < n → list ≤ length D
    → IsRead Z n D A depth 0 → IsRead Z n D (A ++ row_of_first Z D (suc depth) list) depth list
row_read Z n D A depth zero t deep l h = subst (λ B. IsRead Z n D B depth 0) (sym (append-nil A)) h
row_read Z n D A depth (suc list) t deep l h =
    let so_far : IsRead Z n D (A ++ row_of_first Z D (suc depth) list) depth list = row_read Z n D A depth list t deep (omega arith) h in
    elim (cases_Bool (Z list)) [
      | inl z ↦ subst (λ B. IsRead Z n D B depth (suc list)) (sym (row_more Z D A (suc depth) list z))
          (read_more Z n D (A ++ row_of_first Z D (suc depth) list) depth list t deep (omega arith) z so_far)
      | inr f ↦ subst (λ ls. IsRead Z n D (A ++ map (read_at D (suc depth)) ls) depth (suc list)) (sym (lists_without Z list f))
          (read_past Z n D (A ++ row_of_first Z D (suc depth) list) depth list f so_far)
    ]

-- the whole row
pub depth_over : (Z : ℕ → Bool) (n : ℕ) (D : List (List Row)) (A : List Access) (depth : ℕ) → IsRead Z n D A depth (length D) → IsRead Z n D A (suc depth) 0
depth_over Z n D A depth h = record {
  agrees = h.agrees;
  before = λ other less y. absurd (omega arith);
  from = λ other ge k y. h.before other k y;
  none = h.none;
  bottom_before = λ other less y. absurd (omega arith);
  bottom_from = λ other ge k y one. h.bottom_before other k y;
}

-- ---- the grades that are missing then
pub grades_ask : (D : List (List Row)) (A : List Access) (a : Access) → Contains (flat_map (missing_grades D A) (seen_objects A)) a
    → Asks D (Contains (seen_objects A)) a
grades_ask D A a c = each_asks D A (seen_objects A) (Contains (seen_objects A)) a (λ o h. h) c

asks_unread : (D : List (List Row)) (may : ℕ → Type 0) (A B : List Access) (list : ℕ) → ((a : Access) → Contains B a → Asks D may a)
    → sorted_rows list (A ++ B) ≡ sorted_rows list A
asks_unread D may A B list each =
    sorted_rows_append list A B ∙ ap (λ rows. sorted_rows list A ++ rows) (asks_unsorted D may list B each) ∙ append-nil (sorted_rows list A)

pub grades_read : (Z : ℕ → Bool) (n : ℕ) (D : List (List Row)) (A : List Access) (depth list : ℕ) → IsTable n D → IsRead Z n D A depth list
    → IsRead Z n D (with_grades D A) depth list
grades_read Z n D A depth list t h =
    let B : List Access = flat_map (missing_grades D A) (seen_objects A) in
    let rows : (other : ℕ) → sorted_rows other (A ++ B) ≡ sorted_rows other A = λ other. asks_unread D (Contains (seen_objects A)) A B other (grades_ask D A) in
    let same : (other : ℕ) → depth_of other (A ++ B) ≡ depth_of other A = λ other. ap length (rows other) in
    let bottom : (other : ℕ) → bottom_of other (A ++ B) ≡ bottom_of other A = λ other. ap (last_grade top_grade) (rows other) in
    record {
      agrees = asks_agree n D (Contains (seen_objects A)) A B t (λ o seen. seen_in_table (length D) n D A o h.agrees seen) h.agrees (grades_ask D A);
      before = λ other less y. same other ∙ h.before other less y;
      from = λ other ge k y. same other ∙ h.from other ge k y;
      none = λ other f. same other ∙ h.none other f;
      bottom_before = λ other less y. bottom other ∙ h.bottom_before other less y;
      bottom_from = λ other ge k y one. bottom other ∙ h.bottom_from other ge k y one;
    }

-- down to a depth
pub run_read : (Z : ℕ → Bool) (n depth : ℕ) (D : List (List Row)) → IsTable n D → depth ≤ n → IsRead Z n D (taz_run_to Z D depth) depth 0
run_read Z n zero D t l = nothing_read Z n D t
run_read Z n (suc depth) D t l =
    let A : List Access = taz_run_to Z D depth in
    let row : List Access = A ++ row_of_first Z D (suc depth) (length D) in
    grades_read Z n D row (suc depth) 0 t
    (depth_over Z n D row depth (row_read Z n D A depth (length D) t (omega arith) (omega arith) (run_read Z n depth D t (omega arith))))

-- ---- the threshold at a depth is that of the transcript
bottom_is : (Z : ℕ → Bool) (n : ℕ) (D : List (List Row)) (A : List Access) (depth list : ℕ) → IsRead Z n D A depth 0 → 1 ≤ depth → list < length D
    → bottom_of list A ≡ taz_bottom Z D depth list
bottom_is Z n D A depth list h one l =
    elim (cases_Bool (Z list)) [
      | inl z ↦ h.bottom_from list (omega arith) l z one ∙ sym (ap (λ b. cond b (grade_at D depth list) top_grade) z)
      | inr f ↦ ap (last_grade top_grade) (no_rows (sorted_rows list A) (h.none list f)) ∙ sym (ap (λ b. cond b (grade_at D depth list) top_grade) f)
    ]

pub threshold_is : (V : List ℕ → ℕ) (Z : ℕ → Bool) (n : ℕ) (D : List (List Row)) (A : List Access) (depth : ℕ) → IsRead Z n D A depth 0 → 1 ≤ depth
    → threshold V (length D) A ≡ taz_threshold V Z D depth
threshold_is V Z n D A depth h one =
    ap V (map_same (λ list. bottom_of list A) (taz_bottom Z D depth) (list_numbers (length D)) (λ list c. bottom_is Z n D A depth list h one (number_below (length D) list c)))

pub run_threshold : (V : List ℕ → ℕ) (n depth : ℕ) (Z : ℕ → Bool) (D : List (List Row)) → IsTable n D → 1 ≤ depth → depth ≤ n
    → threshold V (length D) (taz_run_to Z D depth) ≡ taz_threshold V Z D depth
run_threshold V n depth Z D t one within = threshold_is V Z n D (taz_run_to Z D depth) depth (run_read Z n depth D t within) one
