-- The accesses of a depth, list by list.
use Rattle.std.proofs.Common.{◌≡◌, ℕ, zero, suc, ◌+◌, ◌-◌, ◌<◌, ◌≤◌, nat_lt, true, false, inl, inr, cond, List, [], ◌∷◌, ◌++◌, length, map, take, drop, get_or, slice_index_or, refl, sym, ap, subst, ◌∙◌, arith, append_assoc, append-nil, All}
use Rattle.std.specs.List.{flat_map}
use Rattle.std.proofs.lemmas.Bool.{cases_Bool, cond-true, cond-false}
use Rattle.std.proofs.lemmas.List.{take_more, drop_more, drop_all, map-append}
use Rattle.std.proofs.lemmas.List.Concat.{flat_map-cons}
use Rattle.std.proofs.lemmas.Grind.{flat_map-append}
use Rattle.ranked_list.specs.declared.row.Row.{Row}
use Rattle.ranked_list.specs.Table.{place_in, grade_in, objects, top_grade}
use Rattle.topk_theory.specs.declared.access.Access.{Access}
use Rattle.topk_theory.specs.declared.access.Access.TheVariants.{Sorted, Random}
use Rattle.topk_theory.specs.Transcript.{each_once}
use Rattle.topk_theory.specs.Threshold.{row_at, sorted_block, random_block, ta_block, ta_run_to}
use Rattle.topk_theory.proofs.AgreementLists.{contains_map_from, all_from_members, member_of_all}
use Rattle.topk_theory.proofs.AgreementNames.{has, has_contains, has_not, each_once_push_old, each_once_push_new}
use Rattle.monotone_fn.specs.Tree.{Tree}
use Rattle.monotone_fn.specs.Limits.{AreGrades}
use Rattle.test_plain.specs.Posed.{IsPosed, no_row}
use Rattle.test_plain.proofs.Reading.{grade_at_place}

-- what is there, and the block of the lists that are left, is the whole
abbrev pub sorted_so_far : List Access → ℕ → ℕ → List (List Row) → List Access
sorted_so_far accesses list depth D = accesses ++ sorted_block list depth (drop list D)

abbrev pub random_so_far : List Access → ℕ → ℕ → ℕ → List (List Row) → List Access
random_so_far accesses list depth object D = accesses ++ random_block list depth object (drop list D)

-- one more list
pub sorted_more : (D : List (List Row)) (accesses new whole : List Access) (list depth : ℕ) (rows d : List Row) (row : Row) → list < length D
    → rows ≡ slice_index_or D list d → row ≡ row_at rows depth → new ≡ accesses ++ Sorted list row.object row.grade ∷ []
    → sorted_so_far accesses list depth D ≡ whole → sorted_so_far new (list + 1) depth D ≡ whole
sorted_more D accesses new whole list depth rows d row l at read e h =
    ap (λ (xs : List Access). xs ++ sorted_block (list + 1) depth (drop (list + 1) D))
    (e ∙ ap (λ (r : Row). accesses ++ Sorted list r.object r.grade ∷ []) (read ∙ ap (λ rs. row_at rs depth) at))
    ∙ append_assoc accesses (Sorted list (row_at (slice_index_or D list d) depth).object (row_at (slice_index_or D list d) depth).grade ∷ []) (sorted_block (list + 1) depth (drop (list + 1) D))
    ∙ ap (λ rs. accesses ++ sorted_block list depth rs) (sym (drop_more D list d l)) ∙ h

pub sorted_all : (D : List (List Row)) (accesses whole : List Access) (list depth : ℕ) → length D ≤ list → sorted_so_far accesses list depth D ≡ whole → accesses ≡ whole
sorted_all D accesses whole list depth l h = sym (append-nil accesses) ∙ ap (λ rs. accesses ++ sorted_block list depth rs) (sym (drop_all list D l)) ∙ h

block_split : (list depth object : ℕ) (rows : List Row) (D : List (List Row))
    → random_block list depth object (rows ∷ []) ++ random_block (list + 1) depth object D ≡ random_block list depth object (rows ∷ D)
block_split list depth object rows D = elim (nat_lt (place_in rows object) depth) as (λ t. cond {A = List Access} t [] (Random list object (grade_in rows object) ∷ []) ++ random_block (list + 1) depth object D ≡ cond {A = List Access} t (random_block (list + 1) depth object D) (Random list object (grade_in rows object) ∷ random_block (list + 1) depth object D)) [
  | true ↦ refl
  | false ↦ refl
]

pub random_more : (D : List (List Row)) (accesses new whole : List Access) (list depth object : ℕ) (rows d : List Row) → list < length D
    → rows ≡ slice_index_or D list d → new ≡ accesses ++ random_block list depth object (rows ∷ [])
    → random_so_far accesses list depth object D ≡ whole → random_so_far new (list + 1) depth object D ≡ whole
random_more D accesses new whole list depth object rows d l at e h =
    ap (λ (xs : List Access). xs ++ random_block (list + 1) depth object (drop (list + 1) D))
    (e ∙ ap (λ rs. accesses ++ random_block list depth object (rs ∷ [])) at)
    ∙ append_assoc accesses (random_block list depth object (slice_index_or D list d ∷ [])) (random_block (list + 1) depth object (drop (list + 1) D))
    ∙ ap (λ (xs : List Access). accesses ++ xs) (block_split list depth object (slice_index_or D list d) (drop (list + 1) D))
    ∙ ap (λ rs. accesses ++ random_block list depth object rs) (sym (drop_more D list d l)) ∙ h

pub random_all : (D : List (List Row)) (accesses whole : List Access) (list depth object : ℕ) → length D ≤ list → random_so_far accesses list depth object D ≡ whole
    → accesses ≡ whole
random_all D accesses whole list depth object l h =
    sym (append-nil accesses) ∙ ap (λ rs. accesses ++ random_block list depth object rs) (sym (drop_all list D l)) ∙ h

-- the accesses of one more of those that are asked for
pub flat_more : {X : Type 0} → (f : X → List Access) (xs : List X) (i : ℕ) (d : X) (before old new : List Access) → i < length xs → new ≡ old ++ f (get_or xs i d)
    → old ≡ before ++ flat_map f (take i xs) → new ≡ before ++ flat_map f (take (i + 1) xs)
flat_more f xs i d before old new l e h =
    let last : flat_map f (get_or xs i d ∷ []) ≡ f (get_or xs i d) = flat_map-cons f (get_or xs i d) [] ∙ append-nil (f (get_or xs i d)) in
    let whole : flat_map f (take (i + 1) xs) ≡ flat_map f (take i xs) ++ f (get_or xs i d) = ap (flat_map f) (take_more xs i d l)
    ∙ (flat_map-append f (take i xs) (get_or xs i d ∷ []) ∙ ap (λ (ys : List Access). flat_map f (take i xs) ++ ys) last) in
    e ∙ ap (λ (ys : List Access). ys ++ f (get_or xs i d)) h ∙ append_assoc before (flat_map f (take i xs)) (f (get_or xs i d))
    ∙ ap (λ (ys : List Access). before ++ ys) (sym whole)

-- one more of those that are made
pub map_more : {X Y : Type 0} → (f : X → Y) (xs : List X) (i : ℕ) (d : X) (old new : List Y) → i < length xs → new ≡ old ++ f (get_or xs i d) ∷ []
    → old ≡ map f (take i xs) → new ≡ map f (take (i + 1) xs)
map_more f xs i d old new l e h =
    e ∙ ap (λ ys. ys ++ f (get_or xs i d) ∷ []) h ∙ sym (map-append f (take i xs) (get_or xs i d ∷ [])) ∙ ap (map f) (sym (take_more xs i d l))

-- one more depth
pub run_more : (D : List (List Row)) (old new : List Access) (depth : ℕ) → new ≡ old ++ ta_block D (depth + 1) → old ≡ ta_run_to D depth
    → new ≡ ta_run_to D (depth + 1)
run_more D old new depth e h =
    let next : depth + 1 ≡ suc depth = omega arith in
    subst (λ n. new ≡ ta_run_to D n) (sym next) (e ∙ ap (λ n. old ++ ta_block D n) next ∙ ap (λ (xs : List Access). xs ++ ta_block D (suc depth)) h)

-- one more row's object
pub objects_more : (rows : List Row) (place : ℕ) (row : Row) (old new : List ℕ) → place < length rows → row ≡ slice_index_or rows place no_row
    → new ≡ old ++ row.object ∷ [] → old ≡ objects (take place rows) → new ≡ objects (take (place + 1) rows)
objects_more rows place row old new l read e h =
    e ∙ ap (λ (xs : List ℕ). xs ++ row.object ∷ []) h ∙ ap (λ (r : Row). objects (take place rows) ++ r.object ∷ []) read
    ∙ sym (map-append (λ (r : Row). r.object) (take place rows) (slice_index_or rows place no_row ∷ []))
    ∙ ap objects (sym (take_more rows place no_row l))

-- one more object at the end, unless it is there
pub each_once_step : (xs : List ℕ) (x : ℕ) → cond (has x (each_once xs)) (each_once xs) (each_once xs ++ x ∷ []) ≡ each_once (xs ++ x ∷ [])
each_once_step xs x =
    elim (cases_Bool (has x (each_once xs))) [
      | inl t ↦ cond-true (has x (each_once xs)) (each_once xs) (each_once xs ++ x ∷ []) t ∙ sym (each_once_push_old xs x (has_contains x (each_once xs) t))
      | inr f ↦ cond-false (has x (each_once xs)) (each_once xs) (each_once xs ++ x ∷ []) f ∙ sym (each_once_push_new xs x (has_not x (each_once xs) f))
    ]

pub each_once_more : {X : Type 0} → (f : X → ℕ) (D : List X) (i : ℕ) (d : X) (old new : List ℕ) → i < length D → old ≡ each_once (map f (take i D))
    → new ≡ cond (has (f (slice_index_or D i d)) old) old (old ++ f (slice_index_or D i d) ∷ []) → new ≡ each_once (map f (take (i + 1) D))
each_once_more f D i d old new l h e =
    e ∙ ap (λ z. cond (has (f (slice_index_or D i d)) z) z (z ++ f (slice_index_or D i d) ∷ [])) h
    ∙ each_once_step (map f (take i D)) (f (slice_index_or D i d))
    ∙ ap each_once (sym (map-append f (take i D) (slice_index_or D i d ∷ [])) ∙ ap (map f) (sym (take_more D i d l)))

-- grades of a posed table
pub posed_capped : (D : List (List Row)) (e : Tree) → IsPosed D e → All (λ rows. All (λ (row : Row). row.grade ≤ top_grade) rows) D
posed_capped D e h = λ i d l. (h.table.1.ranked i d l).capped

pub grades_capped : (D : List (List Row)) (e : Tree) (f : List Row → ℕ) (grades : List ℕ) → IsPosed D e
    → ((rows : List Row) → All (λ (row : Row). row.grade ≤ top_grade) rows → f rows ≤ top_grade) → take (length D) grades ≡ map f D
    → AreGrades (take (length D) grades)
grades_capped D e f grades h low same =
    subst AreGrades (sym same) (all_from_members (λ g. g ≤ top_grade) (map f D) (λ g c.
    let from = contains_map_from f D g c in
    subst (λ z. z ≤ top_grade) from.2 (low from.0 (member_of_all (λ rows. All (λ (row : Row). row.grade ≤ top_grade) rows) D from.0 (posed_capped D e h) from.1))))

pub read_capped : (rows : List Row) (place : ℕ) → All (λ (row : Row). row.grade ≤ top_grade) rows → (slice_index_or rows place no_row).grade ≤ top_grade
read_capped [] place h = omega arith
read_capped (row ∷ rows) zero h = h 0 row (omega arith)
read_capped (row ∷ rows) (suc place) h = read_capped rows place (λ k d l. h (suc k) d (omega arith))

pub aggregate_capped : (D : List (List Row)) (e : Tree) (object : ℕ) (grades : List ℕ) → IsPosed D e
    → take (length D) grades ≡ map (λ rows. grade_in rows object) D → AreGrades (take (length D) grades)
aggregate_capped D e object grades h same =
    grades_capped D e (λ rows. grade_in rows object) grades h (λ rows a. subst (λ g. g ≤ top_grade) (grade_at_place rows object) (read_capped rows (place_in rows object) a)) same

pub threshold_capped : (D : List (List Row)) (e : Tree) (depth : ℕ) (grades : List ℕ) → IsPosed D e
    → take (length D) grades ≡ map (λ rows. (row_at rows depth).grade) D → AreGrades (take (length D) grades)
threshold_capped D e depth grades h same =
    grades_capped D e (λ rows. (row_at rows depth).grade) grades h (λ rows a. read_capped rows (depth - 1) a) same
