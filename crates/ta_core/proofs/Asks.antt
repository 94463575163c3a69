-- The end of a row, its random accesses, and the beginning of the next one: the machine stays on the run.
use Rattle.std.proofs.Common.{◌≡◌, ◌≢◌, ℕ, zero, suc, ◌+◌, ◌-◌, ◌<◌, ◌≤◌, inl, inr, Bool, true, false, not, cond, List, [], ◌∷◌, ◌++◌, length, map, take, drop, filter, AllPairs, Contains, slice_index_or, slice_index, refl, sym, ap, subst, ◌∙◌, arith, append_assoc, append-nil, length-append, eq-eqb, nat_lt}
use Rattle.std.specs.List.{flat_map}
use Rattle.std.proofs.lemmas.Bool.{cases_lt, ltb-false, not-true}
use Rattle.std.proofs.lemmas.List.{drop-map, take_all, drop_all}
use Rattle.std.proofs.Math.Seq.{take-suc, drop-cons}
use Rattle.std.proofs.lemmas.List.Kept.{AllPairs-filter}
use Rattle.ranked_list.specs.declared.row.Row.{Row}
use Rattle.ranked_list.specs.Table.{IsTable, place_in, grade_in}
use Rattle.topk_theory.specs.declared.access.Access.{Access}
use Rattle.topk_theory.specs.declared.access.Access.TheVariants.{Sorted, Random}
use Rattle.monotone_fn.specs.Value.{IsMonotone}
use Rattle.topk_theory.specs.Aggregate.{objects_of, grades_of, aggregate}
use Rattle.topk_theory.specs.Transcript.{Agrees, list_at, seen_objects, each_once}
use Rattle.topk_theory.specs.Threshold.{row_at, stands, sorted_block, new_objects, random_block, ta_block, ta_run_to}
use Rattle.topk_theory.proofs.AgreementLists.{contains_here, contains_there, contains_map_from, distinct_tail}
use Rattle.topk_theory.proofs.AgreementNames.{each_once_within, each_once_distinct}
use Rattle.topk_theory.proofs.AgreementRows.{list_at_contains}
use Rattle.topk_theory.proofs.Agreement.{agrees_gives, gives_grade}
use Rattle.topk_theory.proofs.ThresholdLists.{contains_from_filter, none_from_any, length-map}
use Rattle.ranked_list.proofs.RankLaws.{no_row}
use Rattle.topk_theory.proofs.ThresholdTables.{place_in-lt, object-at_place}
use Rattle.topk_theory.proofs.ThresholdDepth.{list_holds, table_holds}
use Rattle.topk_theory.proofs.ThresholdRun.{row_object, random_block_lower}
use Rattle.machine_base.specs.Board.{with_new}
use Rattle.ta_core.specs.Reading.{RowProgress, grades_in_row, filled, filled_first, first_or_zero, row_added, grade_added, row_begun}
use Rattle.ta_core.specs.OnTable.{objects_at, bottoms_at, OnRow, asks, AreFirstGrades, OnAsks}
use Rattle.machine_base.proofs.Depths.{next_reached}
use Rattle.machine_base.proofs.Rows.{read_none}
use Rattle.ta_core.specs.Halting.{Halt, halts_at, halting_depth}
use Rattle.ta_core.proofs.HaltingLaws.{IsHalting, own}
use Rattle.ta_core.proofs.Rows.{added}
use Rattle.ta_core.proofs.Fills.{skips, row_grades}

drop_more : {X : Type 0} (xs : List X) (j k : ℕ) → drop k (drop j xs) ≡ drop (j + k) xs
drop_more xs zero k = let e : k ≡ 0 + k = omega arith in ap (λ p. drop p xs) e
drop_more [] (suc j) k = drop_all k [] (omega arith) ∙ sym (drop_all (suc j + k) [] (omega arith))
drop_more (x ∷ xs) (suc j) k =
    let e : suc (j + k) ≡ suc j + k = omega arith in
    drop_more xs j k ∙ ap (λ p. drop p (x ∷ xs)) e

take_more : {X : Type 0} (xs : List X) (j k : ℕ) → take (j + k) xs ≡ take j xs ++ take k (drop j xs)
take_more xs zero k = let e : 0 + k ≡ k = omega arith in ap (λ p. take p xs) e
take_more [] (suc j) k = take_all (suc j + k) [] (omega arith) ∙ sym (take_all k [] (omega arith))
take_more (x ∷ xs) (suc j) k =
    let e : suc j + k ≡ suc (j + k) = omega arith in
    ap (λ p. take p (x ∷ xs)) e ∙ ap (λ ys. x ∷ ys) (take_more xs j k)

pub map_at : {X : Type 0} (f : X → ℕ) (xs : List X) (k : ℕ) (d : X) → k < length xs → slice_index (map f xs) k ≡ f (slice_index_or xs k d)
map_at f [] k d l = absurd (omega arith)
map_at f (x ∷ xs) zero d l = refl
map_at f (x ∷ xs) (suc k) d l = map_at f xs k d (omega arith)

-- the run down to a depth ends with its block
pub run_at : (D : List (List Row)) (depth : ℕ) → 1 ≤ depth → ta_run_to D depth ≡ ta_run_to D (depth - 1) ++ ta_block D depth
run_at D zero l = absurd (omega arith)
run_at D (suc depth) l = let e : depth ≡ suc depth - 1 = omega arith in ap (λ d. ta_run_to D d ++ ta_block D (suc depth)) e

-- with the grades of the row in place, the accesses of what waits are those of the whole objects
asks_first : (n : ℕ) (D : List (List Row)) (depth : ℕ) (waiting : List ℕ) → IsTable n D → 1 ≤ depth → depth ≤ n
    → asks D depth waiting (filled_first (objects_at depth D) (bottoms_at depth D) waiting) ≡ flat_map (λ object. random_block 0 depth object D) waiting
asks_first n D depth [] t positive within = refl
asks_first n D depth (object ∷ waiting) t positive within =
    let g : List ℕ = grades_in_row object (objects_at depth D) (bottoms_at depth D) in
    let zero_on : 0 + length g ≡ length g = omega arith in
    ap (λ block. block ++ flat_map (λ other. random_block 0 depth other D) waiting)
    (ap (λ at. random_block at depth object (drop (length g) D)) (sym zero_on) ∙ sym (skips n D D 0 depth object t (λ rows h. h) positive within))

first_grades : (n : ℕ) (D : List (List Row)) (depth : ℕ) (waiting : List ℕ) → IsTable n D → 1 ≤ depth → depth ≤ n
    → AreFirstGrades D waiting (filled_first (objects_at depth D) (bottoms_at depth D) waiting)
first_grades n D depth [] t positive within = tt
first_grades n D depth (object ∷ waiting) t positive within = row_grades n D D depth object t (λ rows h. h) positive within

-- the last row of a depth
pub row_is_last : (V : List ℕ → ℕ) (halt : Halt) (n : ℕ) (D : List (List Row)) (A : List Access) (r : RowProgress) (row : Row) (is_new : Bool) → OnRow V halt n D A r
    → Agrees (length D) n D (A ++ Sorted (length r.objects) row.object row.grade ∷ []) → (is_new ≡ true → ¬ Contains (seen_objects A) row.object)
    → (is_new ≡ false → Contains (seen_objects A) row.object) → suc (length r.objects) ≡ length D
    → OnAsks V halt n D (A ++ Sorted (length r.objects) row.object row.grade ∷ []) (row_added (length D) r row is_new)
row_is_last V halt n D A r row is_new on agrees unseen seen last =
    let a = added V halt n D A r row is_new on agrees unseen seen in
    let d : ℕ = r.depth in
    let t : IsTable n D = agrees.table in
    let positive : 1 ≤ d = on.at.positive in
    let within : d ≤ n = on.at.within in
    let os : List ℕ = r.objects ++ row.object ∷ [] in
    let bs : List ℕ = r.bottoms ++ row.grade ∷ [] in
    let ws : List ℕ = with_new r.waiting row.object is_new in
    let count : length os ≡ length D = omega (arith, length-append r.objects (row.object ∷ [])) in
    let whole : take (suc (length r.objects)) D ≡ D = take_all (suc (length r.objects)) D (omega arith) in
    let os_are : os ≡ objects_at d D = a.objects_are ∙ ap (objects_at d) whole in
    let bs_are : bs ≡ bottoms_at d D = a.bottoms_are ∙ ap (bottoms_at d) whole in
    let grades_are : (row_added (length D) r row is_new).grades ≡ filled_first (objects_at d D) (bottoms_at d D) ws =
    ap (λ b. cond b (filled_first os bs ws) []) (eq-eqb (length os) (length D) count) ∙ ap (λ xs. filled_first xs bs ws) os_are ∙ ap (λ xs. filled_first (objects_at d D) xs ws) bs_are in
    let ws_are : ws ≡ new_objects D d = a.waiting_are ∙ ap (λ xs. filter (λ object. not (stands D (d - 1) object)) (each_once xs)) os_are in
    record {
      at = on.at;
      objects_are = os_are;
      bottoms_are = bs_are;
      new = λ object h.
          let kept = contains_from_filter (λ (o : ℕ). not (stands D (d - 1) o)) (each_once (objects_at d D)) object (subst (λ xs. Contains xs object) ws_are h) in
          let from = contains_map_from (λ (rows : List Row). (row_at rows d).object) D object (each_once_within (objects_at d D) object kept.0) in
          (not-true (stands D (d - 1) object) kept.1, subst (λ o. Contains (objects_of D) o) from.2 (table_holds n D from.0 (row_at from.0 d).object t from.1 (row_object n D from.0 d t from.1 positive within)));
      distinct = subst (AllPairs (λ (one : ℕ) (other : ℕ). one ≢ other)) (sym a.waiting_are) (AllPairs-filter (λ (one : ℕ) (other : ℕ). one ≢ other) (λ object. not (stands D (d - 1) object)) (each_once os) (each_once_distinct os));
      grades_are = subst (AreFirstGrades D ws) (sym grades_are) (first_grades n D d ws t positive within);
      ahead =
          ap (λ g. (A ++ Sorted (length r.objects) row.object row.grade ∷ []) ++ asks D d ws g) grades_are
          ∙ ap (λ rest. (A ++ Sorted (length r.objects) row.object row.grade ∷ []) ++ rest) (asks_first n D d ws t positive within)
          ∙ ap (λ B. B ++ flat_map (λ object. random_block 0 d object D) ws) a.made
          ∙ ap (λ lists. (ta_run_to D (d - 1) ++ sorted_block 0 d lists) ++ flat_map (λ object. random_block 0 d object D) ws) whole
          ∙ ap (λ xs. (ta_run_to D (d - 1) ++ sorted_block 0 d D) ++ flat_map (λ object. random_block 0 d object D) xs) ws_are
          ∙ append_assoc (ta_run_to D (d - 1)) (sorted_block 0 d D) (flat_map (λ object. random_block 0 d object D) (new_objects D d))
          ∙ sym (run_at D d positive);
    }

-- an object that is new stands in no list above the row
new_is_low : (D : List (List Row)) (rows : List Row) (depth object : ℕ) → Contains D rows → stands D (depth - 1) object ≡ false
    → depth - 1 ≤ place_in rows object
new_is_low D rows depth object h s = ltb-false (place_in rows object) (depth - 1) (none_from_any (λ (other : List Row). nat_lt (place_in other object) (depth - 1)) D rows s h)

-- where the row has another object in a list, the object stands lower there
pub stands_lower : (n : ℕ) (D : List (List Row)) (rows : List Row) (depth object : ℕ) → IsTable n D → Contains D rows → 1 ≤ depth
    → Contains (objects_of D) object → stands D (depth - 1) object ≡ false → (row_at rows depth).object ≢ object → depth ≤ place_in rows object
stands_lower n D rows depth object t h positive o new other =
    let low : depth - 1 ≤ place_in rows object = new_is_low D rows depth object h new in
    let held : place_in rows object < length rows = place_in-lt rows object (list_holds n D rows object t h o) in
    elim (cases_lt (place_in rows object) depth) [
      | inl l ↦ let here : place_in rows object ≡ depth - 1 = omega arith in
          absurd (other (ap (λ p. (slice_index_or rows p no_row).object) (sym here) ∙ object-at_place rows object no_row held))
      | inr l ↦ l
    ]

-- one more grade of the first object that waits
pub grade_goes_on : (V : List ℕ → ℕ) (halt : Halt) (n : ℕ) (D : List (List Row)) (A : List Access) (r : RowProgress) (object : ℕ) (waiting : List ℕ) (grade : ℕ)
    → OnAsks V halt n D A r → r.waiting ≡ object ∷ waiting → length r.grades < length D → slice_index r.objects (length r.grades) ≢ object
    → Agrees (length D) n D (A ++ Random (length r.grades) object grade ∷ [])
    → OnAsks V halt n D (A ++ Random (length r.grades) object grade ∷ []) (grade_added r grade)
grade_goes_on V halt n D A r object waiting grade on is short other agrees =
    let d : ℕ = r.depth in
    let t : IsTable n D = agrees.table in
    let positive : 1 ≤ d = on.at.positive in
    let within : d ≤ n = on.at.within in
    let j : ℕ = length r.grades in
    let rows : List Row = list_at D j in
    let rows_in : Contains D rows = list_at_contains D j short in
    let new = on.new object (subst (λ ws. Contains ws object) (sym is) (contains_here object waiting)) in
    let elsewhere : (row_at rows d).object ≢ object = λ e. other (ap (λ os. slice_index os j) on.objects_are ∙ map_at (λ (rows : List Row). (row_at rows d).object) D j [] short ∙ e) in
    let lower : d ≤ place_in rows object = stands_lower n D rows d object t rows_in positive new.1 new.0 elsewhere in
    let graded : grade_in rows object ≡ grade = gives_grade n D A (Random j object grade) t short (agrees_gives (length D) n D A (Random j object grade) [] agrees) in
    let rest : List Access = flat_map (λ o. random_block 0 d o D) waiting in
    let g : List ℕ = r.grades ++ grade ∷ [] in
    let count : length g ≡ suc j = omega (arith, length-append r.grades (grade ∷ [])) in
    let L : List (List Row) = drop (suc j) D in
    let e : List ℕ = grades_in_row object (objects_at d L) (bottoms_at d L) in
    let drops : D ≡ D = refl in
    let split : drop j D ≡ rows ∷ L = drop-cons D j [] short in
    let objects_left : drop (length g) r.objects ≡ objects_at d L = ap (λ c. drop c r.objects) count ∙ ap (drop (suc j)) on.objects_are ∙ drop-map (λ (rows : List Row). (row_at rows d).object) (suc j) D in
    let bottoms_left : drop (length g) r.bottoms ≡ bottoms_at d L = ap (λ c. drop c r.bottoms) count ∙ ap (drop (suc j)) on.bottoms_are ∙ drop-map (λ (rows : List Row). (row_at rows d).grade) (suc j) D in
    let in_L : (other : List Row) → Contains L other → Contains D other = λ other h. contains_dropped D (suc j) other h in
    let g_is : (grade_added r grade).grades ≡ g ++ e =
    ap (λ ws. filled r.objects r.bottoms (first_or_zero ws) g) is
    ∙ ap (λ os. g ++ grades_in_row object os (drop (length g) r.bottoms)) objects_left
    ∙ ap (λ bs. g ++ grades_in_row object (objects_at d L) bs) bottoms_left in
    let g_count : length (g ++ e) ≡ suc j + length e = length-append g e ∙ ap (λ c. c + length e) count in
    let known : r.grades ≡ take j (grades_of D object) = subst (λ ws. AreFirstGrades D ws r.grades) is on.grades_are in
    let graded_at : slice_index (grades_of D object) j ≡ grade = map_at (λ (rows : List Row). grade_in rows object) D j [] short ∙ graded in
    let all_count : length (grades_of D object) ≡ length D = length-map (λ (rows : List Row). grade_in rows object) D in
    let g_known : g ≡ take (suc j) (grades_of D object) =
    ap (λ gs. gs ++ grade ∷ []) known ∙ ap (λ x. take j (grades_of D object) ++ x ∷ []) (sym graded_at) ∙ sym (take-suc (grades_of D object) j 0 (omega arith)) in
    let e_known : e ≡ take (length e) (drop (suc j) (grades_of D object)) =
    row_grades n D L d object t in_L positive within ∙ ap (take (length e)) (sym (drop-map (λ (rows : List Row). grade_in rows object) (suc j) D)) in
    let ge_known : g ++ e ≡ take (suc j + length e) (grades_of D object) =
    ap (λ gs. gs ++ e) g_known ∙ ap (λ es. take (suc j) (grades_of D object) ++ es) e_known ∙ sym (take_more (grades_of D object) (suc j) (length e)) in
    let skipped : random_block (j + 1) d object L ≡ random_block (length (g ++ e)) d object (drop (length (g ++ e)) D) =
    skips n D L (j + 1) d object t in_L positive within
    ∙ ap (λ lists. random_block (j + 1 + length e) d object lists) (drop_more D (suc j) (length e))
    ∙ ap (λ c. random_block c d object (drop (suc j + length e) D)) (omega arith)
    ∙ ap (λ c. random_block c d object (drop c D)) (sym g_count) in
    record {
      at = on.at;
      objects_are = on.objects_are;
      bottoms_are = on.bottoms_are;
      new = on.new;
      distinct = on.distinct;
      grades_are = subst (λ ws. AreFirstGrades D ws (grade_added r grade).grades) (sym is)
          (subst (λ gs. gs ≡ take (length gs) (grades_of D object)) (sym g_is) (ge_known ∙ ap (λ c. take c (grades_of D object)) (sym g_count)));
      ahead =
          ap (λ ws. (A ++ Random j object grade ∷ []) ++ asks D d ws (grade_added r grade).grades) is
          ∙ ap (λ gs. (A ++ Random j object grade ∷ []) ++ (random_block (length gs) d object (drop (length gs) D) ++ rest)) g_is
          ∙ append_assoc A (Random j object grade ∷ []) (random_block (length (g ++ e)) d object (drop (length (g ++ e)) D) ++ rest)
          ∙ ap (λ block. A ++ (Random j object grade ∷ (block ++ rest))) (sym skipped)
          ∙ ap (λ x. A ++ ((Random j object x ∷ random_block (j + 1) d object L) ++ rest)) (sym graded)
          ∙ ap (λ block. A ++ (block ++ rest)) (sym (random_block_lower j d object rows L lower))
          ∙ ap (λ lists. A ++ (random_block j d object lists ++ rest)) (sym split)
          ∙ ap (λ ws. A ++ asks D d ws r.grades) (sym is)
          ∙ on.ahead;
    }
  where
    contains_dropped : {X : Type 0} (xs : List X) (k : ℕ) (x : X) → Contains (drop k xs) x → Contains xs x
    contains_dropped xs zero x h = h
    contains_dropped [] (suc k) x h = h
    contains_dropped (y ∷ xs) (suc k) x h = contains_there y xs x (contains_dropped xs k x h)

-- an object whose grades are all there
pub all_grades : (V : List ℕ → ℕ) (halt : Halt) (n : ℕ) (D : List (List Row)) (A : List Access) (r : RowProgress) (object : ℕ) (waiting : List ℕ) → OnAsks V halt n D A r
    → r.waiting ≡ object ∷ waiting → length r.grades ≡ length D → V r.grades ≡ aggregate V D object
all_grades V halt n D A r object waiting on is whole =
    let known : r.grades ≡ take (length r.grades) (grades_of D object) = subst (λ ws. AreFirstGrades D ws r.grades) is on.grades_are in
    ap V (known ∙ take_all (length r.grades) (grades_of D object) (omega (arith, whole, length-map (λ (rows : List Row). grade_in rows object) D)))

pub object_settles : (V : List ℕ → ℕ) (halt : Halt) (n : ℕ) (D : List (List Row)) (A : List Access) (r : RowProgress) (object : ℕ) (waiting : List ℕ) → OnAsks V halt n D A r
    → r.waiting ≡ object ∷ waiting → length r.grades ≡ length D → OnAsks V halt n D A (record r { waiting = waiting; grades = [] })
object_settles V halt n D A r object waiting on is whole = record {
  at = on.at;
  objects_are = on.objects_are;
  bottoms_are = on.bottoms_are;
  new = λ other h. on.new other (subst (λ ws. Contains ws other) (sym is) (contains_there object waiting other h));
  distinct = distinct_tail object waiting (subst (AllPairs (λ (one : ℕ) (other : ℕ). one ≢ other)) is on.distinct);
  grades_are = none waiting;
  ahead =
      ap (λ rest. A ++ rest) (asks_anew waiting)
      ∙ ap (λ lists. A ++ (random_block (length r.grades) r.depth object lists ++ flat_map (λ o. random_block 0 r.depth o D) waiting)) (sym (drop_all (length r.grades) D (omega arith)))
      ∙ ap (λ ws. A ++ asks D r.depth ws r.grades) (sym is)
      ∙ on.ahead;
}
  where
    none : (ws : List ℕ) → AreFirstGrades D ws []
    none [] = tt
    none (o ∷ ws) = refl

    asks_anew : (ws : List ℕ) → asks D r.depth ws [] ≡ flat_map (λ o. random_block 0 r.depth o D) ws
    asks_anew [] = refl
    asks_anew (o ∷ ws) = refl

-- a whole row of which nothing waits
pub row_is_made : (V : List ℕ → ℕ) (halt : Halt) (n : ℕ) (D : List (List Row)) (A : List Access) (r : RowProgress) → OnAsks V halt n D A r → r.waiting ≡ []
    → A ≡ ta_run_to D r.depth
row_is_made V halt n D A r on is = sym (append-nil A) ∙ ap (λ ws. A ++ asks D r.depth ws r.grades) (sym is) ∙ on.ahead

pub row_follows : (V : List ℕ → ℕ) (halt : Halt) (n : ℕ) (D : List (List Row)) (A : List Access) (r : RowProgress) → IsMonotone V → IsHalting halt n D → OnAsks V halt n D A r
    → r.waiting ≡ [] → halts_at V halt D r.depth ≡ false → OnRow V halt n D A (row_begun (r.depth + 1))
row_follows V halt n D A r monotone asked on is goes = record {
  at = next_reached (halts_at V halt D) n (halting_depth V halt D) r.depth (own V halt n D monotone asked) on.at goes;
  unread = asked.lists;
  objects_are = refl;
  bottoms_are = refl;
  waiting_are = refl;
  made = row_is_made V halt n D A r on is ∙ read_none (ta_run_to D) D r.depth;
}
