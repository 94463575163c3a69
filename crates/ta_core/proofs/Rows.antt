-- One more row: the machine stays on the run.
use Rattle.std.proofs.Common.{◌≡◌, ℕ, suc, ◌+◌, ◌-◌, ◌<◌, ◌≤◌, ◌⊎◌, inl, inr, Bool, true, false, not, List, [], ◌∷◌, ◌++◌, length, take, filter, Contains, slice_index_or, sym, ap, subst, ◌∙◌, arith, append-nil, length-append}
use Rattle.std.proofs.lemmas.Bool.{cases_Bool, not_from_true, not_from_false}
use Rattle.std.proofs.lemmas.List.Elements.{Contains-append_right, Contains-append_cases, filter-append}
use Rattle.std.proofs.lemmas.List.{length-take-le, map-append}
use Rattle.std.proofs.Math.Seq.{take-suc}
use Rattle.ranked_list.specs.declared.row.Row.{Row}
use Rattle.ranked_list.specs.Table.{objects, IsTable, place_in}
use Rattle.topk_theory.specs.declared.access.Access.{Access}
use Rattle.topk_theory.specs.declared.access.Access.TheVariants.{Sorted}
use Rattle.topk_theory.specs.Aggregate.{objects_of}
use Rattle.topk_theory.specs.Transcript.{Agrees, list_at, object_of, seen_objects, each_once}
use Rattle.topk_theory.specs.Threshold.{row_at, stands, sorted_block, ta_run_to}
use Rattle.topk_theory.proofs.AgreementLists.{contains_at, contains_map, contains_map_from}
use Rattle.topk_theory.proofs.AgreementNames.{has, has_contains, has_not, each_once_complete, each_once_within, each_once_push_old, each_once_push_new}
use Rattle.topk_theory.proofs.AgreementRows.{list_at_contains}
use Rattle.topk_theory.proofs.ThresholdLists.{filter_here, filter_gone}
use Rattle.ranked_list.proofs.RankLaws.{no_row}
use Rattle.topk_theory.proofs.ThresholdTables.{object-at_place}
use Rattle.topk_theory.proofs.ThresholdDepth.{list_sized, table_holds, stands_from}
use Rattle.topk_theory.proofs.ThresholdRun.{list_number, run_rows, sorted_members, contains_sorted, seen_from_access, access_from_seen, seen_more, run_sees, seen_stands}
use Rattle.machine_base.specs.Depths.{read_to}
use Rattle.machine_base.proofs.Rows.{ReadsRows, given_next, read_more}
use Rattle.ta_core.specs.Halting.{Halt}
use Rattle.machine_base.specs.Board.{with_new}
use Rattle.ta_core.specs.Reading.{RowProgress, row_added}
use Rattle.ta_core.specs.OnTable.{objects_at, bottoms_at, OnRow}

-- one more list
pub take_one_more : (D : List (List Row)) (j : ℕ) → j < length D → take (suc j) D ≡ take j D ++ list_at D j ∷ []
take_one_more D j l = take-suc D j [] l

-- the run reads the rows of each list
pub reads_rows : (n : ℕ) (D : List (List Row)) → IsTable n D → ReadsRows (ta_run_to D) n D
reads_rows n D t = λ depth list within l. run_rows n D list depth t l within

-- an object that stands is one of the table's
pub stands_object : (n : ℕ) (D : List (List Row)) (depth object : ℕ) → IsTable n D → depth ≤ n → stands D depth object ≡ true → Contains (objects_of D) object
stands_object n D depth object t within s =
    let from = stands_from D depth object s in
    let long : length from.0 ≡ n = list_sized n D from.0 t from.1 in
    let place : place_in from.0 object < length from.0 = omega (arith, from.2) in
    table_holds n D from.0 object t from.1
    (subst (λ o. Contains (objects from.0) o) (object-at_place from.0 object no_row place) (contains_map (λ (row : Row). row.object) from.0 (slice_index_or from.0 (place_in from.0 object) no_row) (contains_at from.0 (place_in from.0 object) no_row place)))

pub seen_in_row : (n : ℕ) (D : List (List Row)) (depth j object : ℕ) → IsTable n D → 1 ≤ depth → depth ≤ n
    → Contains (seen_objects (read_to (ta_run_to D) D depth j)) object → (stands D (depth - 1) object ≡ true) ⊎ Contains (objects_at depth (take j D)) object
seen_in_row n D depth j object t positive within h =
    let from = access_from_seen (read_to (ta_run_to D) D depth j) object h in
    elim (Contains-append_cases (ta_run_to D (depth - 1)) (sorted_block 0 depth (take j D)) (Sorted from.0 object from.1) from.2) [
      | inl run ↦ inl (seen_stands n D (depth - 1) object t (omega arith) (seen_from_access (ta_run_to D (depth - 1)) from.0 object from.1 run))
      | inr block ↦
          let k = sorted_members 0 depth (take j D) (Sorted from.0 object from.1) block in
          let same : object ≡ (row_at (list_at (take j D) k.0) depth).object = ap object_of k.2 in
          inr (subst (λ o. Contains (objects_at depth (take j D)) o) (sym same) (contains_map (λ (rows : List Row). (row_at rows depth).object) (take j D) (list_at (take j D) k.0) (list_at_contains (take j D) k.0 k.1)))
    ]

pub row_sees : (D : List (List Row)) (depth j object : ℕ) → Contains (objects_at depth (take j D)) object
    → Contains (seen_objects (read_to (ta_run_to D) D depth j)) object
row_sees D depth j object h =
    let from = contains_map_from (λ (rows : List Row). (row_at rows depth).object) (take j D) object h in
    let number = list_number (take j D) from.0 from.1 in
    let row : Row = row_at (list_at (take j D) number.0) depth in
    let same : row.object ≡ object = ap (λ rows. (row_at rows depth).object) number.2 ∙ from.2 in
    subst (λ o. Contains (seen_objects (read_to (ta_run_to D) D depth j)) o) same
    (seen_from_access (read_to (ta_run_to D) D depth j) (0 + number.0) row.object row.grade (Contains-append_right (ta_run_to D (depth - 1)) (sorted_block 0 depth (take j D)) (Sorted (0 + number.0) row.object row.grade) (contains_sorted 0 number.0 depth (take j D) number.1)))

pub stands_sees : (n : ℕ) (D : List (List Row)) (depth j object : ℕ) → IsTable n D → depth ≤ n → stands D (depth - 1) object ≡ true
    → Contains (seen_objects (read_to (ta_run_to D) D depth j)) object
stands_sees n D depth j object t within s =
    seen_more (ta_run_to D (depth - 1)) (sorted_block 0 depth (take j D)) object (run_sees n D (depth - 1) object t s (stands_object n D (depth - 1) object t (omega arith) s))

-- which objects are new, with one more
new_with_seen : (p : ℕ → Bool) (xs : List ℕ) (x : ℕ) → (Contains xs x ⊎ (p x ≡ false)) → filter p (each_once (xs ++ x ∷ [])) ≡ filter p (each_once xs)
new_with_seen p xs x h =
    elim (cases_Bool (has x xs)) [
      | inl t ↦ ap (filter p) (each_once_push_old xs x (each_once_complete xs x (has_contains x xs t)))
      | inr f ↦
          let gone : p x ≡ false = elim h [ inl c ↦ absurd (has_not x xs f c) | inr g ↦ g ] in
          ap (filter p) (each_once_push_new xs x (λ c. has_not x xs f (each_once_within xs x c)))
          ∙ filter-append p (each_once xs) (x ∷ [])
          ∙ ap (λ ys. filter p (each_once xs) ++ ys) (filter_gone p x [] gone)
          ∙ append-nil (filter p (each_once xs))
    ]

new_with_unseen : (p : ℕ → Bool) (xs : List ℕ) (x : ℕ) → (¬ Contains xs x) → p x ≡ true
    → filter p (each_once (xs ++ x ∷ [])) ≡ filter p (each_once xs) ++ x ∷ []
new_with_unseen p xs x n t =
    ap (filter p) (each_once_push_new xs x (λ c. n (each_once_within xs x c)))
    ∙ filter-append p (each_once xs) (x ∷ [])
    ∙ ap (λ ys. filter p (each_once xs) ++ ys) (filter_here p x [] t)

-- what a row adds, whatever is left of it
pub record Added (n : ℕ) (D : List (List Row)) (A : List Access) (r : RowProgress) (row : Row) (is_new : Bool) : Type 0 where
  pub objects_are : r.objects ++ row.object ∷ [] ≡ objects_at r.depth (take (suc (length r.objects)) D)
  pub bottoms_are : r.bottoms ++ row.grade ∷ [] ≡ bottoms_at r.depth (take (suc (length r.objects)) D)
  pub waiting_are : with_new r.waiting row.object is_new ≡ filter (λ object. not (stands D (r.depth - 1) object)) (each_once (r.objects ++ row.object ∷ []))
  pub made : A ++ Sorted (length r.objects) row.object row.grade ∷ [] ≡ read_to (ta_run_to D) D r.depth (suc (length r.objects))

pub added : (V : List ℕ → ℕ) (halt : Halt) (n : ℕ) (D : List (List Row)) (A : List Access) (r : RowProgress) (row : Row) (is_new : Bool) → OnRow V halt n D A r
    → Agrees (length D) n D (A ++ Sorted (length r.objects) row.object row.grade ∷ []) → (is_new ≡ true → ¬ Contains (seen_objects A) row.object)
    → (is_new ≡ false → Contains (seen_objects A) row.object) → Added n D A r row is_new
added V halt n D A r row is_new on agrees unseen seen =
    let j : ℕ = length r.objects in
    let d : ℕ = r.depth in
    let t : IsTable n D = agrees.table in
    let l : j < length D = on.unread in
    let p : ℕ → Bool = λ object. not (stands D (d - 1) object) in
    let rows = list_at D j in
    let more : take (suc j) D ≡ take j D ++ rows ∷ [] = take_one_more D j l in
    let front : length (take j D) ≡ j = length-take-le j D (omega arith) in
    let positive : 1 ≤ d = on.at.positive in
    let within : d ≤ n = on.at.within in
    let given : row_at rows d ≡ row = given_next (ta_run_to D) n D d j row.object row.grade (reads_rows n D t) positive within l (subst (λ B. Agrees (length D) n D (B ++ Sorted j row.object row.grade ∷ [])) on.made agrees) in
    record {
      objects_are = ap (λ os. os ++ row.object ∷ []) on.objects_are
          ∙ ap (λ (x : Row). objects_at d (take j D) ++ x.object ∷ []) (sym given)
          ∙ sym (map-append (λ (rows : List Row). (row_at rows d).object) (take j D) (rows ∷ []))
          ∙ ap (objects_at d) (sym more);
      bottoms_are = ap (λ os. os ++ row.grade ∷ []) on.bottoms_are
          ∙ ap (λ (x : Row). bottoms_at d (take j D) ++ x.grade ∷ []) (sym given)
          ∙ sym (map-append (λ (rows : List Row). (row_at rows d).grade) (take j D) (rows ∷ []))
          ∙ ap (bottoms_at d) (sym more);
      waiting_are = elim (cases_Bool is_new) [
        | inl yes' ↦
            let not_seen : ¬ Contains (seen_objects A) row.object = unseen yes' in
            let fresh : ¬ Contains r.objects row.object = λ c. not_seen (subst (λ B. Contains (seen_objects B) row.object) (sym on.made) (row_sees D d j row.object (subst (λ os. Contains os row.object) on.objects_are c))) in
            let low : stands D (d - 1) row.object ≡ false = elim (cases_Bool (stands D (d - 1) row.object)) [
              | inl s ↦ absurd (not_seen (subst (λ B. Contains (seen_objects B) row.object) (sym on.made) (stands_sees n D d j row.object t within s)))
              | inr s ↦ s
            ] in
            ap (λ b. with_new r.waiting row.object b) yes'
            ∙ ap (λ ws. ws ++ row.object ∷ []) on.waiting_are
            ∙ sym (new_with_unseen p r.objects row.object fresh (not_from_false (stands D (d - 1) row.object) low))
        | inr no' ↦
            let is_seen : Contains (seen_objects (read_to (ta_run_to D) D d j)) row.object = subst (λ B. Contains (seen_objects B) row.object) on.made (seen no') in
            ap (λ b. with_new r.waiting row.object b) no'
            ∙ on.waiting_are
            ∙ sym (new_with_seen p r.objects row.object (elim (seen_in_row n D d j row.object t positive within is_seen) [
              | inl s ↦ inr (not_from_true (stands D (d - 1) row.object) s)
              | inr c ↦ inl (subst (λ os. Contains os row.object) (sym on.objects_are) c)
            ]))
      ];
      made = ap (λ B. B ++ Sorted j row.object row.grade ∷ []) on.made
          ∙ read_more (ta_run_to D) n D d j row.object row.grade (reads_rows n D t) positive within l (subst (λ B. Agrees (length D) n D (B ++ Sorted j row.object row.grade ∷ [])) on.made agrees);
    }

-- a row of which lists are left
pub row_goes_on : (V : List ℕ → ℕ) (halt : Halt) (n : ℕ) (D : List (List Row)) (A : List Access) (r : RowProgress) (row : Row) (is_new : Bool) → OnRow V halt n D A r
    → Agrees (length D) n D (A ++ Sorted (length r.objects) row.object row.grade ∷ []) → (is_new ≡ true → ¬ Contains (seen_objects A) row.object)
    → (is_new ≡ false → Contains (seen_objects A) row.object) → suc (length r.objects) < length D
    → OnRow V halt n D (A ++ Sorted (length r.objects) row.object row.grade ∷ []) (row_added (length D) r row is_new)
row_goes_on V halt n D A r row is_new on agrees unseen seen short =
    let a = added V halt n D A r row is_new on agrees unseen seen in
    let long : suc (length r.objects) ≡ length (r.objects ++ row.object ∷ []) = omega (arith, length-append r.objects (row.object ∷ [])) in
    record {
      at = on.at;
      unread = omega arith;
      objects_are = a.objects_are ∙ ap (λ j. objects_at r.depth (take j D)) long;
      bottoms_are = a.bottoms_are ∙ ap (λ j. bottoms_at r.depth (take j D)) long;
      waiting_are = a.waiting_are;
      made = a.made ∙ ap (read_to (ta_run_to D) D r.depth) long;
    }
