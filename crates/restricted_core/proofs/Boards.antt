-- The board: after a row, with the new objects of a depth, whether the machine stops, and what comes first.
use Rattle.std.proofs.Common.{◌≡◌, ◌≢◌, ℕ, zero, suc, ◌+◌, ◌≤◌, ◌==◌, ◌||◌, inl, inr, Bool, true, false, List, [], ◌∷◌, ◌++◌, length, map, take, drop, filter, count_by, nat_le, AllPairs, Contains, Some, slice_get, sym, ap, ap₂, subst, ◌∙◌, arith, take-append-drop}
use Rattle.std.proofs.lemmas.Bool.{cases_Bool, true≢false}
use Rattle.std.proofs.lemmas.List.{length-take, drop-append-le}
use Rattle.std.proofs.Math.Seq.{drop-length}
use Rattle.std.proofs.lemmas.List.Elements.{Contains-append_right, Contains-append_cases}
use Rattle.std.proofs.lemmas.List.Kept.{AllPairs-filter}
use Rattle.ranked_list.specs.declared.row.Row.{Row}
use Rattle.ranked_list.specs.declared.item.Item.{Item}
use Rattle.ranked_list.specs.Items.{put_item}
use Rattle.topk_theory.specs.Order.{IsFirstK, lows}
use Rattle.topk_theory.specs.declared.access.Access.{Access}
use Rattle.topk_theory.specs.declared.access.Access.TheVariants.{Sorted, Random}
use Rattle.topk_theory.specs.Aggregate.{objects_of, aggregate}
use Rattle.topk_theory.specs.Bounds.{low, threshold}
use Rattle.topk_theory.specs.Combined.{unknown_lists}
use Rattle.topk_theory.specs.Threshold.{stands, scored}
use Rattle.topk_theory.specs.Transcript.{Agrees, seen_objects}
use Rattle.topk_theory.proofs.AgreementLists.{contains_here, contains_there, distinct_tail, distinct_fits}
use Rattle.topk_theory.proofs.AgreementNames.{has, has_contains, has_not}
use Rattle.topk_theory.proofs.Agreement.{objects_of_distinct, objects_of_count, seen_distinct, seen_objects_old, seen_objects_new, seen_objects_random}
use Rattle.machine_base.specs.Board.{OnBoard}
use Rattle.machine_base.proofs.BoardCounts.{IsBoardOf, board_of, board_counts, board_first}
use Rattle.machine_base.proofs.BoardSteps.{board_after_row, board_after_grade, board_after_put, place_filled}
use Rattle.machine_base.specs.Held.{item_with}
use Rattle.machine_base.proofs.Fronts.{drop_here}
use Rattle.machine_base.proofs.Known.{low_exact}
use Rattle.algorithm_theory.specs.Restricted.{part_in, taz_objects, taz_threshold, has_enough, has_all, taz_stop, taz_run_to, taz_answer, taz_depth}
use Rattle.algorithm_theory.proofs.RestrictedReading.{IsRead, run_read, threshold_is}
use Rattle.algorithm_theory.proofs.RestrictedSeen.{seen_are_read}
use Rattle.algorithm_theory.proofs.RestrictedTop.{taz_first}
use Rattle.restricted_core.specs.Course.{valued, items_with, are_enough, stops_by}
use Rattle.restricted_core.proofs.Path.{IsPosedOn}

-- ---- the objects behind a place
behind_distinct : (place : ℕ) (xs : List ℕ) → AllPairs (λ (one other : ℕ). one ≢ other) xs → AllPairs (λ (one other : ℕ). one ≢ other) (drop place xs)
behind_distinct zero xs apart = apart
behind_distinct (suc place) [] apart = apart
behind_distinct (suc place) (x ∷ xs) apart = behind_distinct place xs (distinct_tail x xs apart)

behind_there : (place : ℕ) (xs : List ℕ) (x : ℕ) → Contains (drop place xs) x → Contains xs x
behind_there place xs x c = subst (λ ys. Contains ys x) (take-append-drop place xs) (Contains-append_right (take place xs) (drop place xs) x c)

-- ---- after a row and after a grade
pub row_board : (V : List ℕ → ℕ) (D : List (List Row)) (A : List Access) (items : List Item) (whole list object grade : ℕ) → whole ≤ length (seen_objects A)
    → OnBoard V D A (drop whole (seen_objects A)) items
    → OnBoard V D (A ++ Sorted list object grade ∷ []) (drop whole (seen_objects (A ++ Sorted list object grade ∷ []))) items
row_board V D A items whole list object grade within on =
    elim (cases_Bool (has object (seen_objects A))) [
      | inl t ↦
          let old : Contains (seen_objects A) object = has_contains object (seen_objects A) t in
          subst (λ os. OnBoard V D (A ++ Sorted list object grade ∷ []) (drop whole os) items) (sym (seen_objects_old A list object grade old))
          (board_after_row V D A (drop whole (seen_objects A)) items list object grade false on (λ e. absurd (true≢false (sym e))) (λ e. old))
      | inr f ↦
          let new : ¬ Contains (seen_objects A) object = has_not object (seen_objects A) f in
          subst (λ os. OnBoard V D (A ++ Sorted list object grade ∷ []) os items)
          (sym (ap (drop whole) (seen_objects_new A list object grade new) ∙ drop-append-le whole (seen_objects A) (object ∷ []) within))
          (board_after_row V D A (drop whole (seen_objects A)) items list object grade true on (λ e. new) (λ e. absurd (true≢false e)))
    ]

pub grade_board : (V : List ℕ → ℕ) (D : List (List Row)) (A : List Access) (items : List Item) (whole list object grade : ℕ)
    → OnBoard V D A (drop whole (seen_objects A)) items
    → OnBoard V D (A ++ Random list object grade ∷ []) (drop whole (seen_objects (A ++ Random list object grade ∷ []))) items
grade_board V D A items whole list object grade on =
    subst (λ os. OnBoard V D (A ++ Random list object grade ∷ []) (drop whole os) items) (sym (seen_objects_random A list object grade))
    (board_after_grade V D A (drop whole (seen_objects A)) items list object grade on)

-- ---- objects that waited are put on the board
abbrev with_value : ℕ → ℕ → Item
with_value object v = record { object = object; low = v; high = v }

put_each : (V : List ℕ → ℕ) (m n : ℕ) (D : List (List Row)) (A : List Access) (objects : List ℕ) (items : List Item) → Agrees m n D A
    → AllPairs (λ (one other : ℕ). one ≢ other) objects → ((object : ℕ) → Contains objects object → Contains (seen_objects A) object × (unknown_lists m A object ≡ []))
    → OnBoard V D A objects items → OnBoard V D A [] (items_with V m A objects items)
put_each V m n D A [] items agrees apart are on = on
put_each V m n D A (object ∷ objects) items agrees apart are on =
    let own = are object (contains_here object objects) in
    let is : valued V m A object ≡ scored V D object = ap (with_value object) (low_exact V m n D A object agrees own.1) in
    put_each V m n D A objects (put_item (valued V m A object) items) agrees (distinct_tail object objects apart) (λ o c. are o (contains_there object objects o c))
    (subst (λ (item : Item). OnBoard V D A objects (put_item item items)) (sym is) (board_after_put V D A object objects items on apart own.0))

pub new_board : (V : List ℕ → ℕ) (m n : ℕ) (D : List (List Row)) (A : List Access) (whole : ℕ) (items : List Item) → Agrees m n D A
    → ((object : ℕ) → Contains (seen_objects A) object → unknown_lists m A object ≡ [])
    → OnBoard V D A (drop whole (seen_objects A)) items → OnBoard V D A [] (items_with V m A (drop whole (seen_objects A)) items)
new_board V m n D A whole items agrees known on =
    put_each V m n D A (drop whole (seen_objects A)) items agrees (behind_distinct whole (seen_objects A) (seen_distinct A))
    (λ o c. let there = behind_there whole (seen_objects A) o c in (there, known o there)) on

-- one of them is put
pub one_put : (V : List ℕ → ℕ) (m : ℕ) (A : List Access) (objects : List ℕ) (at object aggregate : ℕ) (items now then : List Item)
    → slice_get objects at ≡ Some object → aggregate ≡ low V m A object → now ≡ put_item (item_with object aggregate aggregate) items
    → items_with V m A (drop at objects) items ≡ then → items_with V m A (drop (at + 1) objects) now ≡ then
one_put V m A objects at object aggregate items now then here is now_is before =
    let one : at + 1 ≡ suc at = omega arith in
    let placed : now ≡ put_item (valued V m A object) items = now_is ∙ ap (λ v. put_item (with_value object v) items) is in
    ap (items_with V m A (drop (at + 1) objects)) placed
    ∙ ap (λ p. items_with V m A (drop p objects) (put_item (valued V m A object) items)) one
    ∙ sym (ap (λ os. items_with V m A os items) (drop_here objects at object here))
    ∙ before

-- where none waits, none waits behind the last
pub none_waits : (V : List ℕ → ℕ) (D : List (List Row)) (A : List Access) (items : List Item) → OnBoard V D A [] items
    → OnBoard V D A (drop (length (seen_objects A)) (seen_objects A)) items
none_waits V D A items on = subst (λ os. OnBoard V D A os items) (sym (drop-length (seen_objects A))) on

-- the items are no more than the objects that don't wait
pub few_items : (V : List ℕ → ℕ) (D : List (List Row)) (A : List Access) (whole : ℕ) (items : List Item) → OnBoard V D A (drop whole (seen_objects A)) items
    → length items ≤ whole
few_items V D A whole items on =
    let S : List ℕ = seen_objects A in
    let front : (item : Item) → Contains items item → Contains (take whole S) item.object = λ item c.
    let own = on.only item c in
    elim (Contains-append_cases (take whole S) (drop whole S) item.object (subst (λ os. Contains os item.object) (sym (take-append-drop whole S)) own.0)) [
      | inl before ↦ before
      | inr behind ↦ absurd (own.1 behind)
    ] in
    let fits : length items ≤ length (take whole S) = place_filled (take whole S) items on.distinct front in
    omega (arith, length-take whole S)

-- ---- at the end of a depth
pub there_distinct : (n : ℕ) (Z : ℕ → Bool) (D : List (List Row)) (depth k : ℕ) → IsPosedOn k n Z D
    → AllPairs (λ (one other : ℕ). one ≢ other) (taz_objects Z D depth)
there_distinct n Z D depth k posed =
    AllPairs-filter (λ (one other : ℕ). one ≢ other) (stands (part_in Z D) depth) (objects_of D) (objects_of_distinct n D posed.asked.table)

-- the seen objects are those that stand down to there
seen_as_many : (n : ℕ) (Z : ℕ → Bool) (D : List (List Row)) (A : List Access) (depth k : ℕ) → IsPosedOn k n Z D → IsRead Z n D A depth 0
    → length (seen_objects A) ≡ length (taz_objects Z D depth)
seen_as_many n Z D A depth k posed read =
    let up : length (seen_objects A) ≤ length (taz_objects Z D depth) = distinct_fits (seen_objects A) (taz_objects Z D depth) (seen_distinct A) (λ o c. (seen_are_read Z n D A depth read o).0 c) in
    let down : length (taz_objects Z D depth) ≤ length (seen_objects A) =
    distinct_fits (taz_objects Z D depth) (seen_objects A) (there_distinct n Z D depth k posed) (λ o c. (seen_are_read Z n D A depth read o).1 c) in
    omega arith

depth_board : (V : List ℕ → ℕ) (n : ℕ) (Z : ℕ → Bool) (D : List (List Row)) (A : List Access) (depth : ℕ) (items : List Item) → IsRead Z n D A depth 0
    → OnBoard V D A [] items → IsBoardOf V D (taz_objects Z D depth) items
depth_board V n Z D A depth items read on =
    board_of V D A (taz_objects Z D depth) items on (λ o c. (seen_are_read Z n D A depth read o).1 c) (λ o c. (seen_are_read Z n D A depth read o).0 c)

-- whether the algorithm stops there is what the board shows
pub stop_shown : (V : List ℕ → ℕ) (k n : ℕ) (Z : ℕ → Bool) (D : List (List Row)) (A : List Access) (depth : ℕ) (items : List Item) → IsPosedOn k n Z D
    → 1 ≤ depth → depth ≤ n → A ≡ taz_run_to Z D depth → OnBoard V D A [] items → stops_by V k (length D) n A items ≡ taz_stop V k Z D depth
stop_shown V k n Z D A depth items posed positive within made on =
    let read : IsRead Z n D A depth 0 = subst (λ B. IsRead Z n D B depth 0) (sym made) (run_read Z n depth D posed.asked.table within) in
    let count : length (objects_of D) ≡ n = objects_of_count n D posed.asked.table posed.asked.lists in
    let all : (length (seen_objects A) == n) ≡ has_all Z D depth = ap₂ (λ x y. x == y) (seen_as_many n Z D A depth k posed read) (sym count) in
    let bound : ℕ = threshold V (length D) A in
    let same : bound ≡ taz_threshold V Z D depth = threshold_is V Z n D A depth read positive in
    let counted : count_by (nat_le bound) (lows items) ≡ count_by (λ object. nat_le bound (aggregate V D object)) (taz_objects Z D depth) =
    board_counts V D (taz_objects Z D depth) (nat_le bound) items (there_distinct n Z D depth k posed) (depth_board V n Z D A depth items read on) in
    let enough : are_enough V k (length D) A items ≡ has_enough V k Z D depth =
    ap (nat_le k) (counted ∙ ap (λ t. count_by (λ object. nat_le t (aggregate V D object)) (taz_objects Z D depth)) same) in
    ap₂ (λ x y. x || y) all enough

-- the first k of the board are the algorithm's answer
pub board_answer : (V : List ℕ → ℕ) (k n : ℕ) (Z : ℕ → Bool) (D : List (List Row)) (A : List Access) (depth : ℕ) (items : List Item) → IsPosedOn k n Z D
    → depth ≡ taz_depth V k Z D → depth ≤ n → A ≡ taz_run_to Z D depth → OnBoard V D A [] items → IsFirstK k items (taz_answer V k Z D)
board_answer V k n Z D A depth items posed own within made on =
    let read : IsRead Z n D A depth 0 = subst (λ B. IsRead Z n D B depth 0) (sym made) (run_read Z n depth D posed.asked.table within) in
    subst (λ d. IsFirstK k (map (scored V D) (taz_objects Z D d)) (taz_answer V k Z D) → IsFirstK k items (taz_answer V k Z D)) own
    (λ is. board_first V k D (taz_objects Z D depth) items (taz_answer V k Z D) (there_distinct n Z D depth k posed) (depth_board V n Z D A depth items read on) is)
    (taz_first V k n Z D (taz_depth V k Z D) posed.asked.table)
