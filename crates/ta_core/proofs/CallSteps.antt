-- What the calls on a reading come to, where their tests fall so.
use Rattle.std.proofs.Common.{◌≡◌, ◌≢◌, ℕ, suc, ◌+◌, ◌<◌, ◌≤◌, Bool, true, false, cond, ◌==◌, ◌&&◌, List, [], ◌∷◌, ◌++◌, length, drop, get_or, slice_index, refl, sym, ap, ◌∙◌, arith, append_assoc, append-nil, length-append, eq-eqb, eqb-true, subst}
use Rattle.std.proofs.lemmas.Bool.{and_parts}
use Rattle.std.proofs.lemmas.List.{drop_all}
use Rattle.std.proofs.Math.Seq.{drop-cons}
use Rattle.ranked_list.specs.declared.item.Item.{Item}
use Rattle.monotone_fn.specs.Limits.{AreGrades}
use Rattle.ranked_list.specs.declared.need.Need.TheVariants.{Grade}
use Rattle.machine_base.specs.Held.{Held, item_with}
use Rattle.ranked_list.specs.Items.{put_item}
use Rattle.ta_core.specs.Halting.{Halt}
use Rattle.ta_core.specs.Reading.{RowProgress, grades_in_row, filled, first_or_zero, items_after, is_scored, settled, is_whole, row_begun, moved, enough, followed, need_at}
use Rattle.ta_core.proofs.Fills.{has_here, grades_in_row_none}
use Rattle.ta_core.proofs.Runs.{need_after_row}

-- the next grade is that of the first object that waits
pub grade_next : (m : ℕ) (r : RowProgress) (list object : ℕ) → r.done ≡ false → m ≤ length r.objects → list ≡ length r.grades
    → object ≡ first_or_zero r.waiting → Grade list object ≡ need_at m r
grade_next m r list object open' whole next first =
    ap (λ l. Grade l object) next ∙ ap (Grade (length r.grades)) first ∙ sym (need_after_row m r open' whole)

-- a row that is read is whole where none waits
pub whole_from_none : (m : ℕ) (r : RowProgress) (none : Bool) → length r.objects ≡ m → none ≡ (length r.waiting == 0) → none ≡ is_whole m r
whole_from_none m r none read is = is ∙ sym (ap (λ b. b && (length r.waiting == 0)) (eq-eqb (length r.objects) m read))

-- the first object that waits is put on the board with its aggregate
pub scored_put : (V : List ℕ → ℕ) (m lists : ℕ) (board after : Held) (r : RowProgress) (object aggregate : ℕ) → lists ≡ m → true ≡ is_scored lists r
    → object ≡ first_or_zero r.waiting → aggregate ≡ V r.grades
    → after ≡ record board { items = put_item (item_with object aggregate aggregate) board.items }
    → after ≡ record board { items = items_after V m board.items r }
scored_put V m lists board after r object aggregate same scored first value put =
    let items : List Item = put_item (item_with (first_or_zero r.waiting) (V r.grades) (V r.grades)) board.items in
    put
    ∙ ap (λ o. record board { items = put_item (item_with o aggregate aggregate) board.items }) first
    ∙ ap (λ v. record board { items = put_item (item_with (first_or_zero r.waiting) v v) board.items }) value
    ∙ ap (λ b. record board { items = cond b items board.items }) scored
    ∙ ap (λ l. record board { items = items_after V l board.items r }) same

settled_bottoms : (m : ℕ) (r : RowProgress) → (settled m r).bottoms ≡ r.bottoms
settled_bottoms m r =
    elim (is_scored m r) as (λ b. (cond b (record r { waiting = drop 1 r.waiting; grades = [] }) r).bottoms ≡ r.bottoms) [ true ↦ refl | false ↦ refl ]

settled_depth : (m : ℕ) (r : RowProgress) → (settled m r).depth ≡ r.depth
settled_depth m r =
    elim (is_scored m r) as (λ b. (cond b (record r { waiting = drop 1 r.waiting; grades = [] }) r).depth ≡ r.depth) [ true ↦ refl | false ↦ refl ]

settled_objects : (m : ℕ) (r : RowProgress) → (settled m r).objects ≡ r.objects
settled_objects m r =
    elim (is_scored m r) as (λ b. (cond b (record r { waiting = drop 1 r.waiting; grades = [] }) r).objects ≡ r.objects) [ true ↦ refl | false ↦ refl ]

-- a whole row has a bottom of each list
pub whole_bottoms : (lists : ℕ) (r s : RowProgress) → s ≡ settled lists r → true ≡ is_whole lists s → length r.bottoms ≡ length r.objects
    → length s.bottoms ≡ lists
whole_bottoms lists r s is whole same =
    ap (λ (x : RowProgress). length x.bottoms) is
    ∙ ap (λ xs. length xs) (settled_bottoms lists r)
    ∙ same
    ∙ sym (ap (λ (x : RowProgress). length x.objects) is ∙ ap (λ xs. length xs) (settled_objects lists r))
    ∙ eqb-true (length s.objects) lists (and_parts (length s.objects == lists) (length s.waiting == 0) (sym whole)).0

pub bottoms_capped : (lists : ℕ) (r s : RowProgress) → s ≡ settled lists r → AreGrades r.bottoms → AreGrades s.bottoms
bottoms_capped lists r s is capped = subst AreGrades (sym (ap (λ (x : RowProgress). x.bottoms) is ∙ settled_bottoms lists r)) capped

-- nothing follows in a row that isn't whole
pub waits_on : (V : List ℕ → ℕ) (halt : Halt) (m lists : ℕ) (items : List Item) (r s : RowProgress) → lists ≡ m → s ≡ settled lists r → false ≡ is_whole lists s
    → s ≡ followed V halt m items r
waits_on V halt m lists items r s same is waits =
    ap (λ b. cond b (cond (enough halt r.depth (V r.bottoms) items) (record s { done = true }) (row_begun (s.depth + 1))) s) waits
    ∙ ap (moved lists (enough halt r.depth (V r.bottoms) items)) is
    ∙ ap (λ l. followed V halt l items r) same

-- after a whole row it is done or goes on, by whether there are enough
whole_followed : (V : List ℕ → ℕ) (halt : Halt) (m lists : ℕ) (items : List Item) (r s : RowProgress) (depth bound : ℕ) (enough' : Bool) → lists ≡ m → s ≡ settled lists r
    → true ≡ is_whole lists s → bound ≡ V s.bottoms → depth ≡ s.depth → enough' ≡ enough halt depth bound items
    → cond enough' (record s { done = true }) (row_begun (s.depth + 1)) ≡ followed V halt m items r
whole_followed V halt m lists items r s depth bound enough' same is whole value deep told =
    let stops : enough' ≡ enough halt r.depth (V r.bottoms) items = told ∙ ap (λ b. enough halt depth b items) (value ∙ ap V (ap (λ (x : RowProgress). x.bottoms) is ∙ settled_bottoms lists r))
    ∙ ap (λ d. enough halt d (V r.bottoms) items) (deep ∙ ap (λ (x : RowProgress). x.depth) is ∙ settled_depth lists r) in
    ap (λ b. cond b (record s { done = true }) (row_begun (s.depth + 1))) stops
    ∙ ap (λ b. cond b (cond (enough halt r.depth (V r.bottoms) items) (record s { done = true }) (row_begun (s.depth + 1))) s) whole
    ∙ ap (moved lists (enough halt r.depth (V r.bottoms) items)) is
    ∙ ap (λ l. followed V halt l items r) same

pub ends_whole : (V : List ℕ → ℕ) (halt : Halt) (m lists : ℕ) (items : List Item) (r s : RowProgress) (depth bound : ℕ) → lists ≡ m → s ≡ settled lists r
    → true ≡ is_whole lists s → bound ≡ V s.bottoms → depth ≡ s.depth → true ≡ enough halt depth bound items → record s { done = true } ≡ followed V halt m items r
ends_whole V halt m lists items r s depth bound same is whole value deep told = whole_followed V halt m lists items r s depth bound true same is whole value deep told

pub goes_on_whole : (V : List ℕ → ℕ) (halt : Halt) (m lists : ℕ) (items : List Item) (r s after : RowProgress) (depth bound : ℕ) → lists ≡ m → s ≡ settled lists r
    → true ≡ is_whole lists s → bound ≡ V s.bottoms → depth ≡ s.depth → false ≡ enough halt depth bound items → after ≡ row_begun (s.depth + 1) → after ≡ followed V halt m items r
goes_on_whole V halt m lists items r s after depth bound same is whole value deep told begun = begun ∙ whole_followed V halt m lists items r s depth bound false same is whole value deep told

-- where the row has the object in the next list too, its grade is the next one
pub fills_more : (objects bottoms grades after : List ℕ) (object one other : ℕ) → one ≡ length grades → other ≡ length grades → length bottoms ≡ length objects
    → length grades < length objects → get_or objects one 0 ≡ object → after ≡ grades ++ get_or bottoms other 0 ∷ []
    → filled objects bottoms object after ≡ filled objects bottoms object grades
fills_more objects bottoms grades after object one other is_one is_other same short here added =
    let n : ℕ = length grades in
    let bottom : ℕ = get_or bottoms n 0 in
    let rest : List ℕ = grades_in_row object (drop (suc n) objects) (drop (suc n) bottoms) in
    let next : after ≡ grades ++ bottom ∷ [] = added ∙ ap (λ p. grades ++ get_or bottoms p 0 ∷ []) is_other in
    let count : length (grades ++ bottom ∷ []) ≡ suc n = omega (arith, length-append grades (bottom ∷ [])) in
    let long : n < length bottoms = omega arith in
    let row : grades_in_row object (drop n objects) (drop n bottoms) ≡ bottom ∷ rest = ap (λ os. grades_in_row object os (drop n bottoms)) (drop-cons objects n 0 short) ∙ ap (grades_in_row object (get_or objects n 0 ∷ drop (suc n) objects)) (drop-cons bottoms n 0 long) ∙ has_here object (get_or objects n 0) bottom (drop (suc n) objects) (drop (suc n) bottoms) (eq-eqb (get_or objects n 0) object (ap (λ p. get_or objects p 0) (sym is_one) ∙ here)) in
    ap (filled objects bottoms object) next
    ∙ ap (λ c. (grades ++ bottom ∷ []) ++ grades_in_row object (drop c objects) (drop c bottoms)) count
    ∙ append_assoc grades (bottom ∷ []) rest
    ∙ ap (λ xs. grades ++ xs) (sym row)

-- no more follow where the row has another object in the next list
pub fills_none : (objects bottoms grades : List ℕ) (object place : ℕ) → place ≡ length grades → length grades < length objects → get_or objects place 0 ≢ object
    → grades ≡ filled objects bottoms object grades
fills_none objects bottoms grades object place is short other =
    let n : ℕ = length grades in
    let head : slice_index (drop n objects) 0 ≡ get_or objects place 0 = ap (λ os. slice_index os 0) (drop-cons objects n 0 short) ∙ ap (λ p. get_or objects p 0) (sym is) in
    sym (ap (λ xs. grades ++ xs) (grades_in_row_none object (drop n objects) (drop n bottoms) (λ l e. other (sym head ∙ e))) ∙ append-nil grades)

-- nor where there is no next list
pub fills_all : (objects bottoms grades : List ℕ) (object : ℕ) → length objects ≤ length grades → grades ≡ filled objects bottoms object grades
fills_all objects bottoms grades object whole =
    sym (ap (λ os. grades ++ grades_in_row object os (drop (length grades) bottoms)) (drop_all (length grades) objects whole) ∙ append-nil grades)
