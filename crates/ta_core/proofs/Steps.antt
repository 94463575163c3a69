-- One access told: what the machine keeps of the table.
use Rattle.std.proofs.Common.{◌≡◌, ◌≢◌, ℕ, zero, suc, ◌+◌, ◌<◌, ◌≤◌, ◌⊎◌, inl, inr, Bool, true, false, cond, ◌==◌, ◌&&◌, List, [], ◌∷◌, length, drop, AllPairs, Contains, MatchBool, refl, sym, ap, subst, ◌∙◌, arith, nat_lt, eq-eqb}
use Rattle.std.proofs.lemmas.Bool.{cases_Bool, cases_eq, lt-ltb, le-ltb, ne_eqb, and_right}
use Rattle.ranked_list.specs.declared.row.Row.{Row}
use Rattle.ranked_list.specs.declared.item.Item.{Item}
use Rattle.ranked_list.specs.Items.{put_item}
use Rattle.topk_theory.specs.declared.access.Access.{Access}
use Rattle.monotone_fn.specs.Value.{IsMonotone}
use Rattle.topk_theory.specs.Aggregate.{aggregate}
use Rattle.topk_theory.specs.Transcript.{seen_objects}
use Rattle.topk_theory.specs.Threshold.{ta_run_to, scored, row_at}
use Rattle.topk_theory.proofs.AgreementLists.{contains_here}
use Rattle.topk_theory.proofs.ThresholdLists.{length-map}
use Rattle.ta_core.specs.Halting.{Halt, halts_at, halting_depth, halting_run}
use Rattle.ta_core.specs.Reading.{RowProgress, first_or_zero, items_after, settled, is_whole, row_begun, moved, enough, followed}
use Rattle.machine_base.specs.Board.{OnBoard}
use Rattle.ta_core.specs.OnTable.{OnRow, OnAsks, IsMade, OnReading, OnTable}
use Rattle.ta_core.proofs.Asks.{all_grades, object_settles, row_is_made, row_follows}
use Rattle.machine_base.proofs.BoardSteps.{board_after_put}
use Rattle.ta_core.proofs.BoardSteps.{board_tells_stop}
use Rattle.machine_base.proofs.Depths.{is_own}
use Rattle.ta_core.proofs.HaltingLaws.{IsHalting, own}

-- where a reading is, by its length
pub on_row : (V : List ℕ → ℕ) (halt : Halt) (n : ℕ) (D : List (List Row)) (A : List Access) (r : RowProgress) → r.done ≡ false → OnRow V halt n D A r → OnReading V halt n D A r
on_row V halt n D A r open' on =
    subst (λ b. MatchBool b (IsMade V halt D A r) (MatchBool (nat_lt (length r.objects) (length D)) (OnRow V halt n D A r) (OnAsks V halt n D A r))) (sym open')
    (subst (λ b. MatchBool b (OnRow V halt n D A r) (OnAsks V halt n D A r)) (sym (lt-ltb (length r.objects) (length D) on.unread)) on)

on_asks : (V : List ℕ → ℕ) (halt : Halt) (n : ℕ) (D : List (List Row)) (A : List Access) (r : RowProgress) → r.done ≡ false → length D ≤ length r.objects
    → OnAsks V halt n D A r
    → OnReading V halt n D A r
on_asks V halt n D A r open' whole on =
    subst (λ b. MatchBool b (IsMade V halt D A r) (MatchBool (nat_lt (length r.objects) (length D)) (OnRow V halt n D A r) (OnAsks V halt n D A r))) (sym open')
    (subst (λ b. MatchBool b (OnRow V halt n D A r) (OnAsks V halt n D A r)) (sym (le-ltb (length r.objects) (length D) whole)) on)

made : (V : List ℕ → ℕ) (halt : Halt) (n : ℕ) (D : List (List Row)) (A : List Access) (r : RowProgress) → r.done ≡ true → IsMade V halt D A r → OnReading V halt n D A r
made V halt n D A r done on =
    subst (λ b. MatchBool b (IsMade V halt D A r) (MatchBool (nat_lt (length r.objects) (length D)) (OnRow V halt n D A r) (OnAsks V halt n D A r))) (sym done) on

pub row_of_reading : (V : List ℕ → ℕ) (halt : Halt) (n : ℕ) (D : List (List Row)) (A : List Access) (r : RowProgress) → r.done ≡ false → length r.objects < length D
    → OnReading V halt n D A r → OnRow V halt n D A r
row_of_reading V halt n D A r open' short on =
    subst (λ b. MatchBool b (OnRow V halt n D A r) (OnAsks V halt n D A r)) (lt-ltb (length r.objects) (length D) short)
    (subst (λ b. MatchBool b (IsMade V halt D A r) (MatchBool (nat_lt (length r.objects) (length D)) (OnRow V halt n D A r) (OnAsks V halt n D A r))) open' on)

pub asks_of_reading : (V : List ℕ → ℕ) (halt : Halt) (n : ℕ) (D : List (List Row)) (A : List Access) (r : RowProgress) → r.done ≡ false → length D ≤ length r.objects
    → OnReading V halt n D A r → OnAsks V halt n D A r
asks_of_reading V halt n D A r open' whole on =
    subst (λ b. MatchBool b (OnRow V halt n D A r) (OnAsks V halt n D A r)) (le-ltb (length r.objects) (length D) whole)
    (subst (λ b. MatchBool b (IsMade V halt D A r) (MatchBool (nat_lt (length r.objects) (length D)) (OnRow V halt n D A r) (OnAsks V halt n D A r))) open' on)

pub made_of_reading : (V : List ℕ → ℕ) (halt : Halt) (n : ℕ) (D : List (List Row)) (A : List Access) (r : RowProgress) → r.done ≡ true → OnReading V halt n D A r
    → IsMade V halt D A r
made_of_reading V halt n D A r done on =
    subst (λ b. MatchBool b (IsMade V halt D A r) (MatchBool (nat_lt (length r.objects) (length D)) (OnRow V halt n D A r) (OnAsks V halt n D A r))) done on

-- the tests of what follows
pub settled_not : (m : ℕ) (r : RowProgress) → length r.grades ≢ m → settled m r ≡ r
settled_not m r n = ap (λ b. cond b (record r { waiting = drop 1 r.waiting; grades = [] }) r) (ne_eqb (length r.grades) m n)

pub settled_scored : (m : ℕ) (r : RowProgress) → length r.grades ≡ m → settled m r ≡ record r { waiting = drop 1 r.waiting; grades = [] }
settled_scored m r e = ap (λ b. cond b (record r { waiting = drop 1 r.waiting; grades = [] }) r) (eq-eqb (length r.grades) m e)

pub moved_on : (m : ℕ) (stops : Bool) (r : RowProgress) → (length r.objects ≢ m) ⊎ (0 < length r.waiting) → moved m stops r ≡ r
moved_on m stops r h = ap (λ b. cond b (cond stops (record r { done = true }) (row_begun (r.depth + 1))) r) (open_row h)
  where
    open_row : (length r.objects ≢ m) ⊎ (0 < length r.waiting) → is_whole m r ≡ false
    open_row (inl n) = ap (λ b. b && (length r.waiting == 0)) (ne_eqb (length r.objects) m n)
    open_row (inr w) = and_right (length r.objects == m) (length r.waiting == 0) (ne_eqb (length r.waiting) 0 (λ e. absurd (omega arith)))

pub moved_down : (m : ℕ) (stops : Bool) (r : RowProgress) → length r.objects ≡ m → length r.waiting ≡ 0
    → moved m stops r ≡ cond stops (record r { done = true }) (row_begun (r.depth + 1))
moved_down m stops r e w =
    ap (λ b. cond b (cond stops (record r { done = true }) (row_begun (r.depth + 1))) r)
    (ap (λ b. b && (length r.waiting == 0)) (eq-eqb (length r.objects) m e) ∙ eq-eqb (length r.waiting) 0 w)

-- in a row nothing else follows
pub row_follows_on : (V : List ℕ → ℕ) (halt : Halt) (n : ℕ) (D : List (List Row)) (A : List Access) (r : RowProgress) (items : List Item) → 0 < length D → r.done ≡ false
    → length r.grades ≡ 0 → OnRow V halt n D A r → OnBoard V D A r.waiting items
    → OnTable V halt n D A (followed V halt (length D) (items_after V (length D) items r) r) (items_after V (length D) items r)
row_follows_on V halt n D A r items l open' none on board =
    let m : ℕ = length D in
    let unscored : length r.grades ≢ m = λ e. absurd (omega arith) in
    let same_items : items_after V m items r ≡ items = ap (λ b. cond b (put_item (record { object = first_or_zero r.waiting; low = V r.grades; high = V r.grades }) items) items) (ne_eqb (length r.grades) m unscored) in
    let same : followed V halt m (items_after V m items r) r ≡ r =
    ap (moved m (enough halt r.depth (V r.bottoms) (items_after V m items r))) (settled_not m r unscored)
    ∙ moved_on m (enough halt r.depth (V r.bottoms) (items_after V m items r)) r (inl (λ e. absurd (omega (arith, on.unread)))) in
    subst (λ s. OnTable V halt n D A s (items_after V m items r)) (sym same)
    (subst (λ xs. OnTable V halt n D A r xs) (sym same_items) (record { reading = on_row V halt n D A r open' on; board = board }))

-- a whole row goes on with what waits, ends the run or makes room for the next row
row_moves : (V : List ℕ → ℕ) (halt : Halt) (n : ℕ) (D : List (List Row)) (A : List Access) (r : RowProgress) (items : List Item) → IsMonotone V → IsHalting halt n D
    → r.done ≡ false → OnAsks V halt n D A r → OnBoard V D A r.waiting items → OnTable V halt n D A (moved (length D) (enough halt r.depth (V r.bottoms) items) r) items
row_moves V halt n D A r items monotone asked open' on board =
    let m : ℕ = length D in
    let long : length r.objects ≡ m = ap length on.objects_are ∙ length-map (λ (rows : List Row). (row_at rows r.depth).object) D in
    elim (cases_eq (length r.waiting) 0) [
      | inr some' ↦
          subst (λ s. OnTable V halt n D A s items) (sym (moved_on m (enough halt r.depth (V r.bottoms) items) r (inr (positive (length r.waiting) some'))))
          (record { reading = on_asks V halt n D A r open' (omega arith) on; board = board })
      | inl none ↦
          let empty : r.waiting ≡ [] = empty_list r.waiting none in
          let read : A ≡ ta_run_to D r.depth = row_is_made V halt n D A r on empty in
          let told : enough halt r.depth (V r.bottoms) items ≡ halts_at V halt D r.depth =
          ap (λ bs. enough halt r.depth (V bs) items) on.bottoms_are
          ∙ board_tells_stop V halt n D r.depth items asked.table on.at.within (subst (λ B. OnBoard V D B [] items) read (subst (λ ws. OnBoard V D A ws items) empty board)) in
          let down : moved m (enough halt r.depth (V r.bottoms) items) r ≡ cond (halts_at V halt D r.depth) (record r { done = true }) (row_begun (r.depth + 1)) =
          moved_down m (enough halt r.depth (V r.bottoms) items) r long none ∙ ap (λ b. cond b (record r { done = true }) (row_begun (r.depth + 1))) told in
          elim (cases_Bool (halts_at V halt D r.depth)) [
            | inl stops ↦
                let last : moved m (enough halt r.depth (V r.bottoms) items) r ≡ record r { done = true } = down ∙ ap (λ b. cond b (record r { done = true }) (row_begun (r.depth + 1))) stops in
                let here : r.depth ≡ halting_depth V halt D = is_own (halts_at V halt D) n (halting_depth V halt D) r.depth (own V halt n D monotone asked) on.at stops in
                let run : A ≡ halting_run V halt D = read ∙ ap (ta_run_to D) here in
                subst (λ s. OnTable V halt n D A s items) (sym last)
                (record { reading = made V halt n D A (record r { done = true }) refl (record { run = run; none = empty }); board = board })
            | inr goes ↦
                let next : moved m (enough halt r.depth (V r.bottoms) items) r ≡ row_begun (r.depth + 1) = down ∙ ap (λ b. cond b (record r { done = true }) (row_begun (r.depth + 1))) goes in
                subst (λ s. OnTable V halt n D A s items) (sym next)
                (record {
                  reading = on_row V halt n D A (row_begun (r.depth + 1)) refl (row_follows V halt n D A r monotone asked on empty goes);
                  board = subst (λ ws. OnBoard V D A ws items) empty board;
                })
          ]
    ]
  where
    positive : (p : ℕ) → (p ≡ 0 → ⊥) → 0 < p
    positive zero n = absurd (n refl)
    positive (suc p) n = omega arith

    empty_list : (xs : List ℕ) → length xs ≡ 0 → xs ≡ []
    empty_list [] e = refl
    empty_list (x ∷ xs) e = absurd (omega arith)

pub asks_follow_on : (V : List ℕ → ℕ) (halt : Halt) (n : ℕ) (D : List (List Row)) (A : List Access) (r : RowProgress) (items : List Item) → IsMonotone V → IsHalting halt n D
    → r.done ≡ false → (length r.grades ≡ length D → 0 < length r.waiting) → ((object : ℕ) → Contains r.waiting object → Contains (seen_objects A) object)
    → OnAsks V halt n D A r → OnBoard V D A r.waiting items
    → OnTable V halt n D A (followed V halt (length D) (items_after V (length D) items r) r) (items_after V (length D) items r)
asks_follow_on V halt n D A r items monotone asked open' filled seen on board =
    let m : ℕ = length D in
    elim (cases_eq (length r.grades) m) [
      | inr unscored ↦
          let same_items : items_after V m items r ≡ items = ap (λ b. cond b (put_item (record { object = first_or_zero r.waiting; low = V r.grades; high = V r.grades }) items) items) (ne_eqb (length r.grades) m unscored) in
          subst (λ xs. OnTable V halt n D A (followed V halt m xs r) xs) (sym same_items)
          (subst (λ s. OnTable V halt n D A (moved m (enough halt r.depth (V r.bottoms) items) s) items) (sym (settled_not m r unscored))
          (row_moves V halt n D A r items monotone asked open' on board))
      | inl whole ↦ scored_on r.waiting refl whole
    ]
  where
    scored_on : (ws : List ℕ) → r.waiting ≡ ws → length r.grades ≡ length D
        → OnTable V halt n D A (followed V halt (length D) (items_after V (length D) items r) r) (items_after V (length D) items r)
    scored_on [] is whole = absurd (omega (arith, filled whole, ap length is))
    scored_on (object ∷ waiting) is whole =
        let m : ℕ = length D in
        let value : V r.grades ≡ aggregate V D object = all_grades V halt n D A r object waiting on is whole in
        let put : items_after V m items r ≡ put_item (scored V D object) items =
        ap (λ b. cond b (put_item (record { object = first_or_zero r.waiting; low = V r.grades; high = V r.grades }) items) items) (eq-eqb (length r.grades) m whole)
        ∙ ap (λ ws. put_item (record { object = first_or_zero ws; low = V r.grades; high = V r.grades }) items) is
        ∙ ap (λ v. put_item (record { object = object; low = v; high = v }) items) value in
        let s : RowProgress = record r { waiting = waiting; grades = [] } in
        let same : settled m r ≡ s = settled_scored m r whole ∙ ap (λ ws. record r { waiting = drop 1 ws; grades = [] }) is in
        let apart : AllPairs (λ (one : ℕ) (other : ℕ). one ≢ other) (object ∷ waiting) = subst (AllPairs (λ (one : ℕ) (other : ℕ). one ≢ other)) is on.distinct in
        let board' : OnBoard V D A waiting (put_item (scored V D object) items) =
        board_after_put V D A object waiting items (subst (λ ws. OnBoard V D A ws items) is board) apart (seen object (subst (λ ws. Contains ws object) (sym is) (contains_here object waiting))) in
        subst (λ xs. OnTable V halt n D A (followed V halt m xs r) xs) (sym put)
        (subst (λ z. OnTable V halt n D A (moved m (enough halt r.depth (V r.bottoms) (put_item (scored V D object) items)) z) (put_item (scored V D object) items)) (sym same)
        (row_moves V halt n D A s (put_item (scored V D object) items) monotone asked open' (object_settles V halt n D A r object waiting on is whole) board'))
