-- Windows hold rows of a list at their depths: without rows, as they are filled, and as the list goes on.
use Rattle.std.proofs.Common.{◌≡◌, ◌≤◌, ◌<◌, ◌+◌, ◌-◌, ◌++◌, ◌∷◌, ◌⊎◌, [], inl, inr, ℕ, Bool, true, false, cond, Some, None, List, length, take, drop, get_or, nat_lt, slice_get, refl, sym, ap, subst, ◌∙◌, arith}
use Rattle.std.proofs.lemmas.Bool.{cases_Bool, ltb-true}
use Rattle.std.proofs.lemmas.List.{take-append-drop, take_all, get_or-drop}
use Rattle.std.proofs.lemmas.List.Elements.{filter_map-append}
use Rattle.std.proofs.lemmas.Option.{slice_get-get_or, get_or_from_slice_get}
use Rattle.ranked_list.specs.declared.row.Row.{Row}
use Rattle.ranked_list.specs.declared.need.Need.{Need}
use Rattle.ranked_list.specs.declared.need.Need.TheVariants as need
use Rattle.ranked_list.proofs.Members.{past_end}
use Rattle.turn_lock.specs.Facts.{IsFrontOf}
use Rattle.topk_theory.proofs.AgreementLists.{slice_get_front, slice_get_in_range, front_next}
use Rattle.source_state.specs.declared.entry.LogEntry.{LogEntry}
use Rattle.source_state.specs.declared.look.Look.{Look}
use Rattle.source_state.specs.declared.look.Look.TheVariants as look
use Rattle.source_state.specs.Log.{rows_in, kept_row}
use Rattle.source_state.specs.State.{State}
use Rattle.source_state.specs.Looking.{decided, row_or_fault}
use Rattle.source_state.proofs.Lists.{none_not_some}
use Rattle.source_pool.specs.Windows.{RowsFrom, no_rows, held_at, row_held, most_rows, rows_from, filled, window_after, IsWindowOf}

-- a window without rows has none
pub none_there : (rows : List Row) → IsWindowOf rows no_rows
none_there rows = record { there = λ depth row e. absurd (none_not_some (sym (nothing (nat_lt depth 1) (depth - 1)) ∙ e)) }
  where
    nothing : (t : Bool) (place : ℕ) → cond t None (slice_get {X = Row} [] place) ≡ None
    nothing true place = refl
    nothing false place = refl

-- the rows of a list stay where they are as the list goes on
pub window_goes : (rows more : List Row) (window : RowsFrom) → IsWindowOf rows window → IsWindowOf (rows ++ more) window
window_goes rows more window h = record { there = λ depth row e. slice_get_front rows more (depth - 1) row (h.there depth row e) }

pub window_on : (before after : List LogEntry) (window : RowsFrom) → IsFrontOf before after → IsWindowOf (rows_in before) window
    → IsWindowOf (rows_in after) window
window_on before after window goes h =
    subst (λ log. IsWindowOf (rows_in log) window) (sym goes.goes_on)
    (subst (λ rows. IsWindowOf rows window) (sym (filter_map-append kept_row before goes.rest)) (window_goes (rows_in before) (rows_in goes.rest) window h))

-- a member of what is left of a list is one of the list
get_dropped : (rows : List Row) (n k : ℕ) (row : Row) → slice_get (drop n rows) k ≡ Some row → slice_get rows (n + k) ≡ Some row
get_dropped rows n k row e =
    let within : k < length (drop n rows) = slice_get_in_range (drop n rows) k row e in
    let read : get_or rows (n + k) row ≡ row = sym (get_or-drop n rows k row) ∙ get_or_from_slice_get (drop n rows) k row row e in
    slice_get-get_or rows (n + k) row (within_whole within) ∙ ap Some read
  where
    within_whole : k < length (drop n rows) → n + k < length rows
    within_whole l = let d = Rattle.std.proofs.lemmas.List.length-drop n rows in omega (arith, l, d)

-- a filled window
pub rows_there : (rows : List Row) (first : ℕ) → 1 ≤ first → IsWindowOf rows (rows_from rows first)
rows_there rows first one = record { there = λ depth row e. by_place depth row (cases_Bool (nat_lt depth first)) e }
  where
    by_place : (depth : ℕ) (row : Row) → (nat_lt depth first ≡ true) ⊎ (nat_lt depth first ≡ false) → held_at (rows_from rows first) depth ≡ Some row
        → slice_get rows (depth - 1) ≡ Some row
    by_place depth row (inl above) e = absurd (none_not_some (sym (ap (λ t. cond t None (slice_get (take most_rows (drop (first - 1) rows)) (depth - first))) above) ∙ e))
    by_place depth row (inr here) e =
        let there : slice_get (take most_rows (drop (first - 1) rows)) (depth - first) ≡ Some row
        = sym (ap (λ t. cond t None (slice_get (take most_rows (drop (first - 1) rows)) (depth - first))) here) ∙ e in
        let whole : slice_get (drop (first - 1) rows) (depth - first) ≡ Some row
        = subst (λ xs. slice_get xs (depth - first) ≡ Some row) (take-append-drop most_rows (drop (first - 1) rows))
        (slice_get_front (take most_rows (drop (first - 1) rows)) (drop most_rows (drop (first - 1) rows)) (depth - first) row there) in
        let deep : first ≤ depth = Rattle.std.proofs.lemmas.Bool.ltb-false depth first here in
        let at : (first - 1) + (depth - first) ≡ depth - 1 = omega (arith, one, deep) in
        subst (λ n. slice_get rows n ≡ Some row) at (get_dropped rows (first - 1) (depth - first) row whole)

-- one row more is copied, or there are no more
pub copied_more : (rows : List Row) (start k : ℕ) (row : Row) → slice_get rows (start + k) ≡ Some row → take k (drop start rows) ++ row ∷ [] ≡ take (k + 1) (drop start rows)
copied_more rows start k row e =
    front_next (drop start rows) k row
    (let within : k < length (drop start rows) = (let l = slice_get_in_range rows (start + k) row e in let d = Rattle.std.proofs.lemmas.List.length-drop start rows in omega (arith, l, d)) in
    slice_get-get_or (drop start rows) k row within ∙ ap Some (get_or-drop start rows k row ∙ get_or_from_slice_get rows (start + k) row row e))

pub copied_all : (rows : List Row) (start k : ℕ) → slice_get rows (start + k) ≡ None → k ≤ most_rows → take k (drop start rows) ≡ take most_rows (drop start rows)
copied_all rows start k e few =
    let short : length (drop start rows) ≤ k = (let l = past_end rows (start + k) e in let d = Rattle.std.proofs.lemmas.List.length-drop start rows in omega (arith, l, d)) in
    take_all k (drop start rows) short ∙ sym (take_all most_rows (drop start rows) (omega (arith, short, few)))

-- the window after a turn has rows of the log that was left, as that goes on from what was seen
pub window_left : (answer : Look) (n : Need) (before after : List LogEntry) (window : RowsFrom) → IsFrontOf before after → Rattle.source_pool.specs.Windows.IsInReach n
    → IsWindowOf (rows_in before) window → IsWindowOf (rows_in after) (window_after answer n (rows_in after) window)
window_left (look.Row row) (need.Row list depth) before after window goes reach h = rows_there (rows_in after) depth reach.0
window_left (look.Row row) (need.Grade list object) before after window goes reach h = window_on before after window goes h
window_left (look.Row row) need.Done before after window goes reach h = window_on before after window goes h
window_left (look.Grade grade) n before after window goes reach h = window_on before after window goes h
window_left look.NotYet n before after window goes reach h = window_on before after window goes h
window_left (look.Fault fault) n before after window goes reach h = window_on before after window goes h

-- a row of the window decides the need
pub held_decides : (s : State) (n : Need) (window : RowsFrom) (row : Row) → IsWindowOf (rows_in s.log) window → row_held window n ≡ Some row
    → decided s n ≡ Some (look.Row row)
held_decides s (need.Row list depth) window row h e = ap (λ o. row_or_fault o (Rattle.source_state.specs.Log.fault_in s.log)) (h.there depth row e)
held_decides s (need.Grade list object) window row h e = absurd (none_not_some e)
held_decides s need.Done window row h e = absurd (none_not_some e)
