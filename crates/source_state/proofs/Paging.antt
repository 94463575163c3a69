-- The rows of a page, one after another.
use Rattle.std.proofs.Common.{◌≡◌, ◌<◌, ◌+◌, ◌∙◌, ℕ, Option, Some, None, List, [], ◌∷◌, ◌++◌, length, drop, slice_get, refl, sym, ap, arith}
use Rattle.std.proofs.lemmas.List.{drop_more, drop_all, length-append}
use Rattle.std.proofs.lemmas.Option.{get_or_from_slice_get, slice_get_within}
use Rattle.ranked_list.specs.declared.row.Row.{Row}
use Rattle.source_state.specs.declared.entry.LogEntry.TheVariants.{Kept, Fault}
use Rattle.source_state.specs.declared.entry.SourceFault.{SourceFault}
use Rattle.source_state.specs.declared.event.Applied.TheVariants.{Broken}
use Rattle.source_state.specs.Log.{first_of, rows_in, fault_in}
use Rattle.source_state.specs.State.{State, asks_of, row_fault, IsSound}
use Rattle.source_state.specs.Events.{logged, row_or, with_rows, MayPage, IsApplied}
use Rattle.source_state.specs.Keeping.{RowsLeft}
use Rattle.source_state.proofs.LogLaws.{kept_rows, kept_faults, fault_first}

-- what is left begins with the row at the place
next_row : (rows : List Row) (place : ℕ) (row : Row) → slice_get rows place ≡ Some row → drop place rows ≡ row ∷ drop (place + 1) rows
next_row rows place row e =
    drop_more rows place row (slice_get_within rows place row e) ∙ ap (λ (one : Row). one ∷ drop (place + 1) rows) (get_or_from_slice_get rows place row row e)

rows_from : (rows : List Row) (place : ℕ) (row : Row) (now : State) (o : Option SourceFault) → slice_get rows place ≡ Some row
    → row_fault (rows_in now.log) (asks_of now) row ≡ o → with_rows now (drop place rows) ≡ row_or o now row (λ t. with_rows t (drop (place + 1) rows))
rows_from rows place row now o e f =
    ap (with_rows now) (next_row rows place row e) ∙ ap (λ fault. row_or fault now row (λ t. with_rows t (drop (place + 1) rows))) f

pub rows_more : (rows : List Row) (place : ℕ) (row : Row) (begun now next : State) → RowsLeft rows place begun now → slice_get rows place ≡ Some row
    → row_fault (rows_in now.log) (asks_of now) row ≡ None → next ≡ logged now (Kept row) → IsSound next → RowsLeft rows (place + 1) begun next
rows_more rows place row begun now next h e f is sound = record {
  left = ap (λ (t : State). with_rows t (drop (place + 1) rows)) is ∙ sym (rows_from rows place row now None e f) ∙ h.left;
  no_fault = ap (λ (t : State). fault_in t.log) is ∙ ap first_of (kept_faults now.log row) ∙ h.no_fault;
  count = ap (λ (t : State). t.count) is ∙ h.count;
  came =
      let more : length (rows_in next.log) ≡ length (rows_in now.log ++ row ∷ []) = ap (λ (t : State). length (rows_in t.log)) is ∙ ap (length {A = Row}) (kept_rows now.log row) in
      let before = h.came in
      omega (arith, length-append (rows_in now.log) (row ∷ []));
  sound = sound;
}

pub rows_broken : (rows : List Row) (place : ℕ) (row : Row) (fault : SourceFault) (begun now next : State) → RowsLeft rows place begun now
    → slice_get rows place ≡ Some row → row_fault (rows_in now.log) (asks_of now) row ≡ Some fault → next ≡ logged now (Fault fault)
    → next ≡ with_rows begun rows
rows_broken rows place row fault begun now next h e f is = is ∙ sym (rows_from rows place row now (Some fault) e f) ∙ h.left

pub page_broken : (rows : List Row) (place : ℕ) (fault : SourceFault) (begun now next : State) → RowsLeft rows place begun now → fault_in begun.log ≡ None
    → next ≡ logged now (Fault fault) → IsApplied begun next Broken
page_broken rows place fault begun now next h none is = (none, fault, ap (λ (t : State). fault_in t.log) is ∙ fault_first now.log fault h.no_fault)

pub rows_end : (rows : List Row) (begun now : State) → RowsLeft rows (length rows) begun now → now ≡ with_rows begun rows
rows_end rows begun now h = sym (ap (with_rows now) (drop_all (length rows) rows (omega arith))) ∙ h.left

pub rows_begin : (rows : List Row) (begun : State) → fault_in begun.log ≡ None → IsSound begun → RowsLeft rows 0 begun begun
rows_begin rows begun none sound = record { left = refl; no_fault = none; count = refl; came = omega arith; sound = sound }

pub row_room : (rows : List Row) (place : ℕ) (row : Row) (begun now : State) → RowsLeft rows place begun now → MayPage begun rows
    → slice_get rows place ≡ Some row → length (rows_in now.log) < now.count
row_room rows place row begun now h may e =
    let within : place < length rows = slice_get_within rows place row e in
    let came = h.came in
    let count = h.count in
    let fits = may.fits in
    omega arith
