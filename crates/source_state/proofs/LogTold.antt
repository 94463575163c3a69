-- The log of a state is what its history says.
use Rattle.std.proofs.Common.{◌≡◌, ℕ, Option, Some, None, List, [], ◌∷◌, ◌++◌, length, drop, map, refl, sym, ap, subst, ◌∙◌, append-nil, append_assoc}
use Rattle.std.specs.List.{flat_map}
use Rattle.std.proofs.Math.Seq.{drop-length, drop-append_seam}
use Rattle.std.proofs.lemmas.Grind.{flat_map-append}
use Rattle.ranked_list.specs.declared.row.Row.{Row}
use Rattle.source_state.specs.declared.entry.LogEntry.{LogEntry}
use Rattle.source_state.specs.declared.entry.LogEntry.TheVariants as entry
use Rattle.source_state.specs.declared.entry.Settling.{Settling}
use Rattle.source_state.specs.declared.entry.Settling.TheVariants as settling
use Rattle.source_state.specs.declared.entry.SourceFault.{SourceFault}
use Rattle.source_state.specs.declared.entry.SourceFault.TheVariants.{ShortList, Moved}
use Rattle.source_state.specs.declared.event.Event.{Event}
use Rattle.source_state.specs.declared.event.Event.TheVariants.{Want, Ask, Page, Grade, Miss, Fail, Move}
use Rattle.source_state.specs.Log.{first_of, rows_in, fault_in}
use Rattle.source_state.specs.State.{State, opened, asks_of, row_fault, settle}
use Rattle.source_state.specs.Events.{logged, row_or, with_rows, after, MayCome}
use Rattle.source_state.specs.History.{Moment, moments, settling_by, rows_told, fault_told, fault_added, entries_by, entries_told, log_told, replayed, AllMayCome, kept_by, IsByHistory}
use Rattle.source_state.proofs.LogLaws.{kept_rows, kept_faults, settled_rows, settled_faults, fault_rows, fault_first}
use Rattle.source_state.proofs.Told.{replayed_push, moments_push, count_stays, told_next, none_told}

-- what adds nothing
none_added : (fault : Option SourceFault) → fault_added fault fault ≡ []
none_added None = refl
none_added (Some fault) = refl

kept_all : (rows : List Row) → map (λ (row : Row). entry.Kept row) (drop (length rows) rows) ≡ []
kept_all rows = ap (map (λ (row : Row). entry.Kept row)) (drop-length rows)

nothing_more : (rows : List Row) (fault : Option SourceFault) → entries_by rows rows None fault fault ≡ []
nothing_more rows fault = ap (λ es. es ++ fault_added fault fault) (kept_all rows) ∙ none_added fault

settled_more : (rows : List Row) (one : LogEntry) (fault : Option SourceFault) → entries_by rows rows (Some one) fault fault ≡ one ∷ []
settled_more rows one fault =
    ap (λ es. es ++ (one ∷ fault_added fault fault)) (kept_all rows) ∙ ap (λ fs. one ∷ fs) (none_added fault)

-- the rows of a page
pub record RowsLogged (s t : State) : Type 0 where
  pub more : List Row
  pub rows : rows_in t.log ≡ rows_in s.log ++ more
  pub log : t.log ≡ s.log ++ (map (λ (row : Row). entry.Kept row) more ++ fault_added None (fault_in t.log))

row_logged : (o : Option SourceFault) (s : State) (row : Row) (next : State → State) → fault_in s.log ≡ None
    → ((t : State) → fault_in t.log ≡ None → RowsLogged t (next t)) → RowsLogged s (row_or o s row next)
row_logged None s row next none rest =
    let t : State = logged s (entry.Kept row) in
    let clean : fault_in t.log ≡ None = ap first_of (kept_faults s.log row) ∙ none in
    let r = rest t clean in record {
      more = row ∷ r.more;
      rows = r.rows ∙ ap (λ rs. rs ++ r.more) (kept_rows s.log row) ∙ append_assoc (rows_in s.log) (row ∷ []) r.more;
      log = r.log ∙ append_assoc s.log (entry.Kept row ∷ []) (map (λ (one : Row). entry.Kept one) r.more ++ fault_added None (fault_in (next t).log));
    }
row_logged (Some fault) s row next none rest = record {
  more = [];
  rows = fault_rows s.log fault ∙ sym (append-nil (rows_in s.log));
  log = ap (λ o. s.log ++ fault_added None o) (sym (fault_first s.log fault none));
}

page_logged : (s : State) (rows : List Row) → fault_in s.log ≡ None → RowsLogged s (with_rows s rows)
page_logged s [] none = record {
  more = [];
  rows = sym (append-nil (rows_in s.log));
  log = sym (append-nil s.log) ∙ ap (λ o. s.log ++ fault_added None o) (sym none);
}
page_logged s (row ∷ rows) none = row_logged (row_fault (rows_in s.log) (asks_of s) row) s row (λ t. with_rows t rows) none (λ t clean. page_logged t rows clean)

rows_more : (s t : State) → fault_in s.log ≡ None → RowsLogged s t
    → t.log ≡ s.log ++ entries_by (rows_in s.log) (rows_in t.log) None (fault_in s.log) (fault_in t.log)
rows_more s t none l =
    l.log
    ∙ ap (λ more. s.log ++ (map (λ (row : Row). entry.Kept row) more ++ fault_added None (fault_in t.log))) (sym (ap (drop (length (rows_in s.log))) l.rows ∙ drop-append_seam (rows_in s.log) l.more))
    ∙ ap (λ had. s.log ++ entries_by (rows_in s.log) (rows_in t.log) None had (fault_in t.log)) (sym none)

-- what an event settles in a state, and what it adds to the log
settles : State → Event → Option LogEntry
settles s event = settling_by (λ E. rows_in s.log) (record { before = []; event = event }) event

-- what one more row fault, and one more settling, add to the log
fault_logged : (s : State) (fault : SourceFault) → fault_in s.log ≡ None
    → s.log ++ entry.Fault fault ∷ [] ≡ s.log ++ entries_by (rows_in s.log) (rows_in (s.log ++ entry.Fault fault ∷ [])) None (fault_in s.log) (fault_in (s.log ++ entry.Fault fault ∷ []))
fault_logged s fault none =
    rows_more s (logged s (entry.Fault fault)) none
    (record {
      more = [];
      rows = fault_rows s.log fault ∙ sym (append-nil (rows_in s.log));
      log = ap (λ o. s.log ++ fault_added None o) (sym (fault_first s.log fault none));
    })

settling_logged : (s : State) (object : ℕ) (one : Settling)
    → s.log ++ entry.Settled object one ∷ [] ≡ s.log ++ entries_by (rows_in s.log) (rows_in (s.log ++ entry.Settled object one ∷ [])) (Some (entry.Settled object one)) (fault_in s.log) (fault_in (s.log ++ entry.Settled object one ∷ []))
settling_logged s object one =
    ap (λ es. s.log ++ es) (sym (settled_more (rows_in s.log) (entry.Settled object one) (fault_in s.log)))
    ∙ ap (λ rows. s.log ++ entries_by (rows_in s.log) rows (Some (entry.Settled object one)) (fault_in s.log) (fault_in s.log)) (sym (settled_rows s.log object one))
    ∙ ap (λ fs. s.log ++ entries_by (rows_in s.log) (rows_in (s.log ++ entry.Settled object one ∷ [])) (Some (entry.Settled object one)) (fault_in s.log) (first_of fs)) (sym (settled_faults s.log object one))

event_logged : (s : State) (event : Event) → MayCome s event
    → (after s event).log ≡ s.log ++ entries_by (rows_in s.log) (rows_in (after s event).log) (settles s event) (fault_in s.log) (fault_in (after s event).log)
unfolding settles
event_logged s (Want depth) may = sym (append-nil s.log) ∙ ap (λ es. s.log ++ es) (sym (nothing_more (rows_in s.log) (fault_in s.log)))
event_logged s (Ask object) may = sym (append-nil s.log) ∙ ap (λ es. s.log ++ es) (sym (nothing_more (rows_in s.log) (fault_in s.log)))
event_logged s (Fail what) may = sym (append-nil s.log) ∙ ap (λ es. s.log ++ es) (sym (nothing_more (rows_in s.log) (fault_in s.log)))
event_logged s (Grade object grade) may = settling_logged s object (settle (rows_in s.log) object grade)
event_logged s (Miss object) may = settling_logged s object settling.Missed
event_logged s (Move None had now) may = fault_logged s (Moved had now) may.1.0
event_logged s (Move (Some object) had now) may = settling_logged s object (settling.Bad (Moved had now))
event_logged s (Page []) may = fault_logged s (ShortList s.count (length (rows_in s.log))) may.no_fault
event_logged s (Page (row ∷ rows)) may = rows_more s (with_rows s (row ∷ rows)) may.no_fault (page_logged s (row ∷ rows) may.no_fault)

-- what it settles by the history
settles_told : (kept : List Event → List Row) (E : List Event) (s : State) (event : Event) → rows_in s.log ≡ kept E
    → settles s event ≡ settling_by kept (record { before = E; event = event }) event
unfolding settles
settles_told kept E s (Want depth) all = refl
settles_told kept E s (Ask object) all = refl
settles_told kept E s (Page rows) all = refl
settles_told kept E s (Grade object grade) all = ap (λ rows. Some (entry.Settled object (settle rows object grade))) all
settles_told kept E s (Miss object) all = refl
settles_told kept E s (Fail what) all = refl
settles_told kept E s (Move None had now) all = refl
settles_told kept E s (Move (Some object) had now) all = refl

log_next : (kept : List Event → List Row) (count : ℕ) (E : List Event) (s : State) (event : Event) → IsByHistory kept count E s
    → IsByHistory kept count (E ++ event ∷ []) (after s event) → rows_in s.log ≡ kept E → MayCome s event → s.log ≡ log_told kept count E
    → (after s event).log ≡ log_told kept count (E ++ event ∷ [])
log_next kept count E s event h next all may is =
    let m : Moment = record { before = E; event = event } in
    event_logged s event may
    ∙ ap (λ log. log ++ entries_by (rows_in s.log) (rows_in (after s event).log) (settles s event) (fault_in s.log) (fault_in (after s event).log)) is
    ∙ ap (λ one. log_told kept count E ++ entries_by (rows_in s.log) (rows_in (after s event).log) one (fault_in s.log) (fault_in (after s event).log)) (settles_told kept E s event all)
    ∙ ap (λ rows. log_told kept count E ++ entries_by rows (rows_in (after s event).log) (settling_by kept m event) (fault_in s.log) (fault_in (after s event).log)) h.rows
    ∙ ap (λ rows. log_told kept count E ++ entries_by (rows_told kept E) rows (settling_by kept m event) (fault_in s.log) (fault_in (after s event).log)) next.rows
    ∙ ap (λ had. log_told kept count E ++ entries_by (rows_told kept E) (rows_told kept (E ++ event ∷ [])) (settling_by kept m event) had (fault_in (after s event).log)) h.fault
    ∙ ap (λ now. log_told kept count E ++ entries_by (rows_told kept E) (rows_told kept (E ++ event ∷ [])) (settling_by kept m event) (fault_told count kept E) now) next.fault
    ∙ ap (λ es. log_told kept count E ++ es) (sym (append-nil (entries_told kept count m)))
    ∙ sym (ap (flat_map (entries_told kept count)) (moments_push [] E event) ∙ flat_map-append (entries_told kept count) (moments E) (m ∷ []))

-- a whole history
log_along : (start : State) (count : ℕ) (E more : List Event) → IsByHistory (kept_by start) count E (replayed start E) → (replayed start E).count ≡ count
    → (replayed start E).log ≡ log_told (kept_by start) count E → AllMayCome (replayed start E) more
    → (replayed (replayed start E) more).log ≡ log_told (kept_by start) count (E ++ more)
log_along start count E [] h is log may = log ∙ ap (log_told (kept_by start) count) (sym (append-nil E))
log_along start count E (event ∷ more) h is log may =
    let next : IsByHistory (kept_by start) count (E ++ event ∷ []) (after (replayed start E) event) = told_next (kept_by start) count E (replayed start E) event h is refl may.0 in
    let step : after (replayed start E) event ≡ replayed start (E ++ event ∷ []) = sym (replayed_push start E event) in
    let log2 : (after (replayed start E) event).log ≡ log_told (kept_by start) count (E ++ event ∷ []) = log_next (kept_by start) count E (replayed start E) event h next refl may.0 log in
    ap (λ (t : State). (replayed t more).log) step
    ∙ log_along start count (E ++ event ∷ []) more
    (subst (λ t. IsByHistory (kept_by start) count (E ++ event ∷ []) t) step next)
    (ap (λ (t : State). t.count) (sym step) ∙ count_stays (replayed start E) event ∙ is)
    (ap (λ (t : State). t.log) (sym step) ∙ log2)
    (subst (λ t. AllMayCome t more) step may.1)
    ∙ ap (log_told (kept_by start) count) (append_assoc E (event ∷ []) more)

pub log_is_told : (list count : ℕ) (E : List Event) → AllMayCome (opened list count) E
    → (replayed (opened list count) E).log ≡ log_told (kept_by (opened list count)) count E
log_is_told list count E may = log_along (opened list count) count [] E (none_told list count) refl refl may
