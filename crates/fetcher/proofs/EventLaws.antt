-- What an event of the source leaves of the state.
use Rattle.std.proofs.Common.{◌≡◌, ◌+◌, ℕ, Option, Some, None, List, [], ◌∷◌, ◌++◌, length, refl, sym, ap, ◌∙◌, append_assoc, append-nil}
use Rattle.std.proofs.lemmas.List.{length-append, length_push}
use Rattle.ranked_list.specs.declared.row.Row.{Row}
use Rattle.source_state.specs.declared.entry.LogEntry.TheVariants.{Kept, Settled, Fault}
use Rattle.source_state.specs.declared.entry.Settling.{Settling}
use Rattle.source_state.specs.declared.entry.SourceFault.{SourceFault}
use Rattle.source_state.specs.declared.entry.SourceFault.TheVariants.{ShortList}
use Rattle.source_state.specs.declared.event.Event.{Event}
use Rattle.source_state.specs.declared.event.Event.TheVariants as event
use Rattle.source_state.specs.Log.{first_of, rows_in, settled_in, fault_in}
use Rattle.source_state.specs.State.{State, asks_of, row_fault}
use Rattle.source_state.specs.Events.{logged, row_or, with_rows, paged, after}
use Rattle.source_state.proofs.Lists.{none_not_some}
use Rattle.source_state.proofs.LogLaws.{kept_rows, kept_settled, kept_faults, settled_rows, settled_settled, settled_faults, fault_settled, fault_first}
use Rattle.fetcher.specs.Turning.{IsOfSource}

-- the count, the want, the asks, the tally and what is settled stay
pub record Stays (s t : State) : Type 0 where
  pub count : t.count ≡ s.count
  pub want : t.want ≡ s.want
  pub asks : t.asks ≡ s.asks
  pub tally : t.tally ≡ s.tally
  pub settled : settled_in t.log ≡ settled_in s.log

stays_on : (s t u : State) → Stays s t → Stays t u → Stays s u
stays_on s t u a b = record { count = b.count ∙ a.count; want = b.want ∙ a.want; asks = b.asks ∙ a.asks; tally = b.tally ∙ a.tally; settled = b.settled ∙ a.settled }

row_kept : (s : State) (row : Row) → Stays s (logged s (Kept row))
row_kept s row = record { count = refl; want = refl; asks = refl; tally = refl; settled = kept_settled s.log row }

fault_set_in : (s : State) (fault : SourceFault) → Stays s (logged s (Fault fault))
fault_set_in s fault = record { count = refl; want = refl; asks = refl; tally = refl; settled = fault_settled s.log fault }

row_stays : (o : Option SourceFault) (s : State) (row : Row) (next : State → State) → ((t : State) → Stays t (next t)) → Stays s (row_or o s row next)
row_stays None s row next h = stays_on s (logged s (Kept row)) (next (logged s (Kept row))) (row_kept s row) (h (logged s (Kept row)))
row_stays (Some fault) s row next h = fault_set_in s fault

rows_stay : (s : State) (rows : List Row) → Stays s (with_rows s rows)
rows_stay s [] = record { count = refl; want = refl; asks = refl; tally = refl; settled = refl }
rows_stay s (row ∷ rows) = row_stays (row_fault (rows_in s.log) (asks_of s) row) s row (λ t. with_rows t rows) (λ t. rows_stay t rows)

pub page_stays : (s : State) (rows : List Row) → Stays s (paged s rows)
page_stays s [] = fault_set_in s (ShortList s.count (length (rows_in s.log)))
page_stays s (row ∷ rows) = rows_stay s (row ∷ rows)

-- an event of the source raises no mark and adds no ask
pub event_want : (s : State) (e : Event) → IsOfSource e → (after s e).want ≡ s.want
event_want s (event.Want depth) of = absurd of
event_want s (event.Ask object) of = absurd of
event_want s (event.Page rows) of = (page_stays s rows).want
event_want s (event.Grade object grade) of = refl
event_want s (event.Miss object) of = refl
event_want s (event.Fail what) of = refl
event_want s (event.Move None had now) of = refl
event_want s (event.Move (Some object) had now) of = refl

pub event_asks : (s : State) (e : Event) → IsOfSource e → (after s e).asks ≡ s.asks
event_asks s (event.Want depth) of = absurd of
event_asks s (event.Ask object) of = absurd of
event_asks s (event.Page rows) of = (page_stays s rows).asks
event_asks s (event.Grade object grade) of = refl
event_asks s (event.Miss object) of = refl
event_asks s (event.Fail what) of = refl
event_asks s (event.Move None had now) of = refl
event_asks s (event.Move (Some object) had now) of = refl

-- a move is no fail
pub move_tally : (s : State) (object : Option ℕ) (had now : ℕ) → (after s (event.Move object had now)).tally ≡ s.tally
move_tally s None had now = refl
move_tally s (Some object) had now = refl

-- where no row of a page is at fault, all are kept
row_all : (o : Option SourceFault) (s : State) (row : Row) (rows : List Row)
    → ((t : State) → fault_in (with_rows t rows).log ≡ None → fault_in t.log ≡ None → rows_in (with_rows t rows).log ≡ rows_in t.log ++ rows)
    → fault_in (row_or o s row (λ t. with_rows t rows)).log ≡ None → fault_in s.log ≡ None → rows_in (row_or o s row (λ t. with_rows t rows)).log ≡ rows_in s.log ++ row ∷ rows
row_all None s row rows ih e none =
    ih (logged s (Kept row)) e (ap (first_of {X = SourceFault}) (kept_faults s.log row) ∙ none)
    ∙ (ap (λ xs. xs ++ rows) (kept_rows s.log row) ∙ append_assoc (rows_in s.log) (row ∷ []) rows)
row_all (Some fault) s row rows ih e none = absurd (none_not_some (sym e ∙ fault_first s.log fault none))

rows_all : (s : State) (rows : List Row) → fault_in (with_rows s rows).log ≡ None → fault_in s.log ≡ None
    → rows_in (with_rows s rows).log ≡ rows_in s.log ++ rows
rows_all s [] e none = sym (append-nil (rows_in s.log))
rows_all s (row ∷ rows) e none = row_all (row_fault (rows_in s.log) (asks_of s) row) s row rows (λ t. rows_all t rows) e none

pub page_all : (s : State) (rows : List Row) → fault_in (paged s rows).log ≡ None → fault_in s.log ≡ None
    → length (rows_in (paged s rows).log) ≡ length (rows_in s.log) + length rows
page_all s [] e none = absurd (none_not_some (sym e ∙ fault_first s.log (ShortList s.count (length (rows_in s.log))) none))
page_all s (row ∷ rows) e none = ap (length {A = Row}) (rows_all s (row ∷ rows) e none) ∙ length-append (rows_in s.log) (row ∷ rows)

-- one more settling
pub settling_more : (s : State) (object : ℕ) (settling : Settling)
    → length (settled_in (logged s (Settled object settling)).log) ≡ length (settled_in s.log) + 1
settling_more s object settling = ap (length {A = ℕ}) (settled_settled s.log object settling) ∙ length_push (settled_in s.log) object

pub settling_rows : (s : State) (object : ℕ) (settling : Settling) → rows_in (logged s (Settled object settling)).log ≡ rows_in s.log
settling_rows s object settling = settled_rows s.log object settling

pub settling_fault : (s : State) (object : ℕ) (settling : Settling) → fault_in (logged s (Settled object settling)).log ≡ fault_in s.log
settling_fault s object settling = ap (first_of {X = SourceFault}) (settled_faults s.log object settling)
