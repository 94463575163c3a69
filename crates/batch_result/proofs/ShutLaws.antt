-- No row follows a row fault in a log that a fetcher makes.
use Rattle.std.proofs.Common.{◌≡◌, ℕ, Option, None, Some, List, [], ◌∷◌, ◌++◌, length, refl, sym, ap, subst, ◌∙◌}
use Rattle.std.proofs.lemmas.List.Elements.{filter_map-append}
use Rattle.ranked_list.specs.declared.row.Row.{Row}
use Rattle.turn_lock.specs.declared.known.Known.{Known}
use Rattle.turn_lock.specs.Facts.{IsFrontOf}
use Rattle.source_state.specs.declared.entry.LogEntry.{LogEntry}
use Rattle.source_state.specs.declared.entry.LogEntry.TheVariants.{Kept, Settled, Fault}
use Rattle.source_state.specs.declared.entry.Settling.TheVariants.{Bad, Missed}
use Rattle.source_state.specs.declared.entry.SourceFault.{SourceFault}
use Rattle.source_state.specs.declared.entry.SourceFault.TheVariants.{ShortList, Moved}
use Rattle.source_state.specs.Log.{first_of, kept_row, rows_in, fault_in}
use Rattle.source_state.specs.State.{State, asks_of, row_fault, settle}
use Rattle.source_state.specs.declared.event.Event.TheVariants.{Move}
use Rattle.source_state.specs.Events.{logged, row_or, with_rows, paged, after}
use Rattle.source_state.proofs.Lists.{none_not_some}
use Rattle.source_state.proofs.LogLaws.{kept_faults}
use Rattle.source_api.specs.declared.counts.Counts.{Counts}
use Rattle.source_api.specs.declared.source.Trouble.TheVariants as trouble
use Rattle.fetcher.specs.declared.turned.Turned.{Turned}
use Rattle.fetcher.specs.declared.turned.Turned.TheVariants as turned
use Rattle.fetcher.specs.Turning.{Brings}
use Rattle.fetcher.specs.Chaining.{Moment, OneTurn, AreTurns, IsFetched}

-- behind each row fault there is no row
abbrev pub Shut : List LogEntry → Type 0
Shut [] = Unit {0}
Shut (Kept row ∷ log) = Shut log
Shut (Settled object settling ∷ log) = Shut log
Shut (Fault fault ∷ log) = (rows_in log ≡ []) × Shut log

one_row : (entry : LogEntry) → kept_row entry ≡ None → rows_in (entry ∷ []) ≡ []
one_row (Kept row) e = absurd (none_not_some (sym e))
one_row (Settled object settling) e = refl
one_row (Fault fault) e = refl

shut_push : (log : List LogEntry) (entry : LogEntry) → Shut log → ((fault : SourceFault) → fault_in log ≡ Some fault → kept_row entry ≡ None)
    → Shut (log ++ entry ∷ [])
shut_push [] (Kept row) h may = tt
shut_push [] (Settled object settling) h may = tt
shut_push [] (Fault fault) h may = (refl, tt)
shut_push (Kept row ∷ log) entry h may = shut_push log entry h may
shut_push (Settled object settling ∷ log) entry h may = shut_push log entry h may
shut_push (Fault fault ∷ log) entry h may =
    let none : kept_row entry ≡ None = may fault refl in
    (filter_map-append kept_row log (entry ∷ []) ∙ (ap (λ rows. rows ++ rows_in (entry ∷ [])) h.0 ∙ one_row entry none), shut_push log entry h.1 (λ other e. none))

no_rows_front : (xs ys : List Row) → xs ++ ys ≡ [] → xs ≡ []
no_rows_front [] ys e = refl
no_rows_front (x ∷ xs) ys e = absurd (cc)

-- what is behind a fault adds no row
pub shut_rows : (front rest : List LogEntry) (fault : SourceFault) → Shut (front ++ rest) → fault_in front ≡ Some fault
    → rows_in (front ++ rest) ≡ rows_in front
shut_rows [] rest fault h e = absurd (none_not_some e)
shut_rows (Kept row ∷ front) rest fault h e = ap (λ rows. row ∷ rows) (shut_rows front rest fault h e)
shut_rows (Settled object settling ∷ front) rest fault h e = shut_rows front rest fault h e
shut_rows (Fault other ∷ front) rest fault h e =
    h.0 ∙ sym (no_rows_front (rows_in front) (rows_in rest) (sym (filter_map-append kept_row front rest) ∙ h.0))

pub shut_begins : (front whole : List LogEntry) (fault : SourceFault) → IsFrontOf front whole → Shut whole → fault_in front ≡ Some fault
    → rows_in whole ≡ rows_in front
shut_begins front whole fault begins h e =
    ap rows_in begins.goes_on ∙ shut_rows front begins.rest fault (subst Shut begins.goes_on h) e

-- the rows of a page
no_fault_next : (s : State) (row : Row) → fault_in s.log ≡ None → fault_in (logged s (Kept row)).log ≡ None
no_fault_next s row e = ap (first_of {X = SourceFault}) (kept_faults s.log row) ∙ e

shut_or : (o : Option SourceFault) (s : State) (row : Row) (next : State → State) → Shut s.log → fault_in s.log ≡ None
    → ((t : State) → Shut t.log → fault_in t.log ≡ None → Shut (next t).log) → Shut (row_or o s row next).log
shut_or None s row next h none rec =
    rec (logged s (Kept row)) (shut_push s.log (Kept row) h (λ fault e. absurd (none_not_some (sym none ∙ e)))) (no_fault_next s row none)
shut_or (Some fault) s row next h none rec = shut_push s.log (Fault fault) h (λ other e. refl)

shut_page : (s : State) (rows : List Row) → Shut s.log → fault_in s.log ≡ None → Shut (with_rows s rows).log
shut_page s [] h none = h
shut_page s (row ∷ rows) h none = shut_or (row_fault (rows_in s.log) (asks_of s) row) s row (λ t. with_rows t rows) h none (λ t g e. shut_page t rows g e)

shut_paged : (s : State) (rows : List Row) → Shut s.log → fault_in s.log ≡ None → Shut (paged s rows).log
shut_paged s [] h none = shut_push s.log (Fault (ShortList s.count (length (rows_in s.log)))) h (λ other e. refl)
shut_paged s (row ∷ rows) h none = shut_page s (row ∷ rows) h none

shut_moved : (s : State) (object : Option ℕ) (had other : ℕ) → Shut s.log → Shut (after s (Move object had other)).log
shut_moved s None had other h = shut_push s.log (Fault (Moved had other)) h (λ fault e. refl)
shut_moved s (Some object) had other h = shut_push s.log (Settled object (Bad (Moved had other))) h (λ fault e. refl)

-- the turns of a fetcher
shut_turn : (page ahead : ℕ) (list : Option (List Row)) (counts now : Counts) (before after : Known LogEntry) (answer : Turned)
    → Brings page ahead list counts now before after answer → Shut before.seen → Shut after.seen
shut_turn page ahead list counts now before after (turned.Paged rows) b h =
    subst Shut (sym b.fed.sees.log)
    (shut_paged b.fed.found b.given (subst Shut (sym b.fed.is.log) h) (ap fault_in b.fed.is.log ∙ b.no_fault))
shut_turn page ahead list counts now before after (turned.Graded object) b h =
    let found = b.fed.found in
    subst Shut (sym b.fed.sees.log)
    (shut_push found.log (Settled object (settle (rows_in found.log) object b.grade)) (subst Shut (sym b.fed.is.log) h) (λ fault e. refl))
shut_turn page ahead list counts now before after (turned.Missed object) b h =
    subst Shut (sym b.fed.sees.log) (shut_push b.fed.found.log (Settled object Missed) (subst Shut (sym b.fed.is.log) h) (λ fault e. refl))
shut_turn page ahead list counts now before after (turned.Troubled (trouble.Fail what)) b h = subst Shut (sym b.seen) h
shut_turn page ahead list counts now before after (turned.Troubled (trouble.Moved had other)) b h =
    subst Shut (sym b.fed.sees.log) (shut_moved b.fed.found b.object had other (subst Shut (sym b.fed.is.log) h))
shut_turn page ahead list counts now before after turned.Idle b h = subst Shut (sym b.seen) h

shut_turns : (page ahead : ℕ) (list : Option (List Row)) (before after : Moment) (turns : List OneTurn) → AreTurns page ahead list before turns after
    → Shut before.known.seen → Shut after.known.seen
shut_turns page ahead list before after [] is h = subst (λ (m : Moment). Shut m.known.seen) (sym is) h
shut_turns page ahead list before after (turn ∷ turns) is h =
    shut_turns page ahead list turn.next after turns is.1
    (shut_turn page ahead list before.counts turn.next.counts before.known turn.next.known turn.answer is.0.brings h)

pub fetched_shut : (page ahead : ℕ) (list : Option (List Row)) (before after : Moment) → IsFetched page ahead list before after → Shut before.known.seen
    → Shut after.known.seen
fetched_shut page ahead list before after fetched h = shut_turns page ahead list before after fetched.turns fetched.each h
