-- What an event of a source, and a look at it, keep of what was read.
use Rattle.std.proofs.Common.{◌≡◌, ◌<◌, ◌≤◌, ◌+◌, inl, inr, ℕ, false, Option, Some, None, List, [], ◌∷◌, ◌++◌, length, refl, sym, ap, subst, ◌∙◌, arith, le_refl}
use Rattle.std.proofs.lemmas.List.{length-append}
use Rattle.ranked_list.specs.declared.row.Row.{Row}
use Rattle.ranked_list.specs.declared.need.Need.{Need}
use Rattle.ranked_list.specs.declared.need.Need.TheVariants as need
use Rattle.turn_lock.specs.declared.facts.Tally.{Tally}
use Rattle.turn_lock.specs.Facts.{AtMost, FactsGrow}
use Rattle.turn_lock.proofs.Growth.{begins_same, at_most_same, grows_same}
use Rattle.source_state.specs.declared.entry.LogEntry.TheVariants as entry
use Rattle.source_state.specs.declared.entry.Settling.TheVariants as settling
use Rattle.source_api.specs.declared.source.FailKind.{FailKind}
use Rattle.source_api.specs.declared.source.FailKind.TheVariants as kind
use Rattle.source_state.specs.declared.entry.SourceFault.{SourceFault}
use Rattle.source_state.specs.declared.entry.SourceFault.TheVariants.{ShortList}
use Rattle.source_state.specs.declared.entry.SourceFault.TheVariants as faulty
use Rattle.source_state.specs.declared.event.Event.{Event}
use Rattle.source_state.specs.declared.event.Event.TheVariants.{Want, Ask, Page, Grade, Miss, Fail, Move}
use Rattle.source_state.specs.declared.look.Waiting.{Waiting}
use Rattle.source_state.specs.declared.look.Look.{Look}
use Rattle.source_state.specs.declared.look.Look.TheVariants as look
use Rattle.source_state.specs.declared.look.LookFault.TheVariants as why
use Rattle.source_state.specs.Log.{rows_in, fault_in}
use Rattle.source_state.specs.State.{State, opened, asks_of, row_fault, settle, facts_of, IsSound, IsCounted}
use Rattle.source_state.specs.Events.{logged, row_or, with_rows, counted, after, MayCome}
use Rattle.source_state.specs.History.{replayed, AllMayCome}
use Rattle.source_state.specs.Looking.{called, is_full, Looks, MayLook}
use Rattle.source_state.proofs.Lists.{none_not_some}
use Rattle.source_state.proofs.LogLaws.{kept_rows, kept_faults, settled_rows}
use Rattle.source_state.proofs.Sound.{sound_row, sound_fault, sound_settling, sound_ask, sound_moved, settles_well}
use Rattle.source_state.proofs.AskLaws.{not_asked}
use Rattle.source_state.proofs.Growing.{logged_grows, ask_grows, rows_grow, moved_grows}
use Rattle.source_state.proofs.LookLaws.{ask_may}
use Rattle.source_state.proofs.Told.{replayed_push}
use Rattle.query_run.specs.Histories.{HasHistory, GoesOn}

-- the facts grow
counted_more : (what : FailKind) (tally : Tally) → IsCounted tally → AtMost tally (counted what tally)
counted_more kind.Failed tally h = record { failed = let c = h.failed in omega arith; garbled = le_refl _; memory = le_refl _ }
counted_more kind.Garbled tally h = record { failed = le_refl _; garbled = let c = h.garbled in omega arith; memory = le_refl _ }
counted_more kind.Memory tally h = record { failed = le_refl _; garbled = le_refl _; memory = let c = h.memory in omega arith }

counted_fits : (what : FailKind) (tally : Tally) → IsCounted tally → IsCounted (counted what tally)
counted_fits kind.Failed tally h = record { failed = omega arith; garbled = h.garbled; memory = h.memory }
counted_fits kind.Garbled tally h = record { failed = h.failed; garbled = omega arith; memory = h.memory }
counted_fits kind.Memory tally h = record { failed = h.failed; garbled = h.garbled; memory = omega arith }

grows : (s : State) (e : Event) → IsSound s → FactsGrow (facts_of s) (facts_of (after s e))
grows s (Want depth) sound = record { name = refl; log = begins_same s.log; asks = begins_same s.asks; mark = omega arith; tally = at_most_same s.tally }
grows s (Ask object) sound = ask_grows s object
grows s (Page []) sound = logged_grows s (entry.Fault (ShortList s.count (length (rows_in s.log))))
grows s (Page (row ∷ rows)) sound = rows_grow s (row ∷ rows)
grows s (Grade object grade) sound = logged_grows s (entry.Settled object (settle (rows_in s.log) object grade))
grows s (Miss object) sound = logged_grows s (entry.Settled object settling.Missed)
grows s (Fail what) sound = record { name = refl; log = begins_same s.log; asks = begins_same s.asks; mark = le_refl _; tally = counted_more what s.tally sound.tally }
grows s (Move object had now) sound = moved_grows s object (faulty.Moved had now)

-- no row follows a row fault
closed : (s : State) (e : Event) (fault : SourceFault) → MayCome s e → fault_in s.log ≡ Some fault → rows_in (after s e).log ≡ rows_in s.log
closed s (Want depth) fault may set = refl
closed s (Ask object) fault may set = refl
closed s (Page rows) fault may set = absurd (none_not_some (sym may.no_fault ∙ set))
closed s (Grade object grade) fault may set = settled_rows s.log object (settle (rows_in s.log) object grade)
closed s (Miss object) fault may set = settled_rows s.log object settling.Missed
closed s (Fail what) fault may set = refl
closed s (Move None had now) fault may set = absurd (none_not_some (sym may.1.0 ∙ set))
closed s (Move (Some object) had now) fault may set = settled_rows s.log object (settling.Bad (faulty.Moved had now))

-- the state stays sound
row_sound : (o : Option SourceFault) (s : State) (row : Row) (rows : List Row) → row_fault (rows_in s.log) (asks_of s) row ≡ o → IsSound s
    → fault_in s.log ≡ None → length (rows_in s.log) < s.count
    → (IsSound (logged s (entry.Kept row)) → IsSound (with_rows (logged s (entry.Kept row)) rows)) → IsSound (row_or o s row (λ t. with_rows t rows))
row_sound None s row rows e sound none room next = next (sound_row s row sound room e)
row_sound (Some fault) s row rows e sound none room next = sound_fault s fault sound none

rows_sound : (s : State) (rows : List Row) → IsSound s → fault_in s.log ≡ None → length (rows_in s.log) + length rows ≤ s.count → IsSound (with_rows s rows)
rows_sound s [] sound none room = sound
rows_sound s (row ∷ rows) sound none room =
    row_sound (row_fault (rows_in s.log) (asks_of s) row) s row rows refl sound none (omega arith)
    (λ sound_next. rows_sound (logged s (entry.Kept row)) rows sound_next (ap first_fault (kept_faults s.log row) ∙ none)
    (let more : length (rows_in (s.log ++ entry.Kept row ∷ [])) ≡ length (rows_in s.log ++ row ∷ []) = ap (length {A = Row}) (kept_rows s.log row) in omega (arith, more, length-append (rows_in s.log) (row ∷ []))))
  where
    first_fault : List SourceFault → Option SourceFault
    first_fault [] = None
    first_fault (f ∷ fs) = Some f

sound_after : (s : State) (e : Event) → IsSound s → MayCome s e → IsSound (after s e)
sound_after s (Want depth) sound may = record { log = sound.log; distinct = sound.distinct; fits = sound.fits; small = sound.small; want = let w = sound.want in omega (arith, may.1); tally = sound.tally }
sound_after s (Ask object) sound may = sound_ask s object sound (λ none. may (not_asked s object none))
sound_after s (Page []) sound may = sound_fault s (ShortList s.count (length (rows_in s.log))) sound may.no_fault
sound_after s (Page (row ∷ rows)) sound may = rows_sound s (row ∷ rows) sound may.no_fault may.fits
sound_after s (Grade object grade) sound may = sound_settling s object (settle (rows_in s.log) object grade) sound may (settles_well (rows_in s.log) object grade sound.log.ranked)
sound_after s (Miss object) sound may = sound_settling s object settling.Missed sound may tt
sound_after s (Fail what) sound may = record { log = sound.log; distinct = sound.distinct; fits = sound.fits; small = sound.small; want = sound.want; tally = counted_fits what s.tally sound.tally }
sound_after s (Move object had now) sound may = sound_moved s object (faulty.Moved had now) sound may.1

-- one more event of a history
all_may_push : (s : State) (E : List Event) (e : Event) → AllMayCome s E → MayCome (replayed s E) e → AllMayCome s (E ++ e ∷ [])
all_may_push s [] e all may = (may, tt)
all_may_push s (first ∷ E) e all may = (all.0, all_may_push (after s first) E e all.1 may)

history_at : (list count : ℕ) (s : State) → s.list ≡ list → s.count ≡ count → (E : List Event) → AllMayCome (opened list count) E
    → s ≡ replayed (opened list count) E → HasHistory s
history_at list count s one other E may told = record {
  events = E;
  may = subst (λ l. AllMayCome (opened l s.count) E) (sym one) (subst (λ n. AllMayCome (opened list n) E) (sym other) may);
  told = told ∙ ap (λ l. replayed (opened l count) E) (sym one) ∙ ap (λ n. replayed (opened s.list n) E) (sym other);
}

history_after : (s : State) (e : Event) → IsSound s → HasHistory s → MayCome s e → HasHistory (after s e)
history_after s e sound h may =
    let begun = opened s.list s.count in
    let name = (grows s e sound).name in
    history_at s.list s.count (after s e) (ap (λ p. p.0) name) (ap (λ p. p.1) name) (h.events ++ e ∷ [])
    (all_may_push begun h.events e h.may (subst (λ t. MayCome t e) h.told may))
    (ap (λ t. after t e) h.told ∙ sym (replayed_push begun h.events e))

-- a state after another one
pub record Moved (s t : State) : Type 0 where
  pub goes : GoesOn s t
  pub sound : IsSound t
  pub history : HasHistory t

pub goes_same : (s : State) → GoesOn s s
goes_same s = record { grows = grows_same (facts_of s); closed = λ fault e. refl }

pub moved_same : (s : State) → IsSound s → HasHistory s → Moved s s
moved_same s sound history = record { goes = goes_same s; sound = sound; history = history }

pub moved_after : (s : State) (e : Event) → IsSound s → HasHistory s → MayCome s e → Moved s (after s e)
moved_after s e sound history may = record {
  goes = record { grows = grows s e sound; closed = λ fault set. closed s e fault may set };
  sound = sound_after s e sound may;
  history = history_after s e sound history may;
}

-- the want or the ask of a need is an event that may come
moved_called : (s : State) (n : Need) → IsSound s → HasHistory s → MayLook s n → is_full s n ≡ false → Moved s (called s n)
moved_called s (need.Row list depth) sound history may room = moved_after s (Want depth) sound history may
moved_called s (need.Grade list object) sound history may room = moved_after s (Ask object) sound history (ask_may s object sound.fits room)
moved_called s need.Done sound history may room = absurd may

moved_is : (s t u : State) → Moved s u → t ≡ u → Moved s t
moved_is s t u m e = subst (λ v. Moved s v) (sym e) m

-- a look
pub look_moved : (n : Need) (s t : State) (waiting left : Waiting) (answer : Look) → IsSound s → HasHistory s → MayLook s n → Looks n s t waiting left answer
    → Moved s t
look_moved n s t waiting left (look.Row row) sound history may looks = moved_is s t s (moved_same s sound history) looks.ends.same
look_moved n s t waiting left (look.Grade grade) sound history may looks = moved_is s t s (moved_same s sound history) looks.ends.same
look_moved n s t waiting left look.NotYet sound history may looks =
    elim looks.waits [
      | inl on ↦ moved_is s t s (moved_same s sound history) on.same
      | inr begins ↦ moved_is s t (called s n) (moved_called s n sound history may looks.room) begins.calls
    ]
look_moved n s t waiting left (look.Fault (why.Source fault)) sound history may looks = moved_is s t s (moved_same s sound history) looks.ends.same
look_moved n s t waiting left (look.Fault (why.Missing object)) sound history may looks = moved_is s t s (moved_same s sound history) looks.ends.same
look_moved n s t waiting left (look.Fault (why.AsksFull kept)) sound history may looks = moved_is s t s (moved_same s sound history) looks.ends.same
look_moved n s t waiting left (look.Fault (why.Call what)) sound history may looks = moved_is s t s (moved_same s sound history) looks.ends.same
