-- The turns of a fetcher of a source that tells a ranked list, of whose objects alone grades are asked, leave a log that is true of it.
use Rattle.std.proofs.Common.{◌≡◌, ◌<◌, inl, inr, ℕ, Option, Some, None, List, [], ◌∷◌, ◌++◌, length, filter_map, Contains, IfSome, refl, sym, ap, subst, ◌∙◌, arith}
use Rattle.std.proofs.lemmas.List.Elements.{Contains-append_left, filter_map-append}
use Rattle.ranked_list.specs.declared.row.Row.{Row}
use Rattle.ranked_list.specs.Table.{IsRanked, objects}
use Rattle.turn_lock.specs.declared.known.Known.{Known}
use Rattle.turn_lock.specs.Facts as facts
use Rattle.topk_theory.specs.Transcript.{Begins}
use Rattle.source_api.specs.declared.counts.Counts.{Counts}
use Rattle.source_api.specs.Told.{IsPage}
use Rattle.source_state.specs.declared.entry.LogEntry.{LogEntry}
use Rattle.source_state.specs.declared.entry.Settling.{Settling}
use Rattle.source_state.specs.declared.event.Event.{Event}
use Rattle.source_state.specs.declared.event.Event.TheVariants as event
use Rattle.source_state.specs.declared.entry.Settling.TheVariants.{Bad}
use Rattle.source_state.specs.declared.entry.SourceFault.{SourceFault}
use Rattle.source_state.specs.declared.entry.SourceFault.TheVariants.{Moved}
use Rattle.source_state.specs.Log.{first_of, rows_in, settled_as, settling_in, fault_set, faults_in, fault_in}
use Rattle.source_state.specs.State.{State}
use Rattle.source_state.specs.Events as events
use Rattle.source_state.proofs.AskLaws.{pending_parts}
use Rattle.source_state.proofs.Lists.{none_not_some}
use Rattle.source_state.proofs.LogLaws.{settled_same, fault_first}
use Rattle.query_run.specs.Honest.{IsGradeOf, IsTrueOf}
use Rattle.query_run.proofs.TrueLists.{IsHonestEvent, true_after}
use Rattle.source_api.specs.declared.source.Trouble.TheVariants as trouble
use Rattle.fetcher.specs.declared.turned.Turned.{Turned}
use Rattle.fetcher.specs.declared.turned.Turned.TheVariants as turned
use Rattle.fetcher.specs.Turning.{IsFed, IsOfSource, Brings}
use Rattle.fetcher.specs.Chaining.{Moment, OneTurn, moment, AreTurns, IsFetched}
use Rattle.fetcher.specs.Moving.{TellsMove, TellsNoMove}
use Rattle.fetcher.proofs.EventLaws.{event_asks}
use Rattle.batch_result.proofs.Pages.{next_page}
use Rattle.batch_result.specs.Batches.{IsHonestFor}

-- a log is true of a list: its rows are how the list begins and have no fault, and what is settled is the list's
record IsTrueLog (list : List Row) (log : List LogEntry) : Type 0 where
  rows : Begins (rows_in log) list
  faultless : fault_in log ≡ None
  settled : (object : ℕ) (settling : Settling) → settling_in log object ≡ Some settling → IsGradeOf list object settling

-- each of some objects is one of the list
abbrev AreIn : List Row → List ℕ → Type 0
AreIn list asks = (object : ℕ) → Contains asks object → Contains (objects list) object

true_of : (list : List Row) (s : State) → IsTrueLog list s.log → AreIn list s.asks → IsTrueOf list s
true_of list s h asked = record { rows = h.rows; faultless = h.faultless; settled = h.settled; asked = asked }

log_of : (list : List Row) (s : State) → IsTrueOf list s → IsTrueLog list s.log
log_of list s h = record { rows = h.rows; faultless = h.faultless; settled = h.settled }

none_true : (list : List Row) → IsTrueLog list []
none_true list = record { rows = refl; faultless = refl; settled = λ object settling e. absurd (none_not_some e) }

-- the state that a turn found was asked what it knew of afterwards
found_asks : (e : Event) (before after : Known LogEntry) → (fed : IsFed e before after) → IsOfSource e → fed.found.asks ≡ after.met
found_asks e before after fed of = sym (event_asks fed.found e of) ∙ sym fed.sees.asks

true_fed : (list : List Row) (e : Event) (before after : Known LogEntry) → (fed : IsFed e before after) → IsRanked list → IsOfSource e → AreIn list after.met
    → IsHonestEvent list fed.found e → IsTrueLog list before.seen → IsTrueLog list after.seen
true_fed list e before after fed ranked of asked honest h =
    let found = fed.found in
    let now = true_of list found (subst (IsTrueLog list) (sym fed.is.log) h) (subst (AreIn list) (sym (found_asks e before after fed of)) asked) in
    subst (IsTrueLog list) (sym fed.sees.log) (log_of list (events.after found e) (true_after list found e ranked now fed.may honest))

true_same : (list : List Row) (log after : List LogEntry) → after ≡ log → IsTrueLog list log → IsTrueLog list after
true_same list log after e h = subst (IsTrueLog list) (sym e) h

-- what is told of a replaced list stays told
first_stays : {X : Type 0} (xs ys : List X) (x : X) → first_of xs ≡ Some x → first_of (xs ++ ys) ≡ Some x
first_stays [] ys x e = absurd (none_not_some e)
first_stays (y ∷ xs) ys x e = e

no_move_before : (front whole : List LogEntry) → facts.IsFrontOf front whole → TellsNoMove whole → TellsNoMove front
no_move_before front whole begins none had other (inl e) =
    none had other (inl (ap fault_in begins.goes_on
    ∙ (ap (first_of {X = SourceFault}) (filter_map-append fault_set front begins.rest) ∙ first_stays (faults_in front) (faults_in begins.rest) (Moved had other) e)))
no_move_before front whole begins none had other (inr at) =
    none had other (inr (
      at.0,
      ap (λ log. settling_in log at.0) begins.goes_on
          ∙ (ap (first_of {X = Settling}) (filter_map-append (settled_as at.0) front begins.rest)
          ∙ first_stays (filter_map (settled_as at.0) front) (filter_map (settled_as at.0) begins.rest) (Bad (Moved had other)) at.1),
    ))

move_seen : (object : Option ℕ) (had other : ℕ) (before after : Known LogEntry) → IsFed (event.Move object had other) before after
    → TellsMove after.seen had other
move_seen None had other before after fed = inl (ap fault_in fed.sees.log ∙ fault_first fed.found.log (Moved had other) fed.may.1.0)
move_seen (Some object) had other before after fed =
    inr (
      object,
      ap (λ log. settling_in log object) fed.sees.log
          ∙ settled_same fed.found.log object (Bad (Moved had other)) (pending_parts fed.found object fed.may.1).1,
    )

-- one turn
true_turn : (page ahead : ℕ) (list : List Row) (counts now : Counts) (before after : Known LogEntry) (answer : Turned)
    → Brings page ahead (Some list) counts now before after answer → IsRanked list → length list ≡ before.name.1 → AreIn list after.met → TellsNoMove after.seen
    → IsTrueLog list before.seen → IsTrueLog list after.seen
true_turn page ahead list counts now before after (turned.Paged rows) b ranked long asked none h =
    let found = b.fed.found in
    let count : found.count ≡ before.name.1 = ap (λ (p : ℕ × ℕ). p.1) b.fed.is.name in
    let room : length (rows_in found.log) < found.count = b.fed.may.room in
    let told : IsPage list (length (rows_in found.log)) b.given = subst (λ log. IsPage list (length (rows_in log)) b.given) (sym b.fed.is.log) b.told in
    let front : Begins (rows_in found.log) list = subst (λ log. Begins (rows_in log) list) (sym b.fed.is.log) h.rows in
    true_fed list (event.Page b.given) before after b.fed ranked tt asked (next_page list (rows_in found.log) b.given front (omega (arith, room, count, long)) told) h
true_turn page ahead list counts now before after (turned.Graded object) b ranked long asked none h =
    true_fed list (event.Grade object b.grade) before after b.fed ranked tt asked b.told h
true_turn page ahead list counts now before after (turned.Missed object) b ranked long asked none h =
    let pending : Contains b.fed.found.asks object = (pending_parts b.fed.found object b.fed.may).0 in
    let there : Contains after.met object = subst (λ os. Contains os object) (found_asks (event.Miss object) before after b.fed tt) pending in
    absurd (b.told (asked object there))
true_turn page ahead list counts now before after (turned.Troubled (trouble.Fail what)) b ranked long asked none h = true_same list before.seen after.seen b.seen h
true_turn page ahead list counts now before after (turned.Troubled (trouble.Moved had other)) b ranked long asked none h =
    absurd (none had other (move_seen b.object had other before after b.fed))
true_turn page ahead list counts now before after turned.Idle b ranked long asked none h = true_same list before.seen after.seen b.seen h

-- the objects that were asked earlier are asked later
asked_back : (list : List Row) (earlier later : List ℕ) → facts.IsFrontOf earlier later → AreIn list later → AreIn list earlier
asked_back list earlier later begins asked object c =
    asked object (subst (λ os. Contains os object) (sym begins.goes_on) (Contains-append_left earlier begins.rest object c))

asked_first : (page ahead : ℕ) (told : Option (List Row)) (list : List Row) (before after : Moment) (turns : List OneTurn)
    → AreTurns page ahead told before turns after → AreIn list after.known.met → AreIn list before.known.met
asked_first page ahead told list before after [] is asked = subst (λ (m : Moment). AreIn list m.known.met) is asked
asked_first page ahead told list before after (turn ∷ turns) is asked =
    asked_back list before.known.met turn.next.known.met is.0.feeds.follows.met (asked_first page ahead told list turn.next after turns is.1 asked)

none_first : (page ahead : ℕ) (told : Option (List Row)) (before after : Moment) (turns : List OneTurn)
    → AreTurns page ahead told before turns after → TellsNoMove after.known.seen → TellsNoMove before.known.seen
none_first page ahead told before after [] is none = subst (λ (m : Moment). TellsNoMove m.known.seen) is none
none_first page ahead told before after (turn ∷ turns) is none =
    no_move_before before.known.seen turn.next.known.seen is.0.feeds.follows.seen (none_first page ahead told turn.next after turns is.1 none)

true_turns : (page ahead : ℕ) (list : List Row) (before after : Moment) (turns : List OneTurn) → AreTurns page ahead (Some list) before turns after
    → IsRanked list → length list ≡ before.known.name.1 → AreIn list after.known.met → TellsNoMove after.known.seen → IsTrueLog list before.known.seen
    → IsTrueLog list after.known.seen
true_turns page ahead list before after [] is ranked long asked none h = subst (λ (m : Moment). IsTrueLog list m.known.seen) (sym is) h
true_turns page ahead list before after (turn ∷ turns) is ranked long asked none h =
    let next = asked_first page ahead (Some list) list turn.next after turns is.1 asked in
    let same : length list ≡ turn.next.known.name.1 = long ∙ ap (λ (p : ℕ × ℕ). p.1) (sym is.0.feeds.name) in
    true_turns page ahead list turn.next after turns is.1 ranked same asked none
    (true_turn page ahead list before.counts turn.next.counts before.known turn.next.known turn.answer is.0.brings ranked long next
    (none_first page ahead (Some list) turn.next after turns is.1 none) h)

-- the closing state
pub told_honest : (page ahead : ℕ) (told : Option (List Row)) (before after : Counts) (first last : Known LogEntry) (s : State) → first.seen ≡ []
    → s.log ≡ last.seen → facts.IsFrontOf last.met s.asks → s.count ≡ first.name.1 → IsFetched page ahead told (moment before first) (moment after last)
    → IfSome told (λ list. IsHonestFor list s)
told_honest page ahead None before after first last s none log asks count turns = tt
told_honest page ahead (Some list) before after first last s none log asks count turns = record {
  honest = λ ranked long asked none_moved.
      let met : AreIn list last.met = asked_back list last.met s.asks asks asked in
      let begun : IsTrueLog list first.seen = subst (IsTrueLog list) (sym none) (none_true list) in
      let seen : IsTrueLog list last.seen
      = true_turns page ahead list (moment before first) (moment after last) turns.turns turns.each ranked (long ∙ count) met
      (subst TellsNoMove log none_moved) begun in
      true_of list s (subst (IsTrueLog list) (sym log) seen) asked;
}
