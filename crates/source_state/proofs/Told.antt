-- A state is what its history says.
use Rattle.std.proofs.Common.{◌≡◌, ◌+◌, inl, inr, ℕ, min, max, Bool, true, false, cond, Option, Some, None, List, [], ◌∷◌, ◌++◌, length, map, fold, filter, filter_map, is_some, unwrap_or, Contains, refl, sym, ap, subst, ◌∙◌, arith, append-nil, append_assoc}
use Rattle.std.specs.List.{cons_option}
use Rattle.std.specs.Option.{option_or}
use Rattle.std.proofs.lemmas.List.{length-append, map-append}
use Rattle.std.proofs.lemmas.List.Elements.{filter_map-append, filter-append}
use Rattle.std.proofs.lemmas.List.Sums.{fold-append}
use Rattle.ranked_list.specs.declared.row.Row.{Row}
use Rattle.ranked_list.proofs.OptionLaws.{option_cases}
use Rattle.turn_lock.specs.declared.facts.Tally.{Tally}
use Rattle.topk_theory.specs.Transcript.{each_once}
use Rattle.topk_theory.specs.Bounds.{grade_among}
use Rattle.topk_theory.proofs.AgreementLists.{filter_map_push_some, filter_map_push_none}
use Rattle.topk_theory.proofs.AgreementNames.{each_once_push_old, each_once_push_new}
use Rattle.source_state.specs.declared.ask.Ask.{Ask as Asking}
use Rattle.source_state.specs.declared.entry.LogEntry.{LogEntry}
use Rattle.source_state.specs.declared.entry.LogEntry.TheVariants as entry
use Rattle.source_state.specs.declared.entry.Settling.{Settling}
use Rattle.source_state.specs.declared.entry.Settling.TheVariants as settling
use Rattle.source_api.specs.declared.source.FailKind.{FailKind}
use Rattle.source_api.specs.declared.source.FailKind.TheVariants as kind
use Rattle.source_state.specs.declared.entry.SourceFault.{SourceFault}
use Rattle.source_state.specs.declared.entry.SourceFault.TheVariants.{ShortList, Moved}
use Rattle.source_state.specs.declared.event.Event.{Event}
use Rattle.source_state.specs.declared.event.Event.TheVariants.{Want, Ask, Page, Grade, Miss, Fail, Move}
use Rattle.source_state.specs.Log.{first_of, rows_in, settled_as, settling_in, fault_in}
use Rattle.source_state.specs.Asks.{ask_in, ask_of}
use Rattle.source_state.specs.State.{State, opened, asks_of, row_fault, settle, last_count}
use Rattle.source_state.specs.Events.{logged, wanted, one_asked, with_ask, row_or, with_rows, paged, one_more, counted, failed, moved, after, MayCome, MayMove}
use Rattle.source_state.specs.History.{last_of, depth_wanted, object_asked, kind_failed, rows_brought, greatest_want, objects_asked, fails_told, is_failed, is_garbled, is_memory, tally_told, pauses, is_paused, replayed, AllMayCome, Moment, moments_after, moments, settling_by, settlings, Came, page_came, came_after, came, asks_told, fault_came, before_first, rows_told, ended_by, fault_told, kept_by, IsByHistory}
use Rattle.source_state.proofs.Lists.{no_first}
use Rattle.source_state.proofs.LogLaws.{kept_rows, kept_settling, kept_faults, settled_rows, settled_faults, fault_rows, fault_settling, fault_first}
use Rattle.source_state.proofs.AskLaws.{ask_found, ask_missing}

-- one more event of a history
last_push : {X : Type 0} (xs : List X) (x : X) → last_of (xs ++ x ∷ []) ≡ Some x
last_push [] x = refl
last_push (y ∷ []) x = refl
last_push (y ∷ z ∷ xs) x = last_push (z ∷ xs) x

pub replayed_push : (s : State) (E : List Event) (event : Event) → replayed s (E ++ event ∷ []) ≡ after (replayed s E) event
replayed_push s [] event = refl
replayed_push s (first ∷ E) event = replayed_push (after s first) E event

pub moments_push : (before E : List Event) (event : Event)
    → moments_after before (E ++ event ∷ []) ≡ moments_after before E ++ record { before = before ++ E; event = event } ∷ []
moments_push before [] event = ap (λ b. let m : Moment = record { before = b; event = event } in m ∷ []) (sym (append-nil before))
moments_push before (first ∷ E) event =
    ap (λ ms. let m : Moment = record { before = before; event = first } in m ∷ ms)
    (moments_push (before ++ first ∷ []) E event ∙ ap (λ b. let m : Moment = record { before = b; event = event } in moments_after (before ++ first ∷ []) E ++ m ∷ []) (append_assoc before (first ∷ []) E))

-- all rows that came, whether they were kept or not
brought : List Event → List Row
brought [] = []
brought (event ∷ E) = rows_brought event ++ brought E

came_push : (above : List Row) (before E : List Event) (event : Event)
    → came_after above before (E ++ event ∷ []) ≡ came_after above before E ++ page_came (above ++ brought E) (before ++ E) (rows_brought event)
unfolding brought
came_push above before [] event =
    append-nil (page_came above before (rows_brought event))
    ∙ ap (λ rows. page_came rows before (rows_brought event)) (sym (append-nil above))
    ∙ ap (λ b. page_came (above ++ []) b (rows_brought event)) (sym (append-nil before))
came_push above before (first ∷ E) event =
    ap (λ cs. page_came above before (rows_brought first) ++ cs)
    (came_push (above ++ rows_brought first) (before ++ first ∷ []) E event
    ∙ ap (λ rows. came_after (above ++ rows_brought first) (before ++ first ∷ []) E ++ page_came rows ((before ++ first ∷ []) ++ E) (rows_brought event)) (append_assoc above (rows_brought first) (brought E))
    ∙ ap (λ b. came_after (above ++ rows_brought first) (before ++ first ∷ []) E ++ page_came (above ++ (rows_brought first ++ brought E)) b (rows_brought event)) (append_assoc before (first ∷ []) E))
    ∙ sym (append_assoc (page_came above before (rows_brought first)) (came_after (above ++ rows_brought first) (before ++ first ∷ []) E) (page_came (above ++ (rows_brought first ++ brought E)) (before ++ (first ∷ E)) (rows_brought event)))

page_rows : (above : List Row) (before : List Event) (rows : List Row) → map (λ (one : Came). one.row) (page_came above before rows) ≡ rows
page_rows above before [] = refl
page_rows above before (row ∷ rows) = ap (λ rs. row ∷ rs) (page_rows (above ++ row ∷ []) before rows)

came_rows : (above : List Row) (before E : List Event) → map (λ (one : Came). one.row) (came_after above before E) ≡ brought E
unfolding brought
came_rows above before [] = refl
came_rows above before (event ∷ E) =
    map-append (λ (one : Came). one.row) (page_came above before (rows_brought event)) (came_after (above ++ rows_brought event) (before ++ event ∷ []) E)
    ∙ ap (λ rs. rs ++ map (λ (one : Came). one.row) (came_after (above ++ rows_brought event) (before ++ event ∷ []) E)) (page_rows above before (rows_brought event))
    ∙ ap (λ rs. rows_brought event ++ rs) (came_rows (above ++ rows_brought event) (before ++ event ∷ []) E)

-- the members before the first that passes, where none passes in the front
before_all : {X : Type 0} (test : X → Bool) (h : X → Option SourceFault) (xs ys : List X) → ((x : X) → test x ≡ is_some (h x)) → filter_map h xs ≡ []
    → before_first test (xs ++ ys) ≡ xs ++ before_first test ys
before_all test h [] ys is none = refl
before_all test h (x ∷ xs) ys is none =
    elim (option_cases (h x)) [
      | inl e ↦
          let rest : filter_map h xs ≡ [] = sym (ap (λ o. cons_option o (filter_map h xs)) e) ∙ none in
          let fails : test x ≡ false = is x ∙ ap is_some e in
          ap (λ b. cond b [] (x ∷ before_first test (xs ++ ys))) fails ∙ ap (λ zs. x ∷ zs) (before_all test h xs ys is rest)
      | inr e ↦ let bad : e.0 ∷ filter_map h xs ≡ [] = sym (ap (λ o. cons_option o (filter_map h xs)) e.1) ∙ none in absurd (cc)
    ]

first_append : {X : Type 0} (xs ys : List X) → xs ≡ [] → first_of (xs ++ ys) ≡ first_of ys
first_append xs ys e = ap (λ zs. first_of (zs ++ ys)) e

none_parts : {X : Type 0} (a b : Option X) → option_or a b ≡ None → (a ≡ None) × (b ≡ None)
none_parts None b e = (refl, e)
none_parts (Some x) b e = absurd (cc)

-- what a settling that comes last settles
settling_push : (log : List LogEntry) (one : LogEntry) (object : ℕ)
    → settling_in (log ++ one ∷ []) object ≡ option_or (settling_in log object) (settled_as object one)
settling_push log one object =
    ap first_of (filter_map-append (settled_as object) log (one ∷ [])) ∙ first_or (filter_map (settled_as object) log) (settled_as object one)
  where
    first_or : (xs : List Settling) (o : Option Settling) → first_of (xs ++ cons_option o []) ≡ option_or (first_of xs) o
    first_or [] None = refl
    first_or [] (Some x) = refl
    first_or (y ∷ xs) o = refl

-- what an event leaves that isn't of a kind
want_stays : (E : List Event) (event : Event) → depth_wanted event ≡ None → greatest_want E ≡ greatest_want (E ++ event ∷ [])
want_stays E event none = ap (fold max 0) (sym (filter_map_push_none depth_wanted E event none))

asks_stay : (E : List Event) (event : Event) → object_asked event ≡ None → objects_asked E ≡ objects_asked (E ++ event ∷ [])
asks_stay E event none = ap each_once (sym (filter_map_push_none object_asked E event none))

fails_stay : (E : List Event) (event : Event) → kind_failed event ≡ None → fails_told E ≡ fails_told (E ++ event ∷ [])
fails_stay E event none = sym (filter_map_push_none kind_failed E event none)

tally_of : List FailKind → Tally
tally_of fails = record {
  failed = min (length (filter is_failed fails)) last_count;
  garbled = min (length (filter is_garbled fails)) last_count;
  memory = min (length (filter is_memory fails)) last_count;
}

tally_stays : (E : List Event) (event : Event) → kind_failed event ≡ None → tally_told E ≡ tally_told (E ++ event ∷ [])
unfolding tally_of
tally_stays E event none = ap tally_of (fails_stay E event none)

pause_stays : (E : List Event) (event : Event) → pauses event ≡ None → is_paused E ≡ is_paused (E ++ event ∷ [])
pause_stays E event none = ap (λ ps. unwrap_or (last_of ps) false) (sym (filter_map_push_none pauses E event none))

pause_turns : (E : List Event) (event : Event) (b : Bool) → pauses event ≡ Some b → b ≡ is_paused (E ++ event ∷ [])
pause_turns E event b some = sym (ap (λ ps. unwrap_or (last_of ps) false) (filter_map_push_some pauses E event b some) ∙ ap (λ o. unwrap_or o false) (last_push (filter_map pauses E) b))

came_stays : (E : List Event) (event : Event) → rows_brought event ≡ [] → came E ≡ came (E ++ event ∷ [])
came_stays E event none =
    sym (came_push [] [] E event ∙ ap (λ rows. came E ++ page_came ([] ++ brought E) ([] ++ E) rows) none ∙ append-nil (came E))

settled_stay : (kept : List Event → List Row) (E : List Event) (event : Event) → ((m : Moment) → settling_by kept m event ≡ None)
    → settlings kept E ≡ settlings kept (E ++ event ∷ [])
settled_stay kept E event none =
    sym (ap (filter_map (λ (m : Moment). settling_by kept m m.event)) (moments_push [] E event)
    ∙ filter_map_push_none (λ (m : Moment). settling_by kept m m.event) (moments E) (record { before = [] ++ E; event = event }) (none (record { before = [] ++ E; event = event })))

settled_more : (kept : List Event → List Row) (E : List Event) (event : Event) (one : LogEntry)
    → settling_by kept (record { before = E; event = event }) event ≡ Some one → settlings kept (E ++ event ∷ []) ≡ settlings kept E ++ one ∷ []
settled_more kept E event one some =
    ap (filter_map (λ (m : Moment). settling_by kept m m.event)) (moments_push [] E event)
    ∙ filter_map_push_some (λ (m : Moment). settling_by kept m m.event) (moments E) (record { before = [] ++ E; event = event }) one some

ended_stays : (count : ℕ) (kept : List Event → List Row) (E : List Event) (event : Event) → ((m : Moment) → ended_by count kept m event ≡ None)
    → filter_map (λ (m : Moment). ended_by count kept m m.event) (moments E) ≡ filter_map (λ (m : Moment). ended_by count kept m m.event)
    (moments (E ++ event ∷ []))
ended_stays count kept E event none =
    sym (ap (filter_map (λ (m : Moment). ended_by count kept m m.event)) (moments_push [] E event)
    ∙ filter_map_push_none (λ (m : Moment). ended_by count kept m m.event) (moments E) (record { before = [] ++ E; event = event }) (none (record { before = [] ++ E; event = event })))

rows_stay : (kept : List Event → List Row) (E : List Event) (event : Event) → rows_brought event ≡ [] → rows_told kept E ≡ rows_told kept (E ++ event ∷ [])
rows_stay kept E event none = ap (λ cs. map (λ (one : Came). one.row) (before_first (λ (one : Came). is_some (fault_came kept one)) cs)) (came_stays E event none)

fault_stays : (count : ℕ) (kept : List Event → List Row) (E : List Event) (event : Event) → rows_brought event ≡ []
    → ((m : Moment) → ended_by count kept m event ≡ None) → fault_told count kept E ≡ fault_told count kept (E ++ event ∷ [])
fault_stays count kept E event none short =
    ap (λ cs. option_or (first_of (filter_map (fault_came kept) cs)) (first_of (filter_map (λ (m : Moment). ended_by count kept m m.event) (moments E)))) (came_stays E event none)
    ∙ ap (λ fs. option_or (first_of (filter_map (fault_came kept) (came (E ++ event ∷ [])))) (first_of fs)) (ended_stays count kept E event short)

-- the asks as the state has them are those of the history
same_ask : (object : ℕ) (one other : Option Settling) (a b : Bool) → one ≡ other → a ≡ b
    → (let p : Asking = record { object = object; settling = one; is_held = a } in let q : Asking = record { object = object; settling = other; is_held = b } in p ≡ q)
same_ask object one other a b e f = cc

cons_same : {x y : Asking} {xs ys : List Asking} → x ≡ y → xs ≡ ys → x ∷ xs ≡ y ∷ ys
cons_same e f = cc

asks_along : (log others : List LogEntry) (rows : List Row) (objects : List ℕ) → rows_in log ≡ rows
    → ((object : ℕ) → settling_in log object ≡ settling_in others object)
    → map (ask_in log) objects ≡ map (λ (object : ℕ). let ask : Asking = record { object = object; settling = settling_in others object; is_held = is_some (grade_among rows object) } in ask) objects
asks_along log others rows [] is settled = refl
asks_along log others rows (object ∷ objects) is settled =
    cons_same (same_ask object _ _ _ _ (settled object) (ap (λ rs. is_some (grade_among rs object)) is)) (asks_along log others rows objects is settled)

same_asks : (kept : List Event → List Row) (E : List Event) (s : State) (rows : List Row) → s.asks ≡ objects_asked E → rows_in s.log ≡ rows
    → ((object : ℕ) → settling_in s.log object ≡ settling_in (settlings kept E) object) → asks_of s ≡ asks_told kept rows E
same_asks kept E s rows asks is settled =
    asks_along s.log (settlings kept E) rows s.asks is settled
    ∙ ap (map (λ (object : ℕ). let ask : Asking = record { object = object; settling = settling_in (settlings kept E) object; is_held = is_some (grade_among rows object) } in ask)) asks

-- the rows of a page
pub record PageTold (kept : List Event → List Row) (E : List Event) (above rows : List Row) (s t : State) : Type 0 where
  pub want : t.want ≡ s.want
  pub asks : t.asks ≡ s.asks
  pub tally : t.tally ≡ s.tally
  pub last_fail : t.last_fail ≡ s.last_fail
  pub paused : t.paused ≡ s.paused
  pub rows_kept : rows_in t.log ≡ above ++ map (λ (one : Came). one.row) (before_first (λ (one : Came). is_some (fault_came kept one)) (page_came above E rows))
  pub fault : fault_in t.log ≡ first_of (filter_map (fault_came kept) (page_came above E rows))
  pub settled : (object : ℕ) → settling_in t.log object ≡ settling_in s.log object

fault_step : (kept : List Event → List Row) (E : List Event) (above : List Row) (row : Row) (rows : List Row) (s : State) (fault : SourceFault)
    → rows_in s.log ≡ above → fault_in s.log ≡ None → row_fault above (asks_told kept above E) row ≡ Some fault
    → PageTold kept E above (row ∷ rows) s (logged s (entry.Fault fault))
fault_step kept E above row rows s fault is none at =
    let first : Came = record { row = row; above = above; before = E } in
    record {
      want = refl;
      asks = refl;
      tally = refl;
      last_fail = refl;
      paused = refl;
      rows_kept = fault_rows s.log fault ∙ is ∙ sym (append-nil above)
          ∙ ap (λ b. above ++ map (λ (one : Came). one.row) (cond b [] (first ∷ before_first (λ (one : Came). is_some (fault_came kept one)) (page_came (above ++ row ∷ []) E rows)))) (sym (ap is_some at));
      fault = fault_first s.log fault none ∙ ap (λ o. first_of (cons_option o (filter_map (fault_came kept) (page_came (above ++ row ∷ []) E rows)))) (sym at);
      settled = λ object. fault_settling s.log fault object;
    }

row_step : (kept : List Event → List Row) (E : List Event) (above : List Row) (row : Row) (rows : List Row) (s t : State)
    → row_fault above (asks_told kept above E) row ≡ None → PageTold kept E (above ++ row ∷ []) rows (logged s (entry.Kept row)) t
    → PageTold kept E above (row ∷ rows) s t
row_step kept E above row rows s t at more =
    let first : Came = record { row = row; above = above; before = E } in
    record {
      want = more.want;
      asks = more.asks;
      tally = more.tally;
      last_fail = more.last_fail;
      paused = more.paused;
      rows_kept = more.rows_kept ∙ append_assoc above (row ∷ []) (map (λ (one : Came). one.row) (before_first (λ (one : Came). is_some (fault_came kept one)) (page_came (above ++ row ∷ []) E rows)))
          ∙ ap (λ b. above ++ map (λ (one : Came). one.row) (cond b [] (first ∷ before_first (λ (one : Came). is_some (fault_came kept one)) (page_came (above ++ row ∷ []) E rows)))) (sym (ap is_some at));
      fault = more.fault ∙ ap (λ o. first_of (cons_option o (filter_map (fault_came kept) (page_came (above ++ row ∷ []) E rows)))) (sym at);
      settled = λ object. more.settled object ∙ kept_settling s.log row object;
    }

step_by : (kept : List Event → List Row) (E : List Event) (above : List Row) (row : Row) (rows : List Row) (s : State) (o : Option SourceFault)
    → rows_in s.log ≡ above → fault_in s.log ≡ None → row_fault above (asks_told kept above E) row ≡ o
    → PageTold kept E (above ++ row ∷ []) rows (logged s (entry.Kept row)) (with_rows (logged s (entry.Kept row)) rows)
    → PageTold kept E above (row ∷ rows) s (row_or o s row (λ t. with_rows t rows))
step_by kept E above row rows s None is none at more = row_step kept E above row rows s (with_rows (logged s (entry.Kept row)) rows) at more
step_by kept E above row rows s (Some fault) is none at more = fault_step kept E above row rows s fault is none at

page_told : (kept : List Event → List Row) (E : List Event) (above rows : List Row) (s : State) → s.asks ≡ objects_asked E → rows_in s.log ≡ above
    → fault_in s.log ≡ None → ((object : ℕ) → settling_in s.log object ≡ settling_in (settlings kept E) object)
    → PageTold kept E above rows s (with_rows s rows)
page_told kept E above [] s asks is none settled = record {
  want = refl;
  asks = refl;
  tally = refl;
  last_fail = refl;
  paused = refl;
  rows_kept = is ∙ sym (append-nil above);
  fault = none;
  settled = λ object. refl;
}
page_told kept E above (row ∷ rows) s asks is none settled =
    let fault_is : row_fault (rows_in s.log) (asks_of s) row ≡ row_fault above (asks_told kept above E) row =
    ap (λ rs. row_fault rs (asks_of s) row) is ∙ ap (λ list. row_fault above list row) (same_asks kept E s above asks is settled) in
    step_by kept E above row rows s (row_fault (rows_in s.log) (asks_of s) row) is none (sym fault_is)
    (page_told kept E (above ++ row ∷ []) rows (logged s (entry.Kept row)) asks
    (kept_rows s.log row ∙ ap (λ rs. rs ++ row ∷ []) is)
    (ap first_of (kept_faults s.log row) ∙ none)
    (λ object. kept_settling s.log row object ∙ settled object))

-- an event other than a page
pub record Stays (kept : List Event → List Row) (count : ℕ) (E : List Event) (event : Event) : Type 0 where
  pub rows : rows_told kept E ≡ rows_told kept (E ++ event ∷ [])
  pub fault : fault_told count kept E ≡ fault_told count kept (E ++ event ∷ [])

stays : (kept : List Event → List Row) (count : ℕ) (E : List Event) (event : Event) → rows_brought event ≡ []
    → ((m : Moment) → ended_by count kept m event ≡ None) → Stays kept count E event
stays kept count E event none short = record { rows = rows_stay kept E event none; fault = fault_stays count kept E event none short }

told_want : (kept : List Event → List Row) (count : ℕ) (E : List Event) (s : State) (depth : ℕ) → IsByHistory kept count E s
    → IsByHistory kept count (E ++ Want depth ∷ []) (wanted s depth)
told_want kept count E s depth h =
    let st = stays kept count E (Want depth) refl (λ m. refl) in
    record {
      want = ap (λ w. max w depth) h.want ∙ sym (ap (fold max 0) (filter_map_push_some depth_wanted E (Want depth) depth refl) ∙ fold-append max 0 (filter_map depth_wanted E) (depth ∷ []));
      asks = h.asks ∙ asks_stay E (Want depth) refl;
      tally = h.tally ∙ tally_stays E (Want depth) refl;
      last_fail = h.last_fail ∙ ap last_of (fails_stay E (Want depth) refl);
      paused = pause_turns E (Want depth) false refl;
      rows = h.rows ∙ st.rows;
      fault = h.fault ∙ st.fault;
      settled = λ object. h.settled object ∙ ap (λ log. settling_in log object) (settled_stay kept E (Want depth) (λ m. refl));
    }

asked_once : (E : List Event) (s : State) (object : ℕ) (found : Option Asking) → ask_of (asks_of s) object ≡ found → s.asks ≡ objects_asked E
    → one_asked found object s.asks ≡ objects_asked (E ++ Ask object ∷ [])
asked_once E s object None e is =
    ap (λ os. os ++ object ∷ []) is
    ∙ sym (ap each_once (filter_map_push_some object_asked E (Ask object) object refl)
    ∙ each_once_push_new (filter_map object_asked E) object (λ c. ask_missing s.log s.asks object e (subst (λ os. Contains os object) (sym is) c)))
asked_once E s object (Some ask) e is =
    is
    ∙ sym (ap each_once (filter_map_push_some object_asked E (Ask object) object refl)
    ∙ each_once_push_old (filter_map object_asked E) object (subst (λ os. Contains os object) is (ask_found s.log s.asks object ask e).0))

told_ask : (kept : List Event → List Row) (count : ℕ) (E : List Event) (s : State) (object : ℕ) → IsByHistory kept count E s
    → IsByHistory kept count (E ++ Ask object ∷ []) (with_ask s object)
told_ask kept count E s object h =
    let st = stays kept count E (Ask object) refl (λ m. refl) in
    record {
      want = h.want ∙ want_stays E (Ask object) refl;
      asks = asked_once E s object (ask_of (asks_of s) object) refl h.asks;
      tally = h.tally ∙ tally_stays E (Ask object) refl;
      last_fail = h.last_fail ∙ ap last_of (fails_stay E (Ask object) refl);
      paused = pause_turns E (Ask object) false refl;
      rows = h.rows ∙ st.rows;
      fault = h.fault ∙ st.fault;
      settled = λ other. h.settled other ∙ ap (λ log. settling_in log other) (settled_stay kept E (Ask object) (λ m. refl));
    }

told_settling : (kept : List Event → List Row) (count : ℕ) (E : List Event) (s : State) (event : Event) (object : ℕ) (settling : Settling)
    → IsByHistory kept count E s → depth_wanted event ≡ None → object_asked event ≡ None → kind_failed event ≡ None → pauses event ≡ None → Stays kept count E event
    → settling_by kept (record { before = E; event = event }) event ≡ Some (entry.Settled object settling)
    → IsByHistory kept count (E ++ event ∷ []) (logged s (entry.Settled object settling))
told_settling kept count E s event object settling h no_want no_ask no_fail no_pause st some = record {
  want = h.want ∙ want_stays E event no_want;
  asks = h.asks ∙ asks_stay E event no_ask;
  tally = h.tally ∙ tally_stays E event no_fail;
  last_fail = h.last_fail ∙ ap last_of (fails_stay E event no_fail);
  paused = h.paused ∙ pause_stays E event no_pause;
  rows = settled_rows s.log object settling ∙ h.rows ∙ st.rows;
  fault = ap first_of (settled_faults s.log object settling) ∙ h.fault ∙ st.fault;
  settled = λ other.
      settling_push s.log (entry.Settled object settling) other
      ∙ ap (λ o. option_or o (settled_as other (entry.Settled object settling))) (h.settled other)
      ∙ sym (settling_push (settlings kept E) (entry.Settled object settling) other)
      ∙ sym (ap (λ log. settling_in log other) (settled_more kept E event (entry.Settled object settling) some));
}

tally_same : {a b c d e f : ℕ} → a ≡ b → c ≡ d → e ≡ f
    → (let t : Tally = record { failed = a; garbled = c; memory = e } in let u : Tally = record { failed = b; garbled = d; memory = f } in t ≡ u)
tally_same p q r = cc

or_none : {X : Type 0} (o : Option X) → o ≡ option_or o None
or_none None = refl
or_none (Some x) = refl

one_more_counted : (n : ℕ) → one_more (min n last_count) ≡ min (n + 1) last_count
one_more_counted n = omega arith

length_push : {X : Type 0} (xs : List X) (x : X) → length (xs ++ x ∷ []) ≡ length xs + 1
length_push xs x = length-append xs (x ∷ [])

counted_told : (fails : List FailKind) (what : FailKind) → counted what (tally_of fails) ≡ tally_of (fails ++ what ∷ [])
unfolding tally_of
counted_told fails kind.Failed =
    let f : one_more (min (length (filter is_failed fails)) last_count) ≡ min (length (filter is_failed (fails ++ kind.Failed ∷ []))) last_count =
    one_more_counted (length (filter is_failed fails)) ∙ ap (λ n. min n last_count) (sym (ap (length {A = FailKind}) (filter-append is_failed fails (kind.Failed ∷ [])) ∙ length_push (filter is_failed fails) kind.Failed)) in
    let g : min (length (filter is_garbled fails)) last_count ≡ min (length (filter is_garbled (fails ++ kind.Failed ∷ []))) last_count = ap (λ (ks : List FailKind). min (length ks) last_count) (sym (filter-append is_garbled fails (kind.Failed ∷ []) ∙ append-nil _)) in
    let m : min (length (filter is_memory fails)) last_count ≡ min (length (filter is_memory (fails ++ kind.Failed ∷ []))) last_count = ap (λ (ks : List FailKind). min (length ks) last_count) (sym (filter-append is_memory fails (kind.Failed ∷ []) ∙ append-nil _)) in
    tally_same f g m
counted_told fails kind.Garbled =
    let f : min (length (filter is_failed fails)) last_count ≡ min (length (filter is_failed (fails ++ kind.Garbled ∷ []))) last_count = ap (λ (ks : List FailKind). min (length ks) last_count) (sym (filter-append is_failed fails (kind.Garbled ∷ []) ∙ append-nil _)) in
    let g : one_more (min (length (filter is_garbled fails)) last_count) ≡ min (length (filter is_garbled (fails ++ kind.Garbled ∷ []))) last_count =
    one_more_counted (length (filter is_garbled fails)) ∙ ap (λ n. min n last_count) (sym (ap (length {A = FailKind}) (filter-append is_garbled fails (kind.Garbled ∷ [])) ∙ length_push (filter is_garbled fails) kind.Garbled)) in
    let m : min (length (filter is_memory fails)) last_count ≡ min (length (filter is_memory (fails ++ kind.Garbled ∷ []))) last_count = ap (λ (ks : List FailKind). min (length ks) last_count) (sym (filter-append is_memory fails (kind.Garbled ∷ []) ∙ append-nil _)) in
    tally_same f g m
counted_told fails kind.Memory =
    let f : min (length (filter is_failed fails)) last_count ≡ min (length (filter is_failed (fails ++ kind.Memory ∷ []))) last_count = ap (λ (ks : List FailKind). min (length ks) last_count) (sym (filter-append is_failed fails (kind.Memory ∷ []) ∙ append-nil _)) in
    let g : min (length (filter is_garbled fails)) last_count ≡ min (length (filter is_garbled (fails ++ kind.Memory ∷ []))) last_count = ap (λ (ks : List FailKind). min (length ks) last_count) (sym (filter-append is_garbled fails (kind.Memory ∷ []) ∙ append-nil _)) in
    let m : one_more (min (length (filter is_memory fails)) last_count) ≡ min (length (filter is_memory (fails ++ kind.Memory ∷ []))) last_count =
    one_more_counted (length (filter is_memory fails)) ∙ ap (λ n. min n last_count) (sym (ap (length {A = FailKind}) (filter-append is_memory fails (kind.Memory ∷ [])) ∙ length_push (filter is_memory fails) kind.Memory)) in
    tally_same f g m

told_fail : (kept : List Event → List Row) (count : ℕ) (E : List Event) (s : State) (what : FailKind) → IsByHistory kept count E s
    → IsByHistory kept count (E ++ Fail what ∷ []) (failed s what)
unfolding tally_of
told_fail kept count E s what h =
    let st = stays kept count E (Fail what) refl (λ m. refl) in
    let more : fails_told (E ++ Fail what ∷ []) ≡ fails_told E ++ what ∷ [] = filter_map_push_some kind_failed E (Fail what) what refl in
    record {
      want = h.want ∙ want_stays E (Fail what) refl;
      asks = h.asks ∙ asks_stay E (Fail what) refl;
      tally = ap (counted what) h.tally ∙ counted_told (fails_told E) what ∙ ap tally_of (sym more);
      last_fail = sym (ap last_of more ∙ last_push (fails_told E) what);
      paused = pause_turns E (Fail what) true refl;
      rows = h.rows ∙ st.rows;
      fault = h.fault ∙ st.fault;
      settled = λ object. h.settled object ∙ ap (λ log. settling_in log object) (settled_stay kept E (Fail what) (λ m. refl));
    }

-- an event that sets the row fault and brings no rows
told_fault : (kept : List Event → List Row) (count : ℕ) (E : List Event) (s : State) (event : Event) (fault : SourceFault) → IsByHistory kept count E s
    → depth_wanted event ≡ None → object_asked event ≡ None → kind_failed event ≡ None → pauses event ≡ None → rows_brought event ≡ []
    → ((m : Moment) → settling_by kept m event ≡ None) → ended_by count kept (record { before = E; event = event }) event ≡ Some fault
    → fault_in s.log ≡ None → IsByHistory kept count (E ++ event ∷ []) (logged s (entry.Fault fault))
told_fault kept count E s event fault h no_want no_ask no_fail no_pause no_rows no_settling ends none =
    let parts = none_parts _ _ (sym h.fault ∙ none) in
    let ended : filter_map (λ (m : Moment). ended_by count kept m m.event) (moments (E ++ event ∷ [])) ≡ filter_map (λ (m : Moment). ended_by count kept m m.event) (moments E) ++ fault ∷ [] =
    ap (filter_map (λ (m : Moment). ended_by count kept m m.event)) (moments_push [] E event)
    ∙ filter_map_push_some (λ (m : Moment). ended_by count kept m m.event) (moments E) (record { before = [] ++ E; event = event }) fault ends in
    record {
      want = h.want ∙ want_stays E event no_want;
      asks = h.asks ∙ asks_stay E event no_ask;
      tally = h.tally ∙ tally_stays E event no_fail;
      last_fail = h.last_fail ∙ ap last_of (fails_stay E event no_fail);
      paused = h.paused ∙ pause_stays E event no_pause;
      rows = fault_rows s.log fault ∙ h.rows ∙ rows_stay kept E event no_rows;
      fault = fault_first s.log fault none
          ∙ sym (ap (λ cs. option_or (first_of (filter_map (fault_came kept) cs)) (first_of (filter_map (λ (m : Moment). ended_by count kept m m.event) (moments (E ++ event ∷ []))))) (sym (came_stays E event no_rows))
          ∙ ap (λ o. option_or o (first_of (filter_map (λ (m : Moment). ended_by count kept m m.event) (moments (E ++ event ∷ []))))) parts.0
          ∙ ap first_of ended ∙ first_append _ (fault ∷ []) (no_first _ parts.1));
      settled = λ object. fault_settling s.log fault object ∙ h.settled object ∙ ap (λ log. settling_in log object) (settled_stay kept E event no_settling);
    }

-- a list that was replaced
told_move : (kept : List Event → List Row) (count : ℕ) (E : List Event) (s : State) (object : Option ℕ) (had now : ℕ) → IsByHistory kept count E s
    → MayMove s object → IsByHistory kept count (E ++ Move object had now ∷ []) (moved s object (Moved had now))
told_move kept count E s None had now h may =
    told_fault kept count E s (Move None had now) (Moved had now) h refl refl refl refl refl (λ m. refl) refl may.0
told_move kept count E s (Some object) had now h may =
    told_settling kept count E s (Move (Some object) had now) object (settling.Bad (Moved had now)) h refl refl refl refl
    (stays kept count E (Move (Some object) had now) refl (λ m. refl)) refl

-- a page
told_page : (kept : List Event → List Row) (count : ℕ) (E : List Event) (s : State) (rows : List Row) → IsByHistory kept count E s → s.count ≡ count
    → rows_in s.log ≡ kept E → fault_in s.log ≡ None → IsByHistory kept count (E ++ Page rows ∷ []) (paged s rows)
told_page kept count E s [] h is all none =
    told_fault kept count E s (Page []) (ShortList s.count (length (rows_in s.log))) h refl refl refl refl refl (λ m. refl)
    (ap (λ n. Some (ShortList n (length (kept E)))) (sym is) ∙ ap (λ (rs : List Row). Some (ShortList s.count (length rs))) (sym all)) none
told_page kept count E s (row ∷ rows) h is all none =
    let parts = none_parts _ _ (sym h.fault ∙ none) in
    let clean : filter_map (fault_came kept) (came E) ≡ [] = no_first (filter_map (fault_came kept) (came E)) parts.0 in
    let at_fault = λ (one : Came). is_some (fault_came kept one) in
    let whole : rows_told kept E ≡ brought E =
    ap (λ cs. map (λ (one : Came). one.row) (before_first at_fault cs)) (sym (append-nil (came E)))
    ∙ ap (map (λ (one : Came). one.row)) (before_all at_fault (fault_came kept) (came E) [] (λ one. refl) clean ∙ append-nil (came E))
    ∙ came_rows [] [] E in
    let told : PageTold kept E (brought E) (row ∷ rows) s (with_rows s (row ∷ rows)) = page_told kept E (brought E) (row ∷ rows) s h.asks (h.rows ∙ whole) none h.settled in
    let more : came (E ++ Page (row ∷ rows) ∷ []) ≡ came E ++ page_came (brought E) E (row ∷ rows) = came_push [] [] E (Page (row ∷ rows)) in
    record {
      want = told.want ∙ h.want ∙ want_stays E (Page (row ∷ rows)) refl;
      asks = told.asks ∙ h.asks ∙ asks_stay E (Page (row ∷ rows)) refl;
      tally = told.tally ∙ h.tally ∙ tally_stays E (Page (row ∷ rows)) refl;
      last_fail = told.last_fail ∙ h.last_fail ∙ ap last_of (fails_stay E (Page (row ∷ rows)) refl);
      paused = told.paused ∙ h.paused ∙ pause_stays E (Page (row ∷ rows)) refl;
      rows = told.rows_kept
          ∙ ap (λ rs. rs ++ map (λ (one : Came). one.row) (before_first at_fault (page_came (brought E) E (row ∷ rows)))) (sym (came_rows [] [] E))
          ∙ sym (map-append (λ (one : Came). one.row) (came E) (before_first at_fault (page_came (brought E) E (row ∷ rows))))
          ∙ ap (map (λ (one : Came). one.row)) (sym (before_all at_fault (fault_came kept) (came E) (page_came (brought E) E (row ∷ rows)) (λ one. refl) clean))
          ∙ ap (λ cs. map (λ (one : Came). one.row) (before_first at_fault cs)) (sym more);
      fault = told.fault
          ∙ sym (first_append _ (filter_map (fault_came kept) (page_came (brought E) E (row ∷ rows))) clean)
          ∙ ap first_of (sym (filter_map-append (fault_came kept) (came E) (page_came (brought E) E (row ∷ rows))))
          ∙ ap (λ cs. first_of (filter_map (fault_came kept) cs)) (sym more)
          ∙ or_none (first_of (filter_map (fault_came kept) (came (E ++ Page (row ∷ rows) ∷ []))))
          ∙ ap (option_or (first_of (filter_map (fault_came kept) (came (E ++ Page (row ∷ rows) ∷ []))))) (sym parts.1 ∙ ap first_of (ended_stays count kept E (Page (row ∷ rows)) (λ m. refl)));
      settled = λ object. told.settled object ∙ h.settled object ∙ ap (λ log. settling_in log object) (settled_stay kept E (Page (row ∷ rows)) (λ m. refl));
    }

-- each event, and a whole history
count_or : (o : Option SourceFault) (s : State) (row : Row) (next : State → State) → ((t : State) → (next t).count ≡ t.count)
    → (row_or o s row next).count ≡ s.count
count_or None s row next h = h (logged s (entry.Kept row))
count_or (Some fault) s row next h = refl

count_rows : (s : State) (rows : List Row) → (with_rows s rows).count ≡ s.count
count_rows s [] = refl
count_rows s (row ∷ rows) = count_or (row_fault (rows_in s.log) (asks_of s) row) s row (λ t. with_rows t rows) (λ t. count_rows t rows)

pub count_stays : (s : State) (event : Event) → (after s event).count ≡ s.count
count_stays s (Want depth) = refl
count_stays s (Ask object) = refl
count_stays s (Page []) = refl
count_stays s (Page (row ∷ rows)) = count_rows s (row ∷ rows)
count_stays s (Grade object grade) = refl
count_stays s (Miss object) = refl
count_stays s (Fail what) = refl
count_stays s (Move None had now) = refl
count_stays s (Move (Some object) had now) = refl

pub told_next : (kept : List Event → List Row) (count : ℕ) (E : List Event) (s : State) (event : Event) → IsByHistory kept count E s → s.count ≡ count
    → rows_in s.log ≡ kept E → MayCome s event → IsByHistory kept count (E ++ event ∷ []) (after s event)
told_next kept count E s (Want depth) h is all may = told_want kept count E s depth h
told_next kept count E s (Ask object) h is all may = told_ask kept count E s object h
told_next kept count E s (Page rows) h is all may = told_page kept count E s rows h is all may.no_fault
told_next kept count E s (Grade object grade) h is all may =
    told_settling kept count E s (Grade object grade) object (settle (rows_in s.log) object grade) h refl refl refl refl (stays kept count E (Grade object grade) refl (λ m. refl))
    (ap (λ rows. Some (entry.Settled object (settle rows object grade))) (sym all))
told_next kept count E s (Miss object) h is all may =
    told_settling kept count E s (Miss object) object settling.Missed h refl refl refl refl (stays kept count E (Miss object) refl (λ m. refl)) refl
told_next kept count E s (Fail what) h is all may = told_fail kept count E s what h
told_next kept count E s (Move object had now) h is all may = told_move kept count E s object had now h may.1

told_along : (start : State) (count : ℕ) (E more : List Event) → IsByHistory (kept_by start) count E (replayed start E) → (replayed start E).count ≡ count
    → AllMayCome (replayed start E) more → IsByHistory (kept_by start) count (E ++ more) (replayed (replayed start E) more)
told_along start count E [] h is may = subst (λ F. IsByHistory (kept_by start) count F (replayed start E)) (sym (append-nil E)) h
told_along start count E (event ∷ more) h is may =
    let next : IsByHistory (kept_by start) count (E ++ event ∷ []) (after (replayed start E) event) = told_next (kept_by start) count E (replayed start E) event h is refl may.0 in
    let step : after (replayed start E) event ≡ replayed start (E ++ event ∷ []) = sym (replayed_push start E event) in
    subst (λ F. IsByHistory (kept_by start) count F (replayed (after (replayed start E) event) more)) (append_assoc E (event ∷ []) more)
    (subst (λ t. IsByHistory (kept_by start) count ((E ++ event ∷ []) ++ more) (replayed t more)) (sym step)
    (told_along start count (E ++ event ∷ []) more
    (subst (λ t. IsByHistory (kept_by start) count (E ++ event ∷ []) t) step next)
    (ap (λ (t : State). t.count) (sym step) ∙ count_stays (replayed start E) event ∙ is)
    (subst (λ t. AllMayCome t more) step may.1)))

pub none_told : (list count : ℕ) → IsByHistory (kept_by (opened list count)) count [] (opened list count)
none_told list count = record {
  want = refl;
  asks = refl;
  tally = tally_same refl refl refl;
  last_fail = refl;
  paused = refl;
  rows = refl;
  fault = refl;
  settled = λ object. refl;
}

pub history_told : (list count : ℕ) (E : List Event) → AllMayCome (opened list count) E
    → IsByHistory (kept_by (opened list count)) count E (replayed (opened list count) E)
history_told list count E may = told_along (opened list count) count [] E (none_told list count) refl may
