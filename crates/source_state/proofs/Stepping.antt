-- What the fields keep after each event: the state that they show is the state after it.
use Rattle.std.proofs.Common.{◌≡◌, ◌<◌, ◌≤◌, ◌+◌, ◌*◌, inl, inr, ℕ, max, true, false, Option, Some, None, List, [], ◌∷◌, ◌++◌, length, map, nat_eq, is_some, refl, sym, ap, subst, ◌∙◌, arith}
use Rattle.std.proofs.lemmas.List.{length-append, length-map, map-append}
use Rattle.std.specs.List.{position}
use Rattle.ranked_list.specs.declared.row.Row.{Row}
use Rattle.ranked_list.proofs.OptionLaws.{option_cases}
use Rattle.topk_theory.specs.Bounds.{grade_among}
use Rattle.source_state.specs.declared.ask.Ask.{Ask}
use Rattle.source_state.specs.declared.entry.LogEntry.{LogEntry}
use Rattle.source_state.specs.declared.entry.LogEntry.TheVariants.{Kept, Settled, Fault}
use Rattle.source_state.specs.declared.entry.Settling.{Settling}
use Rattle.source_state.specs.declared.entry.Asked.TheVariants as became
use Rattle.source_state.specs.declared.entry.SourceFault.{SourceFault}
use Rattle.source_state.specs.declared.entry.Note.{Note}
use Rattle.source_state.specs.declared.entry.Note.TheVariants as note
use Rattle.source_api.specs.declared.source.FailKind.{FailKind}
use Rattle.source_api.specs.declared.source.FailKind.TheVariants.{Failed, Garbled, Memory}
use Rattle.turn_lock.specs.declared.facts.Tally.{Tally}
use Rattle.source_state.specs.Log.{rows_in, settling_in, fault_in, first_of}
use Rattle.source_state.specs.Asks.{ask_in, ask_of, new_ask, with_one_more, held_asks, settled_asks}
use Rattle.source_state.specs.State.{State, opened, asks_of, asked_in, row_fault, SettlesWell, IsSound, IsCounted}
use Rattle.source_state.specs.Events.{logged, one_asked, with_ask, counted}
use Rattle.source_state.specs.ObjectKeeping.{ObjectList, ask_objects}
use Rattle.source_state.specs.Keeping.{KeepsState, objects_of, entry_of, entries_of}
use Rattle.topk_base.specs.declared.TheConstants.{MAX_OBJECTS}
use Rattle.source_state.proofs.LogLaws.{kept_rows, kept_faults, settled_rows, settled_faults, fault_rows, fault_first, settled_there}
use Rattle.source_state.proofs.AskLaws.{asks_kept, asks_settled, asks_fault, objects_of_asks, pending_parts, ask_missing, not_asked}
use Rattle.source_state.proofs.Caching.{ask_no_place}
use Rattle.source_state.proofs.Noting.{all_told, logged_told, asked_told, row_noted, settling_noted, fault_noted, as_many}
use Rattle.source_state.proofs.Sound.{log_fits, sound_opened, sound_row, sound_fault, sound_settling, sound_ask}

-- the fields show the state after an event
pub record Stepped (shown after : State) (objects : ObjectList) (fault : Option SourceFault) (notes : List Note) (capacity : ℕ) : Type 0 where
  pub keeps : KeepsState shown objects fault notes capacity
  pub same : shown ≡ after

stepped : (after shown : State) (objects : ObjectList) (fault : Option SourceFault) (notes : List Note) (capacity : ℕ)
    → KeepsState after objects fault notes capacity
    → shown ≡ record after { log = entries_of objects fault notes; asks = ask_objects objects.asks } → Stepped shown after objects fault notes capacity
stepped after shown objects fault notes capacity k e =
    let asked : ask_objects objects.asks ≡ after.asks = ap (λ (list : ObjectList). ask_objects list.asks) k.objects ∙ objects_of_asks after.log after.asks in
    let told : entries_of objects fault notes ≡ after.log = all_told (entry_of objects fault) notes after.log k.told in
    let same : shown ≡ after =
    e ∙ ap (λ log. let s : State = record after { log = log; asks = ask_objects objects.asks } in s) told
    ∙ ap (λ os. let s : State = record after { asks = os } in s) asked in
    record { keeps = subst (λ s. KeepsState s objects fault notes capacity) (sym same) k; same = same }

-- no event yet
pub state_opened : (list count capacity : ℕ) (notes : List Note) (objects : ObjectList) → count ≤ MAX_OBJECTS → notes ≡ []
    → objects ≡ record { room = count; rows = []; asks = [] } → 2 * count + 1 ≤ capacity
    → Stepped (record (opened list count) { log = entries_of objects None notes; asks = ask_objects objects.asks }) (opened list count)
    objects None notes capacity
state_opened list count capacity notes objects small none is room =
    subst
    (λ many. Stepped (record (opened list count) { log = entries_of objects None many; asks = ask_objects objects.asks }) (opened list count)
    objects None many capacity) (sym none)
    (stepped (opened list count) _ objects None [] capacity
    (record { objects = is; fault = refl; told = refl; reserved = room; sound = sound_opened list count small }) refl)

-- a note has room where the state is sound with its entry
pub entry_room : (s : State) (entry : LogEntry) (objects : ObjectList) (fault : Option SourceFault) (notes : List Note) (capacity : ℕ)
    → KeepsState s objects fault notes capacity → IsSound (logged s entry) → length notes < capacity
entry_room s entry objects fault notes capacity k sound =
    let fits : length (s.log ++ entry ∷ []) ≤ 2 * s.count + 1 = log_fits s.count s.asks (s.log ++ entry ∷ []) sound.log sound.fits in
    let reserved = k.reserved in
    let many : length notes ≡ length s.log = as_many s objects fault notes capacity k in
    omega (arith, length-append s.log (entry ∷ []))

-- a want, and a fail
pub state_want : (s : State) (objects : ObjectList) (fault : Option SourceFault) (notes : List Note) (capacity depth want : ℕ)
    → KeepsState s objects fault notes capacity → depth ≤ s.count → want ≡ max s.want depth
    → KeepsState (record s { want = want; paused = false }) objects fault notes capacity
state_want s objects fault notes capacity depth want k within is =
    let sound = k.sound in
    let before = sound.want in
    record {
      objects = k.objects;
      fault = k.fault;
      told = k.told;
      reserved = k.reserved;
      sound = record { log = sound.log; distinct = sound.distinct; fits = sound.fits; small = sound.small; want = omega arith; tally = sound.tally };
    }

still_counted : (what : FailKind) (tally : Tally) → IsCounted tally → IsCounted (counted what tally)
still_counted Failed tally within = record { failed = omega arith; garbled = within.garbled; memory = within.memory }
still_counted Garbled tally within = record { failed = within.failed; garbled = omega arith; memory = within.memory }
still_counted Memory tally within = record { failed = within.failed; garbled = within.garbled; memory = omega arith }

pub state_fail : (s : State) (objects : ObjectList) (fault : Option SourceFault) (notes : List Note) (capacity : ℕ) (what : FailKind) (tally : Tally)
    → KeepsState s objects fault notes capacity → tally ≡ counted what s.tally
    → KeepsState (record s { tally = tally; last_fail = Some what; paused = true }) objects fault notes capacity
state_fail s objects fault notes capacity what tally k is =
    let sound = k.sound in
    record {
      objects = k.objects;
      fault = k.fault;
      told = k.told;
      reserved = k.reserved;
      sound = record {
        log = sound.log;
        distinct = sound.distinct;
        fits = sound.fits;
        small = sound.small;
        want = sound.want;
        tally = subst IsCounted (sym is) (still_counted what s.tally sound.tally);
      };
    }

-- one more ask
pub ask_room : (s : State) (objects : ObjectList) (fault : Option SourceFault) (notes : List Note) (capacity object : ℕ)
    → KeepsState s objects fault notes capacity
    → (asked_in s object ≡ None → length s.asks < s.count) → ask_of objects.asks object ≡ None → length objects.asks < objects.room
ask_room s objects fault notes capacity object k room e =
    subst (λ (list : ObjectList). ask_of list.asks object ≡ None → length list.asks < list.room) (sym k.objects)
    (λ absent. subst (λ n. n < s.count) (sym (length-map s.asks (ask_in s.log))) (room (not_asked s object absent))) e

one_more_ask : (s : State) (object : ℕ) (found : Option Ask) → IsSound s → ask_of (asks_of s) object ≡ found
    → with_one_more found (new_ask object (is_some (grade_among (rows_in s.log) object))) (asks_of s) ≡ map (ask_in s.log) (one_asked found object s.asks)
one_more_ask s object (Some ask) sound e = refl
one_more_ask s object None sound e =
    ap (λ (ask : Ask). asks_of s ++ ask ∷ []) (sym (new_is (settling_in s.log object) unsettled))
    ∙ sym (map-append (ask_in s.log) s.asks (object ∷ []))
  where
    unsettled : settling_in s.log object ≡ None
    unsettled = elim (option_cases (settling_in s.log object)) [
      | inl none ↦ none
      | inr some ↦ absurd (ask_missing s.log s.asks object e (sound.log.asked object (settled_there s.log object some.0 some.1)))
    ]

    new_is : (o : Option Settling) → o ≡ None
        → (let ask : Ask = record { object = object; settling = o; is_held = is_some (grade_among (rows_in s.log) object) } in ask ≡ new_ask object (is_some (grade_among (rows_in s.log) object)))
    new_is o none = cc

-- the objects after one more ask
abbrev asked : ObjectList → ℕ → ObjectList
asked list object = record list { asks = with_one_more (ask_of list.asks object) (new_ask object (is_some (grade_among list.rows object))) list.asks }

pub state_ask : (s : State) (objects added : ObjectList) (fault : Option SourceFault) (notes : List Note) (capacity object : ℕ)
    → KeepsState s objects fault notes capacity → (asked_in s object ≡ None → length s.asks < s.count)
    → added ≡ record objects { asks = with_one_more (ask_of objects.asks object) (new_ask object (is_some (grade_among objects.rows object))) objects.asks }
    → Stepped (record s { log = entries_of added fault notes; asks = ask_objects added.asks; paused = false }) (with_ask s object) added fault notes capacity
state_ask s objects added fault notes capacity object k room add =
    let shown : added ≡ objects_of (with_ask s object) =
    add ∙ ap (λ (list : ObjectList). asked list object) k.objects
    ∙ ap (λ os. let one : ObjectList = record { room = s.count; rows = rows_in s.log; asks = os } in one)
    (one_more_ask s object (ask_of (asks_of s) object) k.sound refl) in
    stepped (with_ask s object) _ added fault notes capacity
    (record {
      objects = shown;
      fault = k.fault;
      told = asked_told s object (ask_of (asks_of s) object) objects added fault notes capacity k shown k.fault;
      reserved = k.reserved;
      sound = sound_ask s object k.sound (λ absent. room (not_asked s object absent));
    }) refl

-- one more row
abbrev with_row : ObjectList → Row → ObjectList
with_row list row = record list { rows = list.rows ++ row ∷ []; asks = held_asks row.object list.asks }

objects_is : (room : ℕ) (rows others : List Row) (asks more : List Ask) → rows ≡ others → asks ≡ more
    → (let one : ObjectList = record { room = room; rows = rows; asks = asks } in let other : ObjectList = record { room = room; rows = others; asks = more } in one ≡ other)
objects_is room rows others asks more e f = cc

pub state_row : (s : State) (objects more : ObjectList) (fault : Option SourceFault) (notes next : List Note) (capacity reserved place : ℕ) (row : Row)
    → KeepsState s objects fault notes capacity → length (rows_in s.log) < s.count → row_fault (rows_in s.log) (asks_of s) row ≡ None
    → more ≡ record objects { rows = objects.rows ++ row ∷ []; asks = held_asks row.object objects.asks } → place ≡ length objects.rows
    → next ≡ notes ++ note.Kept place ∷ [] → reserved ≡ capacity
    → Stepped (record s { log = entries_of more fault next; asks = ask_objects more.asks }) (logged s (Kept row)) more fault next reserved
state_row s objects more fault notes next capacity reserved place row k room none push last add same =
    let shown : more ≡ objects_of (logged s (Kept row)) =
    push ∙ ap (λ (list : ObjectList). with_row list row) k.objects
    ∙ objects_is s.count _ _ _ _ (sym (kept_rows s.log row)) (asks_kept s.log row s.asks) in
    let stands : fault ≡ fault_in (s.log ++ Kept row ∷ []) = k.fault ∙ ap first_of (sym (kept_faults s.log row)) in
    stepped (logged s (Kept row)) _ more fault next reserved
    (record {
      objects = shown;
      fault = stands;
      told = logged_told s (Kept row) objects more fault fault notes next capacity (note.Kept place) k shown stands add
          (row_noted s row place (last ∙ ap (λ (list : ObjectList). length list.rows) k.objects));
      reserved = let before = k.reserved in omega arith;
      sound = sound_row s row k.sound room none;
    }) refl

-- one more settling
abbrev with_settling : ObjectList → ℕ → Settling → ObjectList
with_settling list object settling = record list { asks = settled_asks object settling list.asks }

-- a pending ask has its place
pub pending_place : (s : State) (objects : ObjectList) (fault : Option SourceFault) (notes : List Note) (capacity object : ℕ) (place : Option ℕ)
    → KeepsState s objects fault notes capacity → asked_in s object ≡ Some became.Pending → place ≡ position (nat_eq object) (ask_objects objects.asks)
    → is_some place ≡ true
pending_place s objects fault notes capacity object (Some place) k pending at = refl
pending_place s objects fault notes capacity object None k pending at =
    absurd (ask_missing s.log s.asks object
    (subst (λ (list : ObjectList). ask_of list.asks object ≡ None) k.objects (ask_no_place objects.asks object (sym at))) (pending_parts s object pending).0)

pub state_settling : (s : State) (objects settled : ObjectList) (fault : Option SourceFault) (notes next : List Note)
    (capacity reserved object place : ℕ) (settling : Settling)
    → KeepsState s objects fault notes capacity → asked_in s object ≡ Some became.Pending → SettlesWell (rows_in s.log) object settling
    → settled ≡ record objects { asks = settled_asks object settling objects.asks } → position (nat_eq object) (ask_objects objects.asks) ≡ Some place
    → next ≡ notes ++ note.Settled place ∷ [] → reserved ≡ capacity
    → Stepped (record s { log = entries_of settled fault next; asks = ask_objects settled.asks }) (logged s (Settled object settling))
    settled fault next reserved
state_settling s objects settled fault notes next capacity reserved object place settling k pending well settle at add same =
    let none : settling_in s.log object ≡ None = (pending_parts s object pending).1 in
    let shown : settled ≡ objects_of (logged s (Settled object settling)) =
    settle ∙ ap (λ (list : ObjectList). with_settling list object settling) k.objects
    ∙ objects_is s.count _ _ _ _ (sym (settled_rows s.log object settling)) (asks_settled s.log object settling s.asks none) in
    let stands : fault ≡ fault_in (s.log ++ Settled object settling ∷ []) = k.fault ∙ ap first_of (sym (settled_faults s.log object settling)) in
    stepped (logged s (Settled object settling)) _ settled fault next reserved
    (record {
      objects = shown;
      fault = stands;
      told = logged_told s (Settled object settling) objects settled fault fault notes next capacity (note.Settled place) k shown stands add
          (settling_noted s object place settling none
          (subst (λ (list : ObjectList). position (nat_eq object) (ask_objects list.asks) ≡ Some place) k.objects at));
      reserved = let before = k.reserved in omega arith;
      sound = sound_settling s object settling k.sound pending well;
    }) refl

-- one more row fault
pub state_fault : (s : State) (objects : ObjectList) (old : Option SourceFault) (notes next : List Note) (capacity reserved : ℕ) (fault : SourceFault)
    → KeepsState s objects old notes capacity → fault_in s.log ≡ None → next ≡ notes ++ note.Fault ∷ [] → reserved ≡ capacity
    → Stepped (record s { log = entries_of objects (Some fault) next; asks = ask_objects objects.asks }) (logged s (Fault fault))
    objects (Some fault) next reserved
state_fault s objects old notes next capacity reserved fault k none add same =
    let shown : objects ≡ objects_of (logged s (Fault fault)) =
    k.objects ∙ objects_is s.count _ _ _ _ (sym (fault_rows s.log fault)) (asks_fault s.log fault s.asks) in
    let stands : Some fault ≡ fault_in (s.log ++ Fault fault ∷ []) = sym (fault_first s.log fault none) in
    stepped (logged s (Fault fault)) _ objects (Some fault) next reserved
    (record {
      objects = shown;
      fault = stands;
      told = logged_told s (Fault fault) objects objects old (Some fault) notes next capacity note.Fault k shown stands add (fault_noted s fault none);
      reserved = let before = k.reserved in omega arith;
      sound = sound_fault s fault k.sound none;
    }) refl
