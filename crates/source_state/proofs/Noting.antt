-- What the notes of a log tell, and that they tell it from then on.
use Rattle.std.proofs.Common.{◌≡◌, ℕ, false, Option, Some, None, List, [], ◌∷◌, ◌++◌, length, map, filter_map, nat_eq, slice_get, get_or, refl, sym, ap, ◌∙◌, append-nil, eqb-true}
use Rattle.std.specs.List.{position, cons_option}
use Rattle.std.specs.Option.{option_map, option_and_then}
use Rattle.std.proofs.lemmas.List.{length-map, map-append}
use Rattle.std.proofs.lemmas.List.Elements.{filter_map-append}
use Rattle.std.proofs.lemmas.List.Quantifiers.{position-Some}
use Rattle.std.proofs.lemmas.Option.{slice_get-map, slice_get-get_or}
use Rattle.ranked_list.specs.declared.row.Row.{Row}
use Rattle.topk_theory.proofs.AgreementLists.{slice_get_front, slice_get_behind}
use Rattle.source_state.specs.declared.ask.Ask.{Ask}
use Rattle.source_state.specs.declared.entry.LogEntry.{LogEntry}
use Rattle.source_state.specs.declared.entry.LogEntry.TheVariants as entry
use Rattle.source_state.specs.declared.entry.Settling.{Settling}
use Rattle.source_state.specs.declared.entry.SourceFault.{SourceFault}
use Rattle.source_state.specs.declared.entry.Note.{Note}
use Rattle.source_state.specs.declared.entry.Note.TheVariants.{Kept, Settled, Fault}
use Rattle.source_state.specs.Log.{first_of, rows_in, settling_in, fault_in, kept_row, settled_as, fault_set}
use Rattle.source_state.specs.Asks.{ask_in}
use Rattle.source_state.specs.State.{State}
use Rattle.source_state.specs.Events.{logged, one_asked}
use Rattle.source_state.specs.ObjectKeeping.{ObjectList, ask_objects}
use Rattle.source_state.specs.Keeping.{KeepsState, objects_of, entry_of, settled_entry}
use Rattle.source_state.proofs.Lists.{none_not_some}
use Rattle.source_state.proofs.LogLaws.{kept_rows, settled_same, fault_first}
use Rattle.source_state.proofs.AskLaws.{objects_of_asks}

-- ---- what is told of each member of a list
pub all_told : {X Y : Type 0} (f : X → Option Y) (xs : List X) (ys : List Y) → map f xs ≡ map (λ y. Some y) ys → filter_map f xs ≡ ys
all_told f [] [] e = refl
all_told f [] (y ∷ ys) e = absurd (cc)
all_told f (x ∷ xs) [] e = absurd (cc)
all_told f (x ∷ xs) (y ∷ ys) e =
    let here : f x ≡ Some y = cc in
    let rest : map f xs ≡ map (λ y. Some y) ys = cc in
    ap (λ o. cons_option o (filter_map f xs)) here ∙ ap (λ zs. y ∷ zs) (all_told f xs ys rest)

still_told : {X Y : Type 0} (f g : X → Option Y) (xs : List X) (ys : List Y) → ((x : X) (y : Y) → f x ≡ Some y → g x ≡ Some y)
    → map f xs ≡ map (λ y. Some y) ys → map g xs ≡ map (λ y. Some y) ys
still_told f g [] ys h e = e
still_told f g (x ∷ xs) [] h e = absurd (cc)
still_told f g (x ∷ xs) (y ∷ ys) h e =
    let here : f x ≡ Some y = cc in
    let rest : map f xs ≡ map (λ y. Some y) ys = cc in
    ap (λ o. o ∷ map g xs) (h x y here) ∙ ap (λ zs. Some y ∷ zs) (still_told f g xs ys h rest)

more_told : {X Y : Type 0} (f : X → Option Y) (xs : List X) (ys : List Y) (x : X) (y : Y) → map f xs ≡ map (λ y. Some y) ys → f x ≡ Some y
    → map f (xs ++ x ∷ []) ≡ map (λ y. Some y) (ys ++ y ∷ [])
more_told f xs ys x y e here =
    map-append f xs (x ∷ []) ∙ ap (λ os. os ++ f x ∷ []) e ∙ ap (λ o. map (λ y. Some y) ys ++ o ∷ []) here ∙ sym (map-append (λ y. Some y) ys (y ∷ []))

-- what is told of a value that is there stays told where the value stays
map_stays : {X Y : Type 0} (f : X → Y) (o p : Option X) (y : Y) → ((x : X) → o ≡ Some x → p ≡ Some x) → option_map f o ≡ Some y → option_map f p ≡ Some y
map_stays f None p y h e = absurd (none_not_some e)
map_stays f (Some x) p y h e = ap (option_map f) (h x refl) ∙ e

then_stays : {X Y : Type 0} (f g : X → Option Y) (o p : Option X) (y : Y) → ((x : X) → o ≡ Some x → p ≡ Some x) → ((x : X) → f x ≡ Some y → g x ≡ Some y)
    → option_and_then f o ≡ Some y → option_and_then g p ≡ Some y
then_stays f g None p y h k e = absurd (none_not_some e)
then_stays f g (Some x) p y h k e = ap (option_and_then g) (h x refl) ∙ k x e

then_map : {X Y Z : Type 0} (f : Y → Option Z) (v : X → Y) (o : Option X) → option_and_then f (option_map v o) ≡ option_and_then (λ x. f (v x)) o
then_map f v None = refl
then_map f v (Some x) = refl

first_front : {X : Type 0} (xs ys : List X) (x : X) → first_of xs ≡ Some x → first_of (xs ++ ys) ≡ Some x
first_front [] ys x e = absurd (none_not_some e)
first_front (first ∷ xs) ys x e = e

-- ---- what is told of a log and of the objects that were asked
abbrev tells : State → Note → Option LogEntry
tells s note = entry_of (objects_of s) (fault_in s.log) note

-- what the ask at a place settled as
ask_tells : (log : List LogEntry) (asks : List ℕ) (place : ℕ)
    → option_and_then settled_entry (slice_get (map (ask_in log) asks) place)
    ≡ option_and_then (λ object. settled_entry (ask_in log object)) (slice_get asks place)
ask_tells log asks place =
    ap (option_and_then settled_entry) (slice_get-map (ask_in log) asks place)
    ∙ then_map settled_entry (ask_in log) (slice_get asks place)

-- an entry that is told stays told where the log and the asks grow
stays : (s t : State) (more : List LogEntry) (others : List ℕ) → t.log ≡ s.log ++ more → t.asks ≡ s.asks ++ others → (note : Note) (told : LogEntry)
    → tells s note ≡ Some told → tells t note ≡ Some told
stays s t more others log asks (Kept place) told e =
    map_stays (λ row. entry.Kept row) (slice_get (rows_in s.log) place) (slice_get (rows_in t.log) place) told
    (λ row there.
    ap (λ entries. slice_get (rows_in entries) place) log ∙ ap (λ rows. slice_get rows place) (filter_map-append kept_row s.log more)
    ∙ slice_get_front (rows_in s.log) (rows_in more) place row there) e
stays s t more others log asks (Settled place) told e =
    ask_tells t.log t.asks place
    ∙ then_stays (λ object. settled_entry (ask_in s.log object)) (λ object. settled_entry (ask_in t.log object))
    (slice_get s.asks place) (slice_get t.asks place) told
    (λ object there. ap (λ objects. slice_get objects place) asks ∙ slice_get_front s.asks others place object there)
    (λ object settled.
    map_stays (λ settling. entry.Settled object settling) (settling_in s.log object) (settling_in t.log object) told
    (λ settling is.
    ap (λ entries. settling_in entries object) log ∙ ap first_of (filter_map-append (settled_as object) s.log more)
    ∙ first_front (filter_map (settled_as object) s.log) (filter_map (settled_as object) more) settling is) settled)
    (sym (ask_tells s.log s.asks place) ∙ e)
stays s t more others log asks Fault told e =
    map_stays (λ fault. entry.Fault fault) (fault_in s.log) (fault_in t.log) told
    (λ fault is.
    ap fault_in log ∙ ap first_of (filter_map-append fault_set s.log more)
    ∙ first_front (filter_map fault_set s.log) (filter_map fault_set more) fault is) e

same_entry : {kept after : ObjectList} {set now : Option SourceFault} → kept ≡ after → set ≡ now → (note : Note)
    → entry_of kept set note ≡ entry_of after now note
same_entry {kept} {after} {set} {now} e f note = ap (λ (list : ObjectList). entry_of list set note) e ∙ ap (λ o. entry_of after o note) f

-- what the notes told before an event they tell after it
told_on : (s t : State) (kept after : ObjectList) (set now : Option SourceFault) (notes : List Note) (capacity : ℕ) (more : List LogEntry) (others : List ℕ)
    → KeepsState s kept set notes capacity → after ≡ objects_of t → now ≡ fault_in t.log → t.log ≡ s.log ++ more → t.asks ≡ s.asks ++ others
    → map (entry_of after now) notes ≡ map (λ entry. Some entry) s.log
told_on s t kept after set now notes capacity more others k objects fault log asks =
    still_told (entry_of kept set) (entry_of after now) notes s.log
    (λ note told e. same_entry objects fault note ∙ stays s t more others log asks note told (sym (same_entry k.objects k.fault note) ∙ e)) k.told

pub logged_told : (s : State) (entry : LogEntry) (kept after : ObjectList) (set now : Option SourceFault) (notes next : List Note) (capacity : ℕ) (note : Note)
    → KeepsState s kept set notes capacity → after ≡ objects_of (logged s entry) → now ≡ fault_in (s.log ++ entry ∷ []) → next ≡ notes ++ note ∷ []
    → tells (logged s entry) note ≡ Some entry → map (entry_of after now) next ≡ map (λ entry. Some entry) (s.log ++ entry ∷ [])
logged_told s entry kept after set now notes next capacity note k objects fault add told =
    ap (map (entry_of after now)) add
    ∙ more_told (entry_of after now) notes s.log note entry
    (told_on s (logged s entry) kept after set now notes capacity (entry ∷ []) [] k objects fault refl (sym (append-nil s.asks)))
    (same_entry objects fault note ∙ told)

pub asked_told : (s : State) (object : ℕ) (found : Option Ask) (kept after : ObjectList) (set : Option SourceFault) (notes : List Note) (capacity : ℕ)
    → KeepsState s kept set notes capacity
    → (let t : State = record s { asks = one_asked found object s.asks; paused = false } in after ≡ objects_of t) → set ≡ fault_in s.log
    → map (entry_of after set) notes ≡ map (λ entry. Some entry) s.log
asked_told s object None kept after set notes capacity k objects fault =
    let t : State = record s { asks = s.asks ++ object ∷ []; paused = false } in
    told_on s t kept after set set notes capacity [] (object ∷ []) k objects fault (sym (append-nil s.log)) refl
asked_told s object (Some found) kept after set notes capacity k objects fault =
    let t : State = record s { paused = false } in
    told_on s t kept after set set notes capacity [] [] k objects fault (sym (append-nil s.log)) (sym (append-nil s.asks))

-- ---- the note that an event adds
pub row_noted : (s : State) (row : Row) (place : ℕ) → place ≡ length (rows_in s.log) → tells (logged s (entry.Kept row)) (Kept place) ≡ Some (entry.Kept row)
row_noted s row place last =
    ap (option_map (λ row. entry.Kept row))
    (ap (λ rows. slice_get rows place) (kept_rows s.log row) ∙ ap (slice_get (rows_in s.log ++ row ∷ [])) last ∙ slice_get_behind (rows_in s.log) row [])

object_at : (objects : List ℕ) (object place : ℕ) → position (nat_eq object) objects ≡ Some place → slice_get objects place ≡ Some object
object_at objects object place e =
    let at = position-Some (nat_eq object) objects place 0 e in
    slice_get-get_or objects place 0 at.0 ∙ ap (λ o. Some o) (sym (eqb-true object (get_or objects place 0) at.1))

pub settling_noted : (s : State) (object place : ℕ) (settling : Settling) → settling_in s.log object ≡ None
    → position (nat_eq object) (ask_objects (map (ask_in s.log) s.asks)) ≡ Some place
    → tells (logged s (entry.Settled object settling)) (Settled place) ≡ Some (entry.Settled object settling)
settling_noted s object place settling none at =
    let there : slice_get s.asks place ≡ Some object =
    object_at s.asks object place (sym (ap (position (nat_eq object)) (objects_of_asks s.log s.asks)) ∙ at) in
    ask_tells (s.log ++ entry.Settled object settling ∷ []) s.asks place
    ∙ ap (option_and_then (λ other. settled_entry (ask_in (s.log ++ entry.Settled object settling ∷ []) other))) there
    ∙ ap (option_map (λ settling. entry.Settled object settling)) (settled_same s.log object settling none)

pub fault_noted : (s : State) (fault : SourceFault) → fault_in s.log ≡ None → tells (logged s (entry.Fault fault)) Fault ≡ Some (entry.Fault fault)
fault_noted s fault none = ap (option_map (λ fault. entry.Fault fault)) (fault_first s.log fault none)

-- each note has its entry
pub as_many : (s : State) (kept : ObjectList) (set : Option SourceFault) (notes : List Note) (capacity : ℕ) → KeepsState s kept set notes capacity
    → length notes ≡ length s.log
as_many s kept set notes capacity k =
    sym (length-map notes (entry_of kept set)) ∙ ap length k.told ∙ length-map s.log (λ entry. Some entry)
