-- The cause of a refusal, as a look gives it, and how it stays.
use Rattle.std.proofs.Common.{◌≡◌, ◌≤◌, ◌-◌, ◌==◌, inl, inr, ℕ, Bool, true, false, cond, Option, Some, None, List, [], ◌∷◌, ◌++◌, length, is_none, slice_get, nat_lt, filter_map, Contains, refl, sym, ap, subst, ◌∙◌, arith, eqb-true}
use Rattle.std.specs.Option.{option_map}
use Rattle.std.proofs.lemmas.Bool.{cases_Bool, ltb-true, and_parts}
use Rattle.std.proofs.lemmas.List.Elements.{filter_map-append, Contains-append_left, Contains-append_right, Contains-append_cases}
use Rattle.std.proofs.lemmas.List.{length-append}
use Rattle.std.proofs.lemmas.Option.{same_Some}
use Rattle.ranked_list.specs.declared.row.Row.{Row}
use Rattle.ranked_list.specs.declared.need.Need.{Need}
use Rattle.ranked_list.specs.declared.need.Need.TheVariants as need
use Rattle.turn_lock.specs.declared.facts.Tally.{Tally}
use Rattle.turn_lock.specs.Facts.{IsFrontOf, AtMost}
use Rattle.ranked_list.proofs.OptionLaws.{none_if_is_none}
use Rattle.topk_theory.specs.Transcript.{Begins}
use Rattle.topk_theory.specs.Bounds.{grade_among}
use Rattle.topk_theory.proofs.AgreementLists.{begins_with, begins_get}
use Rattle.topk_theory.proofs.AgreementRows.{grade_among_row}
use Rattle.machine_base.specs.Machine.{MachineState}
use Rattle.machine_base.specs.declared.core_fault.CoreFault.TheVariants.{Strangers, RoomFull}
use Rattle.source_state.specs.declared.entry.LogEntry.{LogEntry}
use Rattle.source_state.specs.declared.entry.Asked.{Asked}
use Rattle.source_state.specs.declared.entry.Asked.TheVariants as became
use Rattle.source_state.specs.declared.entry.Settling.{Settling}
use Rattle.source_state.specs.declared.entry.Settling.TheVariants.{Bad, Missed}
use Rattle.source_state.specs.declared.entry.SourceFault.{SourceFault}
use Rattle.source_api.specs.declared.source.FailKind.{FailKind}
use Rattle.source_api.specs.declared.source.FailKind.TheVariants as kind
use Rattle.source_state.specs.declared.look.Waiting.{Waiting}
use Rattle.source_state.specs.declared.look.Look.TheVariants as look
use Rattle.source_state.specs.declared.look.LookFault.{LookFault}
use Rattle.source_state.specs.declared.look.LookFault.TheVariants as why
use Rattle.source_state.specs.Log.{first_of, kept_row, rows_in, settled_as, settling_in, graded_row, graded_in, fault_set, faults_in, fault_in}
use Rattle.source_state.specs.State.{State, asked_in, asked_as}
use Rattle.source_state.specs.Looking.{row_or_fault, grade_or, decided, waits_for, newer, told, is_full, Refuses}
use Rattle.source_state.proofs.Lists.{none_not_some}
use Rattle.source_state.proofs.LogLaws.{settling_graded}
use Rattle.source_state.proofs.LookLaws.{held_there, row_there}
use Rattle.query_run.specs.declared.ended.Refusal.{Refusal}
use Rattle.query_run.specs.declared.ended.Refusal.TheVariants.{Core, Look as LookedFor}
use Rattle.query_run.specs.Histories.{GoesOn}
use Rattle.query_run.specs.Causes.{RowLacksRoom, IsAtFault, IsMissed, AreAsksFull, HasFailed, CanNotBeHad, IsCause}
use Rattle.query_run.proofs.Asking.{asked_settled, not_asked, as_graded, as_bad, as_missed}

-- what is told of a log is told of each that goes on as it
pub rows_begin : (log more : List LogEntry) → IsFrontOf log more → Begins (rows_in log) (rows_in more)
rows_begin log more b =
    let parts : rows_in more ≡ rows_in log ++ rows_in b.rest = ap rows_in b.goes_on ∙ filter_map-append kept_row log b.rest in
    subst (λ rows. Begins (rows_in log) rows) (sym parts) (begins_with (rows_in log) (rows_in b.rest))

pub known_more : (log more : List LogEntry) (row : Row) → IsFrontOf log more → Contains (rows_in log ++ graded_in log) row
    → Contains (rows_in more ++ graded_in more) row
known_more log more row b c =
    let rows : rows_in more ≡ rows_in log ++ rows_in b.rest = ap rows_in b.goes_on ∙ filter_map-append kept_row log b.rest in
    let grades : graded_in more ≡ graded_in log ++ graded_in b.rest = ap graded_in b.goes_on ∙ filter_map-append graded_row log b.rest in
    elim (Contains-append_cases (rows_in log) (graded_in log) row c) [
      | inl one ↦ Contains-append_left (rows_in more) (graded_in more) row (subst (λ xs. Contains xs row) (sym rows) (Contains-append_left (rows_in log) (rows_in b.rest) row one))
      | inr one ↦ Contains-append_right (rows_in more) (graded_in more) row (subst (λ xs. Contains xs row) (sym grades) (Contains-append_left (graded_in log) (graded_in b.rest) row one))
    ]

first_more : {X : Type 0} (xs ys : List X) (x : X) → first_of xs ≡ Some x → first_of (xs ++ ys) ≡ Some x
first_more [] ys x e = absurd (none_not_some e)
first_more (y ∷ xs) ys x e = e

pub settling_more : (log more : List LogEntry) (object : ℕ) (settling : Settling) → IsFrontOf log more → settling_in log object ≡ Some settling
    → settling_in more object ≡ Some settling
settling_more log more object settling b e =
    ap (λ l. settling_in l object) b.goes_on ∙ ap (first_of {X = Settling}) (filter_map-append (settled_as object) log b.rest)
    ∙ first_more (filter_map (settled_as object) log) (filter_map (settled_as object) b.rest) settling e

pub fault_more : (log more : List LogEntry) (fault : SourceFault) → IsFrontOf log more → fault_in log ≡ Some fault → fault_in more ≡ Some fault
fault_more log more fault b e =
    ap fault_in b.goes_on ∙ ap (first_of {X = SourceFault}) (filter_map-append fault_set log b.rest) ∙ first_more (faults_in log) (faults_in b.rest) fault e

-- a list that goes on and is no longer is the same
same_list : (xs ys : List ℕ) → IsFrontOf xs ys → length ys ≤ length xs → ys ≡ xs
same_list xs ys b few =
    let none : length b.rest ≡ 0 = let e : length ys ≡ length (xs ++ b.rest) = ap length b.goes_on in omega (arith, e, few, length-append xs b.rest) in
    b.goes_on ∙ ap (λ rest. xs ++ rest) (no_length b.rest none) ∙ no_more xs
  where
    no_length : (zs : List ℕ) → length zs ≡ 0 → zs ≡ []
    no_length [] e = refl
    no_length (z ∷ zs) e = absurd (omega arith)

    no_more : (zs : List ℕ) → zs ++ [] ≡ zs
    no_more [] = refl
    no_more (z ∷ zs) = ap (λ ws. z ∷ ws) (no_more zs)

-- a state that stands for a later one
pub record IsLater (s u : State) : Type 0 where
  pub goes : GoesOn s u
  pub fits : length u.asks ≤ u.count

failed_more : (what : FailKind) (noted now later : Tally) → AtMost now later → HasFailed what noted now → HasFailed what noted later
failed_more kind.Failed noted now later most h = let m = most.failed in omega arith
failed_more kind.Garbled noted now later most h = let m = most.garbled in omega arith
failed_more kind.Memory noted now later most h = let m = most.memory in omega arith

lacks_more : (s u : State) (t : MachineState) (n : Need) (object : ℕ) → IsLater s u → RowLacksRoom s t n object → RowLacksRoom u t n object
lacks_more s u t (need.Row list depth) object later h = (h.0, begins_get (rows_in s.log) (rows_in u.log) (depth - 1) h.0 (rows_begin s.log u.log later.goes.grows.log) h.1, h.2, h.3)
lacks_more s u t (need.Grade list named) object later h = absurd h
lacks_more s u t need.Done object later h = absurd h

fault_stays : (s u : State) (n : Need) (fault : SourceFault) → IsLater s u → IsAtFault s n fault → IsAtFault u n fault
fault_stays s u (need.Row list depth) fault later h = (
  ap (λ (rows : List Row). slice_get rows (depth - 1)) (later.goes.closed fault h.1) ∙ h.0,
  fault_more s.log u.log fault later.goes.grows.log h.1,
)
fault_stays s u (need.Grade list object) fault later h = settling_more s.log u.log object (Bad fault) later.goes.grows.log h
fault_stays s u need.Done fault later h = absurd h

missed_stays : (s u : State) (n : Need) (object : ℕ) → IsLater s u → IsMissed s n object → IsMissed u n object
missed_stays s u (need.Row list depth) object later h = absurd h
missed_stays s u (need.Grade list named) object later h = (h.0, settling_more s.log u.log object Missed later.goes.grows.log h.1)
missed_stays s u need.Done object later h = absurd h

full_stays : (s u : State) (n : Need) (kept : ℕ) → IsLater s u → AreAsksFull s n kept → AreAsksFull u n kept
full_stays s u (need.Row list depth) kept later h = absurd h
full_stays s u (need.Grade list object) kept later h =
    let count : u.count ≡ s.count = ap (λ p. p.1) later.goes.grows.name in
    let fits = later.fits in
    let full = h.full in
    let same : u.asks ≡ s.asks = same_list s.asks u.asks later.goes.grows.asks (omega (arith, fits, count, full)) in
    record {
      full = ap length same ∙ full ∙ sym count;
      all = h.all ∙ sym count;
      absent = λ c. h.absent (subst (λ asks. Contains asks object) same c);
    }
full_stays s u need.Done kept later h = absurd h

had_stays : (s u : State) (n : Need) (noted : Tally) (fault : LookFault) → IsLater s u → CanNotBeHad s n noted fault → CanNotBeHad u n noted fault
had_stays s u n noted (why.Source fault) later h = fault_stays s u n fault later h
had_stays s u n noted (why.Missing object) later h = missed_stays s u n object later h
had_stays s u n noted (why.AsksFull kept) later h = full_stays s u n kept later h
had_stays s u n noted (why.Call what) later h = failed_more what noted s.tally u.tally later.goes.grows.tally h

-- a cause stays one
pub cause_stays : (s u : State) (t : MachineState) (noted : Tally) (refused : Option Refusal) → IsLater s u → IsCause s t noted refused
    → IsCause u t noted refused
cause_stays s u t noted None later h = tt
cause_stays s u t noted (Some (Core (Strangers object count))) later h = (lacks_more s u t t.need object later h.0, h.1, h.2)
cause_stays s u t noted (Some (Core (RoomFull room))) later h = ((h.0.0, lacks_more s u t t.need h.0.0 later h.0.1), h.1, h.2)
cause_stays s u t noted (Some (LookedFor list fault)) later h = (h.0, had_stays s u t.need noted fault later h.1)

-- what a log decides of a need
of_held_row : (held : Option ℕ) (row : Row) → option_map look.Grade held ≡ Some (look.Row row) → ⊥
of_held_row None row e = none_not_some e
of_held_row (Some grade) row e = cc

of_grade_row : (object : ℕ) (asked : Option Asked) (held : Option ℕ) (row : Row) → grade_or object asked held ≡ Some (look.Row row) → ⊥
of_grade_row object (Some (became.Graded grade)) held row e = cc
of_grade_row object (Some (became.Bad fault)) held row e = cc
of_grade_row object (Some became.Missed) held row e = cc
of_grade_row object (Some became.Pending) held row e = of_held_row held row e
of_grade_row object None held row e = of_held_row held row e

-- a row that is answered is the needed one
pub record IsRowOf (s : State) (n : Need) (row : Row) : Type 0 where
  pub list : ℕ
  pub depth : ℕ
  pub is : n ≡ need.Row list depth
  pub there : slice_get (rows_in s.log) (depth - 1) ≡ Some row

pub row_decided : (s : State) (n : Need) (row : Row) → decided s n ≡ Some (look.Row row) → IsRowOf s n row
row_decided s (need.Row l d) row e = record { list = l; depth = d; is = refl; there = row_there (slice_get (rows_in s.log) (d - 1)) (fault_in s.log) row e }
row_decided s (need.Grade l object) row e = absurd (of_grade_row object (asked_in s object) (grade_among (rows_in s.log) object) row e)
row_decided s need.Done row e = absurd (none_not_some e)

-- a grade that is answered is a good settled one, or that of a kept row
of_row_grade : (found : Option Row) (fault : Option SourceFault) (grade : ℕ) → row_or_fault found fault ≡ Some (look.Grade grade) → ⊥
of_row_grade (Some row) fault grade e = cc
of_row_grade None None grade e = none_not_some e
of_row_grade None (Some fault) grade e = cc

known_grade : (s : State) (object grade : ℕ) (asked : Option Asked) (held : Option ℕ) → asked_in s object ≡ asked → grade_among (rows_in s.log) object ≡ held
    → grade_or object asked held ≡ Some (look.Grade grade)
    → Contains (rows_in s.log ++ graded_in s.log) (record { object = object; grade = grade })
known_grade s object grade (Some (became.Graded other)) held is at e =
    let same : other ≡ grade = cc in
    let settled = (asked_settled s object (became.Graded other) is).1 in
    let good = settling_graded s.log object other (as_graded (settling_in s.log object) other settled) in
    Contains-append_right (rows_in s.log) (graded_in s.log) (record { object = object; grade = grade }) (subst (λ g. Contains (graded_in s.log) (record { object = object; grade = g })) same good)
known_grade s object grade (Some (became.Bad fault)) held is at e = absurd (cc)
known_grade s object grade (Some became.Missed) held is at e = absurd (cc)
known_grade s object grade (Some became.Pending) held is at e = Contains-append_left (rows_in s.log) (graded_in s.log) (record { object = object; grade = grade }) (grade_among_row (rows_in s.log) object grade (at ∙ held_there held grade e))
known_grade s object grade None held is at e = Contains-append_left (rows_in s.log) (graded_in s.log) (record { object = object; grade = grade }) (grade_among_row (rows_in s.log) object grade (at ∙ held_there held grade e))

pub record IsGradeAt (s : State) (n : Need) (grade : ℕ) : Type 0 where
  pub list : ℕ
  pub object : ℕ
  pub is : n ≡ need.Grade list object
  pub known : Contains (rows_in s.log ++ graded_in s.log) (record { object = object; grade = grade })

pub grade_decided : (s : State) (n : Need) (grade : ℕ) → decided s n ≡ Some (look.Grade grade) → IsGradeAt s n grade
grade_decided s (need.Row l d) grade e = absurd (of_row_grade (slice_get (rows_in s.log) (d - 1)) (fault_in s.log) grade e)
grade_decided s (need.Grade l o) grade e = record { list = l; object = o; is = refl; known = known_grade s o grade (asked_in s o) (grade_among (rows_in s.log) o) refl refl e }
grade_decided s need.Done grade e = absurd (none_not_some e)

-- a fault that is answered
of_row_fault : (found : Option Row) (set : Option SourceFault) (fault : SourceFault) → row_or_fault found set ≡ Some (look.Fault (why.Source fault))
    → (found ≡ None) × (set ≡ Some fault)
of_row_fault (Some row) set fault e = absurd (cc)
of_row_fault None None fault e = absurd (none_not_some e)
of_row_fault None (Some other) fault e = let same : other ≡ fault = cc in (refl, ap (λ f. Some f) same)

of_held_fault : (held : Option ℕ) (fault : LookFault) → option_map look.Grade held ≡ Some (look.Fault fault) → ⊥
of_held_fault None fault e = none_not_some e
of_held_fault (Some grade) fault e = cc

of_bad : (s : State) (object : ℕ) (fault : SourceFault) (asked : Option Asked) (held : Option ℕ) → asked_in s object ≡ asked
    → grade_or object asked held ≡ Some (look.Fault (why.Source fault)) → settling_in s.log object ≡ Some (Bad fault)
of_bad s object fault (Some (became.Graded grade)) held is e = absurd (cc)
of_bad s object fault (Some (became.Bad other)) held is e =
    let same : other ≡ fault = cc in
    as_bad (settling_in s.log object) fault (subst (λ f. asked_as (settling_in s.log object) ≡ became.Bad f) same (asked_settled s object (became.Bad other) is).1)
of_bad s object fault (Some became.Missed) held is e = absurd (cc)
of_bad s object fault (Some became.Pending) held is e = absurd (of_held_fault held (why.Source fault) e)
of_bad s object fault None held is e = absurd (of_held_fault held (why.Source fault) e)

fault_decided : (s : State) (n : Need) (fault : SourceFault) → decided s n ≡ Some (look.Fault (why.Source fault)) → IsAtFault s n fault
fault_decided s (need.Row l d) fault e = of_row_fault (slice_get (rows_in s.log) (d - 1)) (fault_in s.log) fault e
fault_decided s (need.Grade l object) fault e = of_bad s object fault (asked_in s object) (grade_among (rows_in s.log) object) refl e
fault_decided s need.Done fault e = absurd (none_not_some e)

of_row_missing : (found : Option Row) (set : Option SourceFault) (object : ℕ) → row_or_fault found set ≡ Some (look.Fault (why.Missing object)) → ⊥
of_row_missing (Some row) set object e = cc
of_row_missing None None object e = none_not_some e
of_row_missing None (Some other) object e = cc

of_missing : (s : State) (named object : ℕ) (asked : Option Asked) (held : Option ℕ) → asked_in s named ≡ asked
    → grade_or named asked held ≡ Some (look.Fault (why.Missing object)) → (named ≡ object) × (settling_in s.log object ≡ Some Missed)
of_missing s named object (Some (became.Graded grade)) held is e = absurd (cc)
of_missing s named object (Some (became.Bad fault)) held is e = absurd (cc)
of_missing s named object (Some became.Missed) held is e =
    let same : named ≡ object = cc in
    (same, as_missed (settling_in s.log object) (subst (λ o. asked_as (settling_in s.log o) ≡ became.Missed) same (asked_settled s named became.Missed is).1))
of_missing s named object (Some became.Pending) held is e = absurd (of_held_fault held (why.Missing object) e)
of_missing s named object None held is e = absurd (of_held_fault held (why.Missing object) e)

missing_decided : (s : State) (n : Need) (object : ℕ) → decided s n ≡ Some (look.Fault (why.Missing object)) → IsMissed s n object
missing_decided s (need.Row l d) object e = absurd (of_row_missing (slice_get (rows_in s.log) (d - 1)) (fault_in s.log) object e)
missing_decided s (need.Grade l named) object e = of_missing s named object (asked_in s named) (grade_among (rows_in s.log) named) refl e
missing_decided s need.Done object e = absurd (none_not_some e)

-- which fails came
chosen : (b : Bool) (x y : FailKind) (rest : Option FailKind) → cond b (Some x) rest ≡ Some y → (x ≡ y → ⊥) → (b ≡ false) × (rest ≡ Some y)
chosen true x y rest e apart = absurd (apart (same_Some _ _ e))
chosen false x y rest e apart = (refl, e)

first_chosen : (b : Bool) (x y : FailKind) (rest : Option FailKind) → cond b (Some x) rest ≡ Some y → (rest ≡ Some y → ⊥) → b ≡ true
first_chosen true x y rest e none = refl
first_chosen false x y rest e none = absurd (none e)

last_kind : (b : Bool) (x y : FailKind) → cond b (Some x) None ≡ Some y → x ≡ y
last_kind true x y e = same_Some _ _ e
last_kind false x y e = absurd (none_not_some e)

two_kinds : (b c : Bool) (x y z : FailKind) → cond b (Some x) (cond c (Some y) None) ≡ Some z → (x ≡ z → ⊥) → y ≡ z
two_kinds b c x y z e apart = last_kind c y z (chosen b x z (cond c (Some y) None) e apart).1

newer_failed : (what : FailKind) (noted now : Tally) → newer noted now ≡ Some what → HasFailed what noted now
newer_failed kind.Failed noted now e =
    ltb-true noted.failed now.failed (first_chosen (nat_lt noted.failed now.failed) kind.Failed kind.Failed _ e
    (λ f. let bad : kind.Garbled ≡ kind.Failed = elim (cases_Bool (nat_lt noted.garbled now.garbled)) [
      | inl t ↦ same_Some _ _ (sym (ap (λ b. cond b (Some kind.Garbled) (cond (nat_lt noted.memory now.memory) (Some kind.Memory) None)) t) ∙ f)
      | inr n ↦ absurd (let worse : kind.Memory ≡ kind.Failed = last_kind (nat_lt noted.memory now.memory) kind.Memory kind.Failed (sym (ap (λ b. cond b (Some kind.Garbled) (cond (nat_lt noted.memory now.memory) (Some kind.Memory) None)) n) ∙ f) in cc)
    ] in cc))
newer_failed kind.Garbled noted now e =
    let rest = chosen (nat_lt noted.failed now.failed) kind.Failed kind.Garbled _ e (λ same. cc) in
    ltb-true noted.garbled now.garbled (first_chosen (nat_lt noted.garbled now.garbled) kind.Garbled kind.Garbled _ rest.1
    (λ f. let bad : kind.Memory ≡ kind.Garbled = last_kind (nat_lt noted.memory now.memory) kind.Memory kind.Garbled f in cc))
newer_failed kind.Memory noted now e =
    let rest = chosen (nat_lt noted.failed now.failed) kind.Failed kind.Memory _ e (λ same. cc) in
    let last = chosen (nat_lt noted.garbled now.garbled) kind.Garbled kind.Memory _ rest.1 (λ same. cc) in
    ltb-true noted.memory now.memory (first_chosen (nat_lt noted.memory now.memory) kind.Memory kind.Memory None last.1 (λ f. none_not_some f))

pub told_failed : (waiting : Waiting) (n : Need) (now : Tally) (what : FailKind) → told waiting n now ≡ Some what → HasFailed what waiting.noted now
told_failed waiting n now what e =
    elim (cases_Bool (waits_for waiting.need n)) [
      | inl t ↦ newer_failed what waiting.noted now (sym (ap (λ b. cond b (newer waiting.noted now) None) t) ∙ e)
      | inr f ↦ absurd (none_not_some (sym (ap (λ b. cond b (newer waiting.noted now) None) f) ∙ e))
    ]

-- no room for one more ask

full_looked : (s : State) (n : Need) (kept : ℕ) → is_full s n ≡ true → kept ≡ length s.asks → AreAsksFull s n kept
full_looked s (need.Row list depth) kept e all = absurd (cc)
full_looked s (need.Grade list object) kept e all =
    let parts = and_parts (is_none (asked_in s object)) (length s.asks == s.count) e in
    let full : length s.asks ≡ s.count = eqb-true (length s.asks) s.count parts.1 in
    record { full = full; all = all ∙ full; absent = λ c. not_asked s object (none_if_is_none (asked_in s object) parts.0) c }
full_looked s need.Done kept e all = absurd (cc)

-- the cause of a look's refusal
pub refusal_cause : (n : Need) (s t : State) (waiting left : Waiting) (fault : LookFault) → Refuses n s t waiting left fault
    → CanNotBeHad s n waiting.noted fault
refusal_cause n s t waiting left (why.Source fault) h = fault_decided s n fault h.decides
refusal_cause n s t waiting left (why.Missing object) h = missing_decided s n object h.decides
refusal_cause n s t waiting left (why.AsksFull kept) h = full_looked s n kept h.full h.all
refusal_cause n s t waiting left (why.Call what) h = told_failed waiting n s.tally what h.tells
