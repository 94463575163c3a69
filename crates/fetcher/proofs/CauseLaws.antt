-- What pages and settlings leave in a log comes of what the source gave.
use Rattle.std.proofs.Common.{◌≡◌, ◌≢◌, ◌≤◌, ◌<◌, ◌+◌, ◌==◌, ◌⊎◌, inl, inr, ℕ, Bool, true, false, cond, Option, Some, None, List, [], ◌∷◌, ◌++◌, length, map, drop, is_some, nat_lt, Contains, refl, sym, ap, subst, ◌∙◌, arith, append_assoc, append-nil}
use Rattle.std.specs.List.{find, cons_option}
use Rattle.std.specs.Option.{option_map}
use Rattle.std.proofs.lemmas.Bool.{cases_Bool, ltb-true, ltb-false, eqb-false}
use Rattle.std.proofs.lemmas.Bool.Decides.{eqb_tells}
use Rattle.std.proofs.lemmas.List.{length-append}
use Rattle.std.proofs.lemmas.List.Elements.{Contains-append_left}
use Rattle.ranked_list.specs.declared.row.Row.{Row}
use Rattle.ranked_list.specs.Table.{objects, top_grade}
use Rattle.ranked_list.proofs.OptionLaws.{option_cases}
use Rattle.topk_theory.specs.Transcript.{Begins, last_grade}
use Rattle.topk_theory.specs.Bounds.{grade_among}
use Rattle.topk_theory.proofs.AgreementLists.{begins_with, begins_splits, begins_front, begins_trans}
use Rattle.topk_theory.proofs.AgreementRows.{grade_among_row, grade_among_none, object_of_row}
use Rattle.source_state.specs.declared.ask.Ask.{Ask}
use Rattle.source_state.specs.declared.entry.LogEntry.{LogEntry}
use Rattle.source_state.specs.declared.entry.LogEntry.TheVariants.{Kept, Settled, Fault}
use Rattle.source_state.specs.declared.entry.Settling.{Settling}
use Rattle.source_state.specs.declared.entry.Settling.TheVariants.{Graded, Bad, Missed}
use Rattle.source_state.specs.declared.entry.SourceFault.{SourceFault}
use Rattle.source_state.specs.declared.entry.SourceFault.TheVariants.{OutOfOrder, TooHigh, Repeated, Clash, Above, ShortList, Moved}
use Rattle.source_state.specs.Log.{first_of, rows_in, settling_in, fault_in}
use Rattle.source_state.specs.Asks.{ask_in, ask_of, good_grade, open_row, open_rows, first_above}
use Rattle.source_state.specs.State.{State, asks_of, clash_or, above_fault, grade_asked, row_fault, settle_by, settle}
use Rattle.source_state.specs.Events.{logged, row_or, with_rows, paged, MayPage}
use Rattle.source_state.proofs.Lists.{none_not_some}
use Rattle.source_state.proofs.AskLaws.{ask_found, good_settled}
use Rattle.source_state.proofs.LogLaws.{kept_rows, kept_settling, kept_faults, settled_rows, settled_faults, settled_other, settled_same, fault_rows, fault_settling, fault_first}
use Rattle.fetcher.specs.Causes.{Rises, IsTooHigh, Repeats, IsFaultOfRow, HasFaultyRow, IsFaultOf, IsFaultOfGrade, ComesOf}

pub some_same : {A : Type 0} {x y : A} → Some x ≡ Some y → x ≡ y
some_same e = cc

-- a list begins with itself
pub begins_itself : (rows : List Row) → Begins rows rows
begins_itself rows = subst (Begins rows) (append-nil rows) (begins_with rows [])

-- the rows that a page leaves are how the rows with it begin
row_front : (o : Option SourceFault) (s : State) (row : Row) (rows : List Row) → ((t : State) → Begins (rows_in (with_rows t rows).log) (rows_in t.log ++ rows))
    → Begins (rows_in (row_or o s row (λ t. with_rows t rows)).log) (rows_in s.log ++ row ∷ rows)
row_front None s row rows ih =
    let along : rows_in (logged s (Kept row)).log ++ rows ≡ rows_in s.log ++ row ∷ rows = ap (λ xs. xs ++ rows) (kept_rows s.log row) ∙ append_assoc (rows_in s.log) (row ∷ []) rows in
    subst (λ whole. Begins (rows_in (with_rows (logged s (Kept row)) rows).log) whole) along (ih (logged s (Kept row)))
row_front (Some fault) s row rows ih = subst (λ front. Begins front (rows_in s.log ++ row ∷ rows)) (sym (fault_rows s.log fault)) (begins_with (rows_in s.log) (row ∷ rows))

rows_front : (s : State) (rows : List Row) → Begins (rows_in (with_rows s rows).log) (rows_in s.log ++ rows)
rows_front s [] = begins_with (rows_in s.log) []
rows_front s (row ∷ rows) = row_front (row_fault (rows_in s.log) (asks_of s) row) s row rows (λ t. rows_front t rows)

pub page_front : (s : State) (rows : List Row) → Begins (rows_in (paged s rows).log) (rows_in s.log ++ rows)
page_front s [] = subst (λ front. Begins front (rows_in s.log ++ [])) (sym (fault_rows s.log (ShortList s.count (length (rows_in s.log))))) (begins_with (rows_in s.log) [])
page_front s (row ∷ rows) = rows_front s (row ∷ rows)

pub page_most : (s : State) (rows : List Row) → length (rows_in (paged s rows).log) ≤ length (rows_in s.log) + length rows
page_most s rows = front_most (rows_in (paged s rows).log) (rows_in s.log) rows (page_front s rows)
  where
    front_most : (front before more : List Row) → Begins front (before ++ more) → length front ≤ length before + length more
    front_most front before more begins =
        let rest : List Row = drop (length front) (before ++ more) in
        let split : length (before ++ more) ≡ length (front ++ rest) = ap (length {A = Row}) (begins_splits front (before ++ more) begins) in
        omega (arith, split, length-append before more, length-append front rest)

-- the rows before a page are how those after it begin
row_grows : (o : Option SourceFault) (s : State) (row : Row) (next : State → State) → ((t : State) → Begins (rows_in t.log) (rows_in (next t).log))
    → Begins (rows_in s.log) (rows_in (row_or o s row next).log)
row_grows None s row next ih =
    begins_front (rows_in s.log) (row ∷ []) (rows_in (next (logged s (Kept row))).log)
    (subst (λ front. Begins front (rows_in (next (logged s (Kept row))).log)) (kept_rows s.log row) (ih (logged s (Kept row))))
row_grows (Some fault) s row next ih = subst (Begins (rows_in s.log)) (sym (fault_rows s.log fault)) (begins_itself (rows_in s.log))

rows_grow : (s : State) (rows : List Row) → Begins (rows_in s.log) (rows_in (with_rows s rows).log)
rows_grow s [] = begins_itself (rows_in s.log)
rows_grow s (row ∷ rows) = row_grows (row_fault (rows_in s.log) (asks_of s) row) s row (λ t. with_rows t rows) (λ t. rows_grow t rows)

pub page_grows : (s : State) (rows : List Row) → Begins (rows_in s.log) (rows_in (paged s rows).log)
page_grows s [] = subst (Begins (rows_in s.log)) (sym (fault_rows s.log (ShortList s.count (length (rows_in s.log))))) (begins_itself (rows_in s.log))
page_grows s (row ∷ rows) = rows_grow s (row ∷ rows)

-- a page settles nothing
row_settling : (o : Option SourceFault) (s : State) (row : Row) (next : State → State) (object : ℕ)
    → ((t : State) → settling_in (next t).log object ≡ settling_in t.log object)
    → settling_in (row_or o s row next).log object ≡ settling_in s.log object
row_settling None s row next object h = h (logged s (Kept row)) ∙ kept_settling s.log row object
row_settling (Some fault) s row next object h = fault_settling s.log fault object

rows_settling : (s : State) (rows : List Row) (object : ℕ) → settling_in (with_rows s rows).log object ≡ settling_in s.log object
rows_settling s [] object = refl
rows_settling s (row ∷ rows) object = row_settling (row_fault (rows_in s.log) (asks_of s) row) s row (λ t. with_rows t rows) object (λ t. rows_settling t rows object)

pub page_settling : (s : State) (rows : List Row) (object : ℕ) → settling_in (paged s rows).log object ≡ settling_in s.log object
page_settling s [] object = fault_settling s.log (ShortList s.count (length (rows_in s.log))) object
page_settling s (row ∷ rows) object = rows_settling s (row ∷ rows) object

-- a choice that gives something gives it by one of its arms
choice : {A : Type 0} (b : Bool) (x f : A) (rest : Option A) → cond b (Some x) rest ≡ Some f → ((b ≡ true) × (x ≡ f)) ⊎ ((b ≡ false) × (rest ≡ Some f))
choice true x f rest e = inl (refl, some_same e)
choice false x f rest e = inr (refl, e)

-- a good grade above a row, of an object that the rows don't hold
record IsOpenAbove (log : List LogEntry) (bottom : ℕ) (graded : Row) : Type 0 where
  settled : settling_in log graded.object ≡ Some (Graded graded.grade)
  absent : ¬ Contains (objects (rows_in log)) graded.object
  above : bottom < graded.grade

record IsOpenBy (held : Option ℕ) (settled : Option Settling) (object : ℕ) (graded : Row) : Type 0 where
  free : held ≡ None
  good : settled ≡ Some (Graded graded.grade)
  of : graded.object ≡ object

open_by : (held : Option ℕ) (settled : Option Settling) (object : ℕ) (graded : Row)
    → option_map (λ grade. let row : Row = record { object = object; grade = grade } in row) (cond (is_some held) None (good_grade settled)) ≡ Some graded
    → IsOpenBy held settled object graded
open_by (Some grade) settled object graded e = absurd (none_not_some e)
open_by None None object graded e = absurd (none_not_some e)
open_by None (Some (Graded grade)) object graded e =
    let is : record { object = object; grade = grade } ≡ graded = some_same e in
    record { free = refl; good = ap (λ (z : Row). Some (Graded z.grade)) is; of = ap (λ (z : Row). z.object) (sym is) }
open_by None (Some (Bad fault)) object graded e = absurd (none_not_some e)
open_by None (Some Missed) object graded e = absurd (none_not_some e)

above_here : (log : List LogEntry) (object bottom : ℕ) (graded : Row) → open_row (ask_in log object) ≡ Some graded → bottom < graded.grade
    → IsOpenAbove log bottom graded
above_here log object bottom graded e above =
    let by = open_by (grade_among (rows_in log) object) (settling_in log object) object graded e in
    record {
      settled = subst (λ o. settling_in log o ≡ Some (Graded graded.grade)) (sym by.of) by.good;
      absent = subst (λ o. ¬ Contains (objects (rows_in log)) o) (sym by.of) (grade_among_none (rows_in log) object by.free);
      above = above;
    }

above_cons : (log : List LogEntry) (object bottom : ℕ) (rest : List Row) (graded : Row) (first : Option Row) → open_row (ask_in log object) ≡ first
    → (find (λ row. nat_lt bottom row.grade) rest ≡ Some graded → IsOpenAbove log bottom graded)
    → find (λ row. nat_lt bottom row.grade) (cons_option first rest) ≡ Some graded → IsOpenAbove log bottom graded
above_cons log object bottom rest graded None is ih e = ih e
above_cons log object bottom rest graded (Some first) is ih e =
    elim (choice (nat_lt bottom first.grade) first graded (find (λ row. nat_lt bottom row.grade) rest) e) [
      | inl here ↦ subst (IsOpenAbove log bottom) here.1 (above_here log object bottom first is (ltb-true bottom first.grade here.0))
      | inr later ↦ ih later.1
    ]

above_is : (log : List LogEntry) (asked : List ℕ) (bottom : ℕ) (graded : Row) → first_above bottom (map (ask_in log) asked) ≡ Some graded
    → IsOpenAbove log bottom graded
above_is log [] bottom graded e = absurd (none_not_some e)
above_is log (object ∷ asked) bottom graded e =
    above_cons log object bottom (open_rows (map (ask_in log) asked)) graded (open_row (ask_in log object)) refl (above_is log asked bottom graded) e

-- the good grade of an ask is what its object settled as
asked_is : (log : List LogEntry) (asked : List ℕ) (object grade : ℕ) → grade_asked (ask_of (map (ask_in log) asked) object) ≡ Some grade
    → settling_in log object ≡ Some (Graded grade)
asked_is log asked object grade e =
    elim (option_cases (ask_of (map (ask_in log) asked) object)) [
      | inl none ↦ absurd (none_not_some (ap grade_asked (sym none) ∙ e))
      | inr some ↦
          let found : some.0 ≡ ask_in log object = (ask_found log asked object some.0 some.1).1 in
          good_settled (settling_in log object) grade (ap (λ (ask : Ask). good_grade ask.settling) (sym found) ∙ (ap grade_asked (sym some.1) ∙ e))
    ]

-- a clash, or what follows
clash_is : (random : Option ℕ) (row : Row) (rest : Option SourceFault) (fault : SourceFault) → clash_or random row rest ≡ Some fault
    → ((other : ℕ) × (random ≡ Some other) × (row.grade ≢ other) × (Clash row.object row.grade other ≡ fault)) ⊎ (rest ≡ Some fault)
clash_is None row rest fault e = inr e
clash_is (Some other) row rest fault e =
    elim (cases_Bool (other == row.grade)) [
      | inl same ↦ inr (sym (ap (λ b. cond b rest (Some (Clash row.object row.grade other))) same) ∙ e)
      | inr apart ↦ inl (other, refl, (λ is. eqb-false other row.grade apart (sym is)), some_same (sym (ap (λ b. cond b rest (Some (Clash row.object row.grade other))) apart) ∙ e))
    ]

above_fault_is : (log : List LogEntry) (row : Row) (found : Option Row) (fault : SourceFault)
    → ((graded : Row) → found ≡ Some graded → IsOpenAbove log row.grade graded)
    → option_map (above_fault row.grade) found ≡ Some fault → IsFaultOfRow log row fault
above_fault_is log row None fault is e = absurd (none_not_some e)
above_fault_is log row (Some graded) fault is e =
    let by = is graded refl in
    let same : Above graded.object graded.grade row.grade ≡ fault = some_same e in
    subst (IsFaultOfRow log row) same (record { is = refl; graded = by.settled; absent = by.absent; under = by.above })

holds_object : (rows : List Row) (object : ℕ) → is_some (grade_among rows object) ≡ true → Contains (objects rows) object
holds_object rows object e =
    elim (option_cases (grade_among rows object)) [
      | inl none ↦ absurd (let bad : false ≡ true = ap is_some (sym none) ∙ e in cc)
      | inr some ↦ object_of_row rows _ (grade_among_row rows object some.0 some.1)
    ]

-- what is at fault with a row has its cause
pub row_fault_is : (log : List LogEntry) (asked : List ℕ) (row : Row) (fault : SourceFault) → row_fault (rows_in log) (map (ask_in log) asked) row ≡ Some fault
    → IsFaultOfRow log row fault
row_fault_is log asked row fault e =
    let rows = rows_in log in
    let last = last_grade top_grade rows in
    elim (choice (nat_lt top_grade row.grade) (TooHigh (length rows + 1) row.grade) fault _ e) [
      | inl high ↦ subst (IsFaultOfRow log row) high.1 (record { at = refl; is = refl; high = ltb-true top_grade row.grade high.0 })
      | inr low ↦ elim (choice (nat_lt last row.grade) (OutOfOrder (length rows + 1) last row.grade) fault _ low.1) [
        | inl rise ↦ subst (IsFaultOfRow log row) rise.1
            (record { at = refl; last = refl; is = refl; rise = ltb-true last row.grade rise.0; capped = ltb-false top_grade row.grade low.0 })
        | inr falls ↦ elim (choice (is_some (grade_among rows row.object)) (Repeated row.object (length rows + 1)) fault _ falls.1) [
          | inl twice ↦ subst (IsFaultOfRow log row) twice.1 (record { at = refl; is = refl; before = holds_object rows row.object twice.0 })
          | inr new ↦ elim (clash_is (grade_asked (ask_of (map (ask_in log) asked) row.object)) row _ fault new.1) [
            | inl clash ↦ subst (IsFaultOfRow log row) clash.3 (record { is = refl; graded = asked_is log asked row.object clash.0 clash.1; apart = clash.2 })
            | inr other ↦ above_fault_is log row (first_above row.grade (map (ask_in log) asked)) fault (λ graded found. above_is log asked row.grade graded found) other
          ]
        ]
      ]
    ]

-- a cause stays while the rows stay and what is settled stays settled
abbrev pub KeepsSettled : List LogEntry → List LogEntry → Type 0
KeepsSettled log more = (object : ℕ) (settling : Settling) → settling_in log object ≡ Some settling → settling_in more object ≡ Some settling

row_fault_on : (log more : List LogEntry) (row : Row) (fault : SourceFault) → rows_in more ≡ rows_in log → KeepsSettled log more
    → IsFaultOfRow log row fault → IsFaultOfRow more row fault
row_fault_on log more row (OutOfOrder place above below) same keeps h = subst (λ rows. Rises rows row place above below) (sym same) h
row_fault_on log more row (TooHigh place grade) same keeps h = subst (λ rows. IsTooHigh rows row place grade) (sym same) h
row_fault_on log more row (Repeated object place) same keeps h = subst (λ rows. Repeats rows row object place) (sym same) h
row_fault_on log more row (Clash object sorted random) same keeps h = record { is = h.is; graded = keeps object (Graded random) h.graded; apart = h.apart }
row_fault_on log more row (Above object grade bottom) same keeps h = record {
  is = h.is;
  graded = keeps object (Graded grade) h.graded;
  absent = subst (λ rows. ¬ Contains (objects rows) object) (sym same) h.absent;
  under = h.under;
}
row_fault_on log more row (ShortList stated got) same keeps h = absurd h
row_fault_on log more row (Moved had now) same keeps h = absurd h

faulty_on : (given : List Row) (log more : List LogEntry) (fault : SourceFault) → rows_in more ≡ rows_in log → KeepsSettled log more
    → HasFaultyRow given log fault → HasFaultyRow given more fault
faulty_on given log more fault same keeps h = record {
  row = h.row;
  next = subst (λ rows. Begins (rows ++ h.row ∷ []) given) (sym same) h.next;
  faulty = row_fault_on log more h.row fault same keeps h.faulty;
}

pub fault_on : (count : ℕ) (given : List Row) (log more : List LogEntry) (fault : SourceFault) → rows_in more ≡ rows_in log → KeepsSettled log more
    → IsFaultOf count given log fault → IsFaultOf count given more fault
fault_on count given log more fault same keeps (inl short) = inl (record { is = short.is; all = same ∙ short.all; less = short.less })
fault_on count given log more fault same keeps (inr (inl faulty)) = inr (inl (faulty_on given log more fault same keeps faulty))
fault_on count given log more fault same keeps (inr (inr replaced)) = inr (inr (record {
  had = replaced.had;
  now = replaced.now;
  is = replaced.is;
  differ = replaced.differ;
  less = subst (λ (rows : List Row). length rows < count) (sym same) replaced.less;
}))

-- a row that is at fault among these rows is so among those that begin with them
pub faulty_more : (given whole : List Row) (log : List LogEntry) (fault : SourceFault) → Begins given whole → HasFaultyRow given log fault
    → HasFaultyRow whole log fault
faulty_more given whole log fault begins h = record { row = h.row; next = begins_trans (rows_in log ++ h.row ∷ []) given whole h.next begins; faulty = h.faulty }

-- the rows of a page are all kept, or one of them is at fault
abbrev pub Took : List Row → List LogEntry → Type 0
Took whole log = ((fault_in log ≡ None) × (rows_in log ≡ whole)) ⊎ ((fault : SourceFault) × (fault_in log ≡ Some fault) × HasFaultyRow whole log fault)

row_took : (o : Option SourceFault) (s : State) (row : Row) (rows : List Row) → row_fault (rows_in s.log) (asks_of s) row ≡ o → fault_in s.log ≡ None
    → ((t : State) → fault_in t.log ≡ None → Took (rows_in t.log ++ rows) (with_rows t rows).log)
    → Took (rows_in s.log ++ row ∷ rows) (row_or o s row (λ t. with_rows t rows)).log
row_took None s row rows is none ih =
    let along : rows_in (logged s (Kept row)).log ++ rows ≡ rows_in s.log ++ row ∷ rows = ap (λ xs. xs ++ rows) (kept_rows s.log row) ∙ append_assoc (rows_in s.log) (row ∷ []) rows in
    subst (λ whole. Took whole (with_rows (logged s (Kept row)) rows).log) along
    (ih (logged s (Kept row)) (ap (first_of {X = SourceFault}) (kept_faults s.log row) ∙ none))
row_took (Some fault) s row rows is none ih =
    let next : Begins (rows_in s.log ++ row ∷ []) (rows_in s.log ++ row ∷ rows) =
    subst (Begins (rows_in s.log ++ row ∷ [])) (append_assoc (rows_in s.log) (row ∷ []) rows) (begins_with (rows_in s.log ++ row ∷ []) rows) in
    let cause : HasFaultyRow (rows_in s.log ++ row ∷ rows) s.log fault = record { row = row; next = next; faulty = row_fault_is s.log s.asks row fault is } in
    inr (
      fault,
      fault_first s.log fault none,
      faulty_on _ s.log (logged s (Fault fault)).log fault (fault_rows s.log fault)
          (λ object settling e. fault_settling s.log fault object ∙ e) cause,
    )

pub rows_took : (s : State) (rows : List Row) → fault_in s.log ≡ None → Took (rows_in s.log ++ rows) (with_rows s rows).log
rows_took s [] none = inl (none, sym (append-nil (rows_in s.log)))
rows_took s (row ∷ rows) none = row_took (row_fault (rows_in s.log) (asks_of s) row) s row rows refl none (λ t free. rows_took t rows free)

-- what is at fault with a grade has its cause
pub settle_bad : (rows : List Row) (object grade : ℕ) (fault : SourceFault) → settle rows object grade ≡ Bad fault → IsFaultOfGrade rows object fault
settle_bad rows object grade fault e =
    elim (option_cases (grade_among rows object)) [
      | inl none ↦ above (nat_lt (last_grade top_grade rows) grade) refl (grade_among_none rows object none)
          (sym (ap (λ held. settle_by held (last_grade top_grade rows) object grade) none) ∙ e)
      | inr some ↦ clash some.0 (some.0 == grade) refl (grade_among_row rows object some.0 some.1)
          (sym (ap (λ held. settle_by held (last_grade top_grade rows) object grade) some.1) ∙ e)
    ]
  where
    above : (b : Bool) → nat_lt (last_grade top_grade rows) grade ≡ b → (¬ Contains (objects rows) object)
        → cond b (Bad (Above object grade (last_grade top_grade rows))) (Graded grade) ≡ Bad fault → IsFaultOfGrade rows object fault
    above true lt absent e =
        let is : Above object grade (last_grade top_grade rows) ≡ fault = cc in
        subst (IsFaultOfGrade rows object) is
        (refl, record { front = rows; begins = begins_itself rows; absent = absent; last = refl; above = ltb-true (last_grade top_grade rows) grade lt })
    above false lt absent e = absurd (let bad : Graded grade ≡ Bad fault = e in cc)

    clash : (sorted : ℕ) (b : Bool) → (sorted == grade) ≡ b → Contains rows (record { object = object; grade = sorted })
        → cond b (Graded grade) (Bad (Clash object sorted grade)) ≡ Bad fault → IsFaultOfGrade rows object fault
    clash sorted true same there e = absurd (let bad : Graded grade ≡ Bad fault = e in cc)
    clash sorted false same there e =
        let is : Clash object sorted grade ≡ fault = cc in
        subst (IsFaultOfGrade rows object) is (refl, there, (λ even. eqb-false sorted grade same even))

bad_on : (rows more : List Row) (object : ℕ) (fault : SourceFault) → Begins rows more → IsFaultOfGrade rows object fault → IsFaultOfGrade more object fault
bad_on rows more object (Clash other sorted random) begins h =
    (h.0, subst (λ xs. Contains xs (record { object = object; grade = sorted })) (sym (begins_splits rows more begins)) (Contains-append_left rows _ _ h.1), h.2)
bad_on rows more object (Above other grade bottom) begins h =
    (h.0, record { front = h.1.front; begins = begins_trans h.1.front rows more h.1.begins begins; absent = h.1.absent; last = h.1.last; above = h.1.above })
bad_on rows more object (OutOfOrder place above below) begins h = absurd h
bad_on rows more object (TooHigh place grade) begins h = absurd h
bad_on rows more object (Repeated other place) begins h = absurd h
bad_on rows more object (ShortList stated got) begins h = absurd h
bad_on rows more object (Moved had now) begins h = h

-- the bad grades after a page
page_bad : (s : State) (given : List Row) → ((object : ℕ) (fault : SourceFault) → settling_in s.log object ≡ Some (Bad fault)
    → IsFaultOfGrade (rows_in s.log) object fault)
    → (object : ℕ) (fault : SourceFault) → settling_in (paged s given).log object ≡ Some (Bad fault) → IsFaultOfGrade (rows_in (paged s given).log) object fault
page_bad s given h object fault e = bad_on (rows_in s.log) (rows_in (paged s given).log) object fault (page_grows s given) (h object fault (sym (page_settling s given object) ∙ e))

-- a page that has no rows
pub short_is : (s : State) (fault : SourceFault) → MayPage s [] → fault_in (paged s []).log ≡ Some fault → fault ≡ ShortList s.count (length (rows_in s.log))
short_is s fault may e = some_same (sym e ∙ fault_first s.log (ShortList s.count (length (rows_in s.log))) may.no_fault)

-- a page never tells that the list was replaced
pub page_no_move : (s : State) (given : List Row) → MayPage s given → (had now : ℕ) → fault_in (paged s given).log ≡ Some (Moved had now) → ⊥
page_no_move s [] may had now e = let bad : Moved had now ≡ ShortList s.count (length (rows_in s.log)) = short_is s (Moved had now) may e in absurd (cc)
page_no_move s (row ∷ rows) may had now e =
    elim (rows_took s (row ∷ rows) may.no_fault) [
      | inl whole ↦ none_not_some (sym whole.0 ∙ e)
      | inr broken ↦ (subst (HasFaultyRow (rows_in s.log ++ row ∷ rows) (with_rows s (row ∷ rows)).log) (some_same (sym broken.1 ∙ e)) broken.2).faulty
    ]

-- one more page
page_from : (given : List Row) (s : State) → MayPage s given
    → ((object : ℕ) (fault : SourceFault) → settling_in s.log object ≡ Some (Bad fault) → IsFaultOfGrade (rows_in s.log) object fault)
    → ComesOf s.count (rows_in s.log ++ given) (paged s given).log
page_from [] s may bad =
    let fault = ShortList s.count (length (rows_in s.log)) in
    let same : rows_in s.log ++ [] ≡ rows_in s.log = append-nil (rows_in s.log) in
    record {
      rows = page_front s [];
      all = λ none. absurd (none_not_some (sym none ∙ fault_first s.log fault may.no_fault));
      moved = λ had now e. absurd (page_no_move s [] may had now e);
      fault = λ other e. inl (record {
        is = short_is s other may e ∙ ap (λ (rows : List Row). ShortList s.count (length rows)) (sym same);
        all = fault_rows s.log fault ∙ sym same;
        less = subst (λ (rows : List Row). length rows < s.count) (sym same) may.room;
      });
      bad = page_bad s [] bad;
    }
page_from (row ∷ rows) s may bad = record {
  rows = page_front s (row ∷ rows);
  all = λ none. elim (rows_took s (row ∷ rows) may.no_fault) [
    | inl whole ↦ whole.1
    | inr broken ↦ absurd (none_not_some (sym none ∙ broken.1))
  ];
  moved = λ had now e. absurd (page_no_move s (row ∷ rows) may had now e);
  fault = λ other e. elim (rows_took s (row ∷ rows) may.no_fault) [
    | inl whole ↦ absurd (none_not_some (sym whole.0 ∙ e))
    | inr broken ↦ inr (inl (subst (HasFaultyRow (rows_in s.log ++ row ∷ rows) (with_rows s (row ∷ rows)).log) (some_same (sym broken.1 ∙ e)) broken.2))
  ];
  bad = page_bad s (row ∷ rows) bad;
}

pub page_comes : (count : ℕ) (before given : List Row) (s : State) → s.count ≡ count → MayPage s given → ComesOf count before s.log
    → ComesOf count (before ++ given) (paged s given).log
page_comes count before given s is may h =
    subst (λ n. ComesOf n (before ++ given) (paged s given).log) is
    (subst (λ front. ComesOf s.count (front ++ given) (paged s given).log) (h.all may.no_fault) (page_from given s may h.bad))

-- one more settling of what isn't settled yet
pub settled_keeps : (log : List LogEntry) (object : ℕ) (settling : Settling) → settling_in log object ≡ None → KeepsSettled log (log ++ Settled object settling ∷ [])
settled_keeps log object settling pending other one e =
    elim (eqb_tells object other) [
      | inl same ↦ absurd (none_not_some (sym pending ∙ (ap (settling_in log) same.1 ∙ e)))
      | inr apart ↦ settled_other log object settling other apart.1 ∙ e
    ]

pub settled_comes : (count : ℕ) (given : List Row) (log : List LogEntry) (object : ℕ) (settling : Settling) → settling_in log object ≡ None
    → ((fault : SourceFault) → settling ≡ Bad fault → IsFaultOfGrade (rows_in log) object fault)
    → ComesOf count given log → ComesOf count given (log ++ Settled object settling ∷ [])
settled_comes count given log object settling pending well h =
    let rows : rows_in (log ++ Settled object settling ∷ []) ≡ rows_in log = settled_rows log object settling in
    let none : fault_in (log ++ Settled object settling ∷ []) ≡ fault_in log = ap (first_of {X = SourceFault}) (settled_faults log object settling) in
    record {
      rows = subst (λ front. Begins front given) (sym rows) h.rows;
      all = λ free. rows ∙ h.all (sym none ∙ free);
      moved = λ had now e. rows ∙ h.moved had now (sym none ∙ e);
      fault = λ fault e. fault_on count given log (log ++ Settled object settling ∷ []) fault rows (settled_keeps log object settling pending) (h.fault fault (sym none ∙ e));
      bad = λ other fault e. subst (λ front. IsFaultOfGrade front other fault) (sym rows) (elim (eqb_tells object other) [
        | inl same ↦
            let now : settling_in (log ++ Settled object settling ∷ []) other ≡ Some settling =
            subst (λ o. settling_in (log ++ Settled object settling ∷ []) o ≡ Some settling) same.1 (settled_same log object settling pending) in
            subst (λ o. IsFaultOfGrade (rows_in log) o fault) same.1 (well fault (some_same (sym now ∙ e)))
        | inr apart ↦ h.bad other fault (sym (settled_other log object settling other apart.1) ∙ e)
      ]);
    }

-- the list was replaced
pub moved_comes : (count : ℕ) (given : List Row) (log : List LogEntry) (had now : ℕ) → fault_in log ≡ None → had ≢ now → length (rows_in log) < count
    → ComesOf count given log → ComesOf count given (log ++ Fault (Moved had now) ∷ [])
moved_comes count given log had now none differ less h =
    let rows : rows_in (log ++ Fault (Moved had now) ∷ []) ≡ rows_in log = fault_rows log (Moved had now) in
    let set : fault_in (log ++ Fault (Moved had now) ∷ []) ≡ Some (Moved had now) = fault_first log (Moved had now) none in
    record {
      rows = subst (λ front. Begins front given) (sym rows) h.rows;
      all = λ free. rows ∙ h.all none;
      moved = λ other next e. rows ∙ h.all none;
      fault = λ fault e. inr (inr (record { had = had; now = now; is = some_same (sym e ∙ set); differ = differ; less = subst (λ (front : List Row). length front < count) (sym rows) less }));
      bad = λ object fault e. subst (λ front. IsFaultOfGrade front object fault) (sym rows) (h.bad object fault (sym (fault_settling log (Moved had now) object) ∙ e));
    }

-- an empty log comes of no rows
pub comes_none : (count : ℕ) → ComesOf count [] []
comes_none count = record { rows = refl; all = λ free. refl; moved = λ had now e. absurd (none_not_some e); fault = λ fault e. absurd (none_not_some e); bad = λ object fault e. absurd (none_not_some e) }
