-- The turns of a fetcher of a source that tells its list.
use Rattle.std.proofs.Common.{◌≡◌, ◌≢◌, ◌≤◌, ◌<◌, ◌==◌, inl, inr, ℕ, suc, Bool, true, false, cond, Option, Some, None, List, [], ◌∷◌, ◌++◌, length, take, drop, nat_lt, Contains, refl, sym, ap, subst, ◌∙◌, arith, append_assoc, append-nil}
use Rattle.std.proofs.lemmas.Bool.{cases_Bool, ltb-true, ltb-false}
use Rattle.std.proofs.lemmas.Bool.Decides.{eqb_tells}
use Rattle.std.proofs.lemmas.List.{take-append-drop, drop_all}
use Rattle.std.proofs.lemmas.List.Elements.{Contains-append_left, Contains-append_right}
use Rattle.ranked_list.specs.declared.row.Row.{Row}
use Rattle.ranked_list.specs.Table.{objects, top_grade}
use Rattle.topk_theory.specs.Transcript.{Begins, last_grade}
use Rattle.topk_theory.specs.Bounds.{grade_among}
use Rattle.topk_theory.proofs.AgreementLists.{contains_nil, contains_here, contains_cases, begins_with, begins_splits, begins_trans}
use Rattle.turn_lock.specs.declared.known.Known.{Known}
use Rattle.source_state.specs.declared.entry.LogEntry.{LogEntry}
use Rattle.source_state.specs.declared.entry.LogEntry.TheVariants.{Settled, Fault}
use Rattle.source_state.specs.declared.entry.Settling.{Settling}
use Rattle.source_state.specs.declared.entry.Settling.TheVariants.{Graded, Bad, Missed}
use Rattle.source_state.specs.declared.entry.SourceFault.{SourceFault}
use Rattle.source_state.specs.declared.entry.SourceFault.TheVariants.{OutOfOrder, TooHigh, Repeated, Clash, Above, ShortList, Moved}
use Rattle.source_state.specs.declared.event.Event.{Event}
use Rattle.source_state.specs.declared.event.Event.TheVariants as event
use Rattle.source_state.specs.Log.{first_of, rows_in, settling_in, fault_in}
use Rattle.source_state.specs.State.{State, settle_by, settle}
use Rattle.source_state.specs.Events as events
use Rattle.source_state.specs.Events.{logged, with_rows, paged, MayPage, MayCome}
use Rattle.source_state.proofs.Lists.{none_not_some}
use Rattle.source_state.proofs.AskLaws.{pending_parts}
use Rattle.source_state.proofs.LogLaws.{settled_rows, settled_faults, settled_other, settled_same, fault_rows, fault_settling, fault_first}
use Rattle.source_api.specs.declared.counts.Counts.{Counts}
use Rattle.source_api.specs.Told.{HasEachOnce, IsPage}
use Rattle.source_api.specs.declared.source.Trouble.TheVariants as trouble
use Rattle.fetcher.specs.declared.turned.Turned.{Turned}
use Rattle.fetcher.specs.declared.turned.Turned.TheVariants as turned
use Rattle.fetcher.specs.Turning.{IsFed, Brings}
use Rattle.fetcher.specs.Causes.{HasFaultyRow, IsFaultOf, IsFaultOfGrade}
use Rattle.fetcher.specs.Chaining.{Moment, OneTurn, AreTurns, IsFetched}
use Rattle.fetcher.specs.Telling.{IsTrueSettling, TellsOf}
use Rattle.fetcher.proofs.CauseLaws.{some_same, page_front, page_settling, fault_on, faulty_more, rows_took, short_is, settle_bad, settled_keeps}

-- rows that begin the list, and the page that follows them
next_begins : (list front given : List Row) → Begins front list → given ≡ take (length given) (drop (length front) list) → Begins (front ++ given) list
next_begins list front given begins follows =
    let rest : List Row = drop (length given) (drop (length front) list) in
    let behind : drop (length front) list ≡ given ++ rest = sym (take-append-drop (length given) (drop (length front) list)) ∙ ap (λ xs. xs ++ rest) (sym follows) in
    let whole : list ≡ (front ++ given) ++ rest = begins_splits front list begins ∙ (ap (λ xs. front ++ xs) behind ∙ sym (append_assoc front given rest)) in
    subst (Begins (front ++ given)) (sym whole) (begins_with (front ++ given) rest)

-- no row is at fault in a list but its next
told_fault : (list : List Row) (whole : List Row) (count : ℕ) (log : List LogEntry) (fault : SourceFault) → Begins whole list → HasFaultyRow whole log fault
    → (stated : ℕ) × IsFaultOf stated list log fault
told_fault list whole count log fault begins h = (count, inr (inl (faulty_more whole list log fault begins h)))

-- a list that has ended is kept whole
ended_whole : (list front : List Row) → Begins front list → (length front < length list → 0 < 0) → front ≡ list
ended_whole list front begins moves =
    let none : drop (length front) list ≡ [] = drop_all (length front) list (ended (length front) (length list) moves) in
    sym (begins_splits front list begins ∙ (ap (λ rest. front ++ rest) none ∙ append-nil front))
  where
    ended : (a b : ℕ) → (a < b → 0 < 0) → b ≤ a
    ended a b h = elim (cases_Bool (nat_lt a b)) [ inl t ↦ absurd (let bad : 0 < 0 = h (ltb-true a b t) in omega (arith, bad)) | inr f ↦ ltb-false a b f ]

page_told : (list : List Row) (s : State) (given : List Row) → MayPage s given → Begins (rows_in s.log) list → IsPage list (length (rows_in s.log)) given
    → (fault : SourceFault) → fault_in (paged s given).log ≡ Some fault → (count : ℕ) × IsFaultOf count list (paged s given).log fault
page_told list s [] may begins page fault e =
    let all : rows_in s.log ≡ list = ended_whole list (rows_in s.log) begins page.moves in (
      s.count,
      inl (record {
        is = short_is s fault may e ∙ ap (λ (rows : List Row). ShortList s.count (length rows)) all;
        all = fault_rows s.log (ShortList s.count (length (rows_in s.log))) ∙ all;
        less = subst (λ (rows : List Row). length rows < s.count) all may.room;
      }),
    )
page_told list s (row ∷ rows) may begins page fault e =
    elim (rows_took s (row ∷ rows) may.no_fault) [
      | inl whole ↦ absurd (none_not_some (sym whole.0 ∙ e))
      | inr broken ↦ told_fault list (rows_in s.log ++ row ∷ rows) s.count (with_rows s (row ∷ rows)).log fault
          (next_begins list (rows_in s.log) (row ∷ rows) begins page.follows)
          (subst (HasFaultyRow (rows_in s.log ++ row ∷ rows) (with_rows s (row ∷ rows)).log) (some_same (sym broken.1 ∙ e)) broken.2)
    ]

told_page : (list : List Row) (s : State) (given : List Row) → TellsOf list s.log → MayPage s given → IsPage list (length (rows_in s.log)) given
    → TellsOf list (paged s given).log
told_page list s given h may page = record {
  distinct = h.distinct;
  rows = begins_trans (rows_in (paged s given).log) (rows_in s.log ++ given) list (page_front s given) (next_begins list (rows_in s.log) given h.rows page.follows);
  settled = λ object settling e. h.settled object settling (sym (page_settling s given object) ∙ e);
  fault = page_told list s given may h.rows page;
}

-- rows of one object have one grade where no object comes twice
head_apart : (row : Row) (rows : List Row) (other : Row) → HasEachOnce (row ∷ rows) → Contains rows other → row.object ≢ other.object
head_apart row rows other once c = λ e. once 0 (suc c.0) other (omega arith) (omega (arith, c.1)) (e ∙ sym (ap (λ (z : Row). z.object) c.2))

once_tail : (row : Row) (rows : List Row) → HasEachOnce (row ∷ rows) → HasEachOnce rows
once_tail row rows once = λ i j d l m. once (suc i) (suc j) d (omega arith) (omega arith)

once_same : (rows : List Row) (one other : Row) → HasEachOnce rows → Contains rows one → Contains rows other → one.object ≡ other.object → one ≡ other
once_same [] one other once a b same = absurd (contains_nil one a)
once_same (row ∷ rows) one other once a b same =
    elim (contains_cases row rows one a) [
      | inl here ↦ elim (contains_cases row rows other b) [
        | inl there ↦ sym here ∙ there
        | inr later ↦ absurd (head_apart row rows other once later (ap (λ (z : Row). z.object) here ∙ same))
      ]
      | inr deep ↦ elim (contains_cases row rows other b) [
        | inl there ↦ absurd (head_apart row rows one once deep (ap (λ (z : Row). z.object) there ∙ sym same))
        | inr later ↦ once_same rows one other (once_tail row rows once) deep later same
      ]
    ]

same_grade : (list : List Row) (object one other : ℕ) → HasEachOnce list → Contains list (record { object = object; grade = one })
    → Contains list (record { object = object; grade = other }) → one ≡ other
same_grade list object one other once a b =
    ap (λ (z : Row). z.grade) (once_same list (record { object = object; grade = one }) (record { object = object; grade = other }) once a b refl)

-- a bad grade is this one
abbrev pub IsOfGrade : ℕ → SourceFault → Type 0
IsOfGrade grade (Clash other sorted random) = grade ≡ random
IsOfGrade grade (Above other higher bottom) = grade ≡ higher
IsOfGrade grade (OutOfOrder place above below) = ⊥
IsOfGrade grade (TooHigh place higher) = ⊥
IsOfGrade grade (Repeated other place) = ⊥
IsOfGrade grade (ShortList stated got) = ⊥
IsOfGrade grade (Moved had now) = ⊥

-- what a grade settles as
settle_graded : (rows : List Row) (object grade other : ℕ) → settle rows object grade ≡ Graded other → grade ≡ other
settle_graded rows object grade other e = by (grade_among rows object) e
  where
    none : (b : Bool) → cond b (Bad (Above object grade (last_grade top_grade rows))) (Graded grade) ≡ Graded other → grade ≡ other
    none true e = absurd (let bad : Bad (Above object grade (last_grade top_grade rows)) ≡ Graded other = e in cc)
    none false e = cc

    some : (sorted : ℕ) (b : Bool) → cond b (Graded grade) (Bad (Clash object sorted grade)) ≡ Graded other → grade ≡ other
    some sorted true e = cc
    some sorted false e = absurd (let bad : Bad (Clash object sorted grade) ≡ Graded other = e in cc)

    by : (held : Option ℕ) → settle_by held (last_grade top_grade rows) object grade ≡ Graded other → grade ≡ other
    by None e = none (nat_lt (last_grade top_grade rows) grade) e
    by (Some sorted) e = some sorted (sorted == grade) e

settle_missed : (rows : List Row) (object grade : ℕ) → settle rows object grade ≢ Missed
settle_missed rows object grade e = by (grade_among rows object) e
  where
    none : (b : Bool) → cond b (Bad (Above object grade (last_grade top_grade rows))) (Graded grade) ≡ Missed → ⊥
    none true e = let bad : Bad (Above object grade (last_grade top_grade rows)) ≡ Missed = e in cc
    none false e = let bad : Graded grade ≡ Missed = e in cc

    some : (sorted : ℕ) (b : Bool) → cond b (Graded grade) (Bad (Clash object sorted grade)) ≡ Missed → ⊥
    some sorted true e = let bad : Graded grade ≡ Missed = e in cc
    some sorted false e = let bad : Bad (Clash object sorted grade) ≡ Missed = e in cc

    by : (held : Option ℕ) → settle_by held (last_grade top_grade rows) object grade ≡ Missed → ⊥
    by None e = none (nat_lt (last_grade top_grade rows) grade) e
    by (Some sorted) e = some sorted (sorted == grade) e

-- a bad one tells the grade that came
pub settle_tells : (rows : List Row) (object grade : ℕ) (fault : SourceFault) → settle rows object grade ≡ Bad fault → IsOfGrade grade fault
settle_tells rows object grade fault e = by (grade_among rows object) e
  where
    none : (b : Bool) → cond b (Bad (Above object grade (last_grade top_grade rows))) (Graded grade) ≡ Bad fault → IsOfGrade grade fault
    none true e = let is : Above object grade (last_grade top_grade rows) ≡ fault = cc in subst (IsOfGrade grade) is refl
    none false e = absurd (let bad : Graded grade ≡ Bad fault = e in cc)

    some : (sorted : ℕ) (b : Bool) → cond b (Graded grade) (Bad (Clash object sorted grade)) ≡ Bad fault → IsOfGrade grade fault
    some sorted true e = absurd (let bad : Graded grade ≡ Bad fault = e in cc)
    some sorted false e = let is : Clash object sorted grade ≡ fault = cc in subst (IsOfGrade grade) is refl

    by : (held : Option ℕ) → settle_by held (last_grade top_grade rows) object grade ≡ Bad fault → IsOfGrade grade fault
    by None e = none (nat_lt (last_grade top_grade rows) grade) e
    by (Some sorted) e = some sorted (sorted == grade) e

bad_true : (list rows : List Row) (object grade : ℕ) → HasEachOnce list → Begins rows list → Contains list (record { object = object; grade = grade })
    → (fault : SourceFault) → IsFaultOfGrade rows object fault → IsOfGrade grade fault → IsTrueSettling list object (Bad fault)
bad_true list rows object grade once begins c (Clash other sorted random) h of =
    let held : Contains list (record { object = object; grade = sorted }) =
    subst (λ xs. Contains xs (record { object = object; grade = sorted })) (sym (begins_splits rows list begins)) (Contains-append_left rows _ _ h.1) in
    h.2 (same_grade list object sorted grade once held c ∙ of)
bad_true list rows object grade once begins c (Above other higher bottom) h of = (
  h.0,
  subst (λ g. Contains list (record { object = object; grade = g })) of c,
  record { front = h.1.front; begins = begins_trans h.1.front rows list h.1.begins begins; absent = h.1.absent; last = h.1.last; above = h.1.above },
)
bad_true list rows object grade once begins c (OutOfOrder place above below) h of = absurd h
bad_true list rows object grade once begins c (TooHigh place higher) h of = absurd h
bad_true list rows object grade once begins c (Repeated other place) h of = absurd h
bad_true list rows object grade once begins c (ShortList stated got) h of = absurd h
bad_true list rows object grade once begins c (Moved had now) h of = absurd of

-- what the list's grade settles as is true
settle_true : (list rows : List Row) (object grade : ℕ) → HasEachOnce list → Begins rows list → Contains list (record { object = object; grade = grade })
    → (settling : Settling) → settle rows object grade ≡ settling → IsTrueSettling list object settling
settle_true list rows object grade once begins c (Graded other) e =
    subst (λ g. Contains list (record { object = object; grade = g })) (settle_graded rows object grade other e) c
settle_true list rows object grade once begins c (Bad fault) e = bad_true list rows object grade once begins c fault (settle_bad rows object grade fault e) (settle_tells rows object grade fault e)
settle_true list rows object grade once begins c Missed e = absurd (settle_missed rows object grade e)

told_settled : (list : List Row) (s : State) (object : ℕ) (settling : Settling) → TellsOf list s.log → settling_in s.log object ≡ None
    → IsTrueSettling list object settling → TellsOf list (logged s (Settled object settling)).log
told_settled list s object settling h pending true_ = record {
  distinct = h.distinct;
  rows = subst (λ rows. Begins rows list) (sym (settled_rows s.log object settling)) h.rows;
  settled = λ other one e. elim (eqb_tells object other) [
    | inl same ↦
        let now : settling_in (s.log ++ Settled object settling ∷ []) other ≡ Some settling = subst (λ o. settling_in (s.log ++ Settled object settling ∷ []) o ≡ Some settling) same.1 (settled_same s.log object settling pending) in
        subst (IsTrueSettling list other) (some_same (sym now ∙ e)) (subst (λ o. IsTrueSettling list o settling) same.1 true_)
    | inr apart ↦ h.settled other one (sym (settled_other s.log object settling other apart.1) ∙ e)
  ];
  fault = λ fault e.
      let none : fault_in (s.log ++ Settled object settling ∷ []) ≡ fault_in s.log = ap (first_of {X = SourceFault}) (settled_faults s.log object settling) in
      let cause = h.fault fault (sym none ∙ e) in
      (cause.0, fault_on cause.0 list s.log (s.log ++ Settled object settling ∷ []) fault (settled_rows s.log object settling) (settled_keeps s.log object settling pending) cause.1);
}

told_same : (list : List Row) (log after : List LogEntry) → after ≡ log → TellsOf list log → TellsOf list after
told_same list log after e h = subst (TellsOf list) (sym e) h

told_found : (list : List Row) (e : Event) (before after : Known LogEntry) → (fed : IsFed e before after) → TellsOf list before.seen
    → TellsOf list fed.found.log
told_found list e before after fed h = told_same list before.seen fed.found.log fed.is.log h

-- the list was replaced
told_moved : (list : List Row) (s : State) (object : Option ℕ) (had now : ℕ) → TellsOf list s.log → MayCome s (event.Move object had now)
    → TellsOf list (events.after s (event.Move object had now)).log
told_moved list s None had now h may =
    let rows : rows_in (s.log ++ Fault (Moved had now) ∷ []) ≡ rows_in s.log = fault_rows s.log (Moved had now) in
    record {
      distinct = h.distinct;
      rows = subst (λ front. Begins front list) (sym rows) h.rows;
      settled = λ object settling e. h.settled object settling (sym (fault_settling s.log (Moved had now) object) ∙ e);
      fault = λ fault e. (
        s.count,
        inr (inr (record {
          had = had;
          now = now;
          is = some_same (sym e ∙ fault_first s.log (Moved had now) may.1.0);
          differ = may.0;
          less = subst (λ (front : List Row). length front < s.count) (sym rows) may.1.1;
        })),
      );
    }
told_moved list s (Some object) had now h may = told_settled list s object (Bad (Moved had now)) h (pending_parts s object may.1).1 may.0

-- one turn
told_turn : (page ahead : ℕ) (list : List Row) (counts now : Counts) (before after : Known LogEntry) (answer : Turned)
    → Brings page ahead (Some list) counts now before after answer → TellsOf list before.seen → TellsOf list after.seen
told_turn page ahead list counts now before after (turned.Paged rows) b h =
    told_same list (paged b.fed.found b.given).log after.seen b.fed.sees.log
    (told_page list b.fed.found b.given (told_found list (event.Page b.given) before after b.fed h) b.fed.may (subst (λ log. IsPage list (length (rows_in log)) b.given) (sym b.fed.is.log) b.told))
told_turn page ahead list counts now before after (turned.Graded object) b h =
    let found = b.fed.found in
    let h_found = told_found list (event.Grade object b.grade) before after b.fed h in
    told_same list (logged found (Settled object (settle (rows_in found.log) object b.grade))).log after.seen b.fed.sees.log
    (told_settled list found object (settle (rows_in found.log) object b.grade) h_found (pending_parts found object b.fed.may).1
    (settle_true list (rows_in found.log) object b.grade h_found.distinct h_found.rows b.told (settle (rows_in found.log) object b.grade) refl))
told_turn page ahead list counts now before after (turned.Missed object) b h =
    told_same list (logged b.fed.found (Settled object Missed)).log after.seen b.fed.sees.log
    (told_settled list b.fed.found object Missed (told_found list (event.Miss object) before after b.fed h) (pending_parts b.fed.found object b.fed.may).1 b.told)
told_turn page ahead list counts now before after (turned.Troubled (trouble.Fail what)) b h = told_same list before.seen after.seen b.seen h
told_turn page ahead list counts now before after (turned.Troubled (trouble.Moved had other)) b h =
    told_same list (events.after b.fed.found (event.Move b.object had other)).log after.seen b.fed.sees.log
    (told_moved list b.fed.found b.object had other (told_found list (event.Move b.object had other) before after b.fed h) b.fed.may)
told_turn page ahead list counts now before after turned.Idle b h = told_same list before.seen after.seen b.seen h

told_turns : (page ahead : ℕ) (list : List Row) (before after : Moment) (turns : List OneTurn) → AreTurns page ahead (Some list) before turns after
    → TellsOf list before.known.seen → TellsOf list after.known.seen
told_turns page ahead list before after [] is h = subst (λ (m : Moment). TellsOf list m.known.seen) (sym is) h
told_turns page ahead list before after (turn ∷ turns) is h =
    told_turns page ahead list turn.next after turns is.1
    (told_turn page ahead list before.counts turn.next.counts before.known turn.next.known turn.answer is.0.brings h)

pub fetched_tells : (page ahead : ℕ) (list : List Row) (before after : Moment) → IsFetched page ahead (Some list) before after → TellsOf list before.known.seen
    → TellsOf list after.known.seen
fetched_tells page ahead list before after fetched h = told_turns page ahead list before after fetched.turns fetched.each h

-- a log that was empty
pub fetched_from_nothing : (page ahead : ℕ) (list : List Row) (before after : Moment) → IsFetched page ahead (Some list) before after → before.known.seen ≡ []
    → TellsOf list after.known.seen
fetched_from_nothing page ahead list before after fetched none =
    fetched_tells page ahead list before after fetched (subst (TellsOf list) (sym none) (record {
      distinct = fetched.distinct;
      rows = refl;
      settled = λ object settling e. absurd (none_not_some e);
      fault = λ fault e. absurd (none_not_some e);
    }))

-- a list that is told has no object twice: none of its rows is repeated, and no grade clashes with it
no_repeat : (rows : List Row) (row : Row) (rest : List Row) → HasEachOnce (rows ++ row ∷ rest) → ¬ Contains (objects rows) row.object
no_repeat [] row rest once = λ c. contains_nil row.object c
no_repeat (first ∷ rows) row rest once = λ c.
    elim (contains_cases first.object (objects rows) row.object c) [
      | inl same ↦ head_apart first (rows ++ row ∷ rest) row once (Contains-append_right rows (row ∷ rest) row (contains_here row rest)) same
      | inr deep ↦ no_repeat rows row rest (once_tail first (rows ++ row ∷ rest) once) deep
    ]

next_splits : (list rows : List Row) (row : Row) → Begins (rows ++ row ∷ []) list → (rest : List Row) × (list ≡ rows ++ row ∷ rest)
next_splits list rows row begins =
    let rest : List Row = drop (length (rows ++ row ∷ [])) list in
    (rest, begins_splits (rows ++ row ∷ []) list begins ∙ append_assoc rows (row ∷ []) rest)

pub never_repeated : (list : List Row) (log : List LogEntry) (object place : ℕ) → TellsOf list log → ¬ (fault_in log ≡ Some (Repeated object place))
never_repeated list log object place h = λ e.
    elim (h.fault (Repeated object place) e).1 [
      | inl short ↦ absurd (let bad : Repeated object place ≡ ShortList _ (length list) = short.is in cc)
      | inr rest ↦ elim rest [
        | inl faulty ↦
            let split = next_splits list (rows_in log) faulty.row faulty.next in
            let twice : Contains (objects (rows_in log)) faulty.row.object = subst (Contains (objects (rows_in log))) faulty.faulty.is faulty.faulty.before in
            no_repeat (rows_in log) faulty.row split.0 (subst HasEachOnce split.1 h.distinct) twice
        | inr replaced ↦ absurd (let bad : Repeated object place ≡ Moved replaced.had replaced.now = replaced.is in cc)
      ]
    ]

pub never_clashes : (list : List Row) (log : List LogEntry) (object sorted random : ℕ) → TellsOf list log → ¬ (fault_in log ≡ Some (Clash object sorted random))
never_clashes list log object sorted random h = λ e.
    elim (h.fault (Clash object sorted random) e).1 [
      | inl short ↦ absurd (let bad : Clash object sorted random ≡ ShortList _ (length list) = short.is in cc)
      | inr rest ↦ elim rest [
        | inl faulty ↦
            let split = next_splits list (rows_in log) faulty.row faulty.next in
            let there : Contains list faulty.row =
            subst (λ xs. Contains xs faulty.row) (sym split.1) (Contains-append_right (rows_in log) (faulty.row ∷ split.0) faulty.row (contains_here faulty.row split.0)) in
            faulty.faulty.apart (same_grade list object sorted random h.distinct (subst (Contains list) faulty.faulty.is there)
            (h.settled object (Graded random) faulty.faulty.graded))
        | inr replaced ↦ absurd (let bad : Clash object sorted random ≡ Moved replaced.had replaced.now = replaced.is in cc)
      ]
    ]
