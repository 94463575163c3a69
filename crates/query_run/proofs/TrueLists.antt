-- What honest events keep of a state that tells the truth of its list.
use Rattle.std.proofs.Common.{◌≡◌, ◌<◌, ◌≤◌, ◌==◌, ◌⊎◌, inl, inr, ℕ, Bool, true, false, cond, Option, Some, None, List, [], ◌∷◌, ◌++◌, length, drop, is_some, nat_lt, Contains, refl, sym, ap, subst, ◌∙◌, arith, append_assoc}
use Rattle.std.specs.Option.{option_map}
use Rattle.std.proofs.lemmas.Bool.{cases_Bool, ltb-true}
use Rattle.std.proofs.lemmas.Bool.Decides.{eqb_tells}
use Rattle.std.proofs.lemmas.List.Elements.{Contains-append_left, Contains-append_right, Contains-append_cases}
use Rattle.std.proofs.lemmas.Option.{same_Some}
use Rattle.ranked_list.specs.declared.row.Row.{Row}
use Rattle.ranked_list.specs.Table.{IsRanked, objects, top_grade, grade_in}
use Rattle.ranked_list.specs.declared.need.Need.{Need}
use Rattle.ranked_list.specs.declared.need.Need.TheVariants as need
use Rattle.ranked_list.proofs.OptionLaws.{none_unless_some, option_cases}
use Rattle.topk_theory.specs.Transcript.{Begins, last_grade}
use Rattle.topk_theory.specs.Bounds.{grade_among}
use Rattle.topk_theory.proofs.AgreementLists.{begins_splits, begins_front, contains_nil, contains_here, contains_cases, contains_map_from}
use Rattle.topk_theory.proofs.AgreementRows.{grade_among_row, grade_among_none, grade_among_absent, grade_in_row, object_of_row}
use Rattle.topk_theory.proofs.ThresholdRun.{contains_from_filter_map}
use Rattle.topk_theory.proofs.ConsistentRows.{ranked_capped, ranked_parts_below, ranked_parts_apart, behind_below_last}
use Rattle.source_state.specs.declared.ask.Ask.{Ask as Asking}
use Rattle.source_state.specs.declared.entry.LogEntry.TheVariants as entry
use Rattle.source_state.specs.declared.entry.Settling.{Settling}
use Rattle.source_state.specs.declared.entry.Settling.TheVariants.{Graded, Bad}
use Rattle.source_state.specs.declared.entry.SourceFault.{SourceFault}
use Rattle.source_state.specs.declared.entry.SourceFault.TheVariants.{Clash, Above}
use Rattle.source_state.specs.declared.entry.Asked.TheVariants as became
use Rattle.source_state.specs.declared.event.Event.{Event}
use Rattle.source_state.specs.declared.event.Event.TheVariants.{Want, Ask, Page, Grade, Miss, Fail, Move}
use Rattle.source_state.specs.declared.look.Waiting.{Waiting}
use Rattle.source_state.specs.declared.look.Look.{Look}
use Rattle.source_state.specs.declared.look.Look.TheVariants as look
use Rattle.source_state.specs.declared.look.LookFault.TheVariants as why
use Rattle.source_state.specs.Log.{first_of, rows_in, settling_in, fault_in}
use Rattle.source_state.specs.Asks.{ask_in, ask_of, good_grade, open_row, open_rows, first_above}
use Rattle.source_state.specs.State.{State, asks_of, asked_in, clash_or, above_fault, grade_asked, fault_by_grades, row_fault, settle_by, settle}
use Rattle.source_state.specs.Events.{logged, one_asked, row_or, with_rows, after, MayCome}
use Rattle.source_state.specs.Looking.{called, Looks}
use Rattle.source_state.proofs.Lists.{none_not_some, eqb_same, find_none}
use Rattle.source_state.proofs.LogLaws.{kept_rows, kept_settling, kept_faults, settled_rows, settled_faults, settled_other, settled_same}
use Rattle.source_state.proofs.AskLaws.{ask_found, good_settled, pending_none}
use Rattle.query_run.specs.Honest.{IsNextOf, IsTrueOf}
use Rattle.query_run.proofs.Asking.{asked_settled}

graded_same : {a b : ℕ} → Graded a ≡ Graded b → a ≡ b
graded_same e = cc

not_less : (m n : ℕ) → n ≤ m → nat_lt m n ≡ false
not_less m n h = elim (cases_Bool (nat_lt m n)) [ inl t ↦ absurd (let l : m < n = ltb-true m n t in omega arith) | inr f ↦ f ]

-- a ranked list gives an object one grade
one_grade : (list : List Row) (row other : Row) → IsRanked list → Contains list row → Contains list other → row.object ≡ other.object → row.grade ≡ other.grade
one_grade list row other ranked c d same =
    sym (grade_in_row list row.object row.grade ranked c) ∙ ap (grade_in list) same ∙ grade_in_row list other.object other.grade ranked d

-- a row that is next, over the rest of its list
pub record IsNextRow (list front : List Row) (row : Row) : Type 0 where
  pub rest : List Row
  pub splits : list ≡ front ++ row ∷ rest

next_in : (list front : List Row) (row : Row) → IsNextRow list front row → Contains list row
next_in list front row next = subst (λ l. Contains l row) (sym next.splits) (Contains-append_right front (row ∷ next.rest) row (contains_here row next.rest))

front_in : (list front : List Row) (row other : Row) → IsNextRow list front row → Contains front other → Contains list other
front_in list front row other next c = subst (λ l. Contains l other) (sym next.splits) (Contains-append_left front (row ∷ next.rest) other c)

-- the next row repeats no object
next_new : (list front : List Row) (row : Row) → IsRanked list → IsNextRow list front row → grade_among front row.object ≡ None
next_new list front row ranked next =
    grade_among_absent front row.object
    (λ c.
    let from = contains_map_from (λ (r : Row). r.object) front row.object c in
    ranked_parts_apart front (row ∷ next.rest) from.0 row (subst IsRanked next.splits ranked) from.1 (contains_here row next.rest) from.2)

-- nothing in the list that isn't in front has a greater grade than the next row
none_above : (list front : List Row) (row other : Row) → IsRanked list → IsNextRow list front row → Contains list other → grade_among front other.object ≡ None
    → other.grade ≤ row.grade
none_above list front row other ranked next c absent =
    elim (Contains-append_cases front (row ∷ next.rest) other (subst (λ l. Contains l other) next.splits c)) [
      | inl one ↦ absurd (grade_among_none front other.object absent (object_of_row front other one))
      | inr one ↦ elim (contains_cases row next.rest other one) [
        | inl same ↦ let e : row.grade ≡ other.grade = ap (λ (r : Row). r.grade) same in omega (arith, e)
        | inr there ↦
            let split : list ≡ (front ++ row ∷ []) ++ next.rest = next.splits ∙ sym (append_assoc front (row ∷ []) next.rest) in
            ranked_parts_below (front ++ row ∷ []) next.rest row other (subst IsRanked split ranked) (Contains-append_right front (row ∷ []) row (contains_here row [])) there
      ]
    ]

-- what is settled of an object, where the state tells the truth
grade_listed : (list : List Row) (s : State) (object grade : ℕ) → IsTrueOf list s → good_grade (settling_in s.log object) ≡ Some grade
    → Contains list (record { object = object; grade = grade })
grade_listed list s object grade h e =
    let settled : settling_in s.log object ≡ Some (Graded grade) = good_settled (settling_in s.log object) grade e in
    let is = h.settled object (Graded grade) settled in
    let same : grade ≡ is.0 = graded_same is.1 in
    subst (λ g. Contains list (record { object = object; grade = g })) (sym same) is.2

-- the open rows of the asks are rows of the list that aren't kept
opened_row : (held : Bool) (settling : Option Settling) (object : ℕ) (row : Row)
    → (let ask : Asking = record { object = object; settling = settling; is_held = held } in open_row ask ≡ Some row)
    → (held ≡ false) × (good_grade settling ≡ Some row.grade) × (row.object ≡ object)
opened_row true settling object row e = absurd (none_not_some e)
opened_row false settling object row e =
    elim (option_cases (good_grade settling)) [
      | inl none ↦ absurd (none_not_some (sym (ap (option_map (as_row object)) none) ∙ e))
      | inr some ↦
          let is : as_row object some.0 ≡ row = same_Some _ _ (sym (ap (option_map (as_row object)) some.1) ∙ e) in
          (refl, some.1 ∙ ap (λ (r : Row). Some r.grade) is, sym (ap (λ (r : Row). r.object) is))
    ]
  where
    as_row : ℕ → ℕ → Row
    as_row object grade = record { object = object; grade = grade }

none_open_above : (list : List Row) (s : State) (row : Row) → IsRanked list → IsTrueOf list s → IsNextRow list (rows_in s.log) row
    → first_above row.grade (asks_of s) ≡ None
none_open_above list s row ranked h next =
    find_none (λ (r : Row). nat_lt row.grade r.grade) (open_rows (asks_of s))
    (λ r c.
    let from = contains_from_filter_map open_row (asks_of s) r c in
    let ask = contains_map_from (ask_in s.log) s.asks from.0 from.1 in
    let object = ask.0 in
    let parts = opened_row (is_some (grade_among (rows_in s.log) object)) (settling_in s.log object) object r (ap open_row ask.2 ∙ from.2) in
    let there = grade_listed list s object r.grade h parts.1 in
    let row_there : Contains list r = subst (λ o. Contains list (record { object = o; grade = r.grade })) (sym parts.2) there in
    let absent : grade_among (rows_in s.log) r.object ≡ None = ap (grade_among (rows_in s.log)) parts.2 ∙ none_unless_some (grade_among (rows_in s.log) object) parts.0 in
    not_less row.grade r.grade (none_above list (rows_in s.log) row r ranked next row_there absent))

-- the grade that was asked of the next row's object is its own
no_clash : (asked : Option ℕ) (row : Row) (rest : Option SourceFault) → ((grade : ℕ) → asked ≡ Some grade → grade ≡ row.grade) → rest ≡ None
    → clash_or asked row rest ≡ None
no_clash None row rest h none = none
no_clash (Some grade) row rest h none = subst (λ b. cond b rest (Some (Clash row.object row.grade grade)) ≡ None) (sym (subst (λ g. (grade == g) ≡ true) (h grade refl) (eqb_same grade))) none

asked_grade : (list : List Row) (s : State) (row : Row) (grade : ℕ) → IsRanked list → IsTrueOf list s → Contains list row
    → grade_asked (ask_of (asks_of s) row.object) ≡ Some grade → grade ≡ row.grade
asked_grade list s row grade ranked h c e =
    elim (option_cases (ask_of (asks_of s) row.object)) [
      | inl none ↦ absurd (none_not_some (sym (ap grade_asked none) ∙ e))
      | inr some ↦
          let found = ask_found s.log s.asks row.object some.0 some.1 in
          let good : good_grade (settling_in s.log row.object) ≡ Some grade = ap (λ (ask : Asking). good_grade ask.settling) (sym found.1) ∙ sym (ap grade_asked some.1) ∙ e in
          let there = grade_listed list s row.object grade h good in
          one_grade list (record { object = row.object; grade = grade }) row ranked there c refl
    ]

-- nothing is at fault with the next row
next_faultless : (list : List Row) (s : State) (row : Row) → IsRanked list → IsTrueOf list s → IsNextRow list (rows_in s.log) row
    → row_fault (rows_in s.log) (asks_of s) row ≡ None
next_faultless list s row ranked h next =
    let front = rows_in s.log in
    let there = next_in list front row next in
    let low : nat_lt top_grade row.grade ≡ false = not_less top_grade row.grade (ranked_capped list row ranked there) in
    let falls : nat_lt (last_grade top_grade front) row.grade ≡ false =
    not_less (last_grade top_grade front) row.grade (behind_below_last front (row ∷ next.rest) row (subst IsRanked next.splits ranked) (contains_here row next.rest)) in
    let new : is_some (grade_among front row.object) ≡ false = ap is_some (next_new list front row ranked next) in
    let fits : fault_by_grades (asks_of s) row ≡ None =
    no_clash (grade_asked (ask_of (asks_of s) row.object)) row (option_map (above_fault row.grade) (first_above row.grade (asks_of s))) (λ grade e. asked_grade list s row grade ranked h there e)
    (ap (option_map (above_fault row.grade)) (none_open_above list s row ranked h next)) in
    tests (nat_lt top_grade row.grade) (nat_lt (last_grade top_grade front) row.grade) (is_some (grade_among front row.object)) _ _ _ (fault_by_grades (asks_of s) row) low falls new fits
  where
    tests : (a b c : Bool) (x y z : SourceFault) (rest : Option SourceFault) → a ≡ false → b ≡ false → c ≡ false → rest ≡ None
        → cond a (Some x) (cond b (Some y) (cond c (Some z) rest)) ≡ None
    tests true b c x y z rest e f g h = absurd (cc)
    tests false true c x y z rest e f g h = absurd (cc)
    tests false false true x y z rest e f g h = absurd (cc)
    tests false false false x y z rest e f g h = h

-- one more row
true_row : (list : List Row) (s : State) (row : Row) → IsTrueOf list s → Begins (rows_in s.log ++ row ∷ []) list → IsTrueOf list (logged s (entry.Kept row))
true_row list s row h begins = record {
  rows = subst (λ rows. Begins rows list) (sym (kept_rows s.log row)) begins;
  faultless = ap (first_of {X = SourceFault}) (kept_faults s.log row) ∙ h.faultless;
  settled = λ object settling e. h.settled object settling (sym (kept_settling s.log row object) ∙ e);
  asked = h.asked;
}

-- the rows of an honest page
true_rows : (list : List Row) (s : State) (rows : List Row) → IsRanked list → IsTrueOf list s → Begins (rows_in s.log ++ rows) list
    → IsTrueOf list (with_rows s rows)
true_rows list s [] ranked h begins = h
true_rows list s (row ∷ rows) ranked h begins =
    let split : list ≡ (rows_in s.log ++ row ∷ rows) ++ drop (length (rows_in s.log ++ row ∷ rows)) list = begins_splits (rows_in s.log ++ row ∷ rows) list begins in
    let next : IsNextRow list (rows_in s.log) row = record { rest = rows ++ drop (length (rows_in s.log ++ row ∷ rows)) list; splits = split ∙ append_assoc (rows_in s.log) (row ∷ rows) (drop (length (rows_in s.log ++ row ∷ rows)) list) } in
    let sound : row_fault (rows_in s.log) (asks_of s) row ≡ None = next_faultless list s row ranked h next in
    let along : (rows_in s.log ++ row ∷ []) ++ rows ≡ rows_in s.log ++ row ∷ rows = append_assoc (rows_in s.log) (row ∷ []) rows in
    let longer : Begins ((rows_in s.log ++ row ∷ []) ++ rows) list = subst (λ xs. Begins xs list) (sym along) begins in
    let one = true_row list s row h (begins_front (rows_in s.log ++ row ∷ []) rows list longer) in
    subst (λ o. IsTrueOf list (row_or o s row (λ t. with_rows t rows))) (sym sound)
    (true_rows list (logged s (entry.Kept row)) rows ranked one (subst (λ xs. Begins (xs ++ rows) list) (sym (kept_rows s.log row)) longer))

true_page : (list : List Row) (s : State) (rows : List Row) → IsRanked list → IsTrueOf list s → IsNextOf list (rows_in s.log) rows
    → IsTrueOf list (after s (Page rows))
true_page list s [] ranked h next = absurd (let some = next.some in omega (arith, some))
true_page list s (row ∷ rows) ranked h next = true_rows list s (row ∷ rows) ranked h next.next

-- an honest grade is good
settles_good : (list front : List Row) (object grade : ℕ) → IsRanked list → Begins front list → Contains list (record { object = object; grade = grade })
    → settle front object grade ≡ Graded grade
settles_good list front object grade ranked begins there = by_held list front object grade ranked begins there (grade_among front object) refl
  where
    by_held : (list front : List Row) (object grade : ℕ) → IsRanked list → Begins front list → Contains list (record { object = object; grade = grade })
        → (held : Option ℕ) → grade_among front object ≡ held → settle_by held (last_grade top_grade front) object grade ≡ Graded grade
    by_held list front object grade ranked begins there None e =
        let split : list ≡ front ++ drop (length front) list = begins_splits front list begins in
        let row : Row = record { object = object; grade = grade } in
        let low : grade ≤ last_grade top_grade front = elim (Contains-append_cases front (drop (length front) list) row (subst (λ l. Contains l row) split there)) [
          | inl one ↦ absurd (grade_among_none front object e (object_of_row front row one))
          | inr one ↦ behind_below_last front (drop (length front) list) row (subst IsRanked split ranked) one
        ] in
        ap (λ b. cond b (Bad (Above object grade (last_grade top_grade front))) (Graded grade)) (not_less (last_grade top_grade front) grade low)
    by_held list front object grade ranked begins there (Some sorted) e =
        let split : list ≡ front ++ drop (length front) list = begins_splits front list begins in
        let row : Row = record { object = object; grade = sorted } in
        let held : Contains list row = subst (λ l. Contains l row) (sym split) (Contains-append_left front (drop (length front) list) row (grade_among_row front object sorted e)) in
        let same : sorted ≡ grade = one_grade list row (record { object = object; grade = grade }) ranked held there refl in
        ap (λ b. cond b (Graded grade) (Bad (Clash object sorted grade))) (subst (λ g. (sorted == g) ≡ true) same (eqb_same sorted))

true_settled : (list : List Row) (s : State) (object grade : ℕ) → settling_in s.log object ≡ None → Contains list (record { object = object; grade = grade })
    → IsTrueOf list s → IsTrueOf list (logged s (entry.Settled object (Graded grade)))
true_settled list s object grade pending there h = record {
  rows = subst (λ rows. Begins rows list) (sym (settled_rows s.log object (Graded grade))) h.rows;
  faultless = ap (first_of {X = SourceFault}) (settled_faults s.log object (Graded grade)) ∙ h.faultless;
  settled = λ other settling e. elim (eqb_tells object other) [
    | inl t ↦
        let is : Some (Graded grade) ≡ Some settling = sym (settled_same s.log object (Graded grade) pending) ∙ ap (settling_in (s.log ++ entry.Settled object (Graded grade) ∷ [])) t.1 ∙ e in
        (grade, sym (same_Some _ _ is), subst (λ o. Contains list (record { object = o; grade = grade })) t.1 there)
    | inr f ↦ h.settled other settling (sym (settled_other s.log object (Graded grade) other f.1) ∙ e)
  ];
  asked = h.asked;
}

true_grade : (list : List Row) (s : State) (object grade : ℕ) → IsRanked list → IsTrueOf list s → asked_in s object ≡ Some became.Pending
    → Contains list (record { object = object; grade = grade }) → IsTrueOf list (after s (Grade object grade))
true_grade list s object grade ranked h pending there =
    subst (λ settling. IsTrueOf list (logged s (entry.Settled object settling))) (sym (settles_good list (rows_in s.log) object grade ranked h.rows there))
    (true_settled list s object grade (pending_none (settling_in s.log object) (asked_settled s object became.Pending pending).1) there h)

-- an event that keeps the log and the asks
true_same : (list : List Row) (s t : State) → t.log ≡ s.log → t.asks ≡ s.asks → IsTrueOf list s → IsTrueOf list t
true_same list s t log asks h = record {
  rows = subst (λ l. Begins (rows_in l) list) (sym log) h.rows;
  faultless = ap fault_in log ∙ h.faultless;
  settled = λ object settling e. h.settled object settling (ap (λ l. settling_in l object) (sym log) ∙ e);
  asked = λ object c. h.asked object (subst (λ os. Contains os object) asks c);
}

-- an event that is honest for a list
abbrev pub IsHonestEvent : List Row → State → Event → Type 0
IsHonestEvent list s (Want depth) = Unit {0}
IsHonestEvent list s (Ask object) = Contains (objects list) object
IsHonestEvent list s (Page rows) = IsNextOf list (rows_in s.log) rows
IsHonestEvent list s (Grade object grade) = Contains list (record { object = object; grade = grade })
IsHonestEvent list s (Miss object) = ⊥
IsHonestEvent list s (Fail what) = Unit {0}
IsHonestEvent list s (Move object had now) = ⊥

asked_members : (found : Option Asking) (object other : ℕ) (asks : List ℕ) → Contains (one_asked found object asks) other
    → (other ≡ object) ⊎ Contains asks other
asked_members (Some ask) object other asks c = inr c
asked_members None object other asks c =
    elim (Contains-append_cases asks (object ∷ []) other c) [
      | inl old ↦ inr old
      | inr new ↦ elim (contains_cases object [] other new) [ inl e ↦ inl (sym e) | inr t ↦ absurd (contains_nil other t) ]
    ]

pub true_after : (list : List Row) (s : State) (e : Event) → IsRanked list → IsTrueOf list s → MayCome s e → IsHonestEvent list s e → IsTrueOf list (after s e)
true_after list s (Want depth) ranked h may honest = true_same list s (after s (Want depth)) refl refl h
true_after list s (Ask object) ranked h may honest = record {
  rows = h.rows;
  faultless = h.faultless;
  settled = h.settled;
  asked = λ other c. elim (asked_members (ask_of (asks_of s) object) object other s.asks c) [ inl e ↦ subst (Contains (objects list)) (sym e) honest | inr old ↦ h.asked other old ];
}
true_after list s (Page rows) ranked h may honest = true_page list s rows ranked h honest
true_after list s (Grade object grade) ranked h may honest = true_grade list s object grade ranked h may honest
true_after list s (Miss object) ranked h may honest = absurd honest
true_after list s (Fail what) ranked h may honest = true_same list s (after s (Fail what)) refl refl h
true_after list s (Move object had now) ranked h may honest = absurd honest

-- a need of an object of the list
abbrev pub IsOfObject : List Row → Need → Type 0
IsOfObject list (need.Row l depth) = Unit {0}
IsOfObject list (need.Grade l object) = Contains (objects list) object
IsOfObject list need.Done = Unit {0}

true_called : (list : List Row) (s : State) (n : Need) → IsTrueOf list s → IsOfObject list n → IsTrueOf list (called s n)
true_called list s (need.Row l depth) h of = true_same list s (called s (need.Row l depth)) refl refl h
true_called list s (need.Grade l object) h of = record {
  rows = h.rows;
  faultless = h.faultless;
  settled = h.settled;
  asked = λ other c. elim (asked_members (ask_of (asks_of s) object) object other s.asks c) [ inl e ↦ subst (Contains (objects list)) (sym e) of | inr old ↦ h.asked other old ];
}
true_called list s need.Done h of = h

true_is : (list : List Row) (s t : State) → t ≡ s → IsTrueOf list s → IsTrueOf list t
true_is list s t e h = subst (IsTrueOf list) (sym e) h

pub true_looked : (list : List Row) (n : Need) (s t : State) (waiting left : Waiting) (answer : Look) → IsTrueOf list s → IsOfObject list n
    → Looks n s t waiting left answer → IsTrueOf list t
true_looked list n s t waiting left (look.Row row) h of looks = true_is list s t looks.ends.same h
true_looked list n s t waiting left (look.Grade grade) h of looks = true_is list s t looks.ends.same h
true_looked list n s t waiting left look.NotYet h of looks =
    elim looks.waits [
      | inl on ↦ true_is list s t on.same h
      | inr begins ↦ true_is list (called s n) t begins.calls (true_called list s n h of)
    ]
true_looked list n s t waiting left (look.Fault (why.Source fault)) h of looks = true_is list s t looks.ends.same h
true_looked list n s t waiting left (look.Fault (why.Missing object)) h of looks = true_is list s t looks.ends.same h
true_looked list n s t waiting left (look.Fault (why.AsksFull kept)) h of looks = true_is list s t looks.ends.same h
true_looked list n s t waiting left (look.Fault (why.Call what)) h of looks = true_is list s t looks.ends.same h
