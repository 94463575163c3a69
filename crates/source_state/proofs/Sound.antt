-- A state stays sound under each event.
use Rattle.std.proofs.Common.{◌≡◌, ◌≢◌, ◌<◌, ◌≤◌, ◌==◌, ◌+◌, ◌*◌, inl, inr, ℕ, Bool, true, false, cond, Option, Some, None, List, [], ◌∷◌, ◌++◌, length, is_some, nat_lt, slice_index_or, All, AllPairs, Contains, refl, sym, ap, subst, ◌∙◌, arith, eqb-true}
use Rattle.std.specs.List.{cons_option}
use Rattle.std.specs.Option.{option_map}
use Rattle.std.proofs.lemmas.Bool.{cases_Bool, ltb-false, le-ltb}
use Rattle.std.proofs.lemmas.List.{length-append}
use Rattle.std.proofs.lemmas.List.Elements.{All-push, All-append, All-nil, All-contains, Contains-append_left, Contains-append_cases}
use Rattle.std.proofs.lemmas.List.Quantifiers.{all_pairs_push}
use Rattle.ranked_list.specs.declared.row.Row.{Row}
use Rattle.ranked_list.specs.Table.{IsRanked, objects, top_grade}
use Rattle.ranked_list.proofs.OptionLaws.{none_unless_some, option_cases}
use Rattle.ranked_list.proofs.RankLaws.{IsRanked-nil}
use Rattle.topk_theory.specs.Transcript.{last_grade}
use Rattle.topk_theory.specs.Bounds.{grade_among}
use Rattle.topk_theory.proofs.AgreementLists.{contains_at, contains_cases, contains_nil, contains_map, all_from_members, distinct_fits}
use Rattle.topk_theory.proofs.AgreementRows.{grade_among_row, grade_among_none, grade_among_append_some, grade_among_append_none, object_of_row}
use Rattle.topk_theory.proofs.ThresholdRun.{contains_filter_map}
use Rattle.topk_theory.proofs.ConsistentRows.{last_is_least, last_below_top}
use Rattle.source_state.specs.declared.ask.Ask.{Ask}
use Rattle.source_state.specs.declared.entry.LogEntry.{LogEntry}
use Rattle.source_state.specs.declared.entry.LogEntry.TheVariants.{Kept, Settled, Fault}
use Rattle.source_state.specs.declared.entry.Settling.{Settling}
use Rattle.source_state.specs.declared.entry.Settling.TheVariants.{Graded, Bad, Missed}
use Rattle.source_state.specs.declared.entry.Asked.TheVariants as became
use Rattle.source_state.specs.declared.entry.SourceFault.{SourceFault}
use Rattle.source_state.specs.declared.entry.SourceFault.TheVariants.{OutOfOrder, TooHigh, Repeated, Clash, Above}
use Rattle.source_state.specs.Log.{rows_in, settling_in, settled_in, graded_in, graded_as, faults_in, fault_in}
use Rattle.source_state.specs.Asks.{ask_in, ask_of, good_grade, open_row, open_rows, first_above}
use Rattle.source_state.specs.State.{State, opened, asks_of, asked_in, clash_or, above_fault, grade_asked, fault_by_grades, row_fault, settle, settle_by, GoesWith, SettlesWell, IsSoundLog, IsSound}
use Rattle.source_state.specs.Events.{logged, one_asked, with_ask, moved, MayMove}
use Rattle.topk_base.specs.declared.TheConstants.{MAX_OBJECTS}
use Rattle.source_state.proofs.Lists.{cond_none, none_not_some, none_found, no_first}
use Rattle.source_state.proofs.LogLaws.{kept_rows, kept_settled, kept_graded, kept_faults, settled_rows, settled_settled, settled_graded, settled_faults, fault_rows, fault_settled, fault_graded, fault_faults, log_length, not_settled, graded_settled, graded_settling}
use Rattle.source_state.proofs.AskLaws.{pending_parts, ask_missing, ask_is_found}

abbrev pub Apart : ℕ → ℕ → Type 0
Apart one other = one ≢ other

-- a log has room for no more than its rows, its settlings and one fault
pub log_fits : (count : ℕ) (asks : List ℕ) (log : List LogEntry) → IsSoundLog count asks log → length asks ≤ count → length log ≤ 2 * count + 1
log_fits count asks log h few =
    let settled : length (settled_in log) ≤ length asks = distinct_fits (settled_in log) asks h.once h.asked in
    omega (arith, log_length log, h.fits, h.one_fault)

-- what the rows give an object is the grade of a row
grade_bounds : (rows : List Row) (object grade : ℕ) → IsRanked rows → grade_among rows object ≡ Some grade → grade ≤ top_grade
grade_bounds rows object grade r e = All-contains (λ (row : Row). row.grade ≤ top_grade) rows _ r.capped (grade_among_row rows object grade e)

-- a row with which nothing is at fault
pub record Follows (rows : List Row) (asks : List Ask) (row : Row) : Type 0 where
  pub capped : row.grade ≤ top_grade
  pub falls : row.grade ≤ last_grade top_grade rows
  pub absent : grade_among rows row.object ≡ None
  pub same : (grade : ℕ) → grade_asked (ask_of asks row.object) ≡ Some grade → grade ≡ row.grade
  pub above : first_above row.grade asks ≡ None

map_none : {X Y : Type 0} (f : X → Y) (o : Option X) → option_map f o ≡ None → o ≡ None
map_none f None e = refl
map_none f (Some x) e = absurd (cc)

no_clash : (o : Option ℕ) (row : Row) (rest : Option SourceFault) → clash_or o row rest ≡ None
    → ((grade : ℕ) → o ≡ Some grade → grade ≡ row.grade) × (rest ≡ None)
no_clash None row rest e = ((λ grade some. absurd (none_not_some some)), e)
no_clash (Some random) row rest e =
    elim (cases_Bool (random == row.grade)) [
      | inl t ↦ ((λ grade some. let is : random ≡ grade = cc in sym is ∙ eqb-true random row.grade t), sym (ap (λ b. cond b rest (Some (Clash row.object row.grade random))) t) ∙ e)
      | inr f ↦ let bad : Some (Clash row.object row.grade random) ≡ None = sym (ap (λ b. cond b rest (Some (Clash row.object row.grade random))) f) ∙ e in absurd (cc)
    ]

pub follows : (rows : List Row) (asks : List Ask) (row : Row) → row_fault rows asks row ≡ None → Follows rows asks row
follows rows asks row e =
    let first = cond_none (nat_lt top_grade row.grade) _ _ e in
    let second = cond_none (nat_lt (last_grade top_grade rows) row.grade) _ _ first.1 in
    let third = cond_none (is_some (grade_among rows row.object)) _ _ second.1 in
    let fourth = no_clash (grade_asked (ask_of asks row.object)) row _ third.1 in
    record {
      capped = ltb-false top_grade row.grade first.0;
      falls = ltb-false (last_grade top_grade rows) row.grade second.0;
      absent = none_unless_some (grade_among rows row.object) third.0;
      same = fourth.0;
      above = map_none (above_fault row.grade) (first_above row.grade asks) fourth.1;
    }

-- what is at fault with a row that is no higher than it may be
fault_by : (rows : List Row) (asks : List Ask) (row : Row) (held : Bool) → row.grade ≤ top_grade → row.grade ≤ last_grade top_grade rows
    → is_some (grade_among rows row.object) ≡ held
    → row_fault rows asks row ≡ cond held (Some (Repeated row.object (length rows + 1))) (fault_by_grades asks row)
fault_by rows asks row held capped falls is =
    let third : Option SourceFault = cond (is_some (grade_among rows row.object)) (Some (Repeated row.object (length rows + 1))) (fault_by_grades asks row) in
    let bottom = last_grade top_grade rows in
    let second : Option SourceFault = cond (nat_lt bottom row.grade) (Some (OutOfOrder (length rows + 1) bottom row.grade)) third in
    ap (λ b. cond b (Some (TooHigh (length rows + 1) row.grade)) second) (le-ltb top_grade row.grade capped)
    ∙ ap (λ b. cond b (Some (OutOfOrder (length rows + 1) bottom row.grade)) third) (le-ltb bottom row.grade falls)
    ∙ ap (λ b. cond b (Some (Repeated row.object (length rows + 1))) (fault_by_grades asks row)) is

-- that its object came before, and else what the grades that were asked for say
pub repeated_fault : (rows seen : List Row) (asks : List Ask) (row : Row) (bottom count : ℕ) → rows ≡ seen → row.grade ≤ top_grade
    → bottom ≡ last_grade top_grade seen → row.grade ≤ bottom → is_some (grade_among seen row.object) ≡ true → count ≡ length seen
    → Some (Repeated row.object (count + 1)) ≡ row_fault rows asks row
repeated_fault rows seen asks row bottom count same capped last falls held counts =
    ap (λ n. Some (Repeated row.object (n + 1))) counts
    ∙ sym (ap (λ (all : List Row). row_fault all asks row) same ∙ fault_by seen asks row true capped (omega arith) held)

pub fault_of_grades : (rows seen : List Row) (asks : List Ask) (row : Row) (bottom : ℕ) (fault : Option SourceFault) → rows ≡ seen → row.grade ≤ top_grade
    → bottom ≡ last_grade top_grade seen → row.grade ≤ bottom → is_some (grade_among seen row.object) ≡ false → fault ≡ fault_by_grades asks row
    → fault ≡ row_fault rows asks row
fault_of_grades rows seen asks row bottom fault same capped last falls held is =
    is ∙ sym (ap (λ (all : List Row). row_fault all asks row) same ∙ fault_by seen asks row false capped (omega arith) held)

-- a state before any event is sound
pub sound_opened : (list count : ℕ) → count ≤ MAX_OBJECTS → IsSound (opened list count)
sound_opened list count small = record {
  log = record {
    ranked = IsRanked-nil;
    fits = omega arith;
    good = All-nil (GoesWith []);
    once = λ i j d l m. absurd (omega arith);
    asked = λ object h. h;
    one_fault = omega arith;
  };
  distinct = λ i j d l m. absurd (omega arith);
  fits = omega arith;
  small = small;
  want = omega arith;
  tally = record { failed = omega arith; garbled = omega arith; memory = omega arith };
}

-- ranked rows with one more that follows
ranked_more : (rows : List Row) (asks : List Ask) (row : Row) → IsRanked rows → Follows rows asks row → IsRanked (rows ++ row ∷ [])
ranked_more rows asks row r f = record {
  distinct = all_pairs_push (λ (above : Row) (below : Row). above.object ≢ below.object) rows row r.distinct
      (λ k d l. λ e. grade_among_none rows row.object f.absent (subst (λ o. Contains (objects rows) o) e (object_of_row rows (slice_index_or rows k d) (contains_at rows k d l))));
  falling = all_pairs_push (λ (above : Row) (below : Row). below.grade ≤ above.grade) rows row r.falling
      (λ k d l. let least : last_grade top_grade rows ≤ (slice_index_or rows k d).grade = last_is_least top_grade rows (slice_index_or rows k d) r (contains_at rows k d l) in let falls = f.falls in omega arith);
  capped = All-push (λ (one : Row). one.grade ≤ top_grade) rows row r.capped f.capped;
}

-- a good grade that the rows don't hold is an open one
open_is : (log : List LogEntry) (graded : Row) → settling_in log graded.object ≡ Some (Graded graded.grade) → grade_among (rows_in log) graded.object ≡ None
    → open_row (ask_in log graded.object) ≡ Some graded
open_is log graded settled absent =
    ap (option_map (λ (grade : ℕ). let row : Row = record { object = graded.object; grade = grade } in row))
    (ap (λ o. cond (is_some o) None (good_grade (settling_in log graded.object))) absent ∙ ap good_grade settled)

-- a good grade goes with one more row that follows
goes_on : (s : State) (row graded : Row) → IsSound s → Follows (rows_in s.log) (asks_of s) row → Contains (graded_in s.log) graded
    → GoesWith (rows_in s.log) graded → GoesWith (rows_in s.log ++ row ∷ []) graded
goes_on s row graded sound f c goes =
    let rows = rows_in s.log in
    let settled : settling_in s.log graded.object ≡ Some (Graded graded.grade) = graded_settling s.log graded sound.log.once c in
    let asked : Contains s.asks graded.object = sound.log.asked graded.object (graded_settled s.log graded c) in
    record {
      same = λ grade e. elim (option_cases (grade_among rows graded.object)) [
        | inl none ↦ last_one s row graded grade sound f asked settled (sym (grade_among_append_none rows (row ∷ []) graded.object none) ∙ e)
        | inr some ↦ goes.same grade (some.1 ∙ sym (grade_among_append_some rows (row ∷ []) graded.object some.0 some.1) ∙ e)
      ];
      below = λ e. elim (option_cases (grade_among rows graded.object)) [
        | inl none ↦ All-push (λ (one : Row). graded.grade ≤ one.grade) rows row (goes.below none)
            (ltb-false row.grade graded.grade (none_found (λ (one : Row). nat_lt row.grade one.grade) (open_rows (asks_of s)) graded f.above
            (contains_filter_map open_row (asks_of s) (ask_in s.log graded.object) graded (contains_map (ask_in s.log) s.asks graded.object asked) (open_is s.log graded settled none))))
        | inr some ↦ absurd (none_not_some (sym e ∙ grade_among_append_some rows (row ∷ []) graded.object some.0 some.1))
      ];
      capped = goes.capped;
    }
  where
    last_one : (s : State) (row graded : Row) (grade : ℕ) → IsSound s → Follows (rows_in s.log) (asks_of s) row → Contains s.asks graded.object
        → settling_in s.log graded.object ≡ Some (Graded graded.grade) → grade_among (row ∷ []) graded.object ≡ Some grade → grade ≡ graded.grade
    last_one s row graded grade sound f asked settled e =
        elim (cases_Bool (row.object == graded.object)) [
          | inl t ↦
              let here : Some row.grade ≡ Some grade = sym (ap (λ b. cond b (Some row.grade) None) t) ∙ e in
              let is : row.grade ≡ grade = cc in
              let same : row.object ≡ graded.object = eqb-true row.object graded.object t in
              let found : grade_asked (ask_of (asks_of s) row.object) ≡ Some graded.grade =
              ap (λ o. grade_asked (ask_of (asks_of s) o)) same ∙ ap grade_asked (ask_is_found s.log s.asks graded.object asked) ∙ ap good_grade settled in
              sym is ∙ sym (f.same graded.grade found)
          | inr n ↦ absurd (none_not_some (sym (ap (λ b. cond b (Some row.grade) None) n) ∙ e))
        ]

-- one more row
pub sound_row : (s : State) (row : Row) → IsSound s → length (rows_in s.log) < s.count → row_fault (rows_in s.log) (asks_of s) row ≡ None
    → IsSound (logged s (Kept row))
sound_row s row sound room none = record {
  log = record {
    ranked = subst IsRanked (sym (kept_rows s.log row)) (ranked_more (rows_in s.log) (asks_of s) row sound.log.ranked f);
    fits = let e : length (rows_in (s.log ++ Kept row ∷ [])) ≡ length (rows_in s.log ++ row ∷ []) = ap (length {A = Row}) (kept_rows s.log row) in omega (arith, e, length-append (rows_in s.log) (row ∷ []));
    good = subst (λ rows. All (GoesWith rows) (graded_in (s.log ++ Kept row ∷ []))) (sym (kept_rows s.log row))
        (subst (λ grades. All (GoesWith (rows_in s.log ++ row ∷ [])) grades) (sym (kept_graded s.log row))
        (all_from_members (GoesWith (rows_in s.log ++ row ∷ [])) (graded_in s.log)
        (λ graded c. goes_on s row graded sound f c (All-contains (GoesWith (rows_in s.log)) (graded_in s.log) graded sound.log.good c))));
    once = subst (AllPairs Apart) (sym (kept_settled s.log row)) sound.log.once;
    asked = λ object c. sound.log.asked object (subst (λ os. Contains os object) (kept_settled s.log row) c);
    one_fault = subst (λ (faults : List SourceFault). length faults ≤ 1) (sym (kept_faults s.log row)) sound.log.one_fault;
  };
  distinct = sound.distinct;
  fits = sound.fits;
  small = sound.small;
  want = sound.want;
  tally = sound.tally;
}
  where
    f : Follows (rows_in s.log) (asks_of s) row
    f = follows (rows_in s.log) (asks_of s) row none

-- one more row fault, where none stands
pub sound_fault : (s : State) (fault : SourceFault) → IsSound s → fault_in s.log ≡ None → IsSound (logged s (Fault fault))
sound_fault s fault sound none = record {
  log = record {
    ranked = subst IsRanked (sym (fault_rows s.log fault)) sound.log.ranked;
    fits = subst (λ (rows : List Row). length rows ≤ s.count) (sym (fault_rows s.log fault)) sound.log.fits;
    good = subst (λ rows. All (GoesWith rows) (graded_in (s.log ++ Fault fault ∷ []))) (sym (fault_rows s.log fault))
        (subst (λ grades. All (GoesWith (rows_in s.log)) grades) (sym (fault_graded s.log fault)) sound.log.good);
    once = subst (AllPairs Apart) (sym (fault_settled s.log fault)) sound.log.once;
    asked = λ object c. sound.log.asked object (subst (λ os. Contains os object) (fault_settled s.log fault) c);
    one_fault =
        let none_yet : faults_in s.log ≡ [] = no_first (faults_in s.log) none in
        let one : faults_in (s.log ++ Fault fault ∷ []) ≡ fault ∷ [] = fault_faults s.log fault ∙ ap (λ fs. fs ++ fault ∷ []) none_yet in
        subst (λ (faults : List SourceFault). length faults ≤ 1) (sym one) (omega arith);
  };
  distinct = sound.distinct;
  fits = sound.fits;
  small = sound.small;
  want = sound.want;
  tally = sound.tally;
}

-- one more settling of a pending ask
goes_alone : (rows : List Row) (object : ℕ) (settling : Settling) → SettlesWell rows object settling
    → All (GoesWith rows) (cons_option (graded_as object settling) [])
goes_alone rows object (Graded grade) h = All-push (GoesWith rows) [] (record { object = object; grade = grade }) (All-nil (GoesWith rows)) h
goes_alone rows object (Bad fault) h = All-nil (GoesWith rows)
goes_alone rows object Missed h = All-nil (GoesWith rows)

pub sound_settling : (s : State) (object : ℕ) (settling : Settling) → IsSound s → asked_in s object ≡ Some became.Pending
    → SettlesWell (rows_in s.log) object settling → IsSound (logged s (Settled object settling))
sound_settling s object settling sound pending well = record {
  log = record {
    ranked = subst IsRanked (sym (settled_rows s.log object settling)) sound.log.ranked;
    fits = subst (λ (rows : List Row). length rows ≤ s.count) (sym (settled_rows s.log object settling)) sound.log.fits;
    good = subst (λ rows. All (GoesWith rows) (graded_in (s.log ++ Settled object settling ∷ []))) (sym (settled_rows s.log object settling))
        (subst (λ grades. All (GoesWith (rows_in s.log)) grades) (sym (settled_graded s.log object settling))
        (All-append (GoesWith (rows_in s.log)) (graded_in s.log) (cons_option (graded_as object settling) []) sound.log.good (goes_alone (rows_in s.log) object settling well)));
    once = subst (AllPairs Apart) (sym (settled_settled s.log object settling))
        (all_pairs_push Apart (settled_in s.log) object sound.log.once
        (λ k d l. λ e. not_settled s.log object parts.1 (subst (λ o. Contains (settled_in s.log) o) e (contains_at (settled_in s.log) k d l))));
    asked = λ other c. elim (Contains-append_cases (settled_in s.log) (object ∷ []) other (subst (λ os. Contains os other) (settled_settled s.log object settling) c)) [
      | inl old ↦ sound.log.asked other old
      | inr new ↦ elim (contains_cases object [] other new) [ inl e ↦ subst (λ o. Contains s.asks o) e parts.0 | inr t ↦ absurd (contains_nil other t) ]
    ];
    one_fault = subst (λ (faults : List SourceFault). length faults ≤ 1) (sym (settled_faults s.log object settling)) sound.log.one_fault;
  };
  distinct = sound.distinct;
  fits = sound.fits;
  small = sound.small;
  want = sound.want;
  tally = sound.tally;
}
  where
    parts : Contains s.asks object × (settling_in s.log object ≡ None)
    parts = pending_parts s object pending

-- a list that was replaced
pub sound_moved : (s : State) (object : Option ℕ) (fault : SourceFault) → IsSound s → MayMove s object → IsSound (moved s object fault)
sound_moved s None fault sound may = sound_fault s fault sound may.0
sound_moved s (Some object) fault sound may = sound_settling s object (Bad fault) sound may tt

-- one more ask
sound_asked : (s : State) (object : ℕ) (found : Option Ask) → IsSound s → ask_of (asks_of s) object ≡ found → (found ≡ None → length s.asks < s.count)
    → IsSound (record s { asks = one_asked found object s.asks; paused = false })
sound_asked s object (Some ask) sound e room = record { log = sound.log; distinct = sound.distinct; fits = sound.fits; small = sound.small; want = sound.want; tally = sound.tally }
sound_asked s object None sound e room = record {
  log = record {
    ranked = sound.log.ranked;
    fits = sound.log.fits;
    good = sound.log.good;
    once = sound.log.once;
    asked = λ other c. Contains-append_left s.asks (object ∷ []) other (sound.log.asked other c);
    one_fault = sound.log.one_fault;
  };
  distinct = all_pairs_push Apart s.asks object sound.distinct
      (λ k d l. λ same. ask_missing s.log s.asks object e (subst (λ o. Contains s.asks o) same (contains_at s.asks k d l)));
  fits = let few : length s.asks < s.count = room refl in omega (arith, length-append s.asks (object ∷ []));
  small = sound.small;
  want = sound.want;
  tally = sound.tally;
}

pub sound_ask : (s : State) (object : ℕ) → IsSound s → (ask_of (asks_of s) object ≡ None → length s.asks < s.count) → IsSound (with_ask s object)
sound_ask s object sound room = sound_asked s object (ask_of (asks_of s) object) sound refl room

-- what a grade settles as goes with the rows
pub settles_well : (rows : List Row) (object grade : ℕ) → IsRanked rows → SettlesWell rows object (settle rows object grade)
settles_well rows object grade r = by_held rows object grade r (grade_among rows object) refl
  where
    good : (rows : List Row) (object grade : ℕ) → IsRanked rows → grade_among rows object ≡ None → grade ≤ last_grade top_grade rows
        → GoesWith rows (record { object = object; grade = grade })
    good rows object grade r none low = record {
      same = λ other e. absurd (none_not_some (sym none ∙ e));
      below = λ e. all_from_members (λ (row : Row). grade ≤ row.grade) rows
          (λ row c. let least : last_grade top_grade rows ≤ row.grade = last_is_least top_grade rows row r c in omega arith);
      capped = let top : last_grade top_grade rows ≤ top_grade = last_below_top rows r in omega arith;
    }

    held : (rows : List Row) (object grade sorted : ℕ) → IsRanked rows → grade_among rows object ≡ Some sorted → sorted ≡ grade
        → GoesWith rows (record { object = object; grade = grade })
    held rows object grade sorted r some is = record {
      same = λ other e. let same : Some sorted ≡ Some other = sym some ∙ e in let one : sorted ≡ other = cc in sym one ∙ is;
      below = λ e. absurd (none_not_some (sym e ∙ some));
      capped = subst (λ g. g ≤ top_grade) is (grade_bounds rows object sorted r some);
    }

    by_held : (rows : List Row) (object grade : ℕ) → IsRanked rows → (o : Option ℕ) → grade_among rows object ≡ o
        → SettlesWell rows object (settle_by o (last_grade top_grade rows) object grade)
    by_held rows object grade r None e =
        elim (cases_Bool (nat_lt (last_grade top_grade rows) grade)) [
          | inl t ↦ subst (λ b. SettlesWell rows object (cond b (Bad (Above object grade (last_grade top_grade rows))) (Graded grade))) (sym t) tt
          | inr f ↦ subst (λ b. SettlesWell rows object (cond b (Bad (Above object grade (last_grade top_grade rows))) (Graded grade))) (sym f)
              (good rows object grade r e (ltb-false (last_grade top_grade rows) grade f))
        ]
    by_held rows object grade r (Some sorted) e =
        elim (cases_Bool (sorted == grade)) [
          | inl t ↦ subst (λ b. SettlesWell rows object (cond b (Graded grade) (Bad (Clash object sorted grade)))) (sym t) (held rows object grade sorted r e (eqb-true sorted grade t))
          | inr f ↦ subst (λ b. SettlesWell rows object (cond b (Graded grade) (Bad (Clash object sorted grade)))) (sym f) tt
        ]
