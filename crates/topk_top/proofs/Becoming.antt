-- What becomes of each line where the sources tell tables and nothing failed.
use Rattle.std.proofs.Common.{◌≡◌, ℕ, suc, ◌+◌, ◌<◌, ◌≤◌, true, List, [], ◌∷◌, Contains, map, length, inl, inr, Some, slice_get, slice_index_or, refl, sym, ap, ◌∙◌, subst, arith}
use Rattle.std.proofs.lemmas.Bool.{cases_lt}
use Rattle.std.proofs.lemmas.Option.{same_Some}
use Rattle.std.proofs.lemmas.List.Elements.{length_all_zip}
use Rattle.tk_io.specs.Faults.{Rose}
use Rattle.ranked_list.specs.declared.row.Row.{Row}
use Rattle.ranked_list.specs.Table.{IsTable}
use Rattle.ranked_list.specs.declared.need.Need.{Need}
use Rattle.ranked_list.specs.declared.need.Need.TheVariants as need
use Rattle.topk_theory.specs.Transcript.{list_at}
use Rattle.topk_theory.proofs.AgreementLists.{contains_here, contains_there, member_of_all}
use Rattle.machine_base.specs.declared.core_fault.CoreFault.TheVariants as core
use Rattle.source_api.specs.Counting.{NoneFell}
use Rattle.source_api.specs.declared.source.FailKind.{FailKind}
use Rattle.source_api.specs.declared.source.FailKind.TheVariants as kind
use Rattle.source_state.specs.declared.entry.SourceFault.TheVariants as fault
use Rattle.source_state.specs.declared.look.LookFault.{LookFault}
use Rattle.source_state.specs.declared.look.LookFault.TheVariants as why
use Rattle.source_state.specs.State.{State, state_at}
use Rattle.cert_text.specs.declared.outcome.Outcome.{Outcome}
use Rattle.cert_text.specs.declared.outcome.Outcome.TheVariants.{Answered}
use Rattle.query_core.specs.declared.ready.Ready.{Ready as ReadyQuery}
use Rattle.query_admission.specs.View.{View}
use Rattle.query_admission.specs.Causes.{most_queries, Cause, admission_causes, line_over}
use Rattle.query_admission.specs.Admission.{IsAdmitted}
use Rattle.query_admission.specs.Becomes.{Becomes}
use Rattle.query_admission.proofs.Becoming.{answered_line, full_line, refused_line}
use Rattle.query_run.specs.declared.ended.Ended.{Ended}
use Rattle.query_run.specs.declared.ended.Ended.TheVariants as ended
use Rattle.query_run.specs.declared.ended.Refusal.TheVariants as refusal
use Rattle.query_run.specs.declared.running_query.RunningQuery.{RunningQuery}
use Rattle.query_run.specs.Inquiries.{needed, source_needed, source_of}
use Rattle.query_run.specs.Causes.{IsAtFault, IsCause}
use Rattle.query_run.proofs.Serving.{of_some_list, source_there as needs_source}
use Rattle.fetcher.specs.Moving.{TellsMove}
use Rattle.query_core.specs.Machines.{state_of}
use Rattle.batch_result.specs.Numbered.{counts_at, version_at}
use Rattle.query_run.specs.Endings.{EndsAs}
use Rattle.query_run.specs.Honest.{lists_of, IsOnItsRun}
use Rattle.query_run.specs.Kept.{IsServed}
use Rattle.query_run.specs.Made.{IsOf}
use Rattle.batch_result.specs.Batches.{IsSpared}
use Rattle.batch_result.specs.Tables.{EndsOver}
use Rattle.batch_result.specs.Using.{is_fail}
use Rattle.batch_result.proofs.EndingLaws.{counted_for}
use Rattle.batch_result.proofs.RunOverLists.{ends_over}
use Rattle.catalog_open.specs.Views.{view_over, nothing_told}
use Rattle.catalog_open.specs.Entries.{entry_at}
use Rattle.catalog_open.specs.Openings.{TroubleAt}
use Rattle.catalog_open.specs.Wanted.{IsWanted}
use Rattle.catalog_open.proofs.Moving.{moves_at, trouble_from}
use Rattle.query_admission.specs.declared.line_outcome.LineOutcome.{LineOutcome}
use Rattle.line_outcome.specs.Outcomes.{ended_outcome}
use Rattle.catalog_run.specs.Runs.{CatalogRun, IsRun, IsLineRun, AreOutcomes}
use Rattle.line_outcome.specs.LineOutcomes.{IsLineRefused}
use Rattle.topk_top.specs.ToldTables.{view_told, ShelfTellsTables, AllBecome}
use Rattle.topk_top.proofs.Alike.{Alike, SameTold, becomes_alike, late_refused, none_alike, refused_alike, unseen_rows}
use Rattle.catalog_run.proofs.Failing.{calls_behind, counted_back, refused_there, rose_faults, rose_garbles, rose_moves}
use Rattle.catalog_run.proofs.Readies.{admitted_few}
use Rattle.topk_top.proofs.ToldLists.{HasLists, QueriesAreOnTheirRuns, from_told, has_lists, lists_told, on_their_runs, to_told}
use Rattle.catalog_run.proofs.Whole.{open_wanted}

-- a need that a replaced list keeps from being met
tells_move : (s : State) (n : Need) (had other : ℕ) → IsAtFault s n (fault.Moved had other) → TellsMove s.log had other
tells_move s (need.Row list depth) had other h = inl h.1
tells_move s (need.Grade list object) had other h = inr (object, h)
tells_move s need.Done had other h = absurd h

module _ (r : CatalogRun) (outcomes : List LineOutcome) (run : IsRun r outcomes) where
  -- the place on the shelf of the source of a query's list
  abbrev pub text_for : RunningQuery → ℕ → List ℕ
  text_for q list = (entry_at r.catalog (slice_index_or run.sources.places (source_of q list) 0)).place

  pub served_all : (q : RunningQuery) → Contains run.ran.ran.queries q → IsServed run.ran.ran.states q
  served_all q c = member_of_all (IsServed run.ran.ran.states) run.ran.ran.queries q run.ran.ran.served c

  -- where a query is refused because a call failed, the source of its list is there
  pub source_there : (what : FailKind) (fault : LookFault) (q : RunningQuery) (list : ℕ) → is_fail what fault ≡ true → Contains run.ran.ran.queries q
      → q.refusal ≡ Some (refusal.Look list fault) → source_of q list < length run.sources.counts
  source_there what fault q list is c e =
      let counted = counted_for what fault run.ran.ran.states q list is (served_all q c) e in
      let there = refused_there run.ran.ran.states q list fault (served_all q c) e in
      let within : source_needed q < length run.ran.ran.states = counted.0 in
      let same : source_of q list ≡ source_needed q = there.is in
      let long : length run.ran.ran.states ≡ length run.sources.counts = run.ran.ran.many in
      omega (arith, within, same, long)

  pub still_many : length run.now ≡ length run.sources.places
  still_many = sym (length_all_zip NoneFell run.begun run.now run.ran.later) ∙ run.ran.many ∙ run.opened.many_told

  -- it is open, and what it counted rose
  pub failed_rose_at : (q : RunningQuery) (list : ℕ) → Contains run.ran.ran.queries q → q.refusal ≡ Some (refusal.Look list (why.Call kind.Failed))
      → (source_of q list < length run.sources.places) × Rose (run.mid (text_for q list)).sources.faults (r.after (text_for q list)).sources.faults
  failed_rose_at q list c e =
      let source = source_of q list in
      let there = source_there kind.Failed (why.Call kind.Failed) q list refl c e in
      let counts_long = run.opened.many_counts in
      let now_long = still_many in
      let within : source < length run.sources.places = omega (arith, there, counts_long) in
      let inside : source < length run.now = omega (arith, within, now_long) in
      let counted = run.ran.ran.counted source there in
      let some = calls_behind kind.Failed (why.Call kind.Failed) run.ran.ran.states run.ran.ran.queries q list r.settings.workers _ _ _ refl (served_all q c) c e counted.failed in
      (within, rose_faults _ run.mid r.after (text_for q list) _ run.back (counted_back r.catalog run.sources.places run.now source within inside) some)

  pub garbled_rose_at : (q : RunningQuery) (list : ℕ) → Contains run.ran.ran.queries q → q.refusal ≡ Some (refusal.Look list (why.Call kind.Garbled))
      → (source_of q list < length run.sources.places) × Rose (run.mid (text_for q list)).sources.garbles (r.after (text_for q list)).sources.garbles
  garbled_rose_at q list c e =
      let source = source_of q list in
      let there = source_there kind.Garbled (why.Call kind.Garbled) q list refl c e in
      let counts_long = run.opened.many_counts in
      let now_long = still_many in
      let within : source < length run.sources.places = omega (arith, there, counts_long) in
      let inside : source < length run.now = omega (arith, within, now_long) in
      let counted = run.ran.ran.counted source there in
      let some = calls_behind kind.Garbled (why.Call kind.Garbled) run.ran.ran.states run.ran.ran.queries q list r.settings.workers _ _ _ refl (served_all q c) c e counted.garbled in
      (within, rose_garbles _ run.mid r.after (text_for q list) _ run.back (counted_back r.catalog run.sources.places run.now source within inside) some)

  -- where a query is refused because a list was replaced, the log of its source tells this, what the source counted rose, and the version that it had is the
  -- one at hand
  pub moved_rose_at : (q : RunningQuery) (list had other : ℕ) → Contains run.ran.ran.queries q → q.refusal ≡ Some (refusal.Look list (why.Source (fault.Moved had other)))
      → (source_of q list < length run.sources.places) × Rose (run.mid (text_for q list)).sources.moves (r.after (text_for q list)).sources.moves
      × (had ≡ version_at run.sources.versions (source_of q list))
  moved_rose_at q list had other c e =
      let states = run.ran.ran.states in
      let served = served_all q c in
      let source = source_of q list in
      let same : source ≡ source_needed q = (refused_there states q list (why.Source (fault.Moved had other)) served e).is in
      let cause = subst (IsCause (state_at states (source_needed q)) (state_of q.machine) q.waiting.noted) e served.cause in
      let within_states = (needs_source states q served.sources served.run (of_some_list list (needed q) cause.0)).0 in
      let many = run.ran.ran.many in
      let counts_long = run.opened.many_counts in
      let now_long = still_many in
      let there : source < length run.sources.counts = omega (arith, within_states, same, many) in
      let within : source < length run.sources.places = omega (arith, there, counts_long) in
      let inside : source < length run.now = omega (arith, within, now_long) in
      let tells : TellsMove (state_at states source).log had other =
      subst (λ n. TellsMove (state_at states n).log had other) (sym same) (tells_move (state_at states (source_needed q)) (needed q) had other cause.1) in
      let replaced = (run.ran.ran.counted source there).moved had other tells in
      let rose : Rose (counts_at run.begun source).moves (counts_at run.now source).moves = replaced.counted in
      let some : 1 ≤ (counts_at run.now source).moves = omega (arith, rose) in
      (within, rose_moves _ run.mid r.after (text_for q list) _ run.back (counted_back r.catalog run.sources.places run.now source within inside) some, replaced.at_hand)

  module _ (law : QueriesAreOnTheirRuns) (tells : ShelfTellsTables r) where
    abbrev V : View
    V = view_over r.catalog run.openings nothing_told

    abbrev T : View
    T = view_over r.catalog run.openings r.lists

    abbrev W : View
    W = view_told r.catalog r.lists r.versions

    -- nothing failed
    calm : (place : ℕ) → IsWanted r.catalog r.lines place → TroubleAt (r.before (entry_at r.catalog place).place) (r.after (entry_at r.catalog place).place) → ⊥
    calm = tells.untroubled

    wanted_source : (q : RunningQuery) (list : ℕ) → source_of q list < length run.sources.places
        → IsWanted r.catalog r.lines (slice_index_or run.sources.places (source_of q list) 0)
    wanted_source q list within = open_wanted r.lists r.versions r.catalog (IsWanted r.catalog r.lines) r.before run.mid run.openings run.sources run.opened (source_of q list) within

    -- trouble while the lines ran is trouble in the run
    troubled : (text : List ℕ) → TroubleAt (run.mid text) (r.after text) → TroubleAt (r.before text) (r.after text)
    troubled text trouble = trouble_from (r.before text) (run.mid text) (r.after text) (moves_at run.opened.used r.before run.mid text run.opened.moves) trouble

    none_failed : (q : RunningQuery) (list : ℕ) → Contains run.ran.ran.queries q → q.refusal ≡ Some (refusal.Look list (why.Call kind.Failed)) → ⊥
    none_failed q list c e =
        let h = failed_rose_at q list c e in
        calm (slice_index_or run.sources.places (source_of q list) 0) (wanted_source q list h.0) (troubled (text_for q list) (inr (inl h.1)))

    none_garbled : (q : RunningQuery) (list : ℕ) → Contains run.ran.ran.queries q → q.refusal ≡ Some (refusal.Look list (why.Call kind.Garbled)) → ⊥
    none_garbled q list c e =
        let h = garbled_rose_at q list c e in
        calm (slice_index_or run.sources.places (source_of q list) 0) (wanted_source q list h.0) (troubled (text_for q list) (inr (inr h.1)))

    -- a line that admission refuses
    refused_becomes : (at : ℕ) (bytes : List ℕ) (o : LineOutcome) → slice_get r.lines at ≡ Some bytes → IsLineRefused V (at + 1) bytes o
        → Becomes (line_over W (at + 1) bytes) o.query o.count o.versions o.outcome
    refused_becomes at bytes o line is =
        subst (Becomes (line_over W (at + 1) bytes) o.query o.count o.versions) (sym is.outcome)
        (refused_line (line_over W (at + 1) bytes) is.refusal o.query o.count o.versions
        (elim (cases_lt most_queries (at + 1)) [
          | inl late ↦ late_refused V W (at + 1) bytes is.refusal o.query late is.refused
          | inr few ↦ refused_alike V W (at + 1) bytes (to_told r outcomes run tells at bytes line few) (from_told r outcomes run tells at bytes line few) admission_causes
              (unseen_rows V W) (unseen_rows W V) is.refusal o.query is.refused
        ]))

    -- over the rows that are told the line is admitted too
    admitted_told : (number : ℕ) (bytes : List ℕ) (ready : ReadyQuery) → IsAdmitted (line_over V number bytes) ready
        → IsAdmitted (line_over T number bytes) ready
    admitted_told number bytes ready admitted = record {
      unrefused = none_alike V T number bytes same_lists admission_causes (unseen_rows T V) admitted.unrefused;
      sound = admitted.sound;
      reads = admitted.reads;
      lists = admitted.lists;
      listed = admitted.listed;
      count = admitted.count;
      sources = admitted.sources;
      versions = admitted.versions;
      sorted = admitted.sorted;
    }
      where
        same_lists : Alike bytes T.listed V.listed
        same_lists = record { known = λ q reads. refl; lists = λ q xs reads e. record { lists = xs; there = e; same = refl } }

    same_rows : (c : Cause) → SameTold T W c
    same_rows Cause.many_queries = tt
    same_rows Cause.text = tt
    same_rows Cause.unknown_list = tt
    same_rows Cause.not_opened = tt
    same_rows Cause.too_large = tt
    same_rows Cause.counts_differ = tt
    same_rows Cause.k_above_count = tt
    same_rows Cause.no_random = tt
    same_rows Cause.no_sorted = tt
    same_rows Cause.room_full = refl

    rows_same : (c : Cause) → SameTold W T c
    rows_same Cause.many_queries = tt
    rows_same Cause.text = tt
    rows_same Cause.unknown_list = tt
    rows_same Cause.not_opened = tt
    rows_same Cause.too_large = tt
    rows_same Cause.counts_differ = tt
    rows_same Cause.k_above_count = tt
    rows_same Cause.no_random = tt
    rows_same Cause.no_sorted = tt
    rows_same Cause.room_full = refl

    -- how a query ended over its lists is what becomes of its line
    ended_becomes : (number : ℕ) (bytes : List ℕ) (ready : ReadyQuery) (D : List (List Row)) (e : Ended) (outcome : Outcome)
        → IsAdmitted (line_over V number bytes) ready → map T.told ready.query.names ≡ map Some D → EndsOver D ready e → ended_outcome e ≡ Some outcome
        → Becomes (line_over T number bytes) (Some ready.query) ready.count ready.versions.items outcome
    ended_becomes number bytes ready D (ended.Answered answer) outcome admitted told over is =
        subst (Becomes (line_over T number bytes) (Some ready.query) ready.count ready.versions.items) (same_Some (Answered answer) outcome is)
        (answered_line (line_over T number bytes) ready D answer (admitted_told number bytes ready admitted) told over)
    ended_becomes number bytes ready D (ended.Core (core.Strangers object count)) outcome admitted told over is = absurd over
    ended_becomes number bytes ready D (ended.Core (core.RoomFull room)) outcome admitted told over is =
        subst (Becomes (line_over T number bytes) (Some ready.query) ready.count ready.versions.items) (same_Some _ outcome is)
        (full_line (line_over T number bytes) ready D room ready.count ready.versions.items (admitted_told number bytes ready admitted) told over)
    ended_becomes number bytes ready D (ended.Look list fault) outcome admitted told over is = absurd over

    -- a query that ran ended over its lists
    ends_there : (ready : ReadyQuery) (q : RunningQuery) (e : Ended) → (has : HasLists r (lists_told r outcomes run tells) ready) → IsOf ready q
        → Contains run.ran.ran.queries q → EndsAs q e → EndsOver has.D ready e
    ends_there ready q e has of c ends =
        let lists = lists_told r outcomes run tells in
        let same : has.D ≡ lists_of lists q = has.is ∙ ap (map (list_at lists)) (sym of.sources) in
        let on = member_of_all (IsOnItsRun lists) run.ran.ran.queries q (on_their_runs r outcomes run tells law) c in
        let spared = member_of_all IsSpared run.ran.ran.queries q run.ran.ran.spared c in
        subst (λ D. EndsOver D ready e) (sym same)
        (ends_over lists run.ran.ran.states ready q (served_all q c) of (subst (IsTable ready.count) same has.table) on.agrees on
        (λ list is. none_failed q list c is) (λ list is. none_garbled q list c is) spared e ends)

    run_becomes : (at : ℕ) (bytes : List ℕ) (o : LineOutcome) (q : RunningQuery) → slice_get r.lines at ≡ Some bytes → Contains run.ran.ran.queries q
        → IsLineRun V q (at + 1) bytes o → Becomes (line_over W (at + 1) bytes) o.query o.count o.versions o.outcome
    run_becomes at bytes o q line c is =
        let has = has_lists r outcomes run tells at bytes is.ready line is.admitted in
        let few = admitted_few V (at + 1) bytes is.admitted.unrefused in
        let becomes = ended_becomes (at + 1) bytes is.ready has.D is.ended o.outcome is.admitted has.told (ends_there is.ready q is.ended has is.of c is.ends) is.outcome.outcome in
        let moved : Becomes (line_over W (at + 1) bytes) (Some is.ready.query) is.ready.count is.ready.versions.items o.outcome =
        becomes_alike T W (at + 1) bytes (to_told r outcomes run tells at bytes line few) (from_told r outcomes run tells at bytes line few) same_rows rows_same (Some is.ready.query) is.ready.count is.ready.versions.items o.outcome becomes in
        subst (λ query. Becomes (line_over W (at + 1) bytes) query o.count o.versions o.outcome) (sym is.outcome.query)
        (subst (λ count. Becomes (line_over W (at + 1) bytes) (Some is.ready.query) count o.versions o.outcome) (sym is.outcome.count)
        (subst (λ versions. Becomes (line_over W (at + 1) bytes) (Some is.ready.query) is.ready.count versions o.outcome) (sym is.outcome.versions) moved))

    -- the lines from one on
    all_become : (at : ℕ) (queries : List RunningQuery) (lines : List (List ℕ)) (others : List LineOutcome)
        → ((i : ℕ) (bytes : List ℕ) → slice_get lines i ≡ Some bytes → slice_get r.lines (at + i) ≡ Some bytes)
        → ((q : RunningQuery) → Contains queries q → Contains run.ran.ran.queries q)
        → AreOutcomes V queries (at + 1) lines others → AllBecome W (at + 1) lines others
    all_become at queries [] [] lines_are there are = tt
    all_become at queries [] (o ∷ others) lines_are there are = absurd are
    all_become at queries (bytes ∷ lines) [] lines_are there are = absurd are
    all_become at queries (bytes ∷ lines) (o ∷ others) lines_are there are =
        let none : at + 0 ≡ at = omega arith in
        let line : slice_get r.lines at ≡ Some bytes = subst (λ i. slice_get r.lines i ≡ Some bytes) none (lines_are 0 bytes refl) in
        let rest : (i : ℕ) (b : List ℕ) → slice_get lines i ≡ Some b → slice_get r.lines (at + 1 + i) ≡ Some b =
        λ i b e. let next : at + suc i ≡ at + 1 + i = omega arith in subst (λ j. slice_get r.lines j ≡ Some b) next (lines_are (suc i) b e) in
        elim are [
          | inl refused ↦ (refused_becomes at bytes o line refused.0, all_become (at + 1) queries lines others rest there refused.1)
          | inr ran ↦
              let all : (q : RunningQuery) → Contains (ran.0 ∷ ran.1) q → Contains run.ran.ran.queries q = λ q c. there q (subst (λ qs. Contains qs q) (sym ran.2) c) in (
                run_becomes at bytes o ran.0 line (all ran.0 (contains_here ran.0 ran.1)) ran.3,
                all_become (at + 1) ran.1 lines others rest (λ q c. all q (contains_there ran.0 ran.1 q c)) ran.4,
              )
        ]

    pub lines_become : AllBecome W 1 r.lines outcomes
    lines_become = all_become 0 run.ran.ran.queries r.lines outcomes (λ i bytes e. let same : i ≡ 0 + i = omega arith in subst (λ j. slice_get r.lines j ≡ Some bytes) same e) (λ q c. c) run.ran.outcomes_are
