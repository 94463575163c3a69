-- The open sources of a run gave no more than its lines read of them.
use Rattle.std.proofs.Common.{◌≡◌, ◌≤◌, ◌<◌, ◌+◌, ◌-◌, ◌*◌, ◌/◌, inl, inr, ℕ, cond, min, Option, Some, List, [], ◌∷◌, length, map, take, All, sym, subst, arith, le_trans}
use Rattle.std.specs.List.{AllZip}
use Rattle.std.proofs.lemmas.List.Elements.{All-nil}
use Rattle.std.proofs.lemmas.Bool.{cases_lt}
use Rattle.std.proofs.lemmas.Bool.Decides.{eqb_tells}
use Rattle.ranked_list.specs.declared.row.Row.{Row}
use Rattle.ranked_list.specs.Table.{IsTable}
use Rattle.topk_theory.proofs.AgreementLists.{all_from_members, member_of_all}
use Rattle.source_state.specs.State.{State, IsSound, state_at}
use Rattle.source_state.specs.Looking.{reach_of}
use Rattle.source_api.specs.declared.counts.Counts.{Counts}
use Rattle.source_api.specs.Counting.{no_counts}
use Rattle.query_core.specs.declared.ready.Ready.{Ready as ReadyQuery}
use Rattle.query_run.specs.declared.running_query.RunningQuery.{RunningQuery}
use Rattle.fetcher.proofs.ReachLaws.{reach_more, reach_within}
use Rattle.topk_base.specs.declared.settings.Settings.{Settings}
use Rattle.batch_result.specs.Account.{IsAnsweredOf, IsWithin, Reading, deepest, one_readings, printed_readings}
use Rattle.batch_result.specs.Batches.{BatchRun, BatchState, IsBatch, size_at, use_at}
use Rattle.batch_result.specs.Cut.{IsCut, begun as begun_of}
use Rattle.batch_result.specs.Numbered.{counts_at}
use Rattle.batch_result.specs.Tables.{lists_for}
use Rattle.batch_result.specs.Using.{IsUsed}
use Rattle.batch_result.specs.declared.batch.Use.{Use}
use Rattle.catalog_open.specs.Admissions.{AreAdmitted}
use Rattle.catalog_open.specs.Openings.{IsUnread}
use Rattle.catalog_open.specs.Views.{nothing_told, view_over}
use Rattle.catalog_open.specs.Wanted.{IsWanted}
use Rattle.catalog_run.specs.OpenSources.{batch_over}
use Rattle.catalog_run.specs.Runs.{CatalogRun, IsReadyOf, IsRun}
use Rattle.catalog_run.specs.Cut.{RanOutOfMemory}
use Rattle.query_admission.specs.declared.line_outcome.LineOutcome.{LineOutcome}
use Rattle.query_admission.specs.View.{View}
use Rattle.topk_top.specs.Giving.{CutLinesHaveTables, GaveSparingly, GaveWhatIsRead, HadGivenSparingly, LinesHaveTables}
use Rattle.topk_top.specs.ToldTables.{ShelfTellsTables}
use Rattle.topk_top.proofs.OpenedRuns.{cut_own, of_cut}
use Rattle.topk_top.proofs.ToldLists.{are_read, are_told, has_lists, has_read, lists_read, lists_told, wanted_within}
use Rattle.topk_top.proofs.Given.{cut_gave_what_is_asked, cut_numbered, gave_what_is_asked, given_from_none, numbered}
use Rattle.topk_top.proofs.Unread.{CutGradesAloneGiveNoRow, GradesAloneGiveNoRow, cut_gives_no_row, gives_no_row}

-- the laws of batches, as these lemmas take them
abbrev pub OneRunsBound : Type 0
OneRunsBound =
    (run : BatchRun) (batch : BatchState) → IsBatch run batch → (lists : List (List Row)) → run.told ≡ map Some lists
    → All (λ ready. IsTable ready.count (lists_for lists ready)) run.readies → (source : ℕ) → source < length run.sizes
    → IsWithin run.settings (size_at run.sizes source) source (one_readings lists run.readies) (use_at batch.uses source)

abbrev pub AnswersBound : Type 0
AnswersBound =
    (run : BatchRun) (batch : BatchState) → IsBatch run batch → (source : ℕ) → source < length run.sizes
    → AllZip (IsAnsweredOf source) run.readies batch.endings
    → IsWithin run.settings (size_at run.sizes source) source (printed_readings run.readies batch.endings) (use_at batch.uses source)

abbrev pub CutRunsBound : Type 0
CutRunsBound =
    (run : BatchRun) (cut : IsCut run) (lists : List (List Row)) → run.told ≡ map Some lists
    → All (λ ready. IsTable ready.count (lists_for lists ready)) run.readies → (source : ℕ) → source < length run.sizes
    → IsWithin run.settings (size_at run.sizes source) source (one_readings lists run.readies) (use_at cut.uses source)

-- pages of no rows reach nowhere
reach_zero : (ahead count w : ℕ) → reach_of w 0 ahead count ≤ 0
reach_zero ahead count w =
    let pages : (w + 0 - 1) / 0 * 0 ≡ 0 = grind arith in
    let behind : ahead * 0 ≡ 0 = grind arith in
    elim (eqb_tells w 0) [
      | inl zeros ↦ subst (λ b. cond {A = ℕ} b 0 (min count ((w + 0 - 1) / 0 * 0 + ahead * 0)) ≤ 0) (sym zeros.0) (omega arith)
      | inr apart ↦ subst (λ b. cond {A = ℕ} b 0 (min count ((w + 0 - 1) / 0 * 0 + ahead * 0)) ≤ 0) (sym apart.0) (omega (arith, pages, behind))
    ]

reach_rises : (page ahead count w v : ℕ) → w ≤ v → reach_of w page ahead count ≤ reach_of v page ahead count
reach_rises page ahead count w v l = elim (cases_lt 0 page) [
  | inl some ↦ reach_more page ahead count w v (omega (arith, some)) l
  | inr past ↦
      let none : page ≡ 0 = omega (arith, past) in
      let zeros : reach_of w page ahead count ≤ 0 = subst (λ p. reach_of w p ahead count ≤ 0) (sym none) (reach_zero ahead count w) in
      omega (arith, zeros)
]

-- by what was used of a source that had given nothing
pub gave_read : (settings : Settings) (queries : List RunningQuery) (source size : ℕ) (readings : List Reading) (s : State) (before now : Counts) (used : Use)
    → IsUnread before → s.count ≡ size → (sound : IsSound s) → IsUsed settings queries source s before now used → IsWithin settings size source readings used
    → GaveWhatIsRead settings readings source size now
gave_read settings queries source size readings s before now used unread count sound is within =
    let reach = reach_of used.want settings.page settings.ahead size in
    let small : s.count ≤ 200000 = sound.small in
    let inside = reach_within settings.page settings.ahead size used.want in
    let rows : now.rows_given ≤ reach =
    given_from_none used.rows reach before.rows_given now.rows_given unread.rows is.rows within.rows (omega (arith, inside, count, small)) in
    let asks : used.asks ≡ length s.asks = is.asks in
    let fits : length s.asks ≤ s.count = sound.fits in
    let grades : now.grades_given ≤ used.asks =
    given_from_none used.grades used.asks before.grades_given now.grades_given unread.grades is.grades within.grades (omega (arith, asks, fits, small)) in
    record {
      rows = le_trans rows (reach_rises settings.page settings.ahead size used.want (deepest source readings) within.want);
      grades = le_trans grades within.asks;
    }

gave_within : (r : CatalogRun) (outcomes : List LineOutcome) (run : IsRun r outcomes) (readings : List Reading) (source : ℕ)
    → source < length run.sources.places → (source < length run.sources.counts
    → IsWithin r.settings (size_at run.sources.counts source) source readings (use_at run.ran.batch.uses source))
    → GaveWhatIsRead r.settings readings source (size_at run.sources.counts source) (counts_at run.now source)
gave_within r outcomes run readings source within bound =
    let b = run.ran.ran in
    let at = numbered r outcomes run source within in
    let closing = b.closing source at.0 in
    gave_read r.settings b.queries source (size_at run.sources.counts source) readings (state_at b.states source) (counts_at run.begun source)
    (counts_at run.now source) (use_at run.ran.batch.uses source) (run.unread source no_counts at.1) closing.count closing.sound (b.used source at.0) (bound at.0)

pub gave_sparingly : OneRunsBound → AnswersBound → GradesAloneGiveNoRow → (r : CatalogRun) (outcomes : List LineOutcome) (run : IsRun r outcomes) (source : ℕ)
    → source < length run.sources.places
    → GaveSparingly r outcomes run source (size_at run.sources.counts source) (counts_at run.now source)
gave_sparingly one_runs answers no_row r outcomes run source within =
    let over : BatchRun = batch_over r.settings run.sources run.begun run.now run.made run.calls run.ran.readies in
    record {
      asked = gave_what_is_asked r outcomes run source within;
      unread = λ none. gives_no_row no_row r outcomes run source within none;
      read = λ lists has.
          gave_within r outcomes run (one_readings lists run.ran.readies) source within
          (λ sized. one_runs over run.ran.batch run.ran.ran lists has.told has.tables source sized);
      answered = λ answered.
          gave_within r outcomes run (printed_readings run.ran.readies run.ran.batch.endings) source within
          (λ sized. answers over run.ran.batch run.ran.ran source sized answered);
    }

-- the same where memory ran out
pub cut_gave_sparingly : CutRunsBound → CutGradesAloneGiveNoRow → (r : CatalogRun) (cut : RanOutOfMemory r) (source : ℕ) → source < length cut.sources.places
    → HadGivenSparingly r cut source (size_at cut.sources.counts source) (counts_at cut.now source)
cut_gave_sparingly bound no_row r cut source within =
    let b = cut.read.cut in
    let at = cut_numbered r cut source within in
    let closing = b.read.closing source at.0 in
    let over : BatchRun = batch_over r.settings cut.sources cut.begun cut.now cut.made cut.calls cut.read.readies in
    record {
      asked = cut_gave_what_is_asked r cut source within;
      unread = λ none. cut_gives_no_row no_row r cut source within none;
      read = λ lists has.
          gave_read r.settings (begun_of b.stood) source (size_at cut.sources.counts source) (one_readings lists cut.read.readies) (state_at b.states source)
          (counts_at cut.begun source) (counts_at cut.now source) (use_at b.uses source) (cut.unread source no_counts at.1) closing.count closing.sound
          (b.read.used source at.0) (bound over b lists has.told has.tables source at.0);
    }

-- where the shelf tells tables and nothing fails, the sources tell lists that form tables for the lines that ran
pub lines_have_tables : (r : CatalogRun) (outcomes : List LineOutcome) (run : IsRun r outcomes) (tells : ShelfTellsTables r)
    → LinesHaveTables r outcomes run (lists_told r outcomes run tells)
lines_have_tables r outcomes run tells =
    let lists = lists_told r outcomes run tells in
    record {
      told = sym (are_told r outcomes run tells);
      tables = all_from_members (λ (ready : ReadyQuery). IsTable ready.count (lists_for lists ready)) run.ran.readies
          (λ ready c.
          let own = member_of_all (IsReadyOf (view_over r.catalog run.openings nothing_told) r.lines) run.ran.readies ready run.ran.own c in
          let has = has_lists r outcomes run tells own.at own.bytes ready own.line own.admitted in
          subst (IsTable ready.count) has.is has.table);
    }

-- so they do where memory ran out
cut_every : (r : CatalogRun) (cut : RanOutOfMemory r) → 0 < cut.read.admitted → (place : ℕ) → IsWanted r.catalog r.lines place → place < length cut.openings
cut_every r cut some place wanted =
    let inside = wanted_within r place wanted in
    let all = (cut.first some).0 in
    omega (arith, inside, all)

none_ready : (view : View) (number : ℕ) (readies : List ReadyQuery) (outcomes : List (Option LineOutcome)) → AreAdmitted view number [] outcomes readies → readies ≡ []
none_ready view number readies [] are = are
none_ready view number readies (o ∷ outcomes) are = absurd are

pub cut_lines_have_tables : (r : CatalogRun) (cut : RanOutOfMemory r) (tells : ShelfTellsTables r) → CutLinesHaveTables r cut (lists_read r (of_cut r cut) tells)
cut_lines_have_tables r cut tells =
    let lists = lists_read r (of_cut r cut) tells in
    let V = view_over r.catalog cut.openings nothing_told in
    let Tabled = λ (ready : ReadyQuery). IsTable ready.count (lists_for lists ready) in
    let some : 0 < cut.read.admitted → All Tabled cut.read.readies =
    λ begins.
    all_from_members Tabled cut.read.readies
    (λ ready c.
    let own = member_of_all (IsReadyOf V r.lines) cut.read.readies ready (cut_own r cut) c in
    let has = has_read r (of_cut r cut) tells (cut_every r cut begins) own.at own.bytes ready own.line own.admitted in
    subst (IsTable ready.count) has.is has.table) in
    let none : cut.read.admitted ≡ 0 → All Tabled cut.read.readies =
    λ zeros.
    let are = subst (λ n. AreAdmitted V 1 (take n r.lines) cut.read.outcomes cut.read.readies) zeros cut.read.are in
    subst (All Tabled) (sym (none_ready V 1 cut.read.readies cut.read.outcomes are)) (All-nil Tabled) in
    record {
      told = sym (are_read r (of_cut r cut) tells);
      tables = elim (cases_lt 0 cut.read.admitted) [ inl begins ↦ some begins | inr past ↦ none (omega (arith, past)) ];
    }
