-- The open sources of a run gave no more than was asked of them.
use Rattle.std.proofs.Common.{◌≡◌, ℕ, ◌+◌, ◌-◌, ◌^◌, ◌<◌, ◌≤◌, min, List, [], ◌∷◌, length, reverse, refl, ap, ◌∙◌, subst, arith}
use Rattle.std.specs.List.{sum_by}
use Rattle.std.proofs.lemmas.List.Sums.{sum_by-cons}
use Rattle.topk_theory.proofs.AgreementLists.{all_from_members}
use Rattle.source_api.specs.declared.counts.Counts.{Counts}
use Rattle.source_api.specs.Counting.{added, no_counts, raised}
use Rattle.source_state.specs.State.{State, IsSound, state_at}
use Rattle.source_state.specs.Looking.{reach_of}
use Rattle.query_run.specs.declared.running_query.RunningQuery.{RunningQuery}
use Rattle.fetcher.specs.Metering.{WentUp}
use Rattle.fetcher.proofs.ReachLaws.{reach_within}
use Rattle.topk_base.specs.declared.settings.Settings.{Settings}
use Rattle.batch_result.specs.Numbered.{counts_at}
use Rattle.batch_result.specs.declared.batch.Use.{Use}
use Rattle.batch_result.specs.Batches.{size_at, use_at}
use Rattle.batch_result.specs.Cut.{begun as begun_of}
use Rattle.batch_result.specs.Using.{IsNamedBy, IsUsed}
use Rattle.catalog_open.specs.Openings.{IsUnread, added_all, put_back, used_at}
use Rattle.query_admission.specs.declared.line_outcome.LineOutcome.{LineOutcome}
use Rattle.catalog_run.specs.Runs.{CatalogRun, IsRun}
use Rattle.catalog_run.specs.Cut.{RanOutOfMemory}
use Rattle.topk_top.specs.Giving.{GaveWhatIsAsked, RoseByGiven}
use Rattle.topk_top.proofs.FewLines.{sum_turned}
use Rattle.topk_top.proofs.OpenedRuns.{OpenedRun}

-- a count of what was given, from none on
pub given_from_none : (number most before now : ℕ) → before ≡ 0 → raised now 0 ≡ raised before number → number ≤ most → most ≤ 200000 → now ≤ most
given_from_none number most before now none up few small = omega (arith, none, up, few, small)

-- the number of a source of a run is one of its sizes, and of the counts with which it began
pub numbered : (r : CatalogRun) (outcomes : List LineOutcome) (run : IsRun r outcomes) (source : ℕ) → source < length run.sources.places
    → (source < length run.sources.counts) × (source < length run.begun)
numbered r outcomes run source within =
    let counts_long = run.opened.many_counts in
    let told_long = run.opened.many_told in
    let begun_long = run.ran.many in
    (omega (arith, within, counts_long), omega (arith, within, told_long, begun_long))

-- the same where memory ran out
pub cut_numbered : (r : CatalogRun) (cut : RanOutOfMemory r) (source : ℕ) → source < length cut.sources.places
    → (source < length cut.sources.counts) × (source < length cut.begun)
cut_numbered r cut source within =
    let counts_long = cut.opened.many_counts in
    let told_long = cut.opened.many_told in
    let begun_long = cut.read.many in
    (omega (arith, within, counts_long), omega (arith, within, told_long, begun_long))

-- by what was used of a source that had given nothing, and its closing state
gave_used : (settings : Settings) (queries : List RunningQuery) (source size : ℕ) (s : State) (before now : Counts) (used : Use) → IsUnread before
    → s.count ≡ size → (sound : IsSound s) → IsUsed settings queries source s before now used
    → GaveWhatIsAsked settings queries source size now
gave_used settings queries source size s before now used unread count sound is =
    let small : s.count ≤ 200000 = sound.small in
    let within = reach_within settings.page settings.ahead s.count used.want in
    let few : reach_of used.want settings.page settings.ahead s.count ≤ 200000 = omega (arith, small, within) in
    let rows : now.rows_given ≤ reach_of used.want settings.page settings.ahead s.count =
    given_from_none used.rows (reach_of used.want settings.page settings.ahead s.count) before.rows_given now.rows_given unread.rows is.rows is.reach few in
    let asks : used.asks ≡ length s.asks = is.asks in
    let once : used.grades ≤ used.asks = is.once in
    let fits : length s.asks ≤ s.count = sound.fits in
    record {
      depth = used.want;
      deep = is.wanted;
      rows = subst (λ n. now.rows_given ≤ reach_of used.want settings.page settings.ahead n) count rows;
      objects = s.asks;
      distinct = sound.distinct;
      named = all_from_members (IsNamedBy queries source) s.asks is.named;
      grades = given_from_none used.grades (length s.asks) before.grades_given now.grades_given unread.grades is.grades (omega (arith, once, asks))
          (omega (arith, fits, small));
    }

pub cut_gave_what_is_asked : (r : CatalogRun) (cut : RanOutOfMemory r) → (source : ℕ) → source < length cut.sources.places
    → GaveWhatIsAsked r.settings (begun_of cut.read.cut.stood) source (size_at cut.sources.counts source) (counts_at cut.now source)
cut_gave_what_is_asked r cut source within =
    let b = cut.read.cut in
    let at = cut_numbered r cut source within in
    let closing = b.read.closing source at.0 in
    gave_used r.settings (begun_of b.stood) source (size_at cut.sources.counts source) (state_at b.states source) (counts_at cut.begun source)
    (counts_at cut.now source) (use_at b.uses source) (cut.unread source no_counts at.1) closing.count closing.sound (b.read.used source at.0)

pub gave_what_is_asked : (r : CatalogRun) (outcomes : List LineOutcome) (run : IsRun r outcomes) → (source : ℕ) → source < length run.sources.places
    → GaveWhatIsAsked r.settings run.ran.ran.queries source (size_at run.sources.counts source) (counts_at run.now source)
gave_what_is_asked r outcomes run source within =
    let b = run.ran.ran in
    let at = numbered r outcomes run source within in
    let closing = b.closing source at.0 in
    gave_used r.settings b.queries source (size_at run.sources.counts source) (state_at b.states source) (counts_at run.begun source) (counts_at run.now source) (use_at run.ran.batch.uses source)
    (run.unread source no_counts at.1) closing.count closing.sound (b.used source at.0)

-- what is counted of sources that were put back
rows_sum : (c : Counts) (xs : List Counts) → min (added_all c xs).rows_given (2 ^ 64 - 1) ≡ min (c.rows_given + sum_by (λ (x : Counts). x.rows_given) xs) (2 ^ 64 - 1)
rows_sum c [] = let none : sum_by (λ (x : Counts). x.rows_given) [] ≡ 0 = refl in omega (arith, none)
rows_sum c (x ∷ xs) =
    let rest = rows_sum (added c x) xs in
    let here : (added c x).rows_given ≡ raised c.rows_given x.rows_given = refl in
    let more : sum_by (λ (y : Counts). y.rows_given) (x ∷ xs) ≡ x.rows_given + sum_by (λ (y : Counts). y.rows_given) xs = sum_by-cons (λ (y : Counts). y.rows_given) x xs in
    omega (arith, rest, here, more)

grades_sum : (c : Counts) (xs : List Counts)
    → min (added_all c xs).grades_given (2 ^ 64 - 1) ≡ min (c.grades_given + sum_by (λ (x : Counts). x.grades_given) xs) (2 ^ 64 - 1)
grades_sum c [] = let none : sum_by (λ (x : Counts). x.grades_given) [] ≡ 0 = refl in omega (arith, none)
grades_sum c (x ∷ xs) =
    let rest = grades_sum (added c x) xs in
    let here : (added c x).grades_given ≡ raised c.grades_given x.grades_given = refl in
    let more : sum_by (λ (y : Counts). y.grades_given) (x ∷ xs) ≡ x.grades_given + sum_by (λ (y : Counts). y.grades_given) xs = sum_by-cons (λ (y : Counts). y.grades_given) x xs in
    omega (arith, rest, here, more)

went_up : (number before mid after : ℕ) → raised mid 0 ≡ raised before 0 → min after (2 ^ 64 - 1) ≡ min (mid + number) (2 ^ 64 - 1) → WentUp number before after
went_up number before mid after idle up = omega (arith, idle, up)

pub rose_by_given : (r : CatalogRun) (o : OpenedRun r) → (place : List ℕ)
    → RoseByGiven (r.before place) (r.after place) (used_at place (put_back r.catalog o.sources.places o.now))
rose_by_given r o place =
    let used = put_back r.catalog o.sources.places o.now in
    let mid = (o.mid place).sources in
    let after_is = o.back.sources place in
    let idle = o.idle place in
    record {
      rows = went_up (sum_by (λ (c : Counts). c.rows_given) (used_at place used)) (r.before place).sources.rows_given mid.rows_given (r.after place).sources.rows_given idle.rows
          (ap (λ (c : Counts). min c.rows_given (2 ^ 64 - 1)) after_is ∙ rows_sum mid (used_at place (reverse used))
          ∙ ap (λ n. min (mid.rows_given + n) (2 ^ 64 - 1)) (sum_turned (λ (c : Counts). c.rows_given) place used));
      grades = went_up (sum_by (λ (c : Counts). c.grades_given) (used_at place used)) (r.before place).sources.grades_given mid.grades_given (r.after place).sources.grades_given idle.grades
          (ap (λ (c : Counts). min c.grades_given (2 ^ 64 - 1)) after_is ∙ grades_sum mid (used_at place (reverse used))
          ∙ ap (λ n. min (mid.grades_given + n) (2 ^ 64 - 1)) (sum_turned (λ (c : Counts). c.grades_given) place used));
    }
