-- What was read of the sources of a batch that ran out of memory.
use Rattle.std.proofs.Common.{◌≡◌, ◌≤◌, ◌<◌, ◌+◌, ℕ, max, Option, Some, None, List, [], ◌∷◌, length, map, All, arith}
use Rattle.std.specs.List.{AllZip, fold}
use Rattle.std.proofs.lemmas.List.Elements.{All-nil, All-cons, All-tail}
use Rattle.std.proofs.lemmas.List.Sums.{sum_by-cons}
use Rattle.ranked_list.specs.declared.row.Row.{Row}
use Rattle.ranked_list.specs.Table.{IsTable}
use Rattle.topk_theory.specs.Transcript.{list_at}
use Rattle.topk_theory.proofs.AgreementLists.{contains_here, member_of_all}
use Rattle.source_state.specs.State.{state_at}
use Rattle.query_core.specs.declared.ready.Ready.{Ready}
use Rattle.query_run.specs.declared.running_query.RunningQuery.{RunningQuery}
use Rattle.query_run.specs.Made.{IsOf}
use Rattle.batch_result.specs.Account.{IsReadByGrades, IsWithin, KeepsEach, deepest, depth_in, one_reading, one_readings, random_accesses, random_in}
use Rattle.batch_result.specs.Batches.{BatchRun, size_at, use_at}
use Rattle.batch_result.specs.Tables.{lists_for}
use Rattle.batch_result.specs.Cut.{IsOfBegun, begun, IsCut}
use Rattle.batch_result.proofs.AccountLaws.{account_by, kept_by, no_rows_by}

-- the ready queries that began
abbrev ready_begun : List Ready → List (Option RunningQuery) → List Ready
ready_begun [] stood = []
ready_begun (ready ∷ readies) [] = []
ready_begun (ready ∷ readies) (None ∷ stood) = ready_begun readies stood
ready_begun (ready ∷ readies) (Some q ∷ stood) = ready ∷ ready_begun readies stood

of_begun : (readies : List Ready) (stood : List (Option RunningQuery)) → AllZip IsOfBegun readies stood
    → AllZip IsOf (ready_begun readies stood) (begun stood)
of_begun [] [] h = tt
of_begun [] (one ∷ stood) h = absurd h
of_begun (ready ∷ readies) [] h = absurd h
of_begun (ready ∷ readies) (None ∷ stood) h = of_begun readies stood h.1
of_begun (ready ∷ readies) (Some q ∷ stood) h = (h.0, of_begun readies stood h.1)

all_begun : (P : Ready → Type 0) (readies : List Ready) (stood : List (Option RunningQuery)) → All P readies → All P (ready_begun readies stood)
all_begun P [] stood h = All-nil P
all_begun P (ready ∷ readies) [] h = All-nil P
all_begun P (ready ∷ readies) (None ∷ stood) h = all_begun P readies stood (All-tail P ready readies h)
all_begun P (ready ∷ readies) (Some q ∷ stood) h =
    All-cons P ready (ready_begun readies stood) (member_of_all P (ready ∷ readies) ready h (contains_here ready readies))
    (all_begun P readies stood (All-tail P ready readies h))

-- their runs go no deeper, and make no more random accesses, than those of all
fold_above : (numbers : List ℕ) (a b : ℕ) → a ≤ b → a ≤ fold max b numbers
fold_above [] a b le = le
fold_above (n ∷ numbers) a b le = fold_above numbers a (max b n) (omega (arith, le))

deeper : (source : ℕ) (lists : List (List Row)) (readies : List Ready) (stood : List (Option RunningQuery)) (a b : ℕ) → a ≤ b
    → fold max a (map (depth_in source) (one_readings lists (ready_begun readies stood))) ≤ fold max b (map (depth_in source) (one_readings lists readies))
deeper source lists [] stood a b le = le
deeper source lists (ready ∷ readies) [] a b le = fold_above (map (depth_in source) (one_readings lists (ready ∷ readies))) a b le
deeper source lists (ready ∷ readies) (None ∷ stood) a b le =
    deeper source lists readies stood a (max b (depth_in source (one_reading lists ready))) (omega (arith, le))
deeper source lists (ready ∷ readies) (Some q ∷ stood) a b le =
    deeper source lists readies stood (max a (depth_in source (one_reading lists ready))) (max b (depth_in source (one_reading lists ready))) (omega (arith, le))

more : (source : ℕ) (lists : List (List Row)) (ready : Ready) (readies : List Ready)
    → random_accesses source (one_readings lists (ready ∷ readies)) ≡ random_in source (one_reading lists ready) + random_accesses source (one_readings lists readies)
more source lists ready readies = sum_by-cons (random_in source) (one_reading lists ready) (one_readings lists readies)

fewer : (source : ℕ) (lists : List (List Row)) (readies : List Ready) (stood : List (Option RunningQuery))
    → random_accesses source (one_readings lists (ready_begun readies stood)) ≤ random_accesses source (one_readings lists readies)
fewer source lists [] stood = omega arith
fewer source lists (ready ∷ readies) [] = omega arith
fewer source lists (ready ∷ readies) (None ∷ stood) =
    let rest = fewer source lists readies stood in
    let all = more source lists ready readies in
    omega (arith, rest, all)
fewer source lists (ready ∷ readies) (Some q ∷ stood) =
    let rest = fewer source lists readies stood in
    let all = more source lists ready readies in
    let some = more source lists ready (ready_begun readies stood) in
    omega (arith, rest, all, some)

module _ (run : BatchRun) (cut : IsCut run) where
  of : AllZip IsOf (ready_begun run.readies cut.stood) (begun cut.stood)
  of = of_begun run.readies cut.stood cut.of

  pub cut_no_rows : (source : ℕ) → source < length run.sizes → All (IsReadByGrades source) run.readies
      → ((use_at cut.uses source).want ≡ 0) × ((use_at cut.uses source).rows ≡ 0)
  cut_no_rows source l by_grades =
      no_rows_by run (begun cut.stood) cut.states cut.uses cut.read (ready_begun run.readies cut.stood) of source l
      (all_begun (IsReadByGrades source) run.readies cut.stood by_grades)

  module _ (lists : List (List Row)) (told : run.told ≡ map Some lists)
      (tables : All (λ ready. IsTable ready.count (lists_for lists ready)) run.readies) where
    own : All (λ ready. IsTable ready.count (lists_for lists ready)) (ready_begun run.readies cut.stood)
    own = all_begun (λ ready. IsTable ready.count (lists_for lists ready)) run.readies cut.stood tables

    pub cut_account : (source : ℕ) → source < length run.sizes
        → IsWithin run.settings (size_at run.sizes source) source (one_readings lists run.readies) (use_at cut.uses source)
    cut_account source l =
        let h = account_by run (begun cut.stood) cut.states cut.uses cut.read (ready_begun run.readies cut.stood) of lists told own source l in
        let want = h.want in
        let asks = h.asks in
        let deep : deepest source (one_readings lists (ready_begun run.readies cut.stood)) ≤ deepest source (one_readings lists run.readies)
        = deeper source lists run.readies cut.stood 0 0 (omega arith) in
        let random = fewer source lists run.readies cut.stood in
        record { want = omega (arith, want, deep); rows = h.rows; asks = omega (arith, asks, random); grades = h.grades }

    pub cut_kept : (source : ℕ) → source < length run.sizes → KeepsEach (list_at lists source) (state_at cut.states source) (use_at cut.uses source)
    cut_kept = kept_by run (begun cut.stood) cut.states cut.uses cut.read (ready_begun run.readies cut.stood) of lists told own
