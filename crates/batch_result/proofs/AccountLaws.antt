-- No more was used of a source than the queries of a batch read of it.
use Rattle.std.proofs.Common.{◌≡◌, ◌≢◌, ◌≤◌, ◌<◌, ◌+◌, ◌==◌, inl, inr, ℕ, zero, suc, Bool, max, Option, Some, None, List, [], ◌∷◌, ◌++◌, append-nil, length, map, filter, take, drop, All, AllPairs, Contains, slice_index_or, eqb-true, refl, sym, ap, subst, ◌∙◌, arith}
use Rattle.std.specs.List.{AllZip, flat_map, fold, slice_get}
use Rattle.std.proofs.lemmas.List.{length-append, length-map}
use Rattle.std.proofs.lemmas.List.Elements.{All-tail}
use Rattle.std.proofs.lemmas.List.Sums.{length-filter, sum_by-cons}
use Rattle.ranked_list.specs.declared.need.Need.TheVariants as need
use Rattle.topk_theory.specs.declared.access.Access.{Access}
use Rattle.topk_theory.specs.declared.access.Access.TheVariants.{Sorted, Random}
use Rattle.topk_theory.specs.Machine.{IsAt, need_of}
use Rattle.machine_base.proofs.Certain.{flat_has}
use Rattle.ranked_list.specs.declared.row.Row.{Row}
use Rattle.ranked_list.specs.Table.{IsTable}
use Rattle.monotone_fn.specs.Shape.{list_count}
use Rattle.topk_theory.specs.Asked.{Asked}
use Rattle.topk_theory.specs.Threshold.{IsAsked}
use Rattle.topk_theory.specs.Transcript.{list_at, depth_of, list_numbers, object_of}
use Rattle.topk_theory.proofs.AgreementLists.{all_from_members, begins_splits, contains_at, contains_cases, contains_here, contains_map, contains_map_from, contains_nil, contains_there, distinct_fits, member_of_all}
use Rattle.topk_theory.proofs.ListNumbers.{number_below}
use Rattle.topk_theory.proofs.ThresholdLists.{contains_filter, contains_from_filter}
use Rattle.restricted_core.specs.Lists.{reads}
use Rattle.access_log.specs.Log.{AgreesWith}
use Rattle.machine_base.specs.Machine.{asked_of}
use Rattle.source_state.specs.Log.{rows_in, fault_in}
use Rattle.source_state.specs.State.{State, state_at}
use Rattle.source_state.specs.Looking.{reach_of}
use Rattle.query_core.specs.declared.ready.Ready.{Ready}
use Rattle.query_text.specs.declared.algorithm.Algorithm.{Algorithm}
use Rattle.query_text.specs.declared.algorithm.Algorithm.TheVariants.{Ta, Nra, Ca, Fa, Theta, Early, Taz}
use Rattle.query_core.specs.Methods.{method_with, run_with}
use Rattle.query_core.specs.Ready.{method_of_ready}
use Rattle.query_core.specs.Machines.{method_of, state_of}
use Rattle.query_core.specs.OneAnswer.{one_run_with}
use Rattle.query_core.proofs.Answering.{asked_same}
use Rattle.query_core.proofs.RestrictedFacts.{restricted_reads}
use Rattle.query_run.specs.declared.ended.Ended.{Ended}
use Rattle.query_run.specs.declared.ended.Ended.TheVariants as ended
use Rattle.query_run.specs.declared.running_query.RunningQuery.{RunningQuery}
use Rattle.query_run.specs.Endings.{EndsAs}
use Rattle.query_run.specs.Honest.{lists_of, HasTable}
use Rattle.query_run.specs.Kept.{IsServed}
use Rattle.query_run.specs.Made.{IsOf}
use Rattle.query_run.specs.Asking.{run_on, grades_on}
use Rattle.fetcher.specs.Causes.{HasGiven}
use Rattle.batch_result.specs.Account.{Reading, AsksGradesAlone, IsAnsweredOf, IsReadByGrades, IsWithin, KeepsEach, deepest, depth_in, greatest, is_random_to, lists_of_source, one_reading, one_readings, printed_reading, printed_readings, random_accesses, random_in}
use Rattle.batch_result.specs.declared.batch.Use.{Use}
use Rattle.batch_result.specs.Cut.{IsReadBy}
use Rattle.batch_result.specs.Batches.{BatchRun, BatchState, IsBatch, size_at, use_at}
use Rattle.batch_result.specs.Tables.{lists_for}
use Rattle.batch_result.specs.Using.{IsWantedBy, IsNamedBy, AgreesWithRead, all_grades_on}
use Rattle.batch_result.proofs.AskedLaws.{AsksWithin, asks_nothing, greatest_above, within_reading}
use Rattle.batch_result.proofs.OwnTables.{all_tables, same_lists}
use Rattle.batch_result.proofs.FaultLaws.{all_kept}
use Rattle.batch_result.proofs.TableLaws.{agrees_by, reads_of, read_by}

-- ---- all queries
-- the second of a pair of lists, place by place
zip_other : {A B : Type 0} (R : A → B → Type 0) (xs : List A) (ys : List B) (x : A) → AllZip R xs ys → Contains xs x → (y : B) × Contains ys y × R x y
zip_other R [] ys x h c = absurd (contains_nil x c)
zip_other R (w ∷ xs) [] x h c = absurd h
zip_other R (w ∷ xs) (y ∷ ys) x h c =
    elim (contains_cases w xs x c) [
      | inl same ↦ (y, contains_here y ys, subst (λ a. R a y) same h.0)
      | inr there ↦ let rest = zip_other R xs ys x h.1 there in (rest.0, contains_there y ys rest.0 rest.1, rest.2)
    ]

deep_within : (source depth : ℕ) (queries : List RunningQuery) (readings : List Reading) → AllZip (AsksWithin source) queries readings
    → IsWantedBy queries source depth → depth ≤ deepest source readings
deep_within source depth queries readings h wanted = elim wanted [
  | inl none ↦ omega (arith, none)
  | inr asked ↦
      let with = zip_other (AsksWithin source) queries readings asked.0 h asked.1 in
      let deep = with.2.deep depth asked.2 in
      let above = greatest_above (map (depth_in source) readings) (depth_in source with.0) (contains_map (depth_in source) readings with.0 with.1) in
      omega (arith, deep, above)
]

-- the objects that a reading asks a source for, one for each random access
abbrev objects_read : ℕ → Reading → List ℕ
objects_read source r = map object_of (filter (is_random_to source r.sources) r.accesses)

read_count : (source : ℕ) (readings : List Reading) → length (flat_map (objects_read source) readings) ≡ random_accesses source readings
read_count source [] = refl
read_count source (r ∷ readings) =
    length-append (objects_read source r) (flat_map (objects_read source) readings)
    ∙ ap (λ n. n + length (flat_map (objects_read source) readings)) (length-map (filter (is_random_to source r.sources) r.accesses) object_of ∙ length-filter (is_random_to source r.sources) r.accesses)
    ∙ ap (λ n. random_in source r + n) (read_count source readings)
    ∙ sym (sum_by-cons (random_in source) r readings)

-- objects, each once, of which each is named by a query, are no more than the random accesses of the readings
asks_within : (source : ℕ) (queries : List RunningQuery) (readings : List Reading) (asks : List ℕ) → AllZip (AsksWithin source) queries readings
    → AllPairs (λ (one other : ℕ). one ≢ other) asks → ((object : ℕ) → Contains asks object → IsNamedBy queries source object) → length asks ≤ random_accesses source readings
asks_within source queries readings asks h apart named =
    let all = distinct_fits asks (flat_map (objects_read source) readings) apart (λ object c.
    let by = named object c in
    let with = zip_other (AsksWithin source) queries readings by.0 h by.1 in
    let read = with.2.named object by.2 in
    flat_has (objects_read source) readings with.0 object with.1
    (subst (Contains (objects_read source with.0)) read.3
    (contains_map object_of (filter (is_random_to source with.0.sources) with.0.accesses) read.0
    (contains_filter (is_random_to source with.0.sources) with.0.accesses read.0 read.1 read.2)))) in
    let count = read_count source readings in
    omega (arith, all, count)

-- the readings of queries on tables that agree with what they read
abbrev reading_on : RunningQuery → List (List Row) → Reading
reading_on q D = record { sources = q.sources.items; accesses = run_on q D }

all_on : (source : ℕ) (queries : List RunningQuery) (tables : List (List (List Row))) → AllZip AgreesWithRead queries tables
    → (readings : List Reading) × AllZip (AsksWithin source) queries readings × (random_accesses source readings ≡ all_grades_on queries tables source)
all_on source [] [] agree = ([], tt, refl)
all_on source [] (D ∷ tables) agree = absurd agree
all_on source (q ∷ queries) [] agree = absurd agree
all_on source (q ∷ queries) (D ∷ tables) agree =
    let rest = all_on source queries tables agree.1 in (
      reading_on q D ∷ rest.0,
      (within_reading source q (reading_on q D) D refl agree.0 refl, rest.1),
      sum_by-cons (random_in source) (reading_on q D) rest.0 ∙ ap (λ n. grades_on q source D + n) rest.2,
    )

-- no more objects are asked than the runs on such tables ask for grades
pub asks_on : (source : ℕ) (queries : List RunningQuery) (tables : List (List (List Row))) (asks : List ℕ) → AllZip AgreesWithRead queries tables
    → AllPairs (λ (one other : ℕ). one ≢ other) asks → ((object : ℕ) → Contains asks object → IsNamedBy queries source object)
    → length asks ≤ all_grades_on queries tables source
asks_on source queries tables asks agree apart named =
    let on = all_on source queries tables agree in
    let few = asks_within source queries on.0 asks on.1 apart named in
    let same = on.2 in
    omega (arith, few, same)

-- ---- one query
-- the run of a query on its lists is its one run
one_run : (lists : List (List Row)) (ready : Ready) (q : RunningQuery) → (of : IsOf ready q)
    → run_on q (lists_of lists q) ≡ one_run_with (method_of_ready ready) ready.query (lists_for lists ready)
one_run lists ready q of =
    let t = state_of q.machine in
    let D = lists_of lists q in
    ap (λ method. run_with method (asked_of t) D) of.method
    ∙ (ap (λ x. run_with (method_of_ready ready) x D) (asked_same ready.query ready.count _ of.first t of.begun of.goes)
    ∙ ap (one_run_with (method_of_ready ready) ready.query) (sym (same_lists lists ready q of)))

-- a run at whose end nothing is needed is what was made of it
done_run : (run made : List Access) → IsAt run made need.Done → run ≡ made
done_run run made at = begins_splits made run at.begins ∙ ap (λ rest. made ++ rest) (nothing_left run made (slice_get run (length made)) refl at.next) ∙ append-nil made
  where
    drop_from : {X : Type 0} (xs : List X) (n : ℕ) → slice_get xs n ≡ None → drop n xs ≡ []
    drop_from [] zero e = refl
    drop_from [] (suc n) e = refl
    drop_from (x ∷ xs) zero e = absurd (cc)
    drop_from (x ∷ xs) (suc n) e = drop_from xs n e

    nothing_left : (run made : List Access) (next : Option Access) → slice_get run (length made) ≡ next → need.Done ≡ need_of made next → drop (length made) run ≡ []
    nothing_left run made None is e = drop_from run (length made) is
    nothing_left run made (Some (Sorted list object grade)) is e = absurd (cc)
    nothing_left run made (Some (Random list object grade)) is e = absurd (cc)

-- what is certain is in its transcript, where it was answered
printed_within : (states : List State) (source : ℕ) (ready : Ready) (q : RunningQuery) (end : Ended) → IsServed states q → (of : IsOf ready q) → EndsAs q end
    → IsAnsweredOf source ready end → AsksWithin source q (printed_reading ready end)
printed_within states source ready q (ended.Answered answer) served of ends answered =
    let some = served.run.consistent in
    let all : run_on q some.0 ≡ answer.transcript.accesses
    = done_run (run_on q some.0) (state_of q.machine).log.accesses (subst (IsAt (run_on q some.0) (state_of q.machine).log.accesses) ends.done (served.run.on_run some.0 some.1)) ∙ sym ends.log.accesses in
    within_reading source q (printed_reading ready (ended.Answered answer)) some.0 (sym of.sources) some.1 all
printed_within states source ready q (ended.Core fault) served of ends answered =
    asks_nothing source q (printed_reading ready (ended.Core fault)) (λ c. answered (subst (λ xs. Contains xs source) of.sources c))
printed_within states source ready q (ended.Look list fault) served of ends answered =
    asks_nothing source q (printed_reading ready (ended.Look list fault)) (λ c. answered (subst (λ xs. Contains xs source) of.sources c))

all_printed : (states : List State) (source : ℕ) (readies : List Ready) (queries : List RunningQuery) (endings : List Ended) → All (IsServed states) queries
    → AllZip IsOf readies queries → AllZip EndsAs queries endings → AllZip (IsAnsweredOf source) readies endings
    → AllZip (AsksWithin source) queries (printed_readings readies endings)
all_printed states source [] [] [] served of ends answered = tt
all_printed states source [] [] (end ∷ endings) served of ends answered = absurd ends
all_printed states source [] (q ∷ queries) endings served of ends answered = absurd of
all_printed states source (ready ∷ readies) [] endings served of ends answered = absurd of
all_printed states source (ready ∷ readies) (q ∷ queries) [] served of ends answered = absurd ends
all_printed states source (ready ∷ readies) (q ∷ queries) (end ∷ endings) served of ends answered = (
  printed_within states source ready q end (member_of_all (IsServed states) (q ∷ queries) q served (contains_here q queries)) of.0 ends.0 answered.0,
  all_printed states source readies queries endings (All-tail (IsServed states) q queries served) of.1 ends.1 answered.1,
)

-- ---- sources that are read by grades alone
-- the greatest of numbers each of which is 0
greatest_none : (xs : List ℕ) → All (λ x. x ≡ 0) xs → greatest xs ≡ 0
greatest_none [] none = refl
greatest_none (x ∷ xs) none =
    let first : x ≡ 0 = member_of_all (λ y. y ≡ 0) (x ∷ xs) x none (contains_here x xs) in
    ap (λ y. fold max (max 0 y) xs) first ∙ greatest_none xs (All-tail (λ y. y ≡ 0) x xs none)

-- a reading that doesn't go down a list of the source goes down the source to 0
flat_reading : (source : ℕ) (r : Reading) → ((list : ℕ) → list < length r.sources → slice_index_or r.sources list 0 ≡ source → depth_of list r.accesses ≡ 0)
    → depth_in source r ≡ 0
flat_reading source r flat =
    let lists = lists_of_source source r.sources in
    greatest_none (map (λ list. depth_of list r.accesses) lists) (all_from_members (λ x. x ≡ 0) (map (λ list. depth_of list r.accesses) lists) (λ x c.
    let from = contains_map_from (λ list. depth_of list r.accesses) lists x c in
    let kept = contains_from_filter (λ list. slice_index_or r.sources list 0 == source) (list_numbers (length r.sources)) from.0 from.1 in
    sym from.2 ∙ flat from.0 (number_below (length r.sources) from.0 kept.0) (eqb-true (slice_index_or r.sources from.0 0) source kept.1)))

-- the run of a method doesn't go down a list that it asks for grades alone
flat_method : (a : Algorithm) (sorted : List Bool) (asked : Asked) (n : ℕ) (D : List (List Row)) (list : ℕ) → IsAsked asked.k n D → AsksGradesAlone a sorted list
    → depth_of list (run_with (method_with a sorted) asked D) ≡ 0
flat_method Taz sorted asked n D list is alone = ap (length {A = Row}) (restricted_reads (reads sorted) asked n D is list alone)
flat_method Ta sorted asked n D list is alone = absurd alone
flat_method Nra sorted asked n D list is alone = absurd alone
flat_method Ca sorted asked n D list is alone = absurd alone
flat_method Fa sorted asked n D list is alone = absurd alone
flat_method (Theta p q) sorted asked n D list is alone = absurd alone
flat_method (Early depth) sorted asked n D list is alone = absurd alone

-- the run of a query on some table that agrees with its transcript
abbrev own_reading : (states : List State) (q : RunningQuery) → IsServed states q → Reading
own_reading states q served =
    record { sources = q.sources.items; accesses = run_with (method_of q.machine) (asked_of (state_of q.machine)) served.run.consistent.0 }

own_within : (states : List State) (source : ℕ) (q : RunningQuery) (served : IsServed states q) → AsksWithin source q (own_reading states q served)
own_within states source q served =
    within_reading source q (own_reading states q served) served.run.consistent.0 refl served.run.consistent.1 refl

own_flat : (states : List State) (source : ℕ) (ready : Ready) (q : RunningQuery) (served : IsServed states q) → IsOf ready q → IsReadByGrades source ready
    → depth_in source (own_reading states q served) ≡ 0
own_flat states source ready q served of by_grades =
    let t = state_of q.machine in
    let D = served.run.consistent.0 in
    let agrees : AgreesWith D t.log = served.run.consistent.1 in
    let lists : t.log.lists ≡ list_count ready.query.expr = of.goes.lists ∙ of.begun.lists in
    let some = of.is.expr.lists.some in
    let asked : IsAsked t.k t.log.count D = record {
      table = agrees.table;
      lists = omega (arith, agrees.lists, lists, some);
      positive = served.run.posed.positive;
      fits = served.run.posed.fits;
    } in
    flat_reading source (own_reading states q served) (λ list listed at.
    let own : slice_index_or ready.sources.items list 0 ≡ source = ap (λ xs. slice_index_or xs list 0) (sym of.sources) ∙ at in
    let here : list < length ready.sources.items = subst (λ (xs : List ℕ). list < length xs) of.sources listed in
    ap (λ method. depth_of list (run_with method (asked_of t) D)) of.method
    ∙ flat_method ready.query.algorithm ready.sorted.items (asked_of t) t.log.count D list asked (by_grades list here own))

all_own : (states : List State) (source : ℕ) (readies : List Ready) (queries : List RunningQuery) → All (IsServed states) queries → AllZip IsOf readies queries
    → All (IsReadByGrades source) readies → (readings : List Reading) × AllZip (AsksWithin source) queries readings × (deepest source readings ≡ 0)
all_own states source [] [] served of by_grades = ([], tt, refl)
all_own states source [] (q ∷ queries) served of by_grades = absurd of
all_own states source (ready ∷ readies) [] served of by_grades = absurd of
all_own states source (ready ∷ readies) (q ∷ queries) served of by_grades =
    let here : IsServed states q = member_of_all (IsServed states) (q ∷ queries) q served (contains_here q queries) in
    let rest = all_own states source readies queries (All-tail (IsServed states) q queries served) of.1 (All-tail (IsReadByGrades source) ready readies by_grades) in
    let flat = own_flat states source ready q here of.0 (member_of_all (IsReadByGrades source) (ready ∷ readies) ready by_grades (contains_here ready readies)) in
    (own_reading states q here ∷ rest.0, (own_within states source q here, rest.1), ap (λ d. fold max (max 0 d) (map (depth_in source) rest.0)) flat ∙ rest.2)

-- ---- what was read
-- a source that gave no row keeps none
none_kept : (number count : ℕ) (s : State) → HasGiven number count s.log → number ≤ 0 → rows_in s.log ≡ []
none_kept number count s h none =
    let many = h.many in
    let split : length h.given ≡ length (rows_in s.log) + length (drop (length (rows_in s.log)) h.given) =
    ap (length {A = Row}) (begins_splits (rows_in s.log) h.given h.comes.rows) ∙ length-append (rows_in s.log) (drop (length (rows_in s.log)) h.given) in
    nothing (rows_in s.log) (omega (arith, many, split, none))
  where
    nothing : (xs : List Row) → length xs ≤ 0 → xs ≡ []
    nothing [] l = refl
    nothing (x ∷ xs) l = absurd (omega (arith, l))

reach_none : (want page ahead count rows : ℕ) → want ≡ 0 → rows ≤ reach_of want page ahead count → rows ≤ 0
reach_none want page ahead count rows none l = subst (λ w. rows ≤ reach_of w page ahead count) none l

module _ (run : BatchRun) (queries : List RunningQuery) (states : List State) (uses : List Use) (read : IsReadBy run queries states uses) where
  within : (readings : List Reading) (source : ℕ) → source < length run.sizes → AllZip (AsksWithin source) queries readings
      → IsWithin run.settings (size_at run.sizes source) source readings (use_at uses source)
  within readings source l h =
      let used = read.used source l in
      let many = used.asks in
      let all = asks_within source queries readings (state_at states source).asks h (read.closing source l).sound.distinct used.named in
      record {
        want = deep_within source (use_at uses source).want queries readings h used.wanted;
        rows = subst (λ n. (use_at uses source).rows ≤ reach_of (use_at uses source).want run.settings.page run.settings.ahead n)
            (read.closing source l).count used.reach;
        asks = omega (arith, many, all);
        grades = used.once;
      }

  -- where no query reads the source in order
  pub no_rows_by : (readies : List Ready) → AllZip IsOf readies queries → (source : ℕ) → source < length run.sizes → All (IsReadByGrades source) readies
      → ((use_at uses source).want ≡ 0) × ((use_at uses source).rows ≡ 0)
  no_rows_by readies of source l by_grades =
      let used = read.used source l in
      let readings = all_own states source readies queries read.served of by_grades in
      let deep = deep_within source (use_at uses source).want queries readings.0 readings.1 used.wanted in
      let none : (use_at uses source).want ≡ 0 = omega (arith, deep, readings.2) in
      let few : (use_at uses source).rows ≤ 0 = reach_none (use_at uses source).want run.settings.page run.settings.ahead (state_at states source).count (use_at uses source).rows none used.reach in
      (none, omega (arith, few))

  -- where the sources tell tables
  module _ (readies : List Ready) (of : AllZip IsOf readies queries) (lists : List (List Row)) (told : run.told ≡ map Some lists)
      (tables : All (λ ready. IsTable ready.count (lists_for lists ready)) readies) where
    own : All (HasTable lists) queries
    own = all_tables lists readies queries of tables

    asks_so : (source : ℕ) (ready : Ready) (q : RunningQuery) → Contains queries q → IsOf ready q → AsksWithin source q (one_reading lists ready)
    asks_so source ready q c is =
        within_reading source q (one_reading lists ready) (lists_of lists q) (sym is.sources) (agrees_by run queries states uses read lists told own q c) (one_run lists ready q is)

    all_reads : (source : ℕ) (rs : List Ready) (qs : List RunningQuery) → ((q : RunningQuery) → Contains qs q → Contains queries q) → AllZip IsOf rs qs
        → AllZip (AsksWithin source) qs (one_readings lists rs)
    all_reads source [] [] among are = tt
    all_reads source [] (q ∷ qs) among are = absurd are
    all_reads source (ready ∷ rs) [] among are = absurd are
    all_reads source (ready ∷ rs) (q ∷ qs) among are =
        (asks_so source ready q (among q (contains_here q qs)) are.0, all_reads source rs qs (λ p c. among p (contains_there q qs p c)) are.1)

    pub account_by : (source : ℕ) → source < length run.sizes
        → IsWithin run.settings (size_at run.sizes source) source (one_readings lists readies) (use_at uses source)
    account_by source l = within (one_readings lists readies) source l (all_reads source readies queries (λ q c. c) of)

    pub kept_by : (source : ℕ) → source < length run.sizes → KeepsEach (list_at lists source) (state_at states source) (use_at uses source)
    kept_by source l =
        let used = read.used source l in
        let s = state_at states source in
        let list = list_at lists source in
        let rows = (use_at uses source).rows in
        elim used.wanted [
          | inl none ↦
              let few : rows ≤ 0 = reach_none (use_at uses source).want run.settings.page run.settings.ahead s.count rows none used.reach in
              let zeros : rows ≡ 0 = omega (arith, few) in
              none_kept rows s.count s used.comes few ∙ sym (ap (λ n. take n list) zeros)
          | inr asked ↦
              let is = asked.2 in
              let reads_it : Contains asked.0.sources.items source = subst (Contains asked.0.sources.items) is.of (contains_at asked.0.sources.items is.list 0 is.listed) in
              let known = reads_of run queries states uses read lists told own asked.0 source asked.1 reads_it in
              let all : rows_in s.log ≡ used.comes.given = all_kept list used.comes.given s.count s.log (fault_in s.log) known.ranked known.tells used.comes.comes refl in
              let long : length (rows_in s.log) ≡ rows = ap (length {A = Row}) all ∙ used.comes.many in
              sym known.tells.rows ∙ ap (λ n. take n list) long
        ]

-- ---- a batch
module _ (run : BatchRun) (batch : BatchState) (ran : IsBatch run batch) where
  read : IsReadBy run ran.queries ran.states batch.uses
  read = read_by run batch ran

  -- where each query that reads the source was answered
  pub printed_account : (source : ℕ) → source < length run.sizes → AllZip (IsAnsweredOf source) run.readies batch.endings
      → IsWithin run.settings (size_at run.sizes source) source (printed_readings run.readies batch.endings) (use_at batch.uses source)
  printed_account source l answered =
      within run ran.queries ran.states batch.uses read (printed_readings run.readies batch.endings) source l
      (all_printed ran.states source run.readies ran.queries batch.endings ran.served ran.of ran.ends answered)

  pub out_of_order : (source : ℕ) → source < length run.sizes → All (IsReadByGrades source) run.readies
      → ((use_at batch.uses source).want ≡ 0) × ((use_at batch.uses source).rows ≡ 0)
  out_of_order = no_rows_by run ran.queries ran.states batch.uses read run.readies ran.of

  -- where the sources tell tables
  module _ (lists : List (List Row)) (told : run.told ≡ map Some lists)
      (tables : All (λ ready. IsTable ready.count (lists_for lists ready)) run.readies) where
    pub told_account : (source : ℕ) → source < length run.sizes
        → IsWithin run.settings (size_at run.sizes source) source (one_readings lists run.readies) (use_at batch.uses source)
    told_account = account_by run ran.queries ran.states batch.uses read run.readies ran.of lists told tables

    pub told_kept : (source : ℕ) → source < length run.sizes → KeepsEach (list_at lists source) (state_at ran.states source) (use_at batch.uses source)
    told_kept = kept_by run ran.queries ran.states batch.uses read run.readies ran.of lists told tables
