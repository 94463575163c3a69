-- What made queries read of the lists of their table.
use Rattle.std.proofs.Common.{◌≡◌, ◌≤◌, ◌<◌, ℕ, zero, suc, Bool, true, Some, List, [], ◌∷◌, length, map, replicate, All, refl, sym, ap, subst, ◌∙◌, arith, le_trans}
use Rattle.std.specs.List.{AllZip, range_with_len, slice_index_or}
use Rattle.std.proofs.lemmas.List.{get_or-replicate, length-map}
use Rattle.ranked_list.specs.declared.row.Row.{Row}
use Rattle.ranked_list.specs.Table.{IsTable}
use Rattle.source_api.specs.declared.counts.Counts.{Counts}
use Rattle.source_api.specs.Counting.{no_counts}
use Rattle.source_state.specs.State.{State, IsSound, state_at}
use Rattle.source_state.specs.Looking.{reach_of}
use Rattle.query_text.specs.declared.query.Query.{Query}
use Rattle.query_core.specs.declared.ready.Ready.{Ready}
use Rattle.query_core.specs.Methods.{method_with}
use Rattle.query_core.specs.OneAnswer.{one_run_with}
use Rattle.query_run.specs.declared.running_query.RunningQuery.{RunningQuery}
use Rattle.fetcher.specs.declared.slot.Slot.{Slot}
use Rattle.fetcher.specs.Metering.{WentUp}
use Rattle.fetcher.proofs.ReachLaws.{reach_more, reach_within}
use Rattle.topk_base.specs.declared.settings.Settings.{Settings}
use Rattle.topk_base.specs.Ranges.{AreSettings}
use Rattle.batch_result.specs.declared.batch.Use.{Use}
use Rattle.batch_result.specs.Account.{Reading, IsWithin, deepest, one_reading, one_readings}
use Rattle.batch_result.specs.Batches.{BatchRun, BatchState, IsBatch, run_of, size_at, use_at}
use Rattle.batch_result.specs.Cut.{IsCut, IsReadBy, begun}
use Rattle.batch_result.specs.Numbered.{counts_at}
use Rattle.batch_result.specs.Tables.{lists_for}
use Rattle.batch_result.proofs.Places.{map_at}
use Rattle.bulk_run.specs.declared.input.BulkInput.{BulkInput}
use Rattle.bulk_run.specs.Held.{Held, calls_of, counts_of, fresh_slot, told_rows, version_of}
use Rattle.bulk_run.specs.Sums.{IsInput, query_of, table_of}
use Rattle.bulk_run.specs.Endings.{AreMadeReady, IsMadeReady}
use Rattle.bulk_run.specs.Reads.{AreReadSparingly, IsReadSparingly, made_reading, made_readings}
use Rattle.bulk_run.proofs.Readying.{all_have_tables, counts_long, made_lists}
use Rattle.bulk_run.proofs.TableLaws.{slots_long, table_told}

-- what `told_tables_bound_the_uses` and `told_tables_bound_a_cut_batch` promise
abbrev pub ToldTablesBound : Type 0
ToldTablesBound =
    (run : BatchRun) (batch : BatchState) → IsBatch run batch → (lists : List (List Row)) → run.told ≡ map Some lists
    → All (λ ready. IsTable ready.count (lists_for lists ready)) run.readies → (source : ℕ) → source < length run.sizes
    → IsWithin run.settings (size_at run.sizes source) source (one_readings lists run.readies) (use_at batch.uses source)

abbrev pub CutTablesBound : Type 0
CutTablesBound =
    (run : BatchRun) (cut : IsCut run) (lists : List (List Row)) → run.told ≡ map Some lists
    → All (λ ready. IsTable ready.count (lists_for lists ready)) run.readies → (source : ℕ) → source < length run.sizes
    → IsWithin run.settings (size_at run.sizes source) source (one_readings lists run.readies) (use_at cut.uses source)

-- ---- the one runs of the queries

abbrev reading_of : List ℕ → List Bool → Query → List (List Row) → Reading
reading_of sources sorted query D = record { sources = sources; accesses = one_run_with (method_with query.algorithm sorted) query D }

reading_is : (input : BulkInput) (number : ℕ) (ready : Ready) → IsMadeReady input number ready → one_reading (table_of input) ready ≡ made_reading input number
reading_is input number ready made =
    let D = table_of input in
    ap (λ (tabled : List (List Row)). reading_of ready.sources.items ready.sorted.items ready.query tabled) (made_lists input ready.sources.items made.sources)
    ∙ ap (λ (bs : List Bool). reading_of ready.sources.items bs ready.query D) made.sorted
    ∙ ap (λ (query : Query). reading_of ready.sources.items (replicate (length query.names) true) query D) made.query
    ∙ ap (λ (numbers : List ℕ). reading_of numbers (replicate (length (query_of input number).names) true) (query_of input number) D) made.sources

readings_are : (input : BulkInput) (numbers : List ℕ) (readies : List Ready) → AllZip (IsMadeReady input) numbers readies
    → one_readings (table_of input) readies ≡ map (made_reading input) numbers
readings_are input [] [] made = refl
readings_are input [] (ready ∷ readies) made = absurd made
readings_are input (number ∷ numbers) [] made = absurd made
readings_are input (number ∷ numbers) (ready ∷ readies) made =
    ap (λ (one : Reading). one ∷ one_readings (table_of input) readies) (reading_is input number ready made.0)
    ∙ ap (λ (others : List Reading). made_reading input number ∷ others) (readings_are input numbers readies made.1)

-- ---- what a source of the table gave

fresh_rows : (table : List (List Row)) (source : ℕ) → (counts_at (map (λ (slot : Slot Held). counts_of slot.source) (map fresh_slot table)) source).rows_given ≡ 0
fresh_rows [] source = refl
fresh_rows (rows ∷ table) zero = refl
fresh_rows (rows ∷ table) (suc source) = fresh_rows table source

fresh_grades : (table : List (List Row)) (source : ℕ) → (counts_at (map (λ (slot : Slot Held). counts_of slot.source) (map fresh_slot table)) source).grades_given ≡ 0
fresh_grades [] source = refl
fresh_grades (rows ∷ table) zero = refl
fresh_grades (rows ∷ table) (suc source) = fresh_grades table source

from_none : (number most before now given : ℕ) → before ≡ 0 → now ≡ given → WentUp number before now → number ≤ most → most ≤ 200000 → given ≤ most
from_none number most before now given none is up few small = omega (arith, none, is, up, few, small)

-- by what was used of it
gave_sparingly : (input : BulkInput) (settings : Settings) (list : ℕ) (held : Held) (used : Use) → 1 ≤ settings.page → input.count ≤ 200000
    → used.asks ≤ 200000 → (used.rows ≤ 200000 → held.rows_given ≤ used.rows) → held.grades_given ≤ used.grades
    → IsWithin settings input.count list (made_readings input) used → IsReadSparingly input settings list held
gave_sparingly input settings list held used some small asked rows grades within =
    let reach = reach_of used.want settings.page settings.ahead input.count in
    let inside = reach_within settings.page settings.ahead input.count used.want in
    let few = within.rows in
    let given = rows (omega (arith, few, inside, small)) in
    let given_few : held.rows_given ≤ reach = omega (arith, given, few) in
    let fewer = within.grades in
    let asks = within.asks in
    record {
      rows = le_trans given_few (reach_more settings.page settings.ahead input.count used.want (deepest list (made_readings input)) some within.want);
      grades = omega (arith, grades, fewer, asks);
    }

module _ (input : BulkInput) (settings : Settings) (counts : List ℕ) (readies : List Ready) (before now : List (Slot Held)) (of : IsInput input)
    (are_settings : AreSettings settings) (counted : counts ≡ replicate input.lists input.count) (made : AreMadeReady input readies)
    (fresh : before ≡ map fresh_slot (table_of input)) (same : map (λ (slot : Slot Held). told_rows slot.source) now ≡ map (λ (slot : Slot Held). told_rows slot.source) before) where
  abbrev R : BatchRun
  R = run_of told_rows counts_of calls_of version_of settings counts readies before now

  as_many : length now ≡ length counts
  as_many =
      sym (length-map now (λ (slot : Slot Held). told_rows slot.source)) ∙ ap length same ∙ length-map before (λ (slot : Slot Held). told_rows slot.source)
      ∙ slots_long input.start input.count input.lists before fresh ∙ sym (counts_long input counts counted)

  read_by : (queries : List RunningQuery) (states : List State) (uses : List Use) → IsReadBy R queries states uses
      → ((source : ℕ) → source < length counts → IsWithin settings (size_at counts source) source (one_readings (table_of input) readies) (use_at uses source))
      → AreReadSparingly input settings now
  read_by queries states uses read within = λ list d l.
      let many = as_many in
      let sized : list < length counts = omega (arith, l, many) in
      let long = counts_long input counts counted in
      let used = read.used list sized in
      let closing = read.closing list sized in
      let sound : IsSound (state_at states list) = closing.sound in
      let fits = sound.fits in
      let small = sound.small in
      let asks = used.asks in
      let once = used.once in
      let asked : (use_at uses list).asks ≤ 200000 = omega (arith, asks, fits, small) in
      let now_is = map_at (λ (slot : Slot Held). counts_of slot.source) now list d no_counts l in
      let count : size_at counts list ≡ input.count =
      ap (λ (cs : List ℕ). slice_index_or cs list 0) counted ∙ get_or-replicate input.lists list input.count 0 (omega (arith, sized, long)) in
      let none_rows = ap (λ (slots : List (Slot Held)). (counts_at (map (λ (slot : Slot Held). counts_of slot.source) slots) list).rows_given) fresh ∙ fresh_rows (table_of input) list in
      let none_grades = ap (λ (slots : List (Slot Held)). (counts_at (map (λ (slot : Slot Held). counts_of slot.source) slots) list).grades_given) fresh ∙ fresh_grades (table_of input) list in
      let is : IsWithin settings input.count list (made_readings input) (use_at uses list) =
      subst (λ (readings : List Reading). IsWithin settings input.count list readings (use_at uses list))
      (readings_are input (range_with_len 0 input.queries) readies made)
      (subst (λ n. IsWithin settings n list (one_readings (table_of input) readies) (use_at uses list)) count (within list sized)) in
      gave_sparingly input settings list (slice_index_or now list d).source (use_at uses list) are_settings.some_rows of.few_objects asked
      (λ few. from_none (use_at uses list).rows (use_at uses list).rows _ _ _ none_rows (ap (λ (c : Counts). c.rows_given) now_is) used.rows (omega arith) few)
      (from_none (use_at uses list).grades (use_at uses list).grades _ _ _ none_grades (ap (λ (c : Counts). c.grades_given) now_is) used.grades (omega arith) (omega (arith, once, asked)))
      is

  told : R.told ≡ map Some (table_of input)
  told = ap (λ (slots : List (Slot Held)). map (λ (slot : Slot Held). told_rows slot.source) slots) fresh ∙ table_told input.start input.count input.lists

  -- where memory ran out
  pub cut_sparingly : CutTablesBound → IsCut R → AreReadSparingly input settings now
  cut_sparingly law cut =
      read_by (begun cut.stood) cut.states cut.uses cut.read (λ source l. law R cut (table_of input) told (all_have_tables input readies made) source l)

  -- where all queries ended
  pub ran_sparingly : ToldTablesBound → (batch : BatchState) → IsBatch R batch → AreReadSparingly input settings now
  ran_sparingly law batch ran =
      read_by ran.queries ran.states batch.uses (record { many = ran.many; closing = ran.closing; served = ran.served; used = ran.used; called = ran.called })
      (λ source l. law R batch ran (table_of input) told (all_have_tables input readies made) source l)

-- ---- nothing was read yet

none_rows_at : (table : List (List Row)) (list : ℕ) (d : Slot Held) → list < length (map fresh_slot table) → (slice_index_or (map fresh_slot table) list d).source.rows_given ≡ 0
none_rows_at [] list d l = absurd (omega (arith, l))
none_rows_at (rows ∷ table) zero d l = refl
none_rows_at (rows ∷ table) (suc list) d l = none_rows_at table list d (omega (arith, l))

none_grades_at : (table : List (List Row)) (list : ℕ) (d : Slot Held) → list < length (map fresh_slot table)
    → (slice_index_or (map fresh_slot table) list d).source.grades_given ≡ 0
none_grades_at [] list d l = absurd (omega (arith, l))
none_grades_at (rows ∷ table) zero d l = refl
none_grades_at (rows ∷ table) (suc list) d l = none_grades_at table list d (omega (arith, l))

pub unread_sparingly : (input : BulkInput) (settings : Settings) (slots : List (Slot Held)) → slots ≡ map fresh_slot (table_of input)
    → AreReadSparingly input settings slots
unread_sparingly input settings slots are =
    subst (AreReadSparingly input settings) (sym are)
    (λ list d l.
    let rows = none_rows_at (table_of input) list d l in
    let grades = none_grades_at (table_of input) list d l in
    record { rows = omega (arith, rows); grades = omega (arith, grades) })
