-- Open sources whose lists can't be read in order give no row.
use Rattle.std.proofs.Common.{◌≡◌, ◌⊎◌, ℕ, zero, suc, ◌+◌, ◌<◌, ◌≤◌, Bool, false, List, [], ◌∷◌, All, map, length, inl, inr, Some, slice_index_or, refl, sym, ap, ◌∙◌, subst, arith}
use Rattle.std.specs.List.{position}
use Rattle.std.proofs.lemmas.Bool.{true≢false}
use Rattle.std.proofs.lemmas.List.{length-map}
use Rattle.topk_theory.proofs.AgreementLists.{all_from_members, member_of_all}
use Rattle.source_api.specs.Counting.{no_counts}
use Rattle.query_text.specs.declared.algorithm.Algorithm.{Algorithm}
use Rattle.query_text.specs.declared.algorithm.Algorithm.TheVariants.{Ta, Nra, Ca, Fa, Theta, Early, Taz}
use Rattle.query_core.specs.declared.ready.Ready.{Ready as ReadyQuery}
use Rattle.query_admission.specs.View.{View, lacks_sorted, unread_list, sorted_at}
use Rattle.query_admission.specs.Causes.{QueryLine, line_over}
use Rattle.query_admission.specs.Admission.{IsAdmitted}
use Rattle.query_admission.specs.declared.lists.ListInfo.{ListInfo}
use Rattle.query_admission.proofs.Positions.{nothing}
use Rattle.query_admission.proofs.ReadyLists.{admitted_sorts, admitted_states}
use Rattle.fetcher.specs.Metering.{WentUp}
use Rattle.batch_result.specs.Account.{AsksGradesAlone, IsReadByGrades}
use Rattle.batch_result.specs.Batches.{BatchRun, BatchState, IsBatch, use_at}
use Rattle.batch_result.specs.Cut.{IsCut}
use Rattle.batch_result.specs.Numbered.{counts_at}
use Rattle.catalog_open.specs.Views.{listed_at, view_over, nothing_told}
use Rattle.catalog_open.specs.Entries.{entry_at, opening_at}
use Rattle.query_admission.specs.declared.line_outcome.LineOutcome.{LineOutcome}
use Rattle.catalog_run.specs.OpenSources.{batch_over}
use Rattle.catalog_run.specs.Runs.{CatalogRun, IsReadyOf, IsRun}
use Rattle.catalog_run.specs.Cut.{RanOutOfMemory}
use Rattle.topk_top.specs.Giving.{IsOutOfOrder}
use Rattle.topk_top.proofs.ToldLists.{known_places}
use Rattle.topk_top.proofs.InOrder.{said_sorted}
use Rattle.topk_top.proofs.Failures.{many_places, said_there, source_there}
use Rattle.topk_top.proofs.OpenedRuns.{OpenedRun, cut_own, of_cut, of_run, stood_open}
use Rattle.topk_top.proofs.Given.{cut_numbered, given_from_none, numbered}

-- a law of batches, as these lemmas take it
abbrev pub GradesAloneGiveNoRow : Type 0
GradesAloneGiveNoRow =
    (run : BatchRun) (batch : BatchState) → IsBatch run batch → (source : ℕ) → source < length run.sizes → All (IsReadByGrades source) run.readies
    → ((use_at batch.uses source).want ≡ 0) × ((use_at batch.uses source).rows ≡ 0)

abbrev pub CutGradesAloneGiveNoRow : Type 0
CutGradesAloneGiveNoRow =
    (run : BatchRun) (cut : IsCut run) (source : ℕ) → source < length run.sizes → All (IsReadByGrades source) run.readies
    → ((use_at cut.uses source).want ≡ 0) × ((use_at cut.uses source).rows ≡ 0)

-- whether a list can be read in order, by what it says of itself
sorted_of : (lists : List ListInfo) (list : ℕ) → slice_index_or (sorted_at lists) list false ≡ (slice_index_or lists list nothing).sorted
sorted_of [] list = refl
sorted_of (l ∷ ls) zero = refl
sorted_of (l ∷ ls) (suc list) = sorted_of ls list

-- an algorithm asks a list that can't be read in order for grades alone, or it reads all lists in order
by_algorithm : (a : Algorithm) (lists : List ListInfo) (sorted : List Bool) (list : ℕ) → slice_index_or sorted list false ≡ false
    → AsksGradesAlone a sorted list ⊎ (unread_list a lists ≡ position lacks_sorted lists)
by_algorithm Ta lists sorted list flat = inr refl
by_algorithm Nra lists sorted list flat = inr refl
by_algorithm Ca lists sorted list flat = inr refl
by_algorithm Fa lists sorted list flat = inr refl
by_algorithm (Theta p q) lists sorted list flat = inr refl
by_algorithm (Early depth) lists sorted list flat = inr refl
by_algorithm Taz lists sorted list flat = inl flat

-- so an admitted query asks it for grades alone
grades_alone : (x : QueryLine) (ready : ReadyQuery) (list : ℕ) (admitted : IsAdmitted x ready) → list < length admitted.lists
    → slice_index_or ready.sorted.items list false ≡ false → AsksGradesAlone ready.query.algorithm ready.sorted.items list
grades_alone x ready list admitted l flat = elim (by_algorithm ready.query.algorithm admitted.lists ready.sorted.items list flat) [
  | inl alone ↦ alone
  | inr all ↦
      absurd (true≢false (sym (admitted_sorts x ready admitted all list l) ∙ sym (sorted_of admitted.lists list) ∙ ap (λ (bs : List Bool). slice_index_or bs list false) admitted.sorted ∙ flat))
]

module _ (r : CatalogRun) (o : OpenedRun r) where
  abbrev P : View
  P = view_over r.catalog o.openings nothing_told

  abbrev telling : ℕ → ListInfo
  telling = listed_at r.catalog o.openings

  -- the query of a line asks each of its lists that is of such a source for grades alone
  by_grades : (source : ℕ) → IsOutOfOrder r.catalog o.sources.places source → (ready : ReadyQuery) → IsReadyOf P r.lines ready → IsReadByGrades source ready
  by_grades source none ready own = λ list l of.
      let x : QueryLine = line_over P (own.at + 1) own.bytes in
      let admitted : IsAdmitted x ready = own.admitted in
      let many = admitted.sound.sources in
      let places = known_places r.catalog telling ready.query.names admitted.lists admitted.listed in
      let names_long = many_places r.catalog ready.query.names places.places places.known in
      let inside : list < length places.places = omega (arith, l, many, names_long) in
      let lists_long : length admitted.lists ≡ length places.places = ap (length {A = ListInfo}) places.said ∙ length-map places.places telling in
      let within : list < length admitted.lists = omega (arith, inside, lists_long) in
      let place = slice_index_or places.places list 0 in
      let said : slice_index_or admitted.lists list nothing ≡ telling place =
      ap (λ (ls : List ListInfo). slice_index_or ls list nothing) places.said ∙ said_there telling places.places list inside in
      let sized : (telling place).size ≡ Some ready.count = subst (λ (k : ListInfo). k.size ≡ Some ready.count) said (admitted_states x ready admitted list within) in
      let source_is : slice_index_or ready.sources.items list 0 ≡ (telling place).source =
      ap (λ (sources : List ℕ). slice_index_or sources list 0) (sym admitted.sources ∙ ap (map (λ (k : ListInfo). k.source)) places.said)
      ∙ source_there telling places.places list inside in
      let stands : slice_index_or o.sources.places source 0 ≡ place =
      ap (λ s. slice_index_or o.sources.places s 0) (sym of ∙ source_is) ∙ stood_open r o place ready.count sized in
      let sorted : slice_index_or ready.sorted.items list false ≡ (telling place).sorted =
      ap (λ (bs : List Bool). slice_index_or bs list false) (sym admitted.sorted) ∙ sorted_of admitted.lists list ∙ ap (λ (k : ListInfo). k.sorted) said in
      let flat : (telling place).sorted ≡ false =
      said_sorted (entry_at r.catalog place) (opening_at o.openings place) ∙ ap (λ p. (entry_at r.catalog p).sorted) (sym stands) ∙ none in
      grades_alone x ready list admitted within (sorted ∙ flat)

  all_by_grades : (readies : List ReadyQuery) (source : ℕ) → IsOutOfOrder r.catalog o.sources.places source → All (IsReadyOf P r.lines) readies
      → All (IsReadByGrades source) readies
  all_by_grades readies source none own =
      all_from_members (IsReadByGrades source) readies (λ ready c. by_grades source none ready (member_of_all (IsReadyOf P r.lines) readies ready own c))

-- a source of which no row was used had given none
none_given : (number before now : ℕ) → number ≡ 0 → before ≡ 0 → WentUp number before now → now ≡ 0
none_given number before now none first up =
    let few : now ≤ 0 = given_from_none number 0 before now first up (omega (arith, none)) (omega arith) in
    omega (arith, few)

pub gives_no_row : GradesAloneGiveNoRow → (r : CatalogRun) (outcomes : List LineOutcome) (run : IsRun r outcomes) (source : ℕ)
    → source < length run.sources.places → IsOutOfOrder r.catalog run.sources.places source → (counts_at run.now source).rows_given ≡ 0
gives_no_row law r outcomes run source within none =
    let b = run.ran.ran in
    let at = numbered r outcomes run source within in
    let alone = all_by_grades r (of_run r outcomes run) run.ran.readies source none run.ran.own in
    let used = law (batch_over r.settings run.sources run.begun run.now run.made run.calls run.ran.readies) run.ran.batch b source at.0 alone in
    none_given (use_at run.ran.batch.uses source).rows (counts_at run.begun source).rows_given (counts_at run.now source).rows_given used.1
    (run.unread source no_counts at.1).rows (b.used source at.0).rows

-- so it is where memory ran out
pub cut_gives_no_row : CutGradesAloneGiveNoRow → (r : CatalogRun) (cut : RanOutOfMemory r) (source : ℕ) → source < length cut.sources.places
    → IsOutOfOrder r.catalog cut.sources.places source → (counts_at cut.now source).rows_given ≡ 0
cut_gives_no_row law r cut source within none =
    let b = cut.read.cut in
    let at = cut_numbered r cut source within in
    let alone = all_by_grades r (of_cut r cut) cut.read.readies source none (cut_own r cut) in
    let used = law (batch_over r.settings cut.sources cut.begun cut.now cut.made cut.calls cut.read.readies) b source at.0 alone in
    none_given (use_at b.uses source).rows (counts_at cut.begun source).rows_given (counts_at cut.now source).rows_given used.1
    (cut.unread source no_counts at.1).rows (b.read.used source at.0).rows
