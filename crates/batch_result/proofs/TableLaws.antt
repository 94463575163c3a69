-- Where sources tell lists that form a table for each query, each query of a batch is on its run over them.
use Rattle.std.proofs.Common.{◌≡◌, ◌≤◌, ◌<◌, inl, inr, ℕ, Some, None, List, [], length, map, All, Contains, IfSome, sym, ap, subst, ◌∙◌, arith}
use Rattle.std.proofs.lemmas.Bool.{cases_lt}
use Rattle.std.proofs.lemmas.List.{length-map, get_or_past}
use Rattle.std.proofs.lemmas.List.Elements.{Contains-append_left, Contains-append_cases}
use Rattle.ranked_list.specs.declared.row.Row.{Row}
use Rattle.ranked_list.specs.declared.need.Need.TheVariants as need
use Rattle.ranked_list.specs.Table.{IsRanked, objects}
use Rattle.topk_theory.specs.declared.access.Access.TheVariants.{Random}
use Rattle.topk_theory.specs.Transcript.{Begins, Grows, IsDrawn, whole, list_at}
use Rattle.topk_theory.proofs.Agreement.{drawn_gives, drawn_more}
use Rattle.topk_theory.proofs.AgreementLists.{all_from_members, member_of_all, contains_map, contains_at, contains_splits, begins_splits}
use Rattle.access_log.specs.Log.{AgreesWith}
use Rattle.source_state.specs.declared.entry.Settling.TheVariants.{Graded}
use Rattle.source_state.specs.Log.{rows_in, graded_in}
use Rattle.source_state.specs.State.{State, opened, IsSound, state_at}
use Rattle.source_state.proofs.LogLaws.{graded_settling}
use Rattle.query_core.specs.Machines.{method_of, state_of}
use Rattle.query_run.specs.declared.running_query.RunningQuery.{RunningQuery}
use Rattle.query_run.specs.Inquiries.{told_to, source_of}
use Rattle.query_run.specs.Kept.{IsSourceOf, IsServed}
use Rattle.query_run.specs.Honest.{lists_of, HasTable, IsTrueOf, IsTrueFor, IsOnItsRun}
use Rattle.query_run.proofs.Serving.{sound_at, rows_told, known_told, source_at}
use Rattle.query_run.proofs.Honest.{list_is, on_its_run}
use Rattle.monotone_fn.proofs.Laws.{value-monotone}
use Rattle.topk_theory.specs.Threshold.{IsAsked}
use Rattle.machine_base.specs.Machine.{asked_of}
use Rattle.query_core.proofs.AllFacts.{facts}
use Rattle.query_run.specs.Asking.{run_on, IsCertainFor, AsksGradeOf}
use Rattle.fetcher.specs.Telling.{TellsOf}
use Rattle.batch_result.specs.Numbered.{told_at}
use Rattle.batch_result.specs.declared.batch.Use.{Use}
use Rattle.batch_result.specs.Batches.{BatchState, BatchRun, IsHonestFor, IsBatch}
use Rattle.batch_result.specs.Cut.{IsReadBy}
use Rattle.batch_result.specs.Tables.{NoneMoved}
use Rattle.batch_result.proofs.Places.{map_at, same_at}

-- where each log of a query's sources tells of the source's list alone, the query's transcript agrees with its lists
module _ (lists : List (List Row)) (states : List State) (q : RunningQuery) (sound : All IsSound states) (h : IsServed states q) (table : HasTable lists q)
    (tells : (list : ℕ) → list < length q.sources.items → TellsOf (list_at lists (source_of q list)) (state_at states (source_of q list)).log) where
  abbrev D : List (List Row)
  D = lists_of lists q

  front : (list : ℕ) → list < length q.sources.items → Begins (list_at (told_to states q).rows list) (list_at D list)
  front list l =
      subst (λ rows. Begins rows (list_at D list)) (sym (rows_told states q.sources.items list l))
      (subst (Begins (rows_in (state_at states (source_of q list)).log)) (sym (list_is lists q.sources.items list l)) (tells list l).rows)

  known : (list : ℕ) → list < length q.sources.items → (row : Row) → Contains (list_at (told_to states q).known list) row → Contains (list_at D list) row
  known list l row c =
      let log = (state_at states (source_of q list)).log in
      let rows = list_at lists (source_of q list) in
      let once = (sound_at states (source_of q list) sound (source_at states q list h.sources l).0).log.once in
      subst (λ xs. Contains xs row) (sym (list_is lists q.sources.items list l))
      (elim (Contains-append_cases (rows_in log) (graded_in log) row (subst (λ xs. Contains xs row) (known_told states q.sources.items list l) c)) [
        | inl one ↦ subst (λ xs. Contains xs row) (sym (begins_splits (rows_in log) rows (tells list l).rows)) (Contains-append_left (rows_in log) _ row one)
        | inr one ↦ (tells list l).settled row.object (Graded row.grade) (graded_settling log row once one)
      ])

  grows : Grows (length q.sources.items) (told_to states q) (whole D)
  grows = record { rows = front; known = known }

  pub told_agrees : AgreesWith D (state_of q.machine).log
  told_agrees =
      let t = state_of q.machine in
      record {
        lists = length-map q.sources.items (list_at lists) ∙ h.sources.many;
        table = table;
        drawn = drawn_more t.log.lists (told_to states q) (whole D) t.log.accesses (subst (λ m. Grows m (told_to states q) (whole D)) h.sources.many grows) h.drawn.drawn;
      }

-- an object whose grade is certain for a query stands in the list
asked_of_list : (lists : List (List Row)) (states : List State) (q : RunningQuery) (list object : ℕ) → IsServed states q → list < length q.sources.items
    → AgreesWith (lists_of lists q) (state_of q.machine).log → IsCertainFor q (need.Grade list object)
    → Contains (objects (list_at (lists_of lists q) list)) object
asked_of_list lists states q list object h listed agrees certain =
    let t = state_of q.machine in
    let D = lists_of lists q in
    let many = h.sources.many in
    let asked : IsAsked t.k t.log.count D = record {
      table = agrees.table;
      lists = let long = agrees.lists in omega (arith, long, many, listed);
      positive = h.run.posed.positive;
      fits = h.run.posed.fits;
    } in
    let run = (facts (method_of q.machine)).agrees (asked_of t) t.log.count D (value-monotone t.expr) asked in
    let met = certain.met D agrees in
    let split = contains_splits (run_on q D) (Random list object met.0) met.1 in
    let gives : Contains (list_at D list) (record { object = object; grade = met.0 })
    = drawn_gives (length D) (whole D) split.0 (Random list object met.0) split.1 (subst (IsDrawn (length D) (whole D)) split.2 run.drawn) in
    contains_map (λ (row : Row). row.object) (list_at D list) (record { object = object; grade = met.0 }) gives

pub named_in_list : (lists : List (List Row)) (states : List State) (q : RunningQuery) (source object : ℕ) → IsServed states q
    → AgreesWith (lists_of lists q) (state_of q.machine).log → AsksGradeOf q source object → Contains (objects (list_at lists source)) object
named_in_list lists states q source object h agrees asks =
    subst (λ s. Contains (objects (list_at lists s)) object) asks.of
    (subst (λ rows. Contains (objects rows) object) (list_is lists q.sources.items asks.list asks.listed)
    (asked_of_list lists states q asks.list object h asks.listed agrees asks.asks))

-- the lists that are told
told_list : (lists : List (List Row)) (source : ℕ) → 1 ≤ length (list_at lists source) → told_at (map Some lists) source ≡ Some (list_at lists source)
told_list lists source some = elim (cases_lt source (length lists)) [
  | inl within ↦ map_at Some lists source [] None within
  | inr past ↦ absurd (let none : length (list_at lists source) ≡ 0 = ap (length {A = Row}) (get_or_past lists source [] past) in omega (arith, some, none))
]

-- what is known of a source of a query
pub record IsReadOf (lists : List (List Row)) (states : List State) (source : ℕ) : Type 0 where
  pub ranked : IsRanked (list_at lists source)
  pub long : length (list_at lists source) ≡ (state_at states source).count
  pub tells : TellsOf (list_at lists source) (state_at states source).log
  pub honest : IsHonestFor (list_at lists source) (state_at states source)

-- the closing states are sound
sound_by : (run : BatchRun) (queries : List RunningQuery) (states : List State) (uses : List Use) → IsReadBy run queries states uses → All IsSound states
sound_by run queries states uses read k d l =
    let many = read.many in
    subst IsSound (same_at states k (opened 0 0) d l) (read.closing k (omega (arith, l, many))).sound

module _ (run : BatchRun) (queries : List RunningQuery) (states : List State) (uses : List Use) (read : IsReadBy run queries states uses) (lists : List (List Row)) (told : run.told ≡ map Some lists)
    (tables : All (HasTable lists) queries) where
  all_sound : All IsSound states
  all_sound = sound_by run queries states uses read

  served_by : (q : RunningQuery) → Contains queries q → IsServed states q
  served_by q c = member_of_all (IsServed states) queries q read.served c

  table : (q : RunningQuery) → Contains queries q → HasTable lists q
  table q c = member_of_all (HasTable lists) queries q tables c

  within_by : (q : RunningQuery) (source : ℕ) → Contains queries q → Contains q.sources.items source → source < length run.sizes
  within_by q source c s =
      let at = member_of_all (IsSourceOf states (state_of q.machine).log.count) q.sources.items source (served_by q c).sources.each s in
      let many = read.many in
      omega (arith, at.0, many)

  pub reads_of : (q : RunningQuery) (source : ℕ) → Contains queries q → Contains q.sources.items source → IsReadOf lists states source
  reads_of q source c s =
      let at = member_of_all (IsSourceOf states (state_of q.machine).log.count) q.sources.items source (served_by q c).sources.each s in
      let among = contains_map (list_at lists) q.sources.items source s in
      let sized = member_of_all (λ (rows : List Row). length rows ≡ (state_of q.machine).log.count) (lists_of lists q) (list_at lists source) (table q c).sized among in
      let posed = (served_by q c).run.posed in
      let positive = posed.positive in
      let fits = posed.fits in
      let is : told_at run.told source ≡ Some (list_at lists source)
      = ap (λ all. told_at all source) told ∙ told_list lists source (omega (arith, sized, positive, fits)) in
      let closing = read.closing source (within_by q source c s) in
      record {
        ranked = member_of_all IsRanked (lists_of lists q) (list_at lists source) (table q c).ranked among;
        long = sized ∙ sym at.1;
        tells = subst (λ o. IfSome o (λ list. TellsOf list (state_at states source).log)) is closing.tells;
        honest = subst (λ o. IfSome o (λ list. IsHonestFor list (state_at states source))) is closing.honest;
      }

  pub agrees_by : (q : RunningQuery) → Contains queries q → AgreesWith (lists_of lists q) (state_of q.machine).log
  agrees_by q c = told_agrees lists states q all_sound (served_by q c) (table q c)
      (λ list l. (reads_of q (source_of q list) c (contains_at q.sources.items list 0 l)).tells)

-- what a batch reads
pub read_by : (run : BatchRun) (batch : BatchState) (ran : IsBatch run batch) → IsReadBy run ran.queries ran.states batch.uses
read_by run batch ran = record { many = ran.many; closing = ran.closing; served = ran.served; used = ran.used; called = ran.called }

pub states_sound : (run : BatchRun) (batch : BatchState) (ran : IsBatch run batch) → All IsSound ran.states
states_sound run batch ran = sound_by run ran.queries ran.states batch.uses (read_by run batch ran)

module _ (run : BatchRun) (batch : BatchState) (ran : IsBatch run batch) (lists : List (List Row)) (told : run.told ≡ map Some lists)
    (tables : All (HasTable lists) ran.queries) where
  served : (q : RunningQuery) → Contains ran.queries q → IsServed ran.states q
  served q c = member_of_all (IsServed ran.states) ran.queries q ran.served c

  within : (q : RunningQuery) (source : ℕ) → Contains ran.queries q → Contains q.sources.items source → source < length run.sizes
  within = within_by run ran.queries ran.states batch.uses (read_by run batch ran) lists told tables

  pub read_of : (q : RunningQuery) (source : ℕ) → Contains ran.queries q → Contains q.sources.items source → IsReadOf lists ran.states source
  read_of = reads_of run ran.queries ran.states batch.uses (read_by run batch ran) lists told tables

  pub agrees : (q : RunningQuery) → Contains ran.queries q → AgreesWith (lists_of lists q) (state_of q.machine).log
  agrees = agrees_by run ran.queries ran.states batch.uses (read_by run batch ran) lists told tables

-- where moreover no list was replaced
module _ (run : BatchRun) (batch : BatchState) (ran : IsBatch run batch) (lists : List (List Row)) (told : run.told ≡ map Some lists) (unmoved : NoneMoved run)
    (tables : All (HasTable lists) ran.queries) where
  pub is_true : (q : RunningQuery) (source : ℕ) → Contains ran.queries q → Contains q.sources.items source → IsTrueOf (list_at lists source) (state_at ran.states source)
  is_true q source c s =
      let read = read_of run batch ran lists told tables q source c s in
      read.honest.honest read.ranked read.long
      (λ object k.
      let one = (ran.used source (within run batch ran lists told tables q source c s)).named object k in
      named_in_list lists ran.states one.0 source object (served run batch ran lists told tables one.0 one.1) (agrees run batch ran lists told tables one.0 one.1) one.2)
      (λ had other tells. let here = within run batch ran lists told tables q source c s in unmoved source here ((ran.counted source here).moved had other tells).counted)

  true_for : (q : RunningQuery) → Contains ran.queries q → IsTrueFor lists ran.states q
  true_for q c = record {
    table = member_of_all (HasTable lists) ran.queries q tables c;
    each = all_from_members (λ source. IsTrueOf (list_at lists source) (state_at ran.states source)) q.sources.items (λ source s. is_true q source c s);
  }

  pub on_their_runs : All (IsOnItsRun lists) ran.queries
  on_their_runs = all_from_members (IsOnItsRun lists) ran.queries (λ q c. on_its_run lists ran.states q (states_sound run batch ran) (served run batch ran lists told tables q c) (true_for q c))
