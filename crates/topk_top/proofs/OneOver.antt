-- Answers over lists that are told are the one answers over them, whatever became of other lines.
use Rattle.std.proofs.Common.{◌≡◌, ℕ, zero, suc, ◌+◌, ◌<◌, List, [], ◌∷◌, All, Contains, map, length, inl, inr, Option, None, Some, option_map, slice_index_or, refl, sym, ap, ◌∙◌, subst, arith}
use Rattle.std.specs.Prelude.{IfSome}
use Rattle.std.specs.Option.{option_and_then}
use Rattle.std.specs.List.{AllByRecursion, AllZip}
use Rattle.std.proofs.lemmas.Bool.{cases_lt}
use Rattle.std.proofs.lemmas.Option.{same_Some}
use Rattle.std.proofs.lemmas.List.{get_or_past, length-map}
use Rattle.std.proofs.lemmas.List.Elements.{All-from_recursion}
use Rattle.ranked_list.specs.declared.row.Row.{Row}
use Rattle.ranked_list.specs.Table.{IsTable}
use Rattle.topk_theory.specs.Transcript.{list_at}
use Rattle.topk_theory.proofs.AgreementLists.{contains_at, contains_here, contains_there, member_of_all}
use Rattle.access_log.specs.Log.{AgreesWith}
use Rattle.machine_base.specs.declared.answer.Answer.{Answer}
use Rattle.cert_text.specs.declared.outcome.Outcome.TheVariants.{Answered}
use Rattle.source_state.specs.State.{state_at}
use Rattle.query_core.specs.declared.ready.Ready.{Ready as ReadyQuery}
use Rattle.query_core.specs.Machines.{state_of}
use Rattle.query_core.specs.Ready.{method_of_ready}
use Rattle.query_core.specs.OneAnswer.{IsOneAnswerWith}
use Rattle.query_core.proofs.Answering.{agrees_same}
use Rattle.query_admission.specs.View.{View, AreTold}
use Rattle.query_admission.specs.Admission.{IsAdmitted}
use Rattle.query_admission.specs.declared.lists.ListInfo.{ListInfo}
use Rattle.query_admission.proofs.Positions.{nothing}
use Rattle.query_admission.proofs.ReadyLists.{admitted_states}
use Rattle.query_run.specs.declared.ended.Ended.{Ended}
use Rattle.query_run.specs.declared.ended.Ended.TheVariants as ended
use Rattle.query_run.specs.declared.running_query.RunningQuery.{RunningQuery}
use Rattle.query_run.specs.Inquiries.{source_of}
use Rattle.query_run.specs.Endings.{EndsAs, IsRight}
use Rattle.query_run.specs.Honest.{HasTable as HasQueryTable, lists_of}
use Rattle.query_run.specs.Kept.{IsServed, IsSourceOf}
use Rattle.query_run.specs.Made.{IsOf}
use Rattle.fetcher.specs.Telling.{TellsOf}
use Rattle.batch_result.proofs.TableLaws.{states_sound, told_agrees}
use Rattle.catalog_open.specs.declared.opened.Opening.{Opening}
use Rattle.catalog_open.specs.declared.opened.Opening.TheVariants.{Closed, Open}
use Rattle.catalog_open.specs.Views.{entry_named, said_of, listed_at, view_over, nothing_told}
use Rattle.query_admission.specs.Causes.{line_over}
use Rattle.catalog_open.specs.Entries.{entry_at, opening_at, entry_told}
use Rattle.catalog_open.specs.Wanted.{IsWanted}
use Rattle.catalog_open.specs.Openings.{IsOpening, IsSource, IsToldAs}
use Rattle.query_admission.specs.declared.line_outcome.LineOutcome.{LineOutcome}
use Rattle.topk_top.specs.Answers.{method_in, IsOneOverTold}
use Rattle.topk_top.proofs.InOrder.{ready_method}
use Rattle.line_outcome.specs.Outcomes.{ended_outcome, look_refusal}
use Rattle.catalog_run.specs.Runs.{CatalogRun, IsRun, IsLineRun, AreOutcomes}
use Rattle.line_outcome.specs.LineOutcomes.{IsLineRefused}
use Rattle.catalog_run.specs.OpenSources.{batch_over}
use Rattle.topk_top.specs.ToldTables.{view_told}
use Rattle.topk_top.proofs.Becoming.{served_all}
use Rattle.topk_top.proofs.Right.{never_answered, refused_answered, same_answer}
use Rattle.topk_top.proofs.ToldLists.{by_place, rows_at_source, rows_of, some_place}

closed_open : {size source version : ℕ} → Closed ≡ Open size source version → ⊥
closed_open e = cc

-- the sources of lists that are known tell these rows
abbrev TellRows : List (Option (List Row)) → List ListInfo → List (List Row) → Type 0
TellRows told ls D = AllZip (λ (l : ListInfo) (rows : List Row). slice_index_or told l.source None ≡ Some rows) ls D

-- the rows by the numbers of the sources
rows_told : (told : List (Option (List Row))) (ls : List ListInfo) (D : List (List Row)) → TellRows told ls D
    → D ≡ map (list_at (map rows_of told)) (map (λ (l : ListInfo). l.source) ls)
rows_told told [] [] tell = refl
rows_told told [] (d ∷ D) tell = absurd tell
rows_told told (l ∷ ls) [] tell = absurd tell
rows_told told (l ∷ ls) (d ∷ D) tell =
    ap (λ rows. rows ∷ D) (sym (rows_at_source told l.source d tell.0)) ∙ ap (λ rest. list_at (map rows_of told) l.source ∷ rest) (rows_told told ls D tell.1)

own_rows : (told : List (Option (List Row))) (ls : List ListInfo) (D : List (List Row)) (list : ℕ) → TellRows told ls D → list < length ls
    → slice_index_or told (slice_index_or (map (λ (l : ListInfo). l.source) ls) list 0) None
    ≡ Some (list_at (map rows_of told) (slice_index_or (map (λ (l : ListInfo). l.source) ls) list 0))
own_rows told [] D list tell l = absurd (omega (arith, l))
own_rows told (x ∷ ls) [] list tell l = absurd tell
own_rows told (x ∷ ls) (d ∷ D) zero tell l = tell.0 ∙ ap Some (sym (rows_at_source told x.source d tell.0))
own_rows told (x ∷ ls) (d ∷ D) (suc list) tell l = own_rows told ls D list tell.1 (omega (arith, l))

module _ (r : CatalogRun) (outcomes : List LineOutcome) (run : IsRun r outcomes) where
  abbrev Y : View
  Y = view_over r.catalog run.openings nothing_told

  abbrev said : ℕ → ListInfo
  said = listed_at r.catalog run.openings

  -- the lists by the numbers of the sources; an empty one where a source tells none
  abbrev lists : List (List Row)
  lists = map rows_of run.sources.told

  -- the source of a place that tells rows tells them
  tells_rows : (place n : ℕ) (rows : List Row) → entry_told r.lists r.catalog place ≡ Some rows → (said place).size ≡ Some n
      → slice_index_or run.sources.told (said place).source None ≡ Some rows
  tells_rows place n rows told sized = by (opening_at run.openings place) refl sized
    where
      by : (o : Opening) → opening_at run.openings place ≡ o → (said_of (entry_at r.catalog place) o).size ≡ Some n
          → slice_index_or run.sources.told (said_of (entry_at r.catalog place) o).source None ≡ Some rows
      by Closed is sized = absurd cc
      by (Open size source version) is sized =
          let within : place < length run.openings = elim (cases_lt place (length run.openings)) [
            | inl inside ↦ inside
            | inr past ↦ absurd (closed_open (sym (get_or_past run.openings place Closed past) ∙ is))
          ] in
          let opening : IsOpening r.lists r.versions r.catalog run.sources (IsWanted r.catalog r.lines) r.before run.mid place (Open size source version) =
          subst (IsOpening r.lists r.versions r.catalog run.sources (IsWanted r.catalog r.lines) r.before run.mid place) is (run.opened.each place within) in
          let at : IsSource r.lists r.versions r.catalog run.sources place size source version = opening.1 in
          let told_as : IsToldAs (Some rows) (slice_index_or run.sources.told source None) size =
          subst (λ o. IsToldAs o (slice_index_or run.sources.told source None) size) told at.told in
          told_as.0

  -- so the sources of an admitted query's lists tell them
  tell_rows : (names : List (List ℕ)) (ls : List ListInfo) (D : List (List Row)) (n : ℕ) → map (by_place r.catalog said) names ≡ map Some ls
      → map (view_told r.catalog r.lists r.versions).told names ≡ map Some D
      → ((place : ℕ) → place < length ls → (slice_index_or ls place nothing).size ≡ Some n) → TellRows run.sources.told ls D
  tell_rows [] [] [] n known told sizes = tt
  tell_rows [] [] (d ∷ D) n known told sizes = absurd cc
  tell_rows [] (l ∷ ls) D n known told sizes = absurd cc
  tell_rows (name ∷ names) [] D n known told sizes = absurd cc
  tell_rows (name ∷ names) (l ∷ ls) [] n known told sizes = absurd cc
  tell_rows (name ∷ names) (l ∷ ls) (d ∷ D) n known told sizes =
      let here : option_map said (entry_named r.catalog name) ≡ Some l = cc in
      let rest : map (by_place r.catalog said) names ≡ map Some ls = cc in
      let told_here : option_and_then (entry_told r.lists r.catalog) (entry_named r.catalog name) ≡ Some d = cc in
      let told_rest : map (view_told r.catalog r.lists r.versions).told names ≡ map Some D = cc in
      let one = some_place said (entry_named r.catalog name) l here in
      let rows : entry_told r.lists r.catalog one.0 ≡ Some d = sym (ap (option_and_then (entry_told r.lists r.catalog)) one.1) ∙ told_here in
      let sized : (said one.0).size ≡ Some n = subst (λ (k : ListInfo). k.size ≡ Some n) one.2 (sizes 0 (omega arith)) in (
        subst (λ (k : ListInfo). slice_index_or run.sources.told k.source None ≡ Some d) (sym one.2) (tells_rows one.0 n d rows sized),
        tell_rows names ls D n rest told_rest (λ place h. sizes (suc place) (omega (arith, h))),
      )

  -- an answer of a query whose lists agree with its transcript
  ended_one : (q : RunningQuery) (ready : ReadyQuery) (e : Ended) (D : List (List Row)) (answer : Answer) → EndsAs q e → IsRight ready e
      → ended_outcome e ≡ Some (Answered answer) → AgreesWith D (state_of q.machine).log → IsOneAnswerWith (method_of_ready ready) ready.query D answer
  ended_one q ready (ended.Answered other) D answer ends right is agrees =
      let log = ends.log in
      subst (IsOneAnswerWith (method_of_ready ready) ready.query D) (same_answer (same_Some (Answered other) (Answered answer) is))
      (right.every D (agrees_same D (state_of q.machine).log other.transcript (record { lists = sym log.lists; count = sym log.count; accesses = sym log.accesses }) agrees))
  ended_one q ready (ended.Core fault) D answer ends right is agrees = absurd (refused_answered _ answer (same_Some _ (Answered answer) is))
  ended_one q ready (ended.Look list fault) D answer ends right is agrees = absurd (never_answered (look_refusal list fault) answer is)

  -- the lists of a query that ran agree with its transcript, where they are told and form a table
  lists_agree : (number : ℕ) (bytes : List ℕ) (q : RunningQuery) (ready : ReadyQuery) (D : List (List Row)) → IsAdmitted (line_over Y number bytes) ready → IsOf ready q
      → Contains run.ran.ran.queries q → AreTold (view_told r.catalog r.lists r.versions) ready.query D → IsTable ready.count D → AgreesWith D (state_of q.machine).log
  lists_agree number bytes q ready D admitted of c told table =
      let b = run.ran.ran in
      let served = served_all r outcomes run q c in
      let tell = tell_rows ready.query.names admitted.lists D ready.count admitted.listed told (admitted_states (line_over Y number bytes) ready admitted) in
      let sources : map (λ (l : ListInfo). l.source) admitted.lists ≡ q.sources.items = admitted.sources ∙ sym of.sources in
      let same : D ≡ lists_of lists q = rows_told run.sources.told admitted.lists D tell ∙ ap (map (list_at lists)) sources in
      let has_table : HasQueryTable lists q =
      subst (λ n. IsTable n (lists_of lists q)) (sym (of.goes.count ∙ of.begun.count)) (subst (IsTable ready.count) same table) in
      subst (λ E. AgreesWith E (state_of q.machine).log) (sym same)
      (told_agrees lists b.states q (states_sound (batch_over r.settings run.sources run.begun run.now run.made run.calls run.ran.readies) run.ran.batch b) served has_table
      (λ list l. tells_own q admitted.lists D list tell sources served l))
    where
      tells_own : (q : RunningQuery) (ls : List ListInfo) (D : List (List Row)) (list : ℕ) → TellRows run.sources.told ls D
          → map (λ (l : ListInfo). l.source) ls ≡ q.sources.items → IsServed run.ran.ran.states q → list < length q.sources.items
          → TellsOf (list_at lists (source_of q list)) (state_at run.ran.ran.states (source_of q list)).log
      tells_own q ls D list tell sources served l =
          let b = run.ran.ran in
          let long : length ls ≡ length q.sources.items = sym (length-map ls (λ (l : ListInfo). l.source)) ∙ ap (length {A = ℕ}) sources in
          let own = own_rows run.sources.told ls D list tell (omega (arith, l, long)) in
          let is : slice_index_or run.sources.told (source_of q list) None ≡ Some (list_at lists (source_of q list)) =
          subst (λ (xs : List ℕ). slice_index_or run.sources.told (slice_index_or xs list 0) None ≡ Some (list_at lists (slice_index_or xs list 0))) sources own in
          let count = (state_of q.machine).log.count in
          let at : IsSourceOf b.states count (source_of q list) = member_of_all (IsSourceOf b.states count) q.sources.items (source_of q list) served.sources.each (contains_at q.sources.items list 0 l) in
          let there = at.0 in
          let many : length b.states ≡ length run.sources.counts = b.many in
          let closing = b.closing (source_of q list) (omega (arith, there, many)) in
          subst (λ o. IfSome o (λ rows. TellsOf rows (state_at b.states (source_of q list)).log)) is closing.tells

  line_one : (number : ℕ) (bytes : List ℕ) (o : LineOutcome) (q : RunningQuery) → Contains run.ran.ran.queries q → IsLineRun Y q number bytes o → IsOneOverTold r o
  line_one number bytes o q c line = λ query answer D query_is is told table.
      let ready = line.ready in
      let same : ready.query ≡ query = same_Some ready.query query (sym line.outcome.query ∙ query_is) in
      let agrees = lists_agree number bytes q ready D line.admitted line.of c (subst (λ x. AreTold (view_told r.catalog r.lists r.versions) x D) (sym same) told)
      (subst (λ n. IsTable n D) line.outcome.count table) in
      let one = subst (λ method. IsOneAnswerWith method ready.query D answer) (ready_method r.catalog run.openings number bytes ready line.admitted)
      (ended_one q ready line.ended D answer line.ends line.right (line.outcome.outcome ∙ ap Some is) agrees) in
      subst (λ x. IsOneAnswerWith (method_in r.catalog x) x D answer) same one

  line_refused : (number : ℕ) (bytes : List ℕ) (o : LineOutcome) → IsLineRefused Y number bytes o → IsOneOverTold r o
  line_refused number bytes o line = λ query answer D query_is is told table. absurd (refused_answered line.refusal answer (sym line.outcome ∙ is))

  all_one : (queries : List RunningQuery) (number : ℕ) (lines : List (List ℕ)) (others : List LineOutcome)
      → ((q : RunningQuery) → Contains queries q → Contains run.ran.ran.queries q) → AreOutcomes Y queries number lines others
      → AllByRecursion (IsOneOverTold r) others
  all_one queries number [] [] there are = tt
  all_one queries number [] (o ∷ others) there are = absurd are
  all_one queries number (bytes ∷ lines) [] there are = absurd are
  all_one queries number (bytes ∷ lines) (o ∷ others) there are = elim are [
    | inl refused ↦ (line_refused number bytes o refused.0, all_one queries (number + 1) lines others there refused.1)
    | inr ran ↦
        let all : (q : RunningQuery) → Contains (ran.0 ∷ ran.1) q → Contains run.ran.ran.queries q = λ q c. there q (subst (λ qs. Contains qs q) (sym ran.2) c) in (
          line_one number bytes o ran.0 (all ran.0 (contains_here ran.0 ran.1)) ran.3,
          all_one ran.1 (number + 1) lines others (λ q c. all q (contains_there ran.0 ran.1 q c)) ran.4,
        )
  ]

  pub one_over_told : All (IsOneOverTold r) outcomes
  one_over_told = All-from_recursion (IsOneOverTold r) outcomes (all_one run.ran.ran.queries 1 r.lines outcomes (λ q c. c) run.ran.outcomes_are)
