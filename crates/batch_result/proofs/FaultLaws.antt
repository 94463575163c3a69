-- What a query is refused for over told lists is of these lists.
use Rattle.std.proofs.Common.{◌≡◌, ◌≢◌, ◌<◌, inl, inr, ℕ, suc, Option, Some, None, IfSome, List, [], ◌∷◌, ◌++◌, length, Contains, append_assoc, drop, refl, sym, ap, subst, ◌∙◌, arith}
use Rattle.std.specs.List.{AllZip, slice_index_or}
use Rattle.std.proofs.lemmas.List.Elements.{Contains-append_cases, Contains-append_right}
use Rattle.ranked_list.specs.declared.row.Row.{Row}
use Rattle.ranked_list.specs.declared.need.Need.{Need}
use Rattle.ranked_list.specs.declared.need.Need.TheVariants as need
use Rattle.ranked_list.specs.Table.{IsRanked, objects, top_grade}
use Rattle.topk_theory.specs.Transcript.{Begins, last_grade}
use Rattle.topk_theory.proofs.AgreementLists.{begins_splits, contains_cases, contains_here, contains_map, contains_map_from, contains_nil, member_of_all}
use Rattle.topk_theory.proofs.ConsistentRows.{behind_below_last, ranked_capped}
use Rattle.source_api.specs.Told.{HasEachOnce}
use Rattle.source_state.specs.declared.entry.LogEntry.{LogEntry}
use Rattle.source_state.specs.declared.entry.Settling.TheVariants.{Graded, Bad, Missed}
use Rattle.source_state.specs.declared.entry.SourceFault.{SourceFault}
use Rattle.source_state.specs.declared.entry.SourceFault.TheVariants.{OutOfOrder, TooHigh, Repeated, Clash, Above, ShortList, Moved}
use Rattle.source_state.specs.Log.{rows_in, fault_in}
use Rattle.source_state.specs.declared.look.LookFault.{LookFault}
use Rattle.source_state.specs.declared.look.LookFault.TheVariants as why
use Rattle.source_state.specs.State.{State, state_at}
use Rattle.query_core.specs.declared.ready.Ready.{Ready}
use Rattle.query_core.specs.Machines.{state_of}
use Rattle.query_run.specs.declared.ended.Ended.{Ended}
use Rattle.query_run.specs.declared.ended.Ended.TheVariants as ended
use Rattle.query_run.specs.declared.ended.Refusal.TheVariants as refusal
use Rattle.query_run.specs.declared.running_query.RunningQuery.{RunningQuery}
use Rattle.query_run.specs.Inquiries.{needed, source_needed, source_of}
use Rattle.query_run.specs.Causes.{CanNotBeHad, IsAtFault, IsCause, IsMissed}
use Rattle.query_run.specs.Endings.{EndsAs}
use Rattle.query_run.specs.Kept.{IsServed}
use Rattle.query_run.specs.Made.{IsOf}
use Rattle.query_run.proofs.Serving.{of_some_list, source_there}
use Rattle.fetcher.specs.Causes.{ComesOf, IsFaultOfRow, IsUnder}
use Rattle.fetcher.specs.Telling.{IsTrueSettling, TellsOf}
use Rattle.fetcher.proofs.ToldLaws.{never_clashes, never_repeated}
use Rattle.batch_result.specs.Batches.{BatchRun, BatchState, IsBatch}
use Rattle.batch_result.specs.Numbered.{told_at}
use Rattle.batch_result.specs.ToldFaults.{HasFault, HasToldCause, told_list}
use Rattle.batch_result.proofs.EndingLaws.{need_list, zip_through}

-- ---- one list
head_apart : (row : Row) (rows : List Row) (other : Row) → HasEachOnce (row ∷ rows) → Contains rows other → row.object ≢ other.object
head_apart row rows other once c = λ e. once 0 (suc c.0) other (omega arith) (omega (arith, c.1)) (e ∙ sym (ap (λ (z : Row). z.object) c.2))

once_tail : (row : Row) (rows : List Row) → HasEachOnce (row ∷ rows) → HasEachOnce rows
once_tail row rows once = λ i j d l m. once (suc i) (suc j) d (omega arith) (omega arith)

apart_behind : (rows : List Row) (row : Row) (rest : List Row) (other : Row) → HasEachOnce (rows ++ row ∷ rest) → Contains rest other
    → row.object ≢ other.object
apart_behind [] row rest other once c = head_apart row rest other once c
apart_behind (first ∷ rows) row rest other once c = apart_behind rows row rest other (once_tail first (rows ++ row ∷ rest) once) c

last_of_push : (above : ℕ) (rows : List Row) (row : Row) → last_grade above (rows ++ row ∷ []) ≡ row.grade
last_of_push above [] row = refl
last_of_push above (first ∷ rows) row = last_of_push first.grade rows row

-- a row behind kept ones, below a grade that the list has of another object
module _ (rows : List Row) (row : Row) (rest : List Row) (object grade : ℕ) (once : HasEachOnce (rows ++ row ∷ rest))
    (absent : ¬ Contains (objects rows) object) (under : row.grade < grade)
    (has : Contains (rows ++ row ∷ rest) (record { object = object; grade = grade })) where
  abbrev held : Row
  held = record { object = object; grade = grade }

  not_row : row.object ≢ object
  not_row = λ e. elim (Contains-append_cases rows (row ∷ rest) held has) [
    | inl kept ↦ absent (contains_map (λ (z : Row). z.object) rows held kept)
    | inr behind ↦ elim (contains_cases row rest held behind) [
      | inl same ↦ let grades : row.grade ≡ grade = ap (λ (z : Row). z.grade) same in omega (arith, grades, under)
      | inr later ↦ apart_behind rows row rest held once later e
    ]
  ]

  none_in_front : ¬ Contains (objects (rows ++ row ∷ [])) object
  none_in_front = λ c.
      let from = contains_map_from (λ (z : Row). z.object) (rows ++ row ∷ []) object c in
      elim (Contains-append_cases rows (row ∷ []) from.0 from.1) [
        | inl kept ↦ absent (subst (Contains (objects rows)) from.2 (contains_map (λ (z : Row). z.object) rows from.0 kept))
        | inr last ↦ elim (contains_cases row [] from.0 last) [
          | inl same ↦ not_row (ap (λ (z : Row). z.object) same ∙ from.2)
          | inr none ↦ contains_nil from.0 none
        ]
      ]

has_under : (list : List Row) (log : List LogEntry) (row : Row) (object grade bottom : ℕ) → (tells : TellsOf list log)
    → Begins (rows_in log ++ row ∷ []) list → IsUnder log row object grade bottom → HasFault list (Above object grade bottom)
has_under list log row object grade bottom tells next is =
    let rows = rows_in log in
    let rest : List Row = drop (length (rows ++ row ∷ [])) list in
    let split : list ≡ rows ++ row ∷ rest = begins_splits (rows ++ row ∷ []) list next ∙ append_assoc rows (row ∷ []) rest in
    let has : Contains list (record { object = object; grade = grade }) = tells.settled object (Graded grade) is.graded in
    let bottom_is = is.is in
    let below = is.under in (
      has,
      record {
        front = rows ++ row ∷ [];
        begins = next;
        absent = none_in_front rows row rest object grade (subst HasEachOnce split tells.distinct) is.absent (omega (arith, bottom_is, below))
            (subst (λ xs. Contains xs (record { object = object; grade = grade })) split has);
        last = bottom_is ∙ sym (last_of_push top_grade rows row);
        above = below;
      },
    )

-- the row fault of a log that tells of a list
pub row_fault : (list : List Row) (log : List LogEntry) (fault : SourceFault) → TellsOf list log → fault_in log ≡ Some fault → HasFault list fault
row_fault list log (Repeated object place) tells e = absurd (never_repeated list log object place tells e)
row_fault list log (Clash object sorted random) tells e = absurd (never_clashes list log object sorted random tells e)
row_fault list log (OutOfOrder place above below) tells e = elim (tells.fault (OutOfOrder place above below) e).1 [
  | inl short ↦ absurd (let bad : OutOfOrder place above below ≡ ShortList _ (length list) = short.is in cc)
  | inr (inl h) ↦ record { before = rows_in log; row = h.row; next = h.next; is = h.faulty }
  | inr (inr moved) ↦ absurd (let bad : OutOfOrder place above below ≡ Moved _ _ = moved.is in cc)
]
row_fault list log (TooHigh place grade) tells e = elim (tells.fault (TooHigh place grade) e).1 [
  | inl short ↦ absurd (let bad : TooHigh place grade ≡ ShortList _ (length list) = short.is in cc)
  | inr (inl h) ↦ record { before = rows_in log; row = h.row; next = h.next; is = h.faulty }
  | inr (inr moved) ↦ absurd (let bad : TooHigh place grade ≡ Moved _ _ = moved.is in cc)
]
row_fault list log (Above object grade bottom) tells e = elim (tells.fault (Above object grade bottom) e).1 [
  | inl short ↦ absurd (let bad : Above object grade bottom ≡ ShortList _ (length list) = short.is in cc)
  | inr (inl h) ↦ has_under list log h.row object grade bottom tells h.next h.faulty
  | inr (inr moved) ↦ absurd (let bad : Above object grade bottom ≡ Moved _ _ = moved.is in cc)
]
row_fault list log (ShortList stated got) tells e = elim (tells.fault (ShortList stated got) e).1 [
  | inl short ↦ subst (HasFault list) (sym short.is) (refl, short.less)
  | inr (inl h) ↦ absurd h.faulty
  | inr (inr moved) ↦ absurd (let bad : ShortList stated got ≡ Moved _ _ = moved.is in cc)
]
row_fault list log (Moved had now) tells e = elim (tells.fault (Moved had now) e).1 [
  | inl short ↦ absurd (let bad : Moved had now ≡ ShortList _ (length list) = short.is in cc)
  | inr (inl h) ↦ absurd h.faulty
  | inr (inr moved) ↦ subst (HasFault list) (sym moved.is) moved.differ
]

-- a ranked list has no grade above those of rows before it
pub none_above : (list : List Row) (object grade bottom : ℕ) → IsRanked list → HasFault list (Above object grade bottom) → ⊥
none_above list object grade bottom ranked h =
    let one : Row = record { object = object; grade = grade } in
    let front = h.1.front in
    let rest : List Row = drop (length front) list in
    let split : list ≡ front ++ rest = begins_splits front list h.1.begins in
    let last = h.1.last in
    let above = h.1.above in
    elim (Contains-append_cases front rest one (subst (λ xs. Contains xs one) split h.0)) [
      | inl kept ↦ h.1.absent (contains_map (λ (z : Row). z.object) front one kept)
      | inr behind ↦
          let low = behind_below_last front rest one (subst IsRanked split ranked) behind in
          omega (arith, low, last, above)
    ]

-- a ranked list has no row at fault
pub ranked_rows : (list : List Row) (log : List LogEntry) (row : Row) (fault : SourceFault) → IsRanked list → HasFault list fault → IsFaultOfRow log row fault → ⊥
ranked_rows list log row (OutOfOrder place above below) ranked h of =
    let rest : List Row = drop (length (h.before ++ h.row ∷ [])) list in
    let split : list ≡ h.before ++ h.row ∷ rest = begins_splits (h.before ++ h.row ∷ []) list h.next ∙ append_assoc h.before (h.row ∷ []) rest in
    let low = behind_below_last h.before (h.row ∷ rest) h.row (subst IsRanked split ranked) (contains_here h.row rest) in
    let last = h.is.last in
    let here = h.is.is in
    let rise = h.is.rise in
    omega (arith, low, last, here, rise)
ranked_rows list log row (TooHigh place grade) ranked h of =
    let rest : List Row = drop (length (h.before ++ h.row ∷ [])) list in
    let split : list ≡ h.before ++ h.row ∷ rest = begins_splits (h.before ++ h.row ∷ []) list h.next ∙ append_assoc h.before (h.row ∷ []) rest in
    let capped = ranked_capped (h.before ++ h.row ∷ rest) h.row (subst IsRanked split ranked) (Contains-append_right h.before (h.row ∷ rest) h.row (contains_here h.row rest)) in
    let here = h.is.is in
    let high = h.is.high in
    omega (arith, capped, here, high)
ranked_rows list log row (Above object grade bottom) ranked h of = none_above list object grade bottom ranked h
ranked_rows list log row (Repeated object place) ranked h of = h
ranked_rows list log row (Clash object sorted random) ranked h of = h
ranked_rows list log row (ShortList stated got) ranked h of = of
ranked_rows list log row (Moved had now) ranked h of = of

-- of a told list that is ranked each row is kept that came, whether it was replaced or not
pub all_kept : (list given : List Row) (count : ℕ) (log : List LogEntry) (fault : Option SourceFault) → IsRanked list → TellsOf list log → ComesOf count given log
    → fault_in log ≡ fault → rows_in log ≡ given
all_kept list given count log None ranked tells comes e = comes.all e
all_kept list given count log (Some fault) ranked tells comes e = elim (comes.fault fault e) [
  | inl short ↦ short.all
  | inr (inl faulty) ↦ absurd (ranked_rows list log faulty.row fault ranked (row_fault list log fault tells e) faulty.faulty)
  | inr (inr moved) ↦ comes.moved moved.had moved.now (e ∙ ap Some moved.is)
]

-- the bad grade of an object in a log that tells of a list
grade_fault : (list : List Row) (object : ℕ) (fault : SourceFault) → IsTrueSettling list object (Bad fault) → HasFault list fault
grade_fault list object (Above other grade bottom) h =
    subst (λ o. HasFault list (Above o grade bottom)) (sym h.0) (h.1, h.2)
grade_fault list object (OutOfOrder place above below) h = absurd h
grade_fault list object (TooHigh place grade) h = absurd h
grade_fault list object (Repeated other place) h = absurd h
grade_fault list object (Clash other sorted random) h = absurd h
grade_fault list object (ShortList stated got) h = absurd h
grade_fault list object (Moved had now) h = h

has_fault : (list : List Row) (s : State) (n : Need) (fault : SourceFault) → TellsOf list s.log → IsAtFault s n fault → HasFault list fault
has_fault list s (need.Row number depth) fault tells h = row_fault list s.log fault tells h.1
has_fault list s (need.Grade number object) fault tells h = grade_fault list object fault (tells.settled object (Bad fault) h)
has_fault list s need.Done fault tells h = absurd h

pub lacks : (list : List Row) (s : State) (n : Need) (object : ℕ) → TellsOf list s.log → IsMissed s n object → ¬ Contains (objects list) object
lacks list s (need.Grade number named) object tells h = tells.settled object Missed h.1
lacks list s (need.Row number depth) object tells h = absurd h
lacks list s need.Done object tells h = absurd h

if_told : (told : Option (List Row)) (P Q : List Row → Type 0) → IfSome told P → ((rows : List Row) → P rows → Q rows) → IfSome told Q
if_told None P Q h f = tt
if_told (Some rows) P Q h f = f rows h

-- ---- a batch
module _ (run : BatchRun) (batch : BatchState) (ran : IsBatch run batch) where
  -- the log of the source of a refused query's list tells of the list, where that is told, and the need can't be had there
  record IsRefusedAt (ready : Ready) (q : RunningQuery) (list : ℕ) (fault : LookFault) : Type 0 where
    tells : IfSome (told_list run.told ready list) (λ rows. TellsOf rows (state_at ran.states (source_needed q)).log)
    cause : CanNotBeHad (state_at ran.states (source_needed q)) (needed q) q.waiting.noted fault

  refused_at : (ready : Ready) (q : RunningQuery) (list : ℕ) (fault : LookFault) → Contains ran.queries q → IsOf ready q
      → q.refusal ≡ Some (refusal.Look list fault) → IsRefusedAt ready q list fault
  refused_at ready q list fault c of e =
      let served = member_of_all (IsServed ran.states) ran.queries q ran.served c in
      let cause = subst (IsCause (state_at ran.states (source_needed q)) (state_of q.machine) q.waiting.noted) e served.cause in
      let source : slice_index_or ready.sources.items list 0 ≡ source_needed q =
      ap (λ (xs : List ℕ). slice_index_or xs list 0) (sym of.sources) ∙ ap (source_of q) (sym (need_list (needed q) list cause.0)) in
      let there = (source_there ran.states q served.sources served.run (of_some_list list (needed q) cause.0)).0 in
      let many = ran.many in
      record {
        tells = subst (λ k. IfSome (told_at run.told k) (λ rows. TellsOf rows (state_at ran.states (source_needed q)).log)) (sym source)
            (ran.closing (source_needed q) (omega (arith, there, many))).tells;
        cause = cause.1;
      }

  one_cause : (ready : Ready) (q : RunningQuery) (end : Ended) → Contains ran.queries q → IsOf ready q → EndsAs q end → HasToldCause run.told ready end
  one_cause ready q (ended.Look list (why.Source fault)) c of ends =
      let at = refused_at ready q list (why.Source fault) c of ends in
      if_told (told_list run.told ready list) _ (λ rows. HasFault rows fault) at.tells
      (λ rows tells. has_fault rows (state_at ran.states (source_needed q)) (needed q) fault tells at.cause)
  one_cause ready q (ended.Look list (why.Missing object)) c of ends =
      let at = refused_at ready q list (why.Missing object) c of ends in
      if_told (told_list run.told ready list) _ (λ rows. ¬ Contains (objects rows) object) at.tells
      (λ rows tells. lacks rows (state_at ran.states (source_needed q)) (needed q) object tells at.cause)
  one_cause ready q (ended.Look list (why.AsksFull kept)) c of ends = tt
  one_cause ready q (ended.Look list (why.Call what)) c of ends = tt
  one_cause ready q (ended.Core fault) c of ends = tt
  one_cause ready q (ended.Answered answer) c of ends = tt

  pub told_causes : AllZip (HasToldCause run.told) run.readies batch.endings
  told_causes = zip_through IsOf EndsAs (HasToldCause run.told) run.readies ran.queries batch.endings one_cause_of ran.of ran.ends
    where
      one_cause_of : (ready : Ready) (q : RunningQuery) (end : Ended) → Contains ran.queries q → IsOf ready q → EndsAs q end → HasToldCause run.told ready end
      one_cause_of ready q end c of ends = one_cause ready q end c of ends
