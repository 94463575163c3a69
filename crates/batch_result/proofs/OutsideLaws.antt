-- Over told tables a query ends as it does alone, or is refused for what happened outside, also where a list was replaced.
use Rattle.std.proofs.Common.{◌≡◌, ◌<◌, inl, inr, ℕ, false, Some, List, length, map, All, Contains, refl, sym, ap, subst, ◌∙◌, arith}
use Rattle.std.specs.List.{AllZip}
use Rattle.ranked_list.specs.declared.row.Row.{Row}
use Rattle.ranked_list.specs.declared.need.Need.{Need}
use Rattle.ranked_list.specs.declared.need.Need.TheVariants as need
use Rattle.ranked_list.specs.Table.{IsRanked, IsTable, objects}
use Rattle.topk_theory.specs.Transcript.{list_at}
use Rattle.topk_theory.proofs.AgreementLists.{contains_at, member_of_all}
use Rattle.turn_lock.specs.declared.facts.Tally.{Tally}
use Rattle.machine_base.specs.declared.core_fault.CoreFault.{CoreFault}
use Rattle.source_state.specs.declared.entry.LogEntry.{LogEntry}
use Rattle.source_state.specs.declared.entry.Settling.TheVariants.{Bad}
use Rattle.source_state.specs.declared.entry.SourceFault.{SourceFault}
use Rattle.source_state.specs.declared.entry.SourceFault.TheVariants.{OutOfOrder, TooHigh, Repeated, Clash, Above, ShortList, Moved}
use Rattle.source_state.specs.Log.{fault_in}
use Rattle.source_state.specs.declared.look.LookFault.{LookFault}
use Rattle.source_api.specs.declared.source.FailKind.TheVariants as kind
use Rattle.source_state.specs.declared.look.LookFault.TheVariants as why
use Rattle.source_state.specs.State.{State, IsSound, state_at}
use Rattle.query_core.specs.declared.ready.Ready.{Ready}
use Rattle.query_core.specs.Machines.{state_of}
use Rattle.query_run.specs.declared.ended.Ended.{Ended}
use Rattle.query_run.specs.declared.ended.Refusal.TheVariants as refusal
use Rattle.query_run.specs.declared.running_query.RunningQuery.{RunningQuery}
use Rattle.query_run.specs.Inquiries.{is_done, list_needed, needed, source_needed, source_of}
use Rattle.query_run.specs.Causes.{CanNotBeHad, IsAtFault, IsCause, IsMissed}
use Rattle.query_run.specs.Endings.{EndsAs}
use Rattle.query_run.specs.Honest.{lists_of, HasTable, MayRefuse}
use Rattle.query_run.specs.Kept.{IsServed}
use Rattle.query_run.specs.Made.{IsOf}
use Rattle.query_run.proofs.Honest.{ReadsThem, may_lack, needed_stands, none_full}
use Rattle.query_run.proofs.Serving.{listed, of_some_list, source_there}
use Rattle.query_run.proofs.TrueLists.{IsOfObject}
use Rattle.fetcher.specs.Causes.{ComesOf}
use Rattle.fetcher.specs.Telling.{IsGradeAtFault, TellsOf}
use Rattle.batch_result.specs.Batches.{BatchRun, BatchState, IsBatch, IsSpared}
use Rattle.batch_result.specs.Tables.{EndsOrFails, IsOutside, lists_for}
use Rattle.batch_result.proofs.EndingLaws.{zip_through}
use Rattle.batch_result.proofs.FaultLaws.{lacks, none_above, ranked_rows, row_fault}
use Rattle.batch_result.proofs.OwnTables.{all_tables, same_lists}
use Rattle.batch_result.proofs.RunOverLists.{ends_or_fails}
use Rattle.batch_result.proofs.TableLaws.{agrees, named_in_list, read_of}

-- ---- one list, which is ranked and as long as is stated
-- its row fault is that it was replaced
row_moved : (list given : List Row) (count : ℕ) (log : List LogEntry) (fault : SourceFault) → IsRanked list → length list ≡ count → TellsOf list log
    → ComesOf count given log → fault_in log ≡ Some fault → IsOutside (why.Source fault)
row_moved list given count log fault ranked long tells comes e = elim (comes.fault fault e) [
  | inl short ↦ absurd (
      let here = row_fault list log (ShortList count (length given)) tells (e ∙ ap Some short.is) in
      let same = here.0 in
      let less = here.1 in
      omega (arith, same, less, long)
      )
  | inr (inl faulty) ↦ absurd (ranked_rows list log faulty.row fault ranked (row_fault list log fault tells e) faulty.faulty)
  | inr (inr moved) ↦ subst (λ f. IsOutside (why.Source f)) (sym moved.is) moved.differ
]

-- what is at fault with a grade is that it was replaced
grade_moved : (list : List Row) (object : ℕ) (fault : SourceFault) → IsRanked list → IsGradeAtFault list object fault → IsOutside (why.Source fault)
grade_moved list object (Above other grade bottom) ranked h = absurd (none_above list object grade bottom ranked (h.1, h.2))
grade_moved list object (OutOfOrder place above below) ranked h = absurd h
grade_moved list object (TooHigh place grade) ranked h = absurd h
grade_moved list object (Repeated other place) ranked h = absurd h
grade_moved list object (Clash other sorted random) ranked h = absurd h
grade_moved list object (ShortList stated got) ranked h = absurd h
grade_moved list object (Moved had now) ranked h = h

-- what is known of the source of a need, which tells this list
record NeedsOf (list : List Row) (s : State) (n : Need) : Type 0 where
  tells : TellsOf list s.log
  sound : IsSound s
  ranked : IsRanked list
  long : length list ≡ s.count
  given : List Row
  comes : ComesOf s.count given s.log
  asked : (object : ℕ) → Contains s.asks object → Contains (objects list) object
  of : IsOfObject list n

fault_outside : (list : List Row) (s : State) (n : Need) (fault : SourceFault) → NeedsOf list s n → IsAtFault s n fault → IsOutside (why.Source fault)
fault_outside list s (need.Row number depth) fault t h = row_moved list t.given s.count s.log fault t.ranked t.long t.tells t.comes h.1
fault_outside list s (need.Grade number object) fault t h = grade_moved list object fault t.ranked (t.tells.settled object (Bad fault) h)
fault_outside list s need.Done fault t h = absurd h

none_lacked : (list : List Row) (s : State) (n : Need) (object : ℕ) → TellsOf list s.log → IsOfObject list n → IsMissed s n object → ⊥
none_lacked list s (need.Grade number named) object tells of h =
    lacks list s (need.Grade number named) object tells h (subst (Contains (objects list)) h.0 of)
none_lacked list s (need.Row number depth) object tells of h = h
none_lacked list s need.Done object tells of h = h

look_outside : (list : List Row) (s : State) (n : Need) (noted : Tally) (fault : LookFault) → NeedsOf list s n → (fault ≡ why.Call kind.Memory → ⊥)
    → CanNotBeHad s n noted fault → IsOutside fault
look_outside list s n noted (why.Source fault) t spared had = fault_outside list s n fault t had
look_outside list s n noted (why.Missing object) t spared had = absurd (none_lacked list s n object t.tells t.of had)
look_outside list s n noted (why.AsksFull kept) t spared had = absurd (none_full list s n kept t.long t.sound t.asked t.of had)
look_outside list s n noted (why.Call kind.Failed) t spared had = tt
look_outside list s n noted (why.Call kind.Garbled) t spared had = tt
look_outside list s n noted (why.Call kind.Memory) t spared had = absurd (spared refl)

-- ---- a batch whose sources tell tables
module _ (run : BatchRun) (batch : BatchState) (ran : IsBatch run batch) (lists : List (List Row)) (told : run.told ≡ map Some lists)
    (tables : All (λ ready. IsTable ready.count (lists_for lists ready)) run.readies) where
  own : All (HasTable lists) ran.queries
  own = all_tables lists run.readies ran.queries ran.of tables

  served_of : (q : RunningQuery) → Contains ran.queries q → IsServed ran.states q
  served_of q c = member_of_all (IsServed ran.states) ran.queries q ran.served c

  reads : (q : RunningQuery) → Contains ran.queries q → ReadsThem lists ran.states q
  reads q c = record {
    agrees = agrees run batch ran lists told own q c;
    rows = λ list l. (read_of run batch ran lists told own q (source_of q list) c (contains_at q.sources.items list 0 l)).tells.rows;
  }

  needs_of : (q : RunningQuery) → Contains ran.queries q → is_done (needed q) ≡ false
      → NeedsOf (list_at lists (source_needed q)) (state_at ran.states (source_needed q)) (needed q)
  needs_of q c going =
      let served = served_of q c in
      let source = source_needed q in
      let many = ran.many in
      let there = (source_there ran.states q served.sources served.run going).0 in
      let within : source < length run.sizes = omega (arith, many, there) in
      let among = contains_at q.sources.items (list_needed (needed q)) 0 (listed ran.states q served.sources served.run going) in
      let read = read_of run batch ran lists told own q source c among in
      let used = ran.used source within in
      record {
        tells = read.tells;
        sound = (ran.closing source within).sound;
        ranked = read.ranked;
        long = read.long;
        given = used.comes.given;
        comes = used.comes.comes;
        asked = λ object k.
            let one = used.named object k in
            named_in_list lists ran.states one.0 source object (served_of one.0 one.1) (agrees run batch ran lists told own one.0 one.1) one.2;
        of = needed_stands lists ran.states q (needed q) served (agrees run batch ran lists told own q c) refl going;
      }

  -- why a query is refused
  lacked : (q : RunningQuery) (fault : CoreFault) → Contains ran.queries q → q.refusal ≡ Some (refusal.Core fault)
      → MayRefuse (lists_of lists q) q (Some (refusal.Core fault))
  lacked q fault c e =
      let served = served_of q c in
      may_lack lists ran.states q fault served (reads q c)
      (subst (IsCause (state_at ran.states (source_needed q)) (state_of q.machine) q.waiting.noted) e served.cause)

  looked : (q : RunningQuery) (list : ℕ) (fault : LookFault) → Contains ran.queries q → q.refusal ≡ Some (refusal.Look list fault) → IsOutside fault
  looked q list fault c e =
      let served = served_of q c in
      let cause = subst (IsCause (state_at ran.states (source_needed q)) (state_of q.machine) q.waiting.noted) e served.cause in
      look_outside (list_at lists (source_needed q)) (state_at ran.states (source_needed q)) (needed q) q.waiting.noted fault
      (needs_of q c (of_some_list list (needed q) cause.0))
      (λ same. member_of_all IsSpared ran.queries q ran.spared c list (e ∙ ap (λ f. Some (refusal.Look list f)) same)) cause.1

  one_ends : (ready : Ready) (q : RunningQuery) (end : Ended) → Contains ran.queries q → IsOf ready q → EndsAs q end
      → EndsOrFails (lists_for lists ready) ready end
  one_ends ready q end c of ends =
      let table : IsTable ready.count (lists_of lists q)
      = subst (λ n. IsTable n (lists_of lists q)) (of.goes.count ∙ of.begun.count) (member_of_all (HasTable lists) ran.queries q own c) in
      subst (λ D. EndsOrFails D ready end) (sym (same_lists lists ready q of))
      (ends_or_fails lists ran.states ready q (served_of q c) of table (agrees run batch ran lists told own q c) (λ fault. lacked q fault c)
      (λ list fault. looked q list fault c) end ends)

  pub ends_or_fails_all : AllZip (λ ready. EndsOrFails (lists_for lists ready) ready) run.readies batch.endings
  ends_or_fails_all = zip_through IsOf EndsAs (λ ready. EndsOrFails (lists_for lists ready) ready) run.readies ran.queries batch.endings
      (λ ready q end c of ends. one_ends ready q end c of ends) ran.of ran.ends
