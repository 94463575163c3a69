-- A query over its own table.
use Rattle.std.proofs.Common.{◌≡◌, ◌<◌, ◌-◌, inl, inr, ℕ, zero, suc, false, Option, Some, None, List, [], ◌∷◌, ◌++◌, length, map, slice_get, slice_index_or, All, AllPairs, Contains, refl, sym, ap, subst, ◌∙◌, arith}
use Rattle.std.specs.List.{slice_set}
use Rattle.std.proofs.lemmas.Bool.Decides.{eqb_tells}
use Rattle.std.proofs.lemmas.List.{length-map, length-append}
use Rattle.std.proofs.lemmas.List.Elements.{Contains-append_left, Contains-append_cases}
use Rattle.std.proofs.lemmas.List.Quantifiers.{all_pairs_push}
use Rattle.ranked_list.specs.declared.row.Row.{Row}
use Rattle.ranked_list.specs.Table.{IsRanked, IsTable, objects}
use Rattle.ranked_list.specs.declared.need.Need.{Need}
use Rattle.ranked_list.specs.declared.need.Need.TheVariants as need
use Rattle.topk_theory.specs.Transcript.{Begins, Grows, whole, list_at}
use Rattle.topk_theory.specs.Threshold.{IsAsked}
use Rattle.topk_theory.specs.Machine.{CanServe}
use Rattle.topk_theory.proofs.Agreement.{drawn_more}
use Rattle.topk_theory.proofs.AgreementLists.{all_from_members, member_of_all, contains_map, contains_at, contains_nil, contains_cases, begins_splits, begins_get, distinct_fits}
use Rattle.topk_theory.proofs.AgreementRows.{list_at_length, objects_in_each}
use Rattle.access_log.specs.Log.{AgreesWith}
use Rattle.machine_base.specs.Machine.{MachineState, HasRoomFor}
use Rattle.machine_base.specs.declared.core_fault.CoreFault.{CoreFault}
use Rattle.machine_base.specs.declared.core_fault.CoreFault.TheVariants.{Strangers, RoomFull}
use Rattle.source_state.specs.declared.entry.Settling.TheVariants.{Graded, Bad, Missed}
use Rattle.source_state.specs.declared.entry.SourceFault.{SourceFault}
use Rattle.source_state.specs.declared.look.LookFault.{LookFault}
use Rattle.source_state.specs.declared.look.LookFault.TheVariants as why
use Rattle.source_state.specs.Log.{rows_in, graded_in}
use Rattle.source_state.specs.State.{State, opened, IsSound, state_at}
use Rattle.source_state.proofs.Lists.{none_not_some}
use Rattle.source_state.proofs.LogLaws.{graded_settling}
use Rattle.query_core.specs.Driving.{CanDrive}
use Rattle.query_core.specs.Machines.{method_of, state_of}
use Rattle.query_core.proofs.Feeding.{no_stranger, room_stops}
use Rattle.query_run.specs.declared.ended.Refusal.{Refusal}
use Rattle.query_run.specs.declared.ended.Refusal.TheVariants as refusal
use Rattle.query_run.specs.declared.running_query.RunningQuery.{RunningQuery}
use Rattle.query_run.specs.Inquiries.{told_to, needed, list_needed, source_of, source_needed, is_done}
use Rattle.query_run.specs.Causes.{LacksRoom, RowLacksRoom, IsAtFault, IsMissed, AreAsksFull, IsCause, CanNotBeHad}
use Rattle.query_run.specs.Kept.{IsServed}
use Rattle.query_run.specs.Honest.{lists_of, HasTable, IsGradeOf, IsTrueOf, IsTrueFor, MayRefuse, IsOnItsRun}
use Rattle.query_run.proofs.Serving.{sound_at, state_set, state_other, rows_told, known_told, source_at, listed, source_there, of_some_list}
use Rattle.query_run.proofs.TrueLists.{IsOfObject}

-- the list of a query, by the number of its source
pub list_is : (lists : List (List Row)) (sources : List ℕ) (list : ℕ) → list < length sources
    → list_at (map (list_at lists) sources) list ≡ list_at lists (slice_index_or sources list 0)
list_is lists [] list l = absurd (omega (arith, l))
list_is lists (source ∷ sources) zero l = refl
list_is lists (source ∷ sources) (suc list) l = list_is lists sources list (omega (arith, l))

pub source_ranked : (lists : List (List Row)) (q : RunningQuery) (source : ℕ) → HasTable lists q → Contains q.sources.items source → IsRanked (list_at lists source)
source_ranked lists q source table c = member_of_all IsRanked (lists_of lists q) (list_at lists source) table.ranked (contains_map (list_at lists) q.sources.items source c)

-- the state of one source changed
pub true_set : (lists : List (List Row)) (states : List State) (q r : RunningQuery) (source : ℕ) (u : State) → source < length states
    → r.sources.items ≡ q.sources.items → (state_of r.machine).log.count ≡ (state_of q.machine).log.count
    → (Contains q.sources.items source → IsTrueOf (list_at lists source) u) → IsTrueFor lists states q → IsTrueFor lists (slice_set states source u) r
true_set lists states q r source u l same count changed h = record {
  table = subst (λ n. IsTable n (lists_of lists r)) (sym count) (subst (λ sources. IsTable (state_of q.machine).log.count (map (list_at lists) sources)) (sym same) h.table);
  each = subst (All (λ other. IsTrueOf (list_at lists other) (state_at (slice_set states source u) other))) (sym same)
      (all_from_members (λ other. IsTrueOf (list_at lists other) (state_at (slice_set states source u) other)) q.sources.items
      (λ other c. elim (eqb_tells other source) [
        | inl t ↦ subst (λ o. IsTrueOf (list_at lists o) (state_at (slice_set states source u) o)) (sym t.1)
            (subst (IsTrueOf (list_at lists source)) (sym (state_set states source u l)) (changed (subst (Contains q.sources.items) t.1 c)))
        | inr f ↦ subst (IsTrueOf (list_at lists other)) (sym (state_other states source other u f.1)) (member_of_all (λ o. IsTrueOf (list_at lists o) (state_at states o)) q.sources.items other h.each c)
      ]));
}

-- the lists of a query agree with its transcript
pub true_agrees : (lists : List (List Row)) (states : List State) (q : RunningQuery) → All IsSound states → IsServed states q → IsTrueFor lists states q
    → AgreesWith (lists_of lists q) (state_of q.machine).log
true_agrees lists states q sound h is = record {
  lists = length-map q.sources.items (list_at lists) ∙ h.sources.many;
  table = is.table;
  drawn = drawn_more t.log.lists (told_to states q) (whole D) t.log.accesses (subst (λ m. Grows m (told_to states q) (whole D)) h.sources.many grows) h.drawn.drawn;
}
  where
    t : MachineState
    t = state_of q.machine

    D : List (List Row)
    D = lists_of lists q

    true_at : (list : ℕ) → list < length q.sources.items → IsTrueOf (list_at lists (source_of q list)) (state_at states (source_of q list))
    true_at list l = is.each list 0 l

    once : (list : ℕ) → list < length q.sources.items → IsSound (state_at states (source_of q list))
    once list l = sound_at states (source_of q list) sound (source_at states q list h.sources l).0

    front : (list : ℕ) → list < length q.sources.items → Begins (list_at (told_to states q).rows list) (list_at D list)
    front list l =
        subst (λ rows. Begins rows (list_at D list)) (sym (rows_told states q.sources.items list l))
        (subst (Begins (rows_in (state_at states (source_of q list)).log)) (sym (list_is lists q.sources.items list l)) (true_at list l).rows)

    known : (list : ℕ) → list < length q.sources.items → (row : Row) → Contains (list_at (told_to states q).known list) row → Contains (list_at D list) row
    known list l row c =
        let log = (state_at states (source_of q list)).log in
        let rows = list_at lists (source_of q list) in
        subst (λ xs. Contains xs row) (sym (list_is lists q.sources.items list l))
        (elim (Contains-append_cases (rows_in log) (graded_in log) row (subst (λ xs. Contains xs row) (known_told states q.sources.items list l) c)) [
          | inl one ↦ subst (λ xs. Contains xs row) (sym (begins_splits (rows_in log) rows (true_at list l).rows)) (Contains-append_left (rows_in log) _ row one)
          | inr one ↦
              let good = (true_at list l).settled row.object (Graded row.grade) (graded_settling log row (once list l).log.once one) in
              let same : row.grade ≡ good.0 = graded good.1 in
              subst (λ g. Contains rows (record { object = row.object; grade = g })) (sym same) good.2
        ])
      where
        graded : {a b : ℕ} → Graded a ≡ Graded b → a ≡ b
        graded e = cc

    grows : Grows (length q.sources.items) (told_to states q) (whole D)
    grows = record { rows = front; known = known }

-- the object of a needed grade stands in the list, where the query's lists agree with its transcript
pub needed_stands : (lists : List (List Row)) (states : List State) (q : RunningQuery) (n : Need) → IsServed states q
    → AgreesWith (lists_of lists q) (state_of q.machine).log → needed q ≡ n → is_done n ≡ false → IsOfObject (list_at lists (source_of q (list_needed n))) n
needed_stands lists states q (need.Row list depth) h agrees e going = tt
needed_stands lists states q (need.Grade list object) h agrees e going =
    let D = lists_of lists q in
    let serves : CanServe D (need.Grade list object) = subst (CanServe D) e (h.run.served D agrees) in
    let long : length D ≡ length q.sources.items = length-map q.sources.items (list_at lists) in
    let there = objects_in_each (state_of q.machine).log.count D list object agrees.table serves.0 serves.1 in
    subst (λ rows. Contains (objects rows) object) (list_is lists q.sources.items list (omega (arith, serves.0, long))) there
needed_stands lists states q need.Done h agrees e going = absurd (cc)

pub need_of_object : (lists : List (List Row)) (states : List State) (q : RunningQuery) (n : Need) → All IsSound states → IsServed states q → IsTrueFor lists states q
    → needed q ≡ n → is_done n ≡ false → IsOfObject (list_at lists (source_of q (list_needed n))) n
need_of_object lists states q n sound h is e going = needed_stands lists states q n h (true_agrees lists states q sound h is) e going

-- a query's lists agree with its transcript, and begin with the rows that the logs of their sources have
pub record ReadsThem (lists : List (List Row)) (states : List State) (q : RunningQuery) : Type 0 where
  pub agrees : AgreesWith (lists_of lists q) (state_of q.machine).log
  pub rows : (list : ℕ) → list < length q.sources.items
      → Begins (rows_in (state_at states (source_of q list)).log) (list_at lists (source_of q list))

true_reads : (lists : List (List Row)) (states : List State) (q : RunningQuery) → All IsSound states → IsServed states q → IsTrueFor lists states q
    → ReadsThem lists states q
true_reads lists states q sound h is = record { agrees = true_agrees lists states q sound h is; rows = λ list l. (is.each list 0 l).rows }

-- a query over its own table
row_lacks : (s : State) (t : MachineState) (n : Need) (object : ℕ) → RowLacksRoom s t n object
    → (list : ℕ) × (depth : ℕ) × (n ≡ need.Row list depth) × (row : Row) × (slice_get (rows_in s.log) (depth - 1) ≡ Some row) × (¬ HasRoomFor t row.object)
row_lacks s t (need.Row list depth) object h = (list, depth, refl, h.0, h.1, subst (λ o. ¬ HasRoomFor t o) (sym h.2) h.3)
row_lacks s t (need.Grade list named) object h = absurd h
row_lacks s t need.Done object h = absurd h

-- what is known of a query that needs a row whose object has no room
record LacksOn (D : List (List Row)) (q : RunningQuery) : Type 0 where
  list : ℕ
  depth : ℕ
  row : Row
  can : CanDrive D (state_of q.machine)
  needs : (state_of q.machine).need ≡ need.Row list depth
  found : slice_get (list_at D list) (depth - 1) ≡ Some row
  full : ¬ HasRoomFor (state_of q.machine) row.object

lacks_on : (lists : List (List Row)) (states : List State) (q : RunningQuery) (object : ℕ) → IsServed states q → ReadsThem lists states q
    → RowLacksRoom (state_at states (source_needed q)) (state_of q.machine) (needed q) object → LacksOn (lists_of lists q) q
lacks_on lists states q object h reads lacks =
    let t = state_of q.machine in
    let D = lists_of lists q in
    let parts = row_lacks (state_at states (source_needed q)) t (needed q) object lacks in
    let list = parts.0 in
    let depth = parts.1 in
    let served : CanServe D (need.Row list depth) = subst (CanServe D) parts.2 (h.run.served D reads.agrees) in
    let long : length D ≡ length q.sources.items = length-map q.sources.items (list_at lists) in
    let within : list < length q.sources.items = omega (arith, served.0, long) in
    let source : source_needed q ≡ source_of q list = ap (λ n. source_of q (list_needed n)) parts.2 in
    let there : slice_get (rows_in (state_at states (source_of q list)).log) (depth - 1) ≡ Some parts.3 = ap (λ s. slice_get (rows_in (state_at states s).log) (depth - 1)) (sym source) ∙ parts.4 in
    let found : slice_get (list_at D list) (depth - 1) ≡ Some parts.3 =
    ap (λ (rows : List Row). slice_get rows (depth - 1)) (list_is lists q.sources.items list within)
    ∙ begins_get (rows_in (state_at states (source_of q list)).log) (list_at lists (source_of q list)) (depth - 1) parts.3 (reads.rows list within) there in
    let asked : IsAsked t.k t.log.count D
    = record { table = reads.agrees.table; lists = omega (arith, served.0); positive = h.run.posed.positive; fits = h.run.posed.fits } in
    record {
      list = list;
      depth = depth;
      row = parts.3;
      can = record { asked = asked; agrees = reads.agrees; roomy = h.drawn.roomy };
      needs = parts.2;
      found = found;
      full = parts.5;
    }

-- the room for which a query is refused is one that it may be refused for
pub may_lack : (lists : List (List Row)) (states : List State) (q : RunningQuery) (fault : CoreFault) → IsServed states q → ReadsThem lists states q
    → LacksRoom (state_at states (source_needed q)) (state_of q.machine) fault → MayRefuse (lists_of lists q) q (Some (refusal.Core fault))
may_lack lists states q (Strangers object count) h reads cause =
    let on = lacks_on lists states q object h reads cause.0 in
    no_stranger (method_of q.machine) (lists_of lists q) (state_of q.machine) on.list on.depth on.row on.can h.run on.needs on.found on.full cause.1
may_lack lists states q (RoomFull room) h reads cause =
    let on = lacks_on lists states q cause.0.0 h reads cause.0.1 in
    let stops = room_stops (method_of q.machine) (lists_of lists q) (state_of q.machine) on.list on.depth on.row room on.can h.run on.needs on.found on.full cause.1 cause.2 in
    (stops.1, stops.2)

-- what is settled of a list is neither bad nor missed
no_bad : (list : List Row) (object : ℕ) (fault : SourceFault) → IsGradeOf list object (Bad fault) → ⊥
no_bad list object fault h = let bad : Bad fault ≡ Graded h.0 = h.1 in cc

no_miss : (list : List Row) (object : ℕ) → IsGradeOf list object Missed → ⊥
no_miss list object h = let bad : Missed ≡ Graded h.0 = h.1 in cc

no_fault : (list : List Row) (s : State) (n : Need) (fault : SourceFault) → IsTrueOf list s → IsAtFault s n fault → ⊥
no_fault list s (need.Row l depth) fault h at = none_not_some (sym h.faultless ∙ at.1)
no_fault list s (need.Grade l object) fault h at = no_bad list object fault (h.settled object (Bad fault) at)
no_fault list s need.Done fault h at = at

none_missed : (list : List Row) (s : State) (n : Need) (object : ℕ) → IsTrueOf list s → IsMissed s n object → ⊥
none_missed list s (need.Row l depth) object h at = at
none_missed list s (need.Grade l named) object h at = no_miss list object (h.settled object Missed at.1)
none_missed list s need.Done object h at = at

-- there is always room for the ask of an object of the list
pub none_full : (list : List Row) (s : State) (n : Need) (kept : ℕ) → length list ≡ s.count → IsSound s
    → ((object : ℕ) → Contains s.asks object → Contains (objects list) object) → IsOfObject list n → AreAsksFull s n kept → ⊥
none_full list s (need.Row l depth) kept long sound asked of full = full
none_full list s (need.Grade l object) kept long sound asked of full =
    let more : AllPairs (λ (x : ℕ) (y : ℕ). x ≡ y → ⊥) (s.asks ++ object ∷ []) =
    all_pairs_push (λ (x : ℕ) (y : ℕ). x ≡ y → ⊥) s.asks object sound.distinct (λ k d l. λ same. full.absent (subst (Contains s.asks) same (contains_at s.asks k d l))) in
    let fits = distinct_fits (s.asks ++ object ∷ []) (objects list) more (λ o c. elim (Contains-append_cases s.asks (object ∷ []) o c) [
      | inl old ↦ asked o old
      | inr new ↦ elim (contains_cases object [] o new) [ inl e ↦ subst (Contains (objects list)) e of | inr t ↦ absurd (contains_nil o t) ]
    ]) in
    let all = full.full in
    omega (arith, fits, length-append s.asks (object ∷ []), length-map list (λ (row : Row). row.object), long, all)
none_full list s need.Done kept long sound asked of full = full

-- what is known of the source of a need
pub record NeedsTrue (lists : List (List Row)) (states : List State) (q : RunningQuery) : Type 0 where
  pub is : IsTrueOf (list_at lists (source_needed q)) (state_at states (source_needed q))
  pub sound : IsSound (state_at states (source_needed q))
  pub long : length (list_at lists (source_needed q)) ≡ (state_at states (source_needed q)).count
  pub of : IsOfObject (list_at lists (source_needed q)) (needed q)

needs_true : (lists : List (List Row)) (states : List State) (q : RunningQuery) → All IsSound states → IsServed states q → IsTrueFor lists states q
    → is_done (needed q) ≡ false → NeedsTrue lists states q
needs_true lists states q sound h is going =
    let list = list_needed (needed q) in
    let l : list < length q.sources.items = listed states q h.sources h.run going in
    let there = source_there states q h.sources h.run going in
    let D = lists_of lists q in
    let long : list < length D = let e = length-map q.sources.items (list_at lists) in omega (arith, l, e) in
    let same = list_is lists q.sources.items list l in
    record {
      is = is.each list 0 l;
      sound = sound_at states (source_needed q) sound there.0;
      long = ap (length {A = Row}) (sym same) ∙ list_at_length (state_of q.machine).log.count D list is.table long ∙ sym there.1;
      of = need_of_object lists states q (needed q) sound h is refl going;
    }

may_refuse_look : (lists : List (List Row)) (states : List State) (q : RunningQuery) (list : ℕ) (fault : LookFault) → NeedsTrue lists states q
    → CanNotBeHad (state_at states (source_needed q)) (needed q) q.waiting.noted fault → MayRefuse (lists_of lists q) q (Some (refusal.Look list fault))
may_refuse_look lists states q list (why.Source fault) t had = no_fault (list_at lists (source_needed q)) (state_at states (source_needed q)) (needed q) fault t.is had
may_refuse_look lists states q list (why.Missing object) t had = none_missed (list_at lists (source_needed q)) (state_at states (source_needed q)) (needed q) object t.is had
may_refuse_look lists states q list (why.AsksFull kept) t had = none_full (list_at lists (source_needed q)) (state_at states (source_needed q)) (needed q) kept t.long t.sound t.is.asked t.of had
may_refuse_look lists states q list (why.Call what) t had = tt

may_refuse : (lists : List (List Row)) (states : List State) (q : RunningQuery) (refused : Option Refusal) → All IsSound states → IsServed states q
    → IsTrueFor lists states q → IsCause (state_at states (source_needed q)) (state_of q.machine) q.waiting.noted refused
    → MayRefuse (lists_of lists q) q refused
may_refuse lists states q None sound h is cause = tt
may_refuse lists states q (Some (refusal.Core fault)) sound h is cause = may_lack lists states q fault h (true_reads lists states q sound h is) cause
may_refuse lists states q (Some (refusal.Look list fault)) sound h is cause =
    may_refuse_look lists states q list fault (needs_true lists states q sound h is (of_some_list list (needed q) cause.0)) cause.1

pub on_its_run : (lists : List (List Row)) (states : List State) (q : RunningQuery) → All IsSound states → IsServed states q → IsTrueFor lists states q
    → IsOnItsRun lists q
on_its_run lists states q sound h is = record {
  agrees = true_agrees lists states q sound h is;
  begins = (h.run.on_run (lists_of lists q) (true_agrees lists states q sound h is)).begins;
  refused = may_refuse lists states q q.refusal sound h is h.cause;
}

-- before any step
pub opened_true : (list : List Row) (number count : ℕ) → IsTrueOf list (opened number count)
opened_true list number count = record {
  rows = refl;
  faultless = refl;
  settled = λ object settling e. absurd (none_not_some e);
  asked = λ object c. absurd (contains_nil object c);
}
