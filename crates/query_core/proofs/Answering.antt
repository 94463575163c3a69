-- From the end of a machine's run to a right answer of its query.
use Rattle.std.proofs.Common.{◌≡◌, ℕ, ◌<◌, ◌≤◌, ◌^◌, min, List, [], ◌∷◌, length, All, Contains, Option, Some, None, Result, Ok, Err, unwrap_or, IfSome, IfOk, sym, ap, ◌∙◌, subst, arith}
use Rattle.ranked_list.specs.declared.row.Row.{Row}
use Rattle.ranked_list.specs.declared.item.Item.{Item}
use Rattle.ranked_list.specs.declared.need.Need.TheVariants.{Done}
use Rattle.ranked_list.specs.Table.{IsTable}
use Rattle.monotone_fn.specs.declared.costs.Costs.{Costs}
use Rattle.monotone_fn.specs.Tree.{Tree}
use Rattle.monotone_fn.specs.Value.{value}
use Rattle.monotone_fn.specs.Shape.{list_count}
use Rattle.monotone_fn.proofs.Laws.{value-monotone}
use Rattle.topk_theory.specs.Aggregate.{objects_of}
use Rattle.topk_theory.specs.Asked.{Asked}
use Rattle.topk_theory.specs.Threshold.{IsAsked, item_objects}
use Rattle.topk_theory.specs.declared.access.Access.{Access}
use Rattle.algorithm_theory.specs.Within.{Factor}
use Rattle.cert_text.specs.Guarantee.{guarantee_by}
use Rattle.topk_theory.specs.Transcript.{Told, whole, Agrees, seen_objects}
use Rattle.topk_theory.proofs.Agreement.{agrees_none}
use Rattle.topk_theory.proofs.AgreementLists.{member_of_all, contains_here, contains_nil}
use Rattle.access_log.specs.Log.{Log, AgreesWith}
use Rattle.machine_base.specs.declared.answer.Answer.{Answer}
use Rattle.query_core.specs.declared.drive_fault.DriveFault.{DriveFault}
use Rattle.query_core.specs.declared.drive_fault.DriveFault.TheVariants.{RoomFull, Memory}
use Rattle.machine_base.specs.Machine.{MachineState, asked_of, IsBegun, IsSameLog, MakesRun}
use Rattle.machine_base.proofs.MachineLaws.{whole_run}
use Rattle.query_text.specs.declared.query.Query.{Query}
use Rattle.query_text.specs.Query.{IsCount, IsLawful}
use Rattle.query_core.specs.declared.machine.Machine.{Machine}
use Rattle.query_core.specs.declared.ready.Ready.{Ready}
use Rattle.query_core.specs.Ready.{IsReady, method_of_ready}
use Rattle.query_text.specs.Costs.{costs_in_force}
use Rattle.query_core.specs.OneAnswer.{asked_by, one_run_with, one_items_with, HasTrueBounds, HasTrueItems, IsOneAnswerWith, IsAnsweredWith}
use Rattle.query_core.specs.Machines.{method_of, state_of, IsMachineFor}
use Rattle.query_core.specs.Driving.{sees_with, Continues, IsFedFrom, TookOne, IsEndWith, CanDrive, Steps, StopsWith, Finishes, DrivesWith, RunsOverWith, RunsOver}
use Rattle.query_core.proofs.ListCount.{lists_counted}
use Rattle.query_core.specs.Methods.{Method, run_with, items_with, IsGoodBy, IsGoodWith, FixesWith, IsNearWith, AnswersWith}
use Rattle.query_core.proofs.AllFacts.{facts}
use Rattle.query_core.proofs.RunLength.{run_short}
use Rattle.query_core.proofs.Feeding.{continues_same}

-- what a machine is asked, by its parts
abbrev asking : Tree → ℕ → Costs → Asked
asking e k c = record { value = value e; k = k; costs = c }

asking_same : (e f : Tree) (j k : ℕ) (c d : Costs) → e ≡ f → j ≡ k → c ≡ d → asking e j c ≡ asking f k d
asking_same e f j k c d p q r = ap (λ x. asking x j c) p ∙ (ap (λ x. asking f x c) q ∙ ap (λ x. asking f k x) r)

-- a machine that came on from one that began for a query is asked what the query asks
pub asked_same : (q : Query) (n room : ℕ) (first last : MachineState) → IsBegun q.expr q.k n room (costs_in_force q) first → Continues first last
    → asked_of last ≡ asked_by q
asked_same q n room first last begun goes =
    asking_same last.expr q.expr last.k q.k last.costs (costs_in_force q) (goes.expr ∙ begun.expr) (goes.k ∙ begun.asked) (goes.costs ∙ begun.costs)

-- a table that agrees with the log of a machine is asked
law_asked : (method : Method) (t : MachineState) (D : List (List Row)) → MakesRun (run_with method) t → 0 < list_count t.expr → AgreesWith D t.log
    → IsAsked t.k t.log.count D
law_asked method t D run some agrees = record {
  table = agrees.table;
  lists = omega (arith, agrees.lists, run.posed.lists);
  positive = run.posed.positive;
  fits = run.posed.fits;
}

-- a table agrees with logs that are the same
pub agrees_same : (D : List (List Row)) (one other : Log) → IsSameLog one other → AgreesWith D one → AgreesWith D other
agrees_same D one other same agrees =
    subst (λ A. Agrees other.lists other.count D A) same.accesses
    (subst (λ n. Agrees other.lists n D one.accesses) same.count
    (subst (λ m. Agrees m one.count D one.accesses) same.lists agrees))

same_back : (one other : Log) → IsSameLog one other → IsSameLog other one
same_back one other same = record { lists = sym same.lists; count = sym same.count; accesses = sym same.accesses }

-- the end of a machine's run is the one answer on each table that agrees
one_on : (method : Method) (q : Query) (last : MachineState) (answer : Answer) (D : List (List Row)) → last.k ≡ q.k
    → asked_of last ≡ asked_by q → 0 < list_count last.expr → MakesRun (run_with method) last → last.need ≡ Done → AnswersWith method last answer.items
    → IsSameLog answer.transcript last.log → AgreesWith D last.log → IsOneAnswerWith method q D answer
one_on method q last answer D k asked some run done items log agrees =
    let is : answer.items ≡ one_items_with method q D = items.exact.on_each D agrees ∙ ap (λ x. items_with method x D) asked in
    let Y = item_objects answer.items in
    let posed : IsAsked q.k last.log.count D = subst (λ j. IsAsked j last.log.count D) k (law_asked method last D run some agrees) in
    record {
      items = is;
      run = log.accesses ∙ (whole_run (run_with method) last run done D agrees ∙ ap (λ x. run_with method x D) asked);
      top = subst (λ A. IsGoodWith method (asked_by q) A D Y) (sym log.accesses)
          (subst (λ x. IsGoodWith method x last.log.accesses D Y) asked (items.good.on_each D agrees));
      bounds = subst (All (HasTrueBounds (value q.expr) D)) (sym is) ((facts method).bounds (asked_by q) last.log.count D (value-monotone q.expr) posed);
    }

fixed_same : (method : Method) (q : Query) (last : MachineState) (log : Log) (Y : List ℕ) → asked_of last ≡ asked_by q → IsSameLog log last.log
    → FixesWith method (asked_of last) last.log.lists last.log.count last.log.accesses Y → FixesWith method (asked_by q) log.lists log.count log.accesses Y
fixed_same method q last log Y asked same fixes =
    subst (λ A. FixesWith method (asked_by q) log.lists log.count A Y) (sym same.accesses)
    (subst (λ n. FixesWith method (asked_by q) log.lists n last.log.accesses Y) (sym same.count)
    (subst (λ m. FixesWith method (asked_by q) m last.log.count last.log.accesses Y) (sym same.lists)
    (subst (λ x. FixesWith method x last.log.lists last.log.count last.log.accesses Y) asked fixes)))

-- a table that has an object has a list, and so has one with good objects
some_listed : (D : List (List Row)) (object : ℕ) → Contains (objects_of D) object → 0 < length D
some_listed [] object c = absurd (contains_nil object c)
some_listed (rows ∷ D) object c = omega arith

sized_listed : (k : ℕ) (D : List (List Row)) (Y : List ℕ) → 1 ≤ k → length Y ≡ k → All (Contains (objects_of D)) Y → 0 < length D
sized_listed k D [] some sized members = absurd (omega (arith, some, sized))
sized_listed k D (y ∷ Y) some sized members = some_listed D y (member_of_all (Contains (objects_of D)) (y ∷ Y) y members (contains_here y Y))

good_listed : (guarantee : Option Factor) (asked : Asked) (D : List (List Row)) (Y : List ℕ) → 1 ≤ asked.k → IsGoodBy guarantee asked D Y → 0 < length D
good_listed None asked D Y some good = sized_listed asked.k D Y some good.sized good.members
good_listed (Some factor) asked D Y some good = sized_listed asked.k D Y some good.sized good.members

-- a table that agrees with the transcript of an answer has a list
answer_listed : (method : Method) (t : MachineState) (items : List Item) (D : List (List Row)) → MakesRun (run_with method) t → AnswersWith method t items
    → AgreesWith D t.log → 0 < length D
answer_listed method t items D run answers agrees =
    good_listed (guarantee_by method.algorithm (value t.expr) (length D) t.log.accesses (item_objects items)) (asked_of t) D (item_objects items) run.posed.positive
    (answers.good.on_each D agrees)

-- the answer of a machine that is at the end of its run is as near the best as its method promises
answer_near : (method : Method) (t : MachineState) (answer : Answer) → MakesRun (run_with method) t → t.need ≡ Done → AnswersWith method t answer.items
    → IsSameLog answer.transcript t.log
    → IsNearWith method (asked_of t) answer.transcript.lists answer.transcript.count answer.transcript.accesses
answer_near method t answer run done items same =
    let D = run.consistent.0 in
    let agrees : AgreesWith D t.log = run.consistent.1 in
    let some : 0 < length D = answer_listed method t answer.items D run items agrees in
    (facts method).near (asked_of t) answer.transcript.lists answer.transcript.count answer.transcript.accesses (value-monotone t.expr) (record {
      lists = omega (arith, some, agrees.lists, same.lists);
      positive = run.posed.positive;
      fits = omega (arith, run.posed.fits, same.count);
      always = λ E on. same.accesses ∙ whole_run (run_with method) t run done E (agrees_same E answer.transcript t.log same on);
    })

-- its bounds are true on every table that agrees
answer_true : (method : Method) (t : MachineState) (answer : Answer) → MakesRun (run_with method) t → AnswersWith method t answer.items
    → IsSameLog answer.transcript t.log → HasTrueItems (value t.expr) answer
answer_true method t answer run items same = λ D agrees.
    let on : AgreesWith D t.log = agrees_same D answer.transcript t.log same agrees in
    let posed : IsAsked t.k t.log.count D = record {
      table = on.table;
      lists = answer_listed method t answer.items D run items on;
      positive = run.posed.positive;
      fits = run.posed.fits;
    } in
    subst (All (HasTrueBounds (value t.expr) D)) (sym (items.exact.on_each D on)) ((facts method).bounds (asked_of t) t.log.count D (value-monotone t.expr) posed)

-- how a call for the answer ends: its items, how near the best it is, and that its bounds are true
pub record EndsWith {E : Type 0} (machine : Machine) (ending : Result Answer E) : Type 0 where
  pub items : IfOk ending (λ answer. AnswersWith (method_of machine) (state_of machine) answer.items)
  pub near : IfOk ending (λ answer. IsNearWith (method_of machine) (asked_of (state_of machine))
      answer.transcript.lists answer.transcript.count answer.transcript.accesses)
  pub bounds : IfOk ending (HasTrueItems (value (state_of machine).expr))

ends_so : {E : Type 0} → (machine : Machine) (ending : Result Answer E) → MakesRun (run_with (method_of machine)) (state_of machine) → (state_of machine).need ≡ Done
    → IfOk ending (λ answer. AnswersWith (method_of machine) (state_of machine) answer.items)
    → IfOk ending (λ answer. IsSameLog answer.transcript (state_of machine).log) → EndsWith machine ending
ends_so machine (Ok answer) run done items log = record {
  items = items;
  near = answer_near (method_of machine) (state_of machine) answer run done items log;
  bounds = answer_true (method_of machine) (state_of machine) answer run items log;
}
ends_so machine (Err fault) run done items log = record { items = tt; near = tt; bounds = tt }

-- and of a machine that is this one
pub ends_with : {E : Type 0} → (machine other : Machine) (ending : Result Answer E) → machine ≡ other → (state_of machine).need ≡ Done
    → MakesRun (run_with (method_of other)) (state_of other) → IfOk ending (λ answer. AnswersWith (method_of other) (state_of other) answer.items)
    → IfOk ending (λ answer. IsSameLog answer.transcript (state_of other).log) → EndsWith machine ending
ends_with machine other ending is done run items log =
    subst (λ (m : Machine). EndsWith m ending) (sym is) (ends_so other ending run (subst (λ (m : Machine). (state_of m).need ≡ Done) is done) items log)

-- the end of the run of a machine that began for a query is a right answer of it; no table is told
pub end_answered : (method : Method) (q : Query) (n room : ℕ) (T : Told) (first : MachineState) (answer : Answer) → 0 < list_count q.expr
    → IsBegun q.expr q.k n room (costs_in_force q) first → IsEndWith method T first answer → IsAnsweredWith method q n answer
end_answered method q n room T first answer some begun end =
    let last = end.last in
    let expr : last.expr ≡ q.expr = end.goes.expr ∙ begun.expr in
    let k : last.k ≡ q.k = end.goes.k ∙ begun.asked in
    let asked = asked_same q n room first last begun end.goes in
    let lists : last.log.lists ≡ list_count q.expr = end.goes.lists ∙ begun.lists in
    let some_last : 0 < list_count last.expr = subst (λ e. 0 < list_count e) (sym expr) some in
    let on = λ (D : List (List Row)) (agrees : AgreesWith D answer.transcript).
    one_on method q last answer D k asked some_last end.run end.done end.items end.log (agrees_same D answer.transcript last.log end.log agrees) in
    record {
      lists = end.log.lists ∙ lists;
      count = end.log.count ∙ (end.goes.count ∙ begun.count);
      some = (end.run.consistent.0, agrees_same end.run.consistent.0 last.log answer.transcript (same_back answer.transcript last.log end.log) end.run.consistent.1);
      every = on;
      fixed = fixed_same method q last answer.transcript (item_objects answer.items) asked end.log end.items.fixed;
      near = subst (λ x. IsNearWith method x answer.transcript.lists answer.transcript.count answer.transcript.accesses) asked
          (answer_near method last answer end.run end.done end.items end.log);
    }

-- a machine that begins for a query can be driven over its lists
pub begun_drives : (ready : Ready) (D : List (List Row)) (room : ℕ) (t : MachineState) → IsReady ready → IsTable ready.count D
    → length D ≡ list_count ready.query.expr → 0 < list_count ready.query.expr
    → IsBegun ready.query.expr ready.query.k ready.count room (costs_in_force ready.query) t → CanDrive D t
begun_drives ready D room t is table many some begun = record {
  asked = subst (λ k. IsAsked k t.log.count D) (sym begun.asked) (subst (λ n. IsAsked ready.query.k n D) (sym begun.count) (record {
    table = table;
    lists = omega (arith, many, some);
    positive = is.lawful.k.0;
    fits = is.fits;
  }));
  agrees = subst (λ A. Agrees t.log.lists t.log.count D A) (sym begun.none)
      (subst (λ n. Agrees t.log.lists n D []) (sym begun.count)
      (subst (λ m. Agrees m ready.count D []) (many ∙ sym begun.lists) (agrees_none ready.count D table)));
  roomy = subst (λ A. length (seen_objects A) ≤ t.room) (sym begun.none) (omega arith);
}

-- the room in force, and the room that a query states
room_less : (room : Option ℕ) (n stated : ℕ) → room ≡ Some stated → min (unwrap_or room n) n ≤ stated
room_less None n stated e = absurd (cc)
room_less (Some other) n stated e = let same : other ≡ stated = cc in omega arith

room_stated : (room : Option ℕ) (n full : ℕ) → full ≡ min (unwrap_or room n) n → full < n → room ≡ Some full
room_stated None n full e l = absurd (omega arith)
room_stated (Some other) n full e l = let same : other ≡ full = omega arith in ap Some same

-- what comes of driving a machine that began for a query over its lists is what comes of the query
pub drives_begun : (method : Method) (ready : Ready) (D : List (List Row)) (first : MachineState) (result : Result Answer DriveFault) → IsReady ready
    → IsTable ready.count D → length D ≡ list_count ready.query.expr → 0 < list_count ready.query.expr
    → IsBegun ready.query.expr ready.query.k ready.count (unwrap_or ready.query.room ready.count) (costs_in_force ready.query) first
    → DrivesWith method D first result → RunsOverWith method ready D result
drives_begun method ready D first (Ok answer) is table many some begun end =
    let q = ready.query in
    let last = end.last in
    let room = unwrap_or q.room ready.count in
    let answered = end_answered method q ready.count room (whole D) first answer some begun end in
    let begins = begun_drives ready D room first is table many some begun in
    let agrees_last : AgreesWith D last.log = record {
      lists = begins.agrees.lists ∙ sym end.goes.lists;
      table = subst (λ n. IsTable n D) (sym end.goes.count) begins.agrees.table;
      drawn = end.fed.drawn;
    } in
    let agrees = agrees_same D last.log answer.transcript (same_back answer.transcript last.log end.log) agrees_last in
    record {
      answered = answered;
      agrees = agrees;
      roomy = λ stated over.
          let sees : length (seen_objects last.log.accesses) ≡ length (seen_objects (one_run_with method q D)) = ap (λ A. length (seen_objects A)) (sym end.log.accesses ∙ (answered.every D agrees).run) in
          let less : min room ready.count ≤ stated = room_less q.room ready.count stated over.stated in
          omega (arith, over.passed, end.fed.roomy, end.goes.room, begun.in_force);
    }
drives_begun method ready D first (Err (RoomFull room)) is table many some begun stopped =
    let q = ready.query in
    let asked : asked_of first ≡ asked_by q = asked_same q ready.count (unwrap_or q.room ready.count) first first begun (continues_same first) in
    let sees : length (sees_with method D first) ≡ length (seen_objects (one_run_with method q D)) = ap (λ x. length (seen_objects (run_with method x D))) asked in
    let short : room < ready.count = omega (arith, stopped.1, begun.count) in
    record {
      stated = room_stated q.room ready.count room (stopped.0 ∙ begun.in_force) short;
      short = short;
      passed = omega (arith, stopped.2, sees);
    }
drives_begun method ready D first (Err Memory) is table many some begun stopped = tt

-- and the same of the query's machine
pub drives_ready : (ready : Ready) (D : List (List Row)) (machine : Machine) (result : Result Answer DriveFault) → IsReady ready → IsTable ready.count D
    → length D ≡ list_count ready.query.expr → 0 < list_count ready.query.expr → IsMachineFor ready machine
    → DrivesWith (method_of machine) D (state_of machine) result → RunsOver ready D result
drives_ready ready D machine result is table many some for drives =
    drives_begun (method_of_ready ready) ready D (state_of machine) result is table many some for.begun
    (subst (λ method. DrivesWith method D (state_of machine) result) for.method drives)

-- the answer of a machine that came to its end is the end of its run
pub finishes_begun : (D : List (List Row)) (method : Method) (first : MachineState) (last : Machine) (result : Result Answer DriveFault) → method_of last ≡ method
    → Continues first (state_of last) → IsFedFrom (whole D) (state_of last) → (state_of last).need ≡ Done → Finishes last result → DrivesWith method D first result
finishes_begun D method first last (Ok answer) same goes fed done finishes = record {
  last = state_of last;
  goes = goes;
  fed = fed;
  run = subst (λ b. MakesRun (run_with b) (state_of last)) same finishes.0;
  done = done;
  items = subst (λ b. AnswersWith b (state_of last) answer.items) same finishes.1;
  log = finishes.2;
}
finishes_begun D method first last (Err fault) same goes fed done finishes = subst (StopsWith method D first) (sym finishes) tt

pub finishes_end : (D : List (List Row)) (first last : Machine) (result : Result Answer DriveFault) → method_of last ≡ method_of first
    → Continues (state_of first) (state_of last) → IsFedFrom (whole D) (state_of last) → (state_of last).need ≡ Done
    → Finishes last result → DrivesWith (method_of first) D (state_of first) result
finishes_end D first last result same goes fed done finishes = finishes_begun D (method_of first) (state_of first) last result same goes fed done finishes

-- what stops a machine later stops the first one
pub stops_begun : (D : List (List Row)) (method : Method) (first : MachineState) (last : Machine) (fault : DriveFault) → method_of last ≡ method
    → Continues first (state_of last) → StopsWith (method_of last) D (state_of last) fault → StopsWith method D first fault
stops_begun D method first last (RoomFull room) same goes stopped =
    let t = state_of last in
    let asked : asked_of t ≡ asked_of first = asking_same t.expr first.expr t.k first.k t.costs first.costs goes.expr goes.k goes.costs in
    let sees : length (sees_with (method_of last) D t) ≡ length (sees_with method D first) =
    ap (λ x. length (seen_objects (run_with (method_of last) x D))) asked ∙ ap (λ b. length (seen_objects (run_with b (asked_of first) D))) same in
    (stopped.0 ∙ goes.room, omega (arith, stopped.1, goes.count), omega (arith, stopped.2, sees))
stops_begun D method first last Memory same goes stopped = tt

-- a machine that took one more access makes its machine step
pub steps : (D : List (List Row)) (before after : Machine) → method_of after ≡ method_of before
    → length (state_of before).log.accesses < length (run_with (method_of before) (asked_of (state_of before)) D)
    → TookOne (whole D) (state_of before) (state_of after) → Steps D before after
steps D before after same within took = record { method = same; took = took; within = within }

-- a query's room, where it states one, lets it see an object
pub room_some : (room : Option ℕ) (n : ℕ) → IfSome room IsCount → 1 ≤ n → 1 ≤ unwrap_or room n
room_some None n h l = l
room_some (Some stated) n h l = h.0

-- the run of a right answer is short
pub answered_short : (method : Method) (q : Query) (n : ℕ) (answer : Answer) → IsLawful q → 0 < list_count q.expr → q.k ≤ n → n ≤ 200000
    → IsAnsweredWith method q n answer → length answer.transcript.accesses < 2 ^ 40
answered_short method q n answer lawful some fits counted answered =
    let D = answered.some.0 in
    let agrees : AgreesWith D answer.transcript = answered.some.1 in
    let many : length D ≡ list_count q.expr = agrees.lists ∙ answered.lists in
    let asked : IsAsked q.k n D = record {
      table = subst (λ c. IsTable c D) answered.count agrees.table;
      lists = omega (arith, many, some);
      positive = lawful.k.0;
      fits = fits;
    } in
    let few : length D ≤ 8 = omega (arith, many, lists_counted q lawful, lawful.few) in
    let short = run_short method (asked_by q) n D (value-monotone q.expr) asked few counted in
    subst (λ (A : List Access). length A < 2 ^ 40) (sym (answered.every D agrees).run) (omega (arith, short))
