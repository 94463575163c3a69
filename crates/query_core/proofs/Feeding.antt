-- A machine that is fed from what is told of lists, and from lists that are told whole.
use Rattle.std.proofs.Common.{◌≡◌, ◌≢◌, ℕ, ◌-◌, ◌<◌, ◌≤◌, ◌⊎◌, inl, inr, List, [], ◌∷◌, ◌++◌, length, drop, Contains, Option, Some, None, Result, Err, slice_get, slice_index_or, refl, sym, ap, subst, ◌∙◌, arith, length-append}
use Rattle.std.proofs.lemmas.Bool.{cases_Bool, cases_lt}
use Rattle.std.proofs.lemmas.List.{get_or_read}
use Rattle.ranked_list.specs.declared.row.Row.{Row}
use Rattle.ranked_list.specs.Table.{IsTable}
use Rattle.ranked_list.specs.declared.need.Need.{Need}
use Rattle.ranked_list.specs.declared.need.Need.TheVariants.{Row as RowAt, Grade, Done}
use Rattle.monotone_fn.proofs.Laws.{value-monotone}
use Rattle.topk_theory.specs.declared.access.Access.{Access}
use Rattle.topk_theory.specs.declared.access.Access.TheVariants.{Sorted, Random}
use Rattle.topk_theory.specs.Aggregate.{objects_of}
use Rattle.topk_theory.specs.Bounds.{grade_among}
use Rattle.topk_theory.specs.Transcript.{Told, whole, IsDrawn, Agrees, Begins, Gives, list_at, depth_of, seen_objects}
use Rattle.topk_theory.specs.Threshold.{IsAsked}
use Rattle.topk_theory.specs.Machine.{CanServe, need_of}
use Rattle.topk_theory.proofs.AgreementLists.{slice_get_in_range, begins_splits, begins_more, distinct_fits}
use Rattle.topk_theory.proofs.AgreementNames.{has, has_contains, has_not}
use Rattle.topk_theory.proofs.AgreementRows.{grade_among_row, grade_among_none, objects_in_each}
use Rattle.topk_theory.proofs.Agreement.{drawn_push, agrees_front, agrees_gives, agrees_push, seen_objects_old, seen_objects_new, seen_objects_random, seen_distinct, seen_count}
use Rattle.topk_theory.proofs.Consistent.{kind_excludes}
use Rattle.topk_theory.proofs.ThresholdRun.{seen_more}
use Rattle.access_log.specs.Log.{AgreesWith, with_access}
use Rattle.machine_base.specs.Machine.{MachineState, asked_of, IsNextRow, IsInRange, IsNoGrade, MakesRun, MayBeNextRow, MayBeNextGrade, Takes, HasRoomFor, RowFed, GradeFed, row_access, grade_access}
use Rattle.machine_base.proofs.MachineLaws.{in_range}
use Rattle.machine_base.specs.declared.core_fault.CoreFault.{CoreFault}
use Rattle.machine_base.specs.declared.core_fault.CoreFault.TheVariants.{Strangers, RoomFull}
use Rattle.query_core.specs.declared.drive_fault.DriveFault.TheVariants.{RoomFull as NoRoom}
use Rattle.query_core.specs.Driving.{sees_with, Continues, IsFedFrom, TookOne, CanDrive, StopsWith}
use Rattle.query_core.specs.Methods.{Method, run_with}
use Rattle.query_core.proofs.AllFacts.{facts}

-- a machine that needs no grade can be fed none
pub no_grade_fed : (t : MachineState) (need : Need) (grade : ℕ) → IsNoGrade need → MayBeNextGrade t.log need grade → ⊥
no_grade_fed t (RowAt list depth) grade none may = may
no_grade_fed t (Grade list object) grade none may = none
no_grade_fed t Done grade none may = may

-- what never changes stays as it was from step to step
pub continues_same : (t : MachineState) → Continues t t
continues_same t = record { expr = refl; k = refl; room = refl; costs = refl; lists = refl; count = refl }

pub continues_on : (first middle last : MachineState) → Continues first middle → Continues middle last → Continues first last
continues_on first middle last p q = record {
  expr = q.expr ∙ p.expr;
  k = q.k ∙ p.k;
  room = q.room ∙ p.room;
  costs = q.costs ∙ p.costs;
  lists = q.lists ∙ p.lists;
  count = q.count ∙ p.count;
}

-- one more sorted access sees at most one more object, and exactly one more where it is new
seen_with : (A : List Access) (list object grade room : ℕ) → length (seen_objects A) ≤ room
    → Contains (seen_objects A) object ⊎ (length (seen_objects A) < room) → length (seen_objects (A ++ Sorted list object grade ∷ [])) ≤ room
seen_with A list object grade room roomy fits =
    elim (cases_Bool (has object (seen_objects A))) [
      | inl old ↦ rw (seen_objects_old A list object grade (has_contains object (seen_objects A) old)) roomy
      | inr new ↦
          let absent = has_not object (seen_objects A) new in
          let less : length (seen_objects A) < room = elim fits [ inl held ↦ absurd (absent held) | inr l ↦ l ] in
          rw (seen_objects_new A list object grade absent) (omega (arith, length-append (seen_objects A) (object ∷ [])))
    ]

-- a machine that takes an access which is told took one
took_access : (T : Told) (before after : MachineState) (access : Access) → Continues before after → after.log.accesses ≡ before.log.accesses ++ access ∷ []
    → IsDrawn before.log.lists T (before.log.accesses ++ access ∷ [])
    → length (seen_objects (before.log.accesses ++ access ∷ [])) ≤ before.room → TookOne T before after
took_access T before after access goes logged drawn roomy = record {
  goes = goes;
  fed = record {
    drawn = subst (λ m. IsDrawn m T after.log.accesses) (sym goes.lists) (subst (IsDrawn before.log.lists T) (sym logged) drawn);
    roomy = subst (λ A. length (seen_objects A) ≤ after.room) (sym logged) (subst (λ room. length (seen_objects (before.log.accesses ++ access ∷ [])) ≤ room) (sym goes.room) roomy);
  };
  one_more = ap length logged ∙ length-append before.log.accesses (access ∷ []);
}

takes_on : (before after : MachineState) (access : Access) → Takes access before after → Continues before after
takes_on before after access takes = record { expr = takes.expr; k = takes.k; room = takes.room; costs = takes.costs; lists = takes.log.lists; count = takes.log.count }

-- the row at the depth that is needed is given next
row_gives : (T : Told) (t : MachineState) (list depth : ℕ) (row : Row) → IsNextRow t.log list depth → slice_get (list_at T.rows list) (depth - 1) ≡ Some row
    → Gives T t.log.accesses (Sorted list row.object row.grade)
row_gives T t list depth row range found =
    let place : depth - 1 ≡ depth_of list t.log.accesses = omega (arith, range.next) in
    ap (slice_get (list_at T.rows list)) (sym place) ∙ found

row_range : (method : Method) (t : MachineState) (list depth : ℕ) → MakesRun (run_with method) t → t.need ≡ RowAt list depth → IsNextRow t.log list depth
row_range method t list depth run need = subst (IsInRange t.log) need (in_range (run_with method) t run)

grade_range : (method : Method) (t : MachineState) (list object : ℕ) → MakesRun (run_with method) t → t.need ≡ Grade list object → list < t.log.lists
grade_range method t list object run need = subst (IsInRange t.log) need (in_range (run_with method) t run)

-- a machine that takes the row which is told at the depth that it needs took one; no table is spoken of
pub row_took : (method : Method) (T : Told) (before after : MachineState) (list depth : ℕ) (row : Row) → IsFedFrom T before → MakesRun (run_with method) before
    → before.need ≡ RowAt list depth → slice_get (list_at T.rows list) (depth - 1) ≡ Some row
    → HasRoomFor before row.object → Takes (row_access before.need row) before after → TookOne T before after
row_took method T before after list depth row fed run need found fits takes =
    let range = row_range method before list depth run need in
    let access = Sorted list row.object row.grade in
    let takes_row : Takes access before after = subst (λ n. Takes (row_access n row) before after) need takes in
    took_access T before after access (takes_on before after access takes_row) takes_row.log.accesses
    (drawn_push before.log.lists T before.log.accesses access fed.drawn range.listed (row_gives T before list depth row range found))
    (seen_with before.log.accesses list row.object row.grade before.room fed.roomy fits)

-- a machine that takes a grade which is told took one
pub grade_took : (method : Method) (T : Told) (before after : MachineState) (list object grade : ℕ) → IsFedFrom T before → MakesRun (run_with method) before
    → before.need ≡ Grade list object → Contains (list_at T.known list) (record { object = object; grade = grade })
    → Takes (grade_access before.need grade) before after → TookOne T before after
grade_took method T before after list object grade fed run need known takes =
    let access = Random list object grade in
    let takes_grade : Takes access before after = subst (λ n. Takes (grade_access n grade) before after) need takes in
    took_access T before after access (takes_on before after access takes_grade) takes_grade.log.accesses
    (drawn_push before.log.lists T before.log.accesses access fed.drawn (grade_range method before list object run need) known)
    (rw (seen_objects_random before.log.accesses list object grade) fed.roomy)

-- a table that agreed agrees after one more access of it
pub fed_whole : (D : List (List Row)) (t : MachineState) → CanDrive D t → IsFedFrom (whole D) t
fed_whole D t can = record { drawn = can.agrees.drawn; roomy = can.roomy }

pub can_still : (D : List (List Row)) (before after : MachineState) → CanDrive D before → TookOne (whole D) before after → CanDrive D after
can_still D before after can took = record {
  asked = subst (λ k. IsAsked k after.log.count D) (sym took.goes.k) (subst (λ n. IsAsked before.k n D) (sym took.goes.count) can.asked);
  agrees = record { lists = can.agrees.lists ∙ sym took.goes.lists; table = subst (λ n. IsTable n D) (sym took.goes.count) can.agrees.table; drawn = took.fed.drawn };
  roomy = took.fed.roomy;
}

-- which access of the run a need is of
needs_row : (made : List Access) (next : Option Access) (list depth : ℕ) → RowAt list depth ≡ need_of made next
    → (object : ℕ) × (grade : ℕ) × (next ≡ Some (Sorted list object grade))
needs_row made None list depth e = absurd (cc)
needs_row made (Some (Sorted other object grade)) list depth e = let same : other ≡ list = cc in (object, grade, ap (λ l. Some (Sorted l object grade)) same)
needs_row made (Some (Random other object grade)) list depth e = absurd (cc)

needs_grade : (made : List Access) (next : Option Access) (list object : ℕ) → Grade list object ≡ need_of made next
    → (grade : ℕ) × (next ≡ Some (Random list object grade))
needs_grade made None list object e = absurd (cc)
needs_grade made (Some (Sorted other given grade)) list object e = absurd (cc)
needs_grade made (Some (Random other named grade)) list object e = (grade, cc)

-- what is known of a machine that needs a row, and of the row that the table has there
record RowNeeded (method : Method) (D : List (List Row)) (t : MachineState) (list : ℕ) (row : Row) : Type 0 where
  gives : Gives (whole D) t.log.accesses (Sorted list row.object row.grade)
  longer : AgreesWith D (with_access t.log (Sorted list row.object row.grade))
  within : length t.log.accesses < length (run_with method (asked_of t) D)
  next : (object : ℕ) × (grade : ℕ) × (slice_get (run_with method (asked_of t) D) (length t.log.accesses) ≡ Some (Sorted list object grade))

row_needed : (method : Method) (D : List (List Row)) (t : MachineState) (list depth : ℕ) (row : Row) → AgreesWith D t.log → MakesRun (run_with method) t
    → t.need ≡ RowAt list depth → slice_get (list_at D list) (depth - 1) ≡ Some row → RowNeeded method D t list row
row_needed method D t list depth row agrees run need found =
    let made = t.log.accesses in
    let all = run_with method (asked_of t) D in
    let needs = needs_row made (slice_get all (length made)) list depth (sym need ∙ (run.on_run D agrees).next) in
    let given = row_gives (whole D) t list depth row (row_range method t list depth run need) found in
    record {
      gives = given;
      longer = agrees_push t.log.lists t.log.count D made (Sorted list row.object row.grade) agrees given;
      within = slice_get_in_range all (length made) _ needs.2;
      next = needs;
    }

-- what a machine needs can be had of the table
pub row_served : (method : Method) (D : List (List Row)) (t : MachineState) (list depth : ℕ) → AgreesWith D t.log → MakesRun (run_with method) t
    → t.need ≡ RowAt list depth → (list < length D) × (1 ≤ depth) × (depth ≤ length (list_at D list))
row_served method D t list depth agrees run need = subst (CanServe D) need (run.served D agrees)

pub grade_served : (method : Method) (D : List (List Row)) (t : MachineState) (list object : ℕ) → AgreesWith D t.log → MakesRun (run_with method) t
    → t.need ≡ Grade list object → (list < length D) × Contains (objects_of D) object
grade_served method D t list object agrees run need = subst (CanServe D) need (run.served D agrees)

-- the row of the table may be fed, and the run has one more access
pub may_feed_row : (method : Method) (D : List (List Row)) (t : MachineState) (list depth : ℕ) (row : Row) → AgreesWith D t.log → MakesRun (run_with method) t
    → t.need ≡ RowAt list depth → slice_get (list_at D list) (depth - 1) ≡ Some row → MayBeNextRow t.log t.need row
may_feed_row method D t list depth row agrees run need found =
    subst (λ n. MayBeNextRow t.log n row) (sym need)
    (λ kind h. absurd (kind_excludes t.log.lists t.log.count t.log.accesses (Sorted list row.object row.grade) kind h D (row_needed method D t list depth row agrees run need found).longer))

pub row_within : (method : Method) (D : List (List Row)) (t : MachineState) (list depth : ℕ) → AgreesWith D t.log → MakesRun (run_with method) t
    → t.need ≡ RowAt list depth → length t.log.accesses < length (run_with method (asked_of t) D)
row_within method D t list depth agrees run need =
    let all = run_with method (asked_of t) D in
    let needs = needs_row t.log.accesses (slice_get all (length t.log.accesses)) list depth (sym need ∙ (run.on_run D agrees).next) in
    slice_get_in_range all (length t.log.accesses) _ needs.2

pub grade_within : (method : Method) (D : List (List Row)) (t : MachineState) (list object : ℕ) → AgreesWith D t.log → MakesRun (run_with method) t
    → t.need ≡ Grade list object → length t.log.accesses < length (run_with method (asked_of t) D)
grade_within method D t list object agrees run need =
    let all = run_with method (asked_of t) D in
    let needs = needs_grade t.log.accesses (slice_get all (length t.log.accesses)) list object (sym need ∙ (run.on_run D agrees).next) in
    slice_get_in_range all (length t.log.accesses) _ needs.1

-- the run goes on with the row that the table has
run_goes_on : (method : Method) (D : List (List Row)) (t : MachineState) (list : ℕ) (row : Row) → IsAsked t.k t.log.count D
    → Begins t.log.accesses (run_with method (asked_of t) D) → RowNeeded method D t list row
    → (rest : List Access) × (run_with method (asked_of t) D ≡ (t.log.accesses ++ Sorted list row.object row.grade ∷ []) ++ rest)
run_goes_on method D t list row asked begins knows =
    let all = run_with method (asked_of t) D in
    let made = t.log.accesses in
    let object = knows.next.0 in
    let grade = knows.next.1 in
    let front : Begins (made ++ Sorted list object grade ∷ []) all = begins_more made all (Sorted list object grade) begins knows.next.2 in
    let rest = drop (length (made ++ Sorted list object grade ∷ [])) all in
    let split : all ≡ (made ++ Sorted list object grade ∷ []) ++ rest = begins_splits (made ++ Sorted list object grade ∷ []) all front in
    let on_run : Agrees (length D) t.log.count D (made ++ Sorted list object grade ∷ []) =
    agrees_front (length D) t.log.count D (made ++ Sorted list object grade ∷ []) rest (subst (Agrees (length D) t.log.count D) split ((facts method).agrees (asked_of t) t.log.count D (value-monotone t.expr) asked)) in
    let given : Gives (whole D) made (Sorted list object grade) = agrees_gives (length D) t.log.count D made (Sorted list object grade) [] on_run in
    let there : slice_get (list_at D list) (depth_of list made) ≡ Some (record { object = row.object; grade = row.grade }) = knows.gives in
    let same_object : object ≡ row.object = cc in
    let same_grade : grade ≡ row.grade = cc in
    (rest, split ∙ ap (λ o. (made ++ Sorted list o grade ∷ []) ++ rest) same_object ∙ ap (λ g. (made ++ Sorted list row.object g ∷ []) ++ rest) same_grade)

-- an object for which there is no room is one that the run sees beyond the room
no_room_sees : (method : Method) (D : List (List Row)) (t : MachineState) (list depth : ℕ) (row : Row) → IsAsked t.k t.log.count D → AgreesWith D t.log
    → MakesRun (run_with method) t → t.need ≡ RowAt list depth → slice_get (list_at D list) (depth - 1) ≡ Some row
    → (¬ HasRoomFor t row.object) → (t.room < length (seen_objects (t.log.accesses ++ Sorted list row.object row.grade ∷ []))) × (length (seen_objects (t.log.accesses ++ Sorted list row.object row.grade ∷ [])) ≤ length (sees_with method D t))
no_room_sees method D t list depth row asked agrees run need found full =
    let made = t.log.accesses in
    let access = Sorted list row.object row.grade in
    let knows = row_needed method D t list depth row agrees run need found in
    let goes_on = run_goes_on method D t list row asked (run.on_run D agrees).begins knows in
    let absent : ¬ Contains (seen_objects made) row.object = λ held. full (inl held) in
    let many : t.room ≤ length (seen_objects made) = elim (cases_lt (length (seen_objects made)) t.room) [ inl l ↦ absurd (full (inr l)) | inr l ↦ l ] in (
      rw (seen_objects_new made list row.object row.grade absent) (omega (arith, length-append (seen_objects made) (row.object ∷ []))),
      subst (λ all. length (seen_objects (made ++ access ∷ [])) ≤ length (seen_objects all)) (sym goes_on.1)
          (distinct_fits (seen_objects (made ++ access ∷ [])) (seen_objects ((made ++ access ∷ []) ++ goes_on.0)) (seen_distinct (made ++ access ∷ [])) (λ o h. seen_more (made ++ access ∷ []) goes_on.0 o h)),
    )

-- what a row's refusal says
pub stranger_fed : {A : Type 0} → (row : Row) (before after : MachineState) (result : Result A CoreFault) (fault : CoreFault) (object count : ℕ)
    → RowFed row before after result → result ≡ Err fault → fault ≡ Strangers object count → (¬ HasRoomFor before row.object) × (before.room ≡ before.log.count)
stranger_fed row before after result fault object count fed is of =
    let refused = subst (RowFed row before after) (is ∙ ap Err of) fed in
    (refused.0, refused.1)

pub room_fed : {A : Type 0} → (row : Row) (before after : MachineState) (result : Result A CoreFault) (fault : CoreFault) (room : ℕ)
    → RowFed row before after result → result ≡ Err fault → fault ≡ RoomFull room
    → (¬ HasRoomFor before row.object) × (before.room < before.log.count) × (room ≡ before.room)
room_fed row before after result fault room fed is of =
    let refused = subst (RowFed row before after) (is ∙ ap Err of) fed in
    (refused.0, refused.1, refused.2)

-- no row of the table is a stranger's, and one that is refused stops the machine for its room
pub no_stranger : (method : Method) (D : List (List Row)) (before : MachineState) (list depth : ℕ) (row : Row) → CanDrive D before → MakesRun (run_with method) before
    → before.need ≡ RowAt list depth → slice_get (list_at D list) (depth - 1) ≡ Some row → (¬ HasRoomFor before row.object) → before.room ≡ before.log.count → ⊥
no_stranger method D before list depth row can run need found full whole =
    let sees = no_room_sees method D before list depth row can.asked can.agrees run need found full in
    let some : 0 < before.log.lists = subst (λ m. 0 < m) can.agrees.lists can.asked.lists in
    let all_seen : length (seen_objects (before.log.accesses ++ Sorted list row.object row.grade ∷ [])) ≤ before.log.count =
    seen_count before.log.lists before.log.count D _ some (row_needed method D before list depth row can.agrees run need found).longer in
    absurd (omega (arith, sees.0, all_seen, whole))

pub room_stops : (method : Method) (D : List (List Row)) (before : MachineState) (list depth : ℕ) (row : Row) (room : ℕ) → CanDrive D before
    → MakesRun (run_with method) before
    → before.need ≡ RowAt list depth → slice_get (list_at D list) (depth - 1) ≡ Some row → (¬ HasRoomFor before row.object) → before.room < before.log.count → room ≡ before.room → StopsWith method D before (NoRoom room)
room_stops method D before list depth row room can run need found full less is =
    let sees = no_room_sees method D before list depth row can.asked can.agrees run need found full in
    (is, omega (arith, less, is), omega (arith, sees.0, sees.1, is))

-- a grade that the table has there may be fed
pub may_feed_grade : (D : List (List Row)) (t : MachineState) (list object grade : ℕ) → AgreesWith D t.log → t.need ≡ Grade list object
    → grade_among (list_at D list) object ≡ Some grade → MayBeNextGrade t.log t.need grade
may_feed_grade D t list object grade agrees need found =
    let longer = agrees_push t.log.lists t.log.count D t.log.accesses (Random list object grade) agrees (grade_among_row (list_at D list) object grade found) in
    subst (λ n. MayBeNextGrade t.log n grade) (sym need) (λ kind h. kind_excludes t.log.lists t.log.count t.log.accesses (Random list object grade) kind h D longer)

-- the table has the grade that is needed
pub grade_there : (method : Method) (D : List (List Row)) (t : MachineState) (list object : ℕ) → AgreesWith D t.log → MakesRun (run_with method) t
    → t.need ≡ Grade list object → grade_among (list_at D list) object ≢ None
grade_there method D t list object agrees run need none =
    let served = grade_served method D t list object agrees run need in
    grade_among_none (list_at D list) object none (objects_in_each t.log.count D list object agrees.table served.0 served.1)

-- the row that is needed, and what is found of the grade that is needed, as they are read at the place of a list
pub row_told : (method : Method) (D : List (List Row)) (t : MachineState) (list depth place : ℕ) (rows : List Row) (row : Row) → CanDrive D t
    → MakesRun (run_with method) t → t.need ≡ RowAt list depth → place ≡ list → rows ≡ slice_index_or D place rows → Some row ≡ slice_get rows (depth - 1)
    → slice_get (list_at D list) (depth - 1) ≡ Some row
row_told method D t list depth place rows row can run need same is found =
    let served = row_served method D t list depth can.agrees run need in
    let read : rows ≡ list_at D list = get_or_read D place rows (omega (arith, served.0, same)) is [] ∙ ap (list_at D) same in
    ap (λ r. slice_get r (depth - 1)) (sym read) ∙ sym found

pub grade_told : (method : Method) (D : List (List Row)) (t : MachineState) (list object place : ℕ) (rows : List Row) (found : Option ℕ) → CanDrive D t
    → MakesRun (run_with method) t → t.need ≡ Grade list object → place ≡ list → rows ≡ slice_index_or D place rows → found ≡ grade_among rows object
    → grade_among (list_at D list) object ≡ found
grade_told method D t list object place rows found can run need same is grade =
    let served = grade_served method D t list object can.agrees run need in
    let read : rows ≡ list_at D list = get_or_read D place rows (omega (arith, served.0, same)) is [] ∙ ap (list_at D) same in
    ap (λ r. grade_among r object) (sym read) ∙ sym grade

-- what becomes of the row of the table, and of its grade
pub row_fed : (method : Method) (D : List (List Row)) (before after : MachineState) (list depth : ℕ) (row : Row) → CanDrive D before → MakesRun (run_with method) before
    → before.need ≡ RowAt list depth → slice_get (list_at D list) (depth - 1) ≡ Some row → HasRoomFor before row.object
    → Takes (row_access before.need row) before after → TookOne (whole D) before after
row_fed method D before after list depth row can run need found fits takes = row_took method (whole D) before after list depth row (fed_whole D before can) run need found fits takes

pub grade_fed : (method : Method) (D : List (List Row)) (before after : MachineState) (list object grade : ℕ) → CanDrive D before → MakesRun (run_with method) before
    → before.need ≡ Grade list object → grade_among (list_at D list) object ≡ Some grade → GradeFed grade before after → TookOne (whole D) before after
grade_fed method D before after list object grade can run need found fed = grade_took method (whole D) before after list object grade (fed_whole D before can) run need (grade_among_row (list_at D list) object grade found) fed
