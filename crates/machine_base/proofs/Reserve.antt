-- Room that is reserved for a run: an access more is always spare.
use Rattle.std.proofs.Common.{◌≡◌, ◌≢◌, ℕ, zero, suc, ◌+◌, ◌-◌, ◌*◌, ◌<◌, ◌≤◌, inl, inr, Bool, true, false, true≢false, cond, List, [], ◌∷◌, ◌++◌, length, ◌==◌, Some, None, AllPairs, Contains, get_or, refl, sym, ap, subst, ◌∙◌, arith, length-append}
use Rattle.std.specs.List.{cons_option}
use Rattle.std.proofs.lemmas.Bool.{cases_Bool, eq-eqb, ne_eqb, eqb-true}
use Rattle.std.proofs.lemmas.List.{length-map, get_or-map}
use Rattle.ranked_list.specs.declared.row.Row.{Row}
use Rattle.ranked_list.specs.Table.{objects}
use Rattle.topk_theory.specs.declared.access.Access.{Access}
use Rattle.topk_theory.specs.declared.access.Access.TheVariants.{Sorted, Random}
use Rattle.monotone_fn.specs.Tree.{Tree}
use Rattle.topk_theory.specs.Transcript.{list_of, object_of, sorted_row, sorted_rows, random_rows, seen_objects, named_objects}
use Rattle.topk_theory.specs.Consistent.{Kind, IsOfKind}
use Rattle.topk_theory.specs.Consistent.Kind.{too_many_objects}
use Rattle.topk_theory.proofs.Agreement.{named_objects_old, named_objects_new, named_distinct, seen_is_named}
use Rattle.topk_theory.proofs.AgreementLists.{contains_here, contains_there, contains_map_from, member_of_all, distinct_fits}
use Rattle.topk_theory.proofs.AgreementNames.{has, has_contains, has_not}
use Rattle.topk_theory.proofs.Consistent.{no_kind_agrees}
use Rattle.topk_theory.proofs.ConsistentTable.{IsCoherent, agrees_coherent, random_given, given_named}
use Rattle.topk_theory.proofs.ThresholdRun.{seen_from_access, contains_from_filter_map}
use Rattle.access_log.specs.Log.{Log, with_access}
use Rattle.access_log.specs.Refusal.{Refuses}
use Rattle.access_log.specs.declared.fault.PushFault.{PushFault}
use Rattle.access_log.specs.declared.fault.PushFault.TheVariants.{Inconsistent, Memory}
use Rattle.ranked_list.specs.declared.need.Need.TheVariants.{Done}
use Rattle.machine_base.specs.Machine.{HasRoomFor}
use Rattle.machine_base.specs.declared.base.Base.{Base}
use Rattle.machine_base.specs.Base.{shown, asked_of_list, IsHeld, Holds, IsReserved, MayFollow, CanTake}
use Rattle.machine_base.proofs.Held.{held_more}

-- ---- the accesses of lists, list by list
abbrev listed : ℕ → List Access → ℕ
listed zero A = 0
listed (suc m) A = listed m A + (length (sorted_rows m A) + length (random_rows m A))

-- one more access is of one list
one_here : (here : Bool) (row : Row) (rows : List Row) → length (cons_option (cond here (Some row) None) rows) ≡ cond {A = ℕ} here 1 0 + length rows
one_here true row rows = omega arith
one_here false row rows = omega arith

rows_more : (list : ℕ) (a : Access) (A : List Access)
    → length (sorted_rows list (a ∷ A)) + length (random_rows list (a ∷ A)) ≡ cond {A = ℕ} (list_of a == list) 1 0 + (length (sorted_rows list A) + length (random_rows list A))
rows_more list (Sorted other object grade) A = let e = one_here (other == list) (record { object = object; grade = grade }) (sorted_rows list A) in omega (arith, e)
rows_more list (Random other object grade) A = let e = one_here (other == list) (record { object = object; grade = grade }) (random_rows list A) in omega (arith, e)

listed_past : (m : ℕ) (a : Access) (A : List Access) → m ≤ list_of a → listed m (a ∷ A) ≡ listed m A
listed_past zero a A past = refl
listed_past (suc m) a A past =
    let below : listed m (a ∷ A) ≡ listed m A = listed_past m a A (omega arith) in
    let other : cond {A = ℕ} (list_of a == m) 1 0 ≡ 0 = ap (λ b. cond {A = ℕ} b 1 0) (ne_eqb (list_of a) m (λ e. absurd (omega arith))) in
    let here = rows_more m a A in
    omega (arith, below, other, here)

listed_more : (m : ℕ) (a : Access) (A : List Access) → list_of a < m → listed m (a ∷ A) ≡ suc (listed m A)
listed_more zero a A l = absurd (omega arith)
listed_more (suc m) a A l =
    let here = rows_more m a A in
    elim (cases_Bool (list_of a == m)) [
      | inl t ↦
          let same : list_of a ≡ m = eqb-true (list_of a) m t in
          let below : listed m (a ∷ A) ≡ listed m A = listed_past m a A (omega (arith, same)) in
          let one : cond {A = ℕ} (list_of a == m) 1 0 ≡ 1 = ap (λ b. cond {A = ℕ} b 1 0) t in
          omega (arith, below, one, here)
      | inr f ↦
          let apart : list_of a ≢ m = λ e. true≢false (sym (eq-eqb (list_of a) m e) ∙ f) in
          let below : listed m (a ∷ A) ≡ suc (listed m A) = listed_more m a A (below_last (list_of a) m l apart) in
          let none : cond {A = ℕ} (list_of a == m) 1 0 ≡ 0 = ap (λ b. cond {A = ℕ} b 1 0) f in
          omega (arith, below, none, here)
    ]
  where
    below_last : (list m : ℕ) → list < suc m → list ≢ m → list < m
    below_last list m l apart = omega (arith, apart)

listed_none : (m : ℕ) → listed m [] ≡ 0
listed_none zero = refl
listed_none (suc m) = let below = listed_none m in omega (arith, below)

-- each access is of one of the lists
all_listed : (m : ℕ) (A : List Access) → ((a : Access) → Contains A a → list_of a < m) → listed m A ≡ length A
all_listed m [] within = listed_none m
all_listed m (a ∷ A) within =
    let later : listed m A ≡ length A = all_listed m A (λ b c. within b (contains_there a A b c)) in
    let here = listed_more m a A (within a (contains_here a A)) in
    omega (arith, later, here)

listed_few : (m most : ℕ) (A : List Access) → ((list : ℕ) → list < m → length (sorted_rows list A) + length (random_rows list A) ≤ most) → listed m A ≤ m * most
listed_few zero most A few = omega arith
listed_few (suc m) most A few =
    let below : listed m A ≤ m * most = listed_few m most A (λ list l. few list (omega arith)) in
    let here = few m (omega arith) in
    omega arith

-- ---- of each list no more rows are given than objects were seen
-- the objects of rows of different objects are different
objects_apart : (rows : List Row) → AllPairs (λ (a b : Row). a.object ≢ b.object) rows → AllPairs (λ (a b : ℕ). a ≢ b) (objects rows)
objects_apart rows apart = λ i j d lt in_range equal.
    let none : Row = record { object = 0; grade = 0 } in
    let size : length (objects rows) ≡ length rows = length-map rows (λ (row : Row). row.object) in
    let at_i : get_or (objects rows) i d ≡ (get_or rows i none).object = get_or-map (λ (row : Row). row.object) rows i none d (omega arith) in
    let at_j : get_or (objects rows) j d ≡ (get_or rows j none).object = get_or-map (λ (row : Row). row.object) rows j none d (omega arith) in
    apart i j none lt (omega arith) (sym at_i ∙ equal ∙ at_j)

-- the objects of a list's rows were seen
pub chosen : (here : Bool) (one row : Row) → cond here (Some one) None ≡ Some row → one ≡ row
chosen true one row e = cc
chosen false one row e = absurd (cc)

row_seen : (list : ℕ) (A : List Access) (a : Access) (row : Row) → Contains A a → sorted_row list a ≡ Some row → Contains (seen_objects A) row.object
row_seen list A (Sorted other object grade) row c e =
    subst (λ z. Contains (seen_objects A) z) (ap (λ (r : Row). r.object) (chosen (other == list) (record { object = object; grade = grade }) row e)) (seen_from_access A other object grade c)
row_seen list A (Random other object grade) row c e = absurd (cc)

rows_seen : (list : ℕ) (A : List Access) (object : ℕ) → Contains (objects (sorted_rows list A)) object → Contains (seen_objects A) object
rows_seen list A object c =
    let row = contains_map_from (λ (row : Row). row.object) (sorted_rows list A) object c in
    let from = contains_from_filter_map (sorted_row list) A row.0 row.1 in
    subst (λ z. Contains (seen_objects A) z) row.2 (row_seen list A from.0 row.0 from.1 from.2)

-- an object whose grade was asked is named
asked_named : (list : ℕ) (A : List Access) (object : ℕ) → Contains (asked_of_list list A) object → Contains (named_objects A) object
asked_named list A object c =
    let row = contains_map_from (λ (row : Row). row.object) (random_rows list A) object c in
    subst (λ z. Contains (named_objects A) z) row.2 (given_named list A row.0 (random_given list A row.0 row.1))

-- so there are at most twice as many accesses as lists times objects that may be seen
pub few_accesses : (e : Tree) (k room m n : ℕ) (A : List Access) → IsHeld e k room m n A → length A ≤ 2 * (m * room)
few_accesses e k room m n A held =
    let coherent : IsCoherent m n A = agrees_coherent m n held.agreeing.0 A held.agreeing.1 in
    let each : (list : ℕ) → list < m → length (sorted_rows list A) + length (random_rows list A) ≤ 2 * room = λ list l.
    let rows : List ℕ = objects (sorted_rows list A) in
    let sorted_fit : length rows ≤ length (seen_objects A) = distinct_fits rows (seen_objects A) (objects_apart (sorted_rows list A) (coherent.each list l).ranked.distinct) (rows_seen list A) in
    let random_fit : length (asked_of_list list A) ≤ length (seen_objects A) = distinct_fits (asked_of_list list A) (seen_objects A) (held.asked_once list) (λ o c. held.named_seen o (asked_named list A o c)) in
    let sorted_long : length rows ≡ length (sorted_rows list A) = length-map (sorted_rows list A) (λ (row : Row). row.object) in
    let random_long : length (asked_of_list list A) ≡ length (random_rows list A) = length-map (random_rows list A) (λ (row : Row). row.object) in
    let roomy = held.roomy in
    omega arith in
    let whole : listed m A ≡ length A = all_listed m A (λ a c. member_of_all (λ access. list_of access < m) A a coherent.in_range c) in
    let few : listed m A ≤ m * (2 * room) = listed_few m (2 * room) A each in
    let twice : m * (2 * room) ≡ 2 * (m * room) = grind arith in
    omega arith

-- ---- what can be told isn't refused
-- no more objects are named than were seen
named_few : (A : List Access) → ((o : ℕ) → Contains (named_objects A) o → Contains (seen_objects A) o) → length (named_objects A) ≤ length (seen_objects A)
named_few A seen = distinct_fits (named_objects A) (seen_objects A) (named_distinct A) seen

-- an object that is named by no access has room
unnamed_fits : (room : ℕ) (A : List Access) (a : Access) → MayFollow room A a → ((o : ℕ) → Contains (named_objects A) o → Contains (seen_objects A) o)
    → (¬ Contains (named_objects A) (object_of a)) → length (named_objects A) < room
unnamed_fits room A (Sorted list object grade) follows named_seen none =
    let few = named_few A named_seen in
    elim follows [ inl old ↦ absurd (none (seen_is_named A object old)) | inr spare ↦ omega arith ]
unnamed_fits room A (Random list object grade) follows named_seen none = absurd (none (seen_is_named A object follows.0))

pub not_refused : (base : Base) (a : Access) (fault : PushFault) → Holds base → IsReserved base → CanTake base a → Refuses base.transcript a fault → ⊥
not_refused base a (Inconsistent at kind) held reserved can refused = let first = refused.1 in can.consistent first.0 first.2.holds
not_refused base a Memory held reserved can refused =
    let A : List Access = base.transcript.accesses in
    let m : ℕ = base.transcript.lists in
    let n : ℕ = base.transcript.count in
    let then : IsHeld base.expr base.k base.room m n (A ++ a ∷ []) = held_more base.expr base.k base.room m n A a held can.follows (no_kind_agrees m n A a held.agreeing can.consistent) in
    let few : length (A ++ a ∷ []) ≤ 2 * (m * base.room) = few_accesses base.expr base.k base.room m n (A ++ a ∷ []) then in
    elim refused [
      | inl none ↦ absurd (let spare = reserved.accesses in omega (arith, length-append A (a ∷ []), few, none, spare))
      | inr full ↦ absurd (let fits = unnamed_fits base.room A a can.follows held.named_seen full.1 in let spare = reserved.objects in omega (arith, fits, full.0, spare))
    ]

-- and leaves what was reserved for the others
pub reserved_more : (a : Access) (before after : Base) → IsReserved before → after.room ≡ before.room → after.transcript ≡ with_access before.transcript a
    → IsReserved after
reserved_more a before after reserved same_room is =
    let log : Log = before.transcript in
    let A : List Access = log.accesses in
    let room : ℕ = before.room in
    let spare : room ≤ length (named_objects A) + log.spare_objects = reserved.objects in
    let long : length (A ++ a ∷ []) ≡ length A + 1 = length-append A (a ∷ []) in
    let more : 2 * (log.lists * room) ≤ length A + log.spare_accesses = reserved.accesses in
    let objects_left : room ≤ length (named_objects (A ++ a ∷ [])) + (with_access log a).spare_objects =
    elim (cases_Bool (has (object_of a) (named_objects A))) [
      | inl named ↦
          let same : length (named_objects (A ++ a ∷ [])) ≡ length (named_objects A) = ap length (named_objects_old A a (has_contains (object_of a) (named_objects A) named)) in
          let left : (with_access log a).spare_objects ≡ log.spare_objects = ap (λ b. cond {A = ℕ} b log.spare_objects (log.spare_objects - 1)) named in
          omega (arith, spare, same, left)
      | inr unnamed ↦
          let longer : length (named_objects (A ++ a ∷ [])) ≡ length (named_objects A ++ object_of a ∷ []) = ap length (named_objects_new A a (has_not (object_of a) (named_objects A) unnamed)) in
          let one : length (named_objects A ++ object_of a ∷ []) ≡ length (named_objects A) + 1 = length-append (named_objects A) (object_of a ∷ []) in
          let left : (with_access log a).spare_objects ≡ log.spare_objects - 1 = ap (λ b. cond {A = ℕ} b log.spare_objects (log.spare_objects - 1)) unnamed in
          omega (arith, spare, longer, one, left)
    ] in
    let accesses_left : 2 * (log.lists * room) ≤ length (A ++ a ∷ []) + (log.spare_accesses - 1) = omega (arith, long, more) in
    record {
      objects = subst (λ (t : Log). after.room ≤ length (named_objects t.accesses) + t.spare_objects) (sym is) (omega (arith, objects_left, same_room));
      accesses = subst (λ (t : Log). 2 * (t.lists * after.room) ≤ length t.accesses + t.spare_accesses) (sym is)
          (subst (λ (most : ℕ). 2 * (log.lists * most) ≤ length (A ++ a ∷ []) + (log.spare_accesses - 1)) (sym same_room) accesses_left);
    }

-- at the beginning
pub reserved_start : (base : Base) → base.transcript.accesses ≡ [] → base.room ≤ base.transcript.spare_objects
    → 2 * (base.transcript.lists * base.room) ≤ base.transcript.spare_accesses → IsReserved base
reserved_start base none objects accesses = record {
  objects = omega (arith, objects);
  accesses = omega (arith, accesses);
}

-- ---- what a machine tells
-- a row can be told where it is of no kind but, maybe, of an object too many, and its object has room
pub row_can : (base : Base) (list object grade : ℕ) → Holds base
    → ((kind : Kind) → IsOfKind base.transcript.lists base.transcript.count base.transcript.accesses (Sorted list object grade) kind → kind ≡ too_many_objects)
    → HasRoomFor (shown base Done) object → CanTake base (Sorted list object grade)
row_can base list object grade held only fits = record {
  follows = fits;
  consistent = λ kind of.
      let too_many : IsOfKind base.transcript.lists base.transcript.count base.transcript.accesses (Sorted list object grade) too_many_objects = subst (IsOfKind base.transcript.lists base.transcript.count base.transcript.accesses (Sorted list object grade)) (only kind of) of in
      let few = unnamed_fits base.room base.transcript.accesses (Sorted list object grade) fits held.named_seen too_many.1 in
      absurd (let posed = held.posed.room_fits in omega (arith, few, too_many.0, posed));
}
