-- The grades that are left to be asked for, and one access more.
use Rattle.std.proofs.Common.{◌≡◌, ◌≢◌, ℕ, suc, ◌+◌, ◌<◌, List, [], ◌∷◌, ◌++◌, length, map, take, drop, AllPairs, Contains, Option, Some, None, is_none, get_or, refl, sym, ap, ap₂, subst, ◌∙◌, arith, append-nil, append_assoc}
use Rattle.std.specs.List.{slice_get}
use Rattle.std.proofs.lemmas.List.Elements.{All-append, All-cons, All-nil}
use Rattle.std.proofs.lemmas.List.FromFn.{length-range_with_len, get_or-range_with_len}
use Rattle.ranked_list.specs.declared.row.Row.{Row}
use Rattle.ranked_list.specs.declared.need.Need.TheVariants.{Grade}
use Rattle.ranked_list.specs.Table.{grade_in}
use Rattle.topk_theory.specs.declared.access.Access.{Access}
use Rattle.topk_theory.specs.declared.access.Access.TheVariants.{Random}
use Rattle.topk_theory.specs.Transcript.{Agrees, object_of, list_at, list_numbers, random_rows, given_rows, seen_objects}
use Rattle.topk_theory.specs.Bounds.{known_grade}
use Rattle.topk_theory.specs.Consistent.{SomeAgrees}
use Rattle.topk_theory.specs.Combined.{unknown_lists, missing_grades}
use Rattle.topk_theory.specs.Machine.{CanServe}
use Rattle.topk_theory.proofs.AgreementLists.{contains_here, contains_there, contains_at, contains_map_from, member_of_all, slice_get_contains}
use Rattle.topk_theory.proofs.Agreement.{known_grade_is, known_grade_given, seen_in_table}
use Rattle.topk_theory.proofs.ConsistentTable.{random_given}
use Rattle.topk_theory.proofs.ThresholdLists.{contains_from_filter}
use Rattle.topk_theory.proofs.ThresholdRun.{seen_more}
use Rattle.access_log.proofs.FirstKind.{known_of_row}
use Rattle.machine_base.specs.declared.asking.Ask.{Ask}
use Rattle.machine_base.specs.Asking.{next_unknown, ask_at, ask_from, all_missing, IsAskedFor, AreKnown, AreListed, IsAsking, AsksNext, LeavesAsks}
use Rattle.machine_base.specs.Base.{asked_of_list}
use Rattle.machine_base.proofs.Fronts.{get_of_drop, drop_next, take_next, take_whole, drop_here, none_behind, none_before}
use Rattle.machine_base.proofs.Unknown.{some_unknown, no_unknown, unknown_other, unknown_asked, first_is_unknown}

-- the grade that a random access gives
pub grade_given : (m n : ℕ) (D : List (List Row)) (A : List Access) (list object grade : ℕ) → Agrees m n D (A ++ Random list object grade ∷ []) → list < m
    → grade ≡ grade_in (list_at D list) object
grade_given m n D A list object grade agrees lt =
    sym (known_grade_is m n D (A ++ Random list object grade ∷ []) object list grade agrees lt (known_grade_given m n D A (Random list object grade) agrees))

-- the first is asked, and the others are left
pub missing_next : (D : List (List Row)) (A : List Access) (list object grade : ℕ) → next_unknown (length D) A object ≡ Some list
    → grade ≡ grade_in (list_at D list) object
    → missing_grades D A object ≡ Random list object grade ∷ missing_grades D (A ++ Random list object grade ∷ []) object
missing_next D A list object grade next is =
    let r = some_unknown (length D) A object list next in
    let left : unknown_lists (length D) (A ++ Random list object grade ∷ []) object ≡ r.0 = unknown_asked (length D) A (Random list object grade) r.0 r.1 in
    ap (map (λ l. Random l object (grade_in (list_at D l) object))) r.1
    ∙ ap (λ g. Random list object g ∷ map (λ l. Random l object (grade_in (list_at D l) object)) r.0) (sym is)
    ∙ ap (λ xs. Random list object grade ∷ map (λ l. Random l object (grade_in (list_at D l) object)) xs) (sym left)

pub missing_none : (D : List (List Row)) (A : List Access) (object : ℕ) → unknown_lists (length D) A object ≡ [] → missing_grades D A object ≡ []
missing_none D A object none = ap (map (λ l. Random l object (grade_in (list_at D l) object))) none

missing_other : (D : List (List Row)) (A : List Access) (a : Access) (object : ℕ) → object_of a ≢ object
    → missing_grades D (A ++ a ∷ []) object ≡ missing_grades D A object
missing_other D A a object apart = ap (map (λ l. Random l object (grade_in (list_at D l) object))) (unknown_other (length D) A a object apart)

missing_others : (D : List (List Row)) (A : List Access) (a : Access) (objects : List ℕ) → (¬ Contains objects (object_of a))
    → all_missing D (A ++ a ∷ []) objects ≡ all_missing D A objects
missing_others D A a [] none = refl
missing_others D A a (object ∷ objects) none =
    ap₂ (λ xs ys. xs ++ ys) (missing_other D A a object (λ e. none (subst (λ x. Contains (object ∷ objects) x) (sym e) (contains_here object objects))))
    (missing_others D A a objects (λ c. none (contains_there object objects (object_of a) c)))

-- one object is asked for a grade
pub object_asked : (D : List (List Row)) (A run : List Access) (list object grade : ℕ) → next_unknown (length D) A object ≡ Some list
    → grade ≡ grade_in (list_at D list) object → A ++ missing_grades D A object ≡ run
    → (A ++ Random list object grade ∷ []) ++ missing_grades D (A ++ Random list object grade ∷ []) object ≡ run
object_asked D A run list object grade next is made =
    append_assoc A (Random list object grade ∷ []) (missing_grades D (A ++ Random list object grade ∷ []) object)
    ∙ ap (λ xs. A ++ xs) (sym (missing_next D A list object grade next is)) ∙ made

-- the object at a place is asked for a grade
place_asked : (D : List (List Row)) (A run : List Access) (objects : List ℕ) (place list object grade : ℕ)
    → AllPairs (λ (one : ℕ) (other : ℕ). one ≢ other) objects → slice_get objects place ≡ Some object
    → next_unknown (length D) A object ≡ Some list → grade ≡ grade_in (list_at D list) object → A ++ all_missing D A (drop place objects) ≡ run
    → (A ++ Random list object grade ∷ []) ++ all_missing D (A ++ Random list object grade ∷ []) (drop place objects) ≡ run
place_asked D A run objects place list object grade apart here next is made =
    let a : Access = Random list object grade in
    let rest : List ℕ = drop (suc place) objects in
    let left : drop place objects ≡ object ∷ rest = drop_here objects place object here in
    ap (λ os. (A ++ a ∷ []) ++ all_missing D (A ++ a ∷ []) os) left
    ∙ append_assoc A (a ∷ []) (missing_grades D (A ++ a ∷ []) object ++ all_missing D (A ++ a ∷ []) rest)
    ∙ ap (λ xs. A ++ (a ∷ (missing_grades D (A ++ a ∷ []) object ++ xs))) (missing_others D A a rest (none_behind objects place object apart here))
    ∙ ap (λ xs. A ++ (xs ++ all_missing D A rest)) (sym (missing_next D A list object grade next is))
    ∙ ap (λ os. A ++ all_missing D A os) (sym left) ∙ made

-- what was known stays known
known_after : (m : ℕ) (A : List Access) (a : Access) (objects : List ℕ) → (¬ Contains objects (object_of a)) → AreKnown m A objects
    → AreKnown m (A ++ a ∷ []) objects
known_after m A a objects none known =
    λ k d l. unknown_other m A a _ (λ e. none (subst (λ x. Contains objects x) (sym e) (contains_at objects k d l))) ∙ known k d l

listed_after : (A : List Access) (a : Access) (objects : List ℕ) → AreListed A objects → AreListed (A ++ a ∷ []) objects
listed_after A a objects listed = record {
  seen = λ k d l. seen_more A (a ∷ []) _ (listed.seen k d l);
  apart = listed.apart;
}

-- ---- what is asked next
sound_at : (m : ℕ) (A : List Access) (objects others : List ℕ) (object place : ℕ) (later : Option Ask) (next : Option ℕ) → next_unknown m A object ≡ next
    → AreListed A objects → object ∷ others ≡ drop place objects → AreKnown m A (take place objects)
    → (next_unknown m A object ≡ None → AsksNext m A objects later) → AsksNext m A objects (ask_at (next_unknown m A object) object place later)
sound_at m A objects others object place later None e listed is known then = subst (λ found. AsksNext m A objects (ask_at found object place later)) (sym e) (then e)
sound_at m A objects others object place later (Some list) e listed is known then =
    let here : slice_get objects place ≡ Some object = get_of_drop objects place object others is in
    subst (λ found. AsksNext m A objects (ask_at found object place later)) (sym e) (record {
      listed = listed;
      asked = record { seen = member_of_all (Contains (seen_objects A)) objects object listed.seen (slice_get_contains objects place object here); next = e };
      here = here;
      known = known;
    })

known_next : (m : ℕ) (A : List Access) (objects others : List ℕ) (object place : ℕ) → object ∷ others ≡ drop place objects → AreKnown m A (take place objects)
    → unknown_lists m A object ≡ [] → AreKnown m A (take (place + 1) objects)
known_next m A objects others object place is known none =
    subst (AreKnown m A) (sym (take_next objects place object others is))
    (All-append (λ o. unknown_lists m A o ≡ []) (take place objects) (object ∷ []) known (All-cons (λ o. unknown_lists m A o ≡ []) object [] none (All-nil (λ o. unknown_lists m A o ≡ []))))

-- from a place on, where the objects before it are known
pub asks_next : (m : ℕ) (A : List Access) (objects others : List ℕ) (place : ℕ) → AreListed A objects → others ≡ drop place objects
    → AreKnown m A (take place objects) → AsksNext m A objects (ask_from m A others place)
asks_next m A objects [] place listed is known = record {
  listed = listed;
  known = subst (AreKnown m A) (take_whole objects place is) known;
}
asks_next m A objects (object ∷ others) place listed is known =
    sound_at m A objects others object place (ask_from m A others (place + 1)) (next_unknown m A object) refl listed is known
    (λ e. asks_next m A objects others (place + 1) listed (drop_next objects place object others is) (known_next m A objects others object place is known (no_unknown m A object e)))

pub asks_first : (m : ℕ) (A : List Access) (objects : List ℕ) → AreListed A objects → AsksNext m A objects (ask_from m A objects 0)
asks_first m A objects listed = asks_next m A objects objects 0 listed refl (All-nil (λ o. unknown_lists m A o ≡ []))

-- ---- what is left of a run
leaves_at : (D : List (List Row)) (A run : List Access) (objects others : List ℕ) (object place : ℕ) (later : Option Ask) (next : Option ℕ)
    → next_unknown (length D) A object ≡ next → object ∷ others ≡ drop place objects → A ++ all_missing D A (object ∷ others) ≡ run
    → (next_unknown (length D) A object ≡ None → LeavesAsks D A objects run later)
    → LeavesAsks D A objects run (ask_at (next_unknown (length D) A object) object place later)
leaves_at D A run objects others object place later None e is made then = subst (λ found. LeavesAsks D A objects run (ask_at found object place later)) (sym e) (then e)
leaves_at D A run objects others object place later (Some list) e is made then =
    subst (λ found. LeavesAsks D A objects run (ask_at found object place later)) (sym e) (ap (λ os. A ++ all_missing D A os) (sym is) ∙ made)

pub leaves_asks : (D : List (List Row)) (A run : List Access) (objects others : List ℕ) (place : ℕ) → others ≡ drop place objects
    → A ++ all_missing D A others ≡ run → LeavesAsks D A objects run (ask_from (length D) A others place)
leaves_asks D A run objects [] place is made = sym (append-nil A) ∙ made
leaves_asks D A run objects (object ∷ others) place is made =
    leaves_at D A run objects others object place (ask_from (length D) A others (place + 1)) (next_unknown (length D) A object) refl is made
    (λ e. leaves_asks D A run objects others (place + 1) (drop_next objects place object others is)
    (ap (λ xs. A ++ (xs ++ all_missing D A others)) (sym (missing_none D A object (no_unknown (length D) A object e))) ∙ made))

-- the list that is next is one of them
pub next_below : (m : ℕ) (A : List Access) (object list : ℕ) → next_unknown m A object ≡ Some list → list < m
next_below m A object list next =
    let r = some_unknown m A object list next in
    let kept = contains_from_filter (λ other. is_none (known_grade A object other)) (list_numbers m) list (subst (λ xs. Contains xs list) (sym r.1) (contains_here list r.0)) in
    let at = kept.0 in
    let size : length (list_numbers m) ≡ m = length-range_with_len 0 m in
    let within = at.1 in
    let there : get_or (list_numbers m) at.0 list ≡ 0 + at.0 = get_or-range_with_len 0 m at.0 list (omega (arith, size, within)) in
    let same : list ≡ 0 + at.0 = sym at.2 ∙ there in
    omega (arith, size, within, same)

-- ---- one grade more
-- what is asked next then
pub asks_more : (m : ℕ) (A : List Access) (objects : List ℕ) (ask : Ask) (grade : ℕ) → IsAsking m A objects ask
    → AsksNext m (A ++ Random ask.list ask.object grade ∷ []) objects (ask_from m (A ++ Random ask.list ask.object grade ∷ []) (drop ask.place objects) ask.place)
asks_more m A objects ask grade is =
    let a : Access = Random ask.list ask.object grade in
    asks_next m (A ++ a ∷ []) objects (drop ask.place objects) ask.place (listed_after A a objects is.listed) refl
    (known_after m A a (take ask.place objects) (none_before objects ask.place ask.object is.listed.apart is.here) is.known)

-- and what is left of the run
pub leaves_more : (m n : ℕ) (D : List (List Row)) (A run : List Access) (objects : List ℕ) (ask : Ask) (grade : ℕ) → IsAsking m A objects ask
    → Agrees m n D (A ++ Random ask.list ask.object grade ∷ []) → A ++ all_missing D A (drop ask.place objects) ≡ run
    → LeavesAsks D (A ++ Random ask.list ask.object grade ∷ []) objects run (ask_from m (A ++ Random ask.list ask.object grade ∷ []) (drop ask.place objects) ask.place)
leaves_more m n D A run objects ask grade is agrees made =
    let a : Access = Random ask.list ask.object grade in
    subst (λ c. LeavesAsks D (A ++ a ∷ []) objects run (ask_from c (A ++ a ∷ []) (drop ask.place objects) ask.place)) agrees.lists
    (leaves_asks D (A ++ a ∷ []) run objects (drop ask.place objects) ask.place refl
    (place_asked D A run objects ask.place ask.list ask.object grade is.listed.apart is.here
    (subst (λ c. next_unknown c A ask.object ≡ Some ask.list) (sym agrees.lists) is.asked.next)
    (grade_given m n D A ask.list ask.object grade agrees (next_below m A ask.object ask.list is.asked.next)) made))

-- ---- what is asked for can be had, and wasn't asked before
pub missing_begins : (D : List (List Row)) (A : List Access) (list object : ℕ) → next_unknown (length D) A object ≡ Some list
    → (later : List Access) × (missing_grades D A object ≡ Random list object (grade_in (list_at D list) object) ∷ later)
missing_begins D A list object next =
    let r = some_unknown (length D) A object list next in
    (map (λ l. Random l object (grade_in (list_at D l) object)) r.0, ap (map (λ l. Random l object (grade_in (list_at D l) object))) r.1)

-- the asks that are left begin with the one that is asked
pub asks_begin : (m n : ℕ) (D : List (List Row)) (A : List Access) (objects : List ℕ) (ask : Ask) → IsAsking m A objects ask → Agrees m n D A
    → (later : List Access) × (all_missing D A (drop ask.place objects) ≡ Random ask.list ask.object (grade_in (list_at D ask.list) ask.object) ∷ later)
asks_begin m n D A objects ask is agrees =
    let r = missing_begins D A ask.list ask.object (subst (λ c. next_unknown c A ask.object ≡ Some ask.list) (sym agrees.lists) is.asked.next) in
    let rest : List Access = all_missing D A (drop (suc ask.place) objects) in
    (r.0 ++ rest, ap (all_missing D A) (drop_here objects ask.place ask.object is.here) ∙ ap (λ xs. xs ++ rest) r.1)

pub ask_served : (m n : ℕ) (D : List (List Row)) (A : List Access) (object list : ℕ) → IsAskedFor m A object list → Agrees m n D A → CanServe D (Grade list object)
ask_served m n D A object list asked agrees = (
  next_below (length D) A object list (subst (λ c. next_unknown c A object ≡ Some list) (sym agrees.lists) asked.next),
  seen_in_table m n D A object agrees asked.seen,
)

-- a grade that no access gave wasn't asked for
unasked : (m n : ℕ) (A : List Access) (object list : ℕ) → SomeAgrees m n A → known_grade A object list ≡ None → ¬ Contains (asked_of_list list A) object
unasked m n A object list some none c =
    let from = contains_map_from (λ (row : Row). row.object) (random_rows list A) object c in
    let given : Contains (given_rows list A) (record { object = object; grade = from.0.grade }) = subst (λ o. Contains (given_rows list A) (record { object = o; grade = from.0.grade })) from.2 (random_given list A from.0 from.1) in
    not_both from.0.grade (sym none ∙ known_of_row m n A list object from.0.grade some given)
  where
    not_both : (g : ℕ) → None ≡ Some g → ⊥
    not_both g e = cc

pub asked_for_once : (m n : ℕ) (A : List Access) (object list : ℕ) → SomeAgrees m n A → IsAskedFor m A object list → ¬ Contains (asked_of_list list A) object
asked_for_once m n A object list some asked =
    let r = some_unknown m A object list asked.next in
    unasked m n A object list some (first_is_unknown m A object list r.0 r.1)
