-- What the calls of a machine need, and what they leave.
use Rattle.std.proofs.Common.{◌≡◌, ℕ, ◌/◌, ◌≤◌, min, max, List, [], ◌∷◌, ◌++◌, Contains, refl, sym, ap, subst, ◌∙◌, arith}
use Rattle.ranked_list.specs.declared.row.Row.{Row}
use Rattle.ranked_list.specs.declared.item.Item.{Item}
use Rattle.ranked_list.specs.declared.need.Need.{Need}
use Rattle.ranked_list.specs.declared.need.Need.TheVariants as needs
use Rattle.ranked_list.specs.Table.{objects}
use Rattle.monotone_fn.specs.declared.costs.Costs.{Costs}
use Rattle.monotone_fn.specs.Tree.{Tree}
use Rattle.monotone_fn.specs.Shape.{list_count}
use Rattle.monotone_fn.specs.Value.{value}
use Rattle.topk_theory.specs.declared.access.Access.{Access}
use Rattle.topk_theory.specs.declared.access.Access.TheVariants.{Sorted, Random}
use Rattle.topk_theory.specs.Transcript.{Agrees, object_of, seen_objects}
use Rattle.topk_theory.specs.Consistent.{SomeAgrees}
use Rattle.topk_theory.specs.Threshold.{item_objects}
use Rattle.topk_theory.specs.Combined.{phase_length}
use Rattle.topk_theory.proofs.AgreementLists.{contains_here}
use Rattle.topk_theory.proofs.ThresholdRun.{seen_more, seen_from_access}
use Rattle.std.proofs.lemmas.List.Elements.{Contains-append_right}
use Rattle.access_log.specs.Log.{Log}
use Rattle.machine_base.specs.Machine.{MachineState, IsBegun, MayBeNextRow, MayBeNextGrade, HasRoomFor, Takes, row_access, grade_access}
use Rattle.machine_base.specs.Asking.{IsAskedFor}
use Rattle.machine_base.proofs.Asks.{asked_for_once}
use Rattle.machine_base.specs.declared.base.Base.{Base}
use Rattle.machine_base.specs.Base.{shown, IsHeld, Holds, IsReserved, IsTold, CanTake, MayFollow}
use Rattle.machine_base.proofs.Held.{some_before, carried, takes}
use Rattle.machine_base.proofs.Depths.{first_reached}
use Rattle.machine_base.proofs.Reserve.{row_can}
use Rattle.ca_core.specs.declared.late_seen.LateSeen.{LateSeen}
use Rattle.ca_core.specs.declared.stage.Stage.{Stage}
use Rattle.ca_core.specs.declared.stage.Stage.TheVariants as stages
use Rattle.ca_core.specs.Course.{Course, need_at, moved, MayMoveAt}
use Rattle.ca_core.specs.OnTable.{quiet_at}
use Rattle.ca_core.specs.Seen.{AreRenewed, KeepsSeen, WasRenewed}
use Rattle.ca_core.specs.Kept.{IsSound, IsCaKept, Keeps, Stands}
use Rattle.ca_core.proofs.Pieces.{no_items}
use Rattle.ca_core.proofs.Steps.{row_kept, choice_kept, finish_kept}

-- ---- needs that are the same
row_list : (l d list depth : ℕ) → needs.Row l d ≡ needs.Row list depth → l ≡ list
row_list l d list depth e = cc

grade_list : (l o list object : ℕ) → needs.Grade l o ≡ needs.Grade list object → l ≡ list
grade_list l o list object e = cc

grade_object : (l o list object : ℕ) → needs.Grade l o ≡ needs.Grade list object → o ≡ object
grade_object l o list object e = cc

row_not_grade : (l d list object : ℕ) → needs.Row l d ≡ needs.Grade list object → ⊥
row_not_grade l d list object e = cc

grade_not_row : (l o list depth : ℕ) → needs.Grade l o ≡ needs.Row list depth → ⊥
grade_not_row l o list depth e = cc

done_not_row : (list depth : ℕ) → needs.Done ≡ needs.Row list depth → ⊥
done_not_row list depth e = cc

done_not_grade : (list object : ℕ) → needs.Done ≡ needs.Grade list object → ⊥
done_not_grade list object e = cc

-- ---- at the beginning
kept_start : (e : Tree) (k phase room m n : ℕ) → IsHeld e k room m n [] → IsCaKept e k phase room m n [] [] (stages.Row 0 1)
kept_start e k phase room m n held = record {
  base = held;
  sound = (omega (arith, held.some_list), refl);
  on_table = λ D agrees. record {
    at = first_reached (quiet_at (value e) k phase D) n (let positive = held.posed.positive in let fits = held.posed.fits in omega arith);
    made = refl;
  };
}

pub stands_start : (e : Tree) (k n room phase : ℕ) (costs : Costs) (base : Base) (late : LateSeen) (first : List Item) (capacity : ℕ)
    → IsBegun e k n room costs (shown base needs.Done) → Holds base → IsReserved base → first ≡ [] → min room n ≤ capacity
    → phase ≡ phase_length costs.sorted costs.random
    → ((x : Tree) → AreRenewed x k (min room n) (list_count e) [] late) → Stands base phase late first capacity (stages.Row 0 1)
stands_start e k n room phase costs base late first capacity begun held reserved none roomy paid seen =
    let m : ℕ = base.transcript.lists in
    let count : ℕ = base.transcript.count in
    record {
      kept = subst (λ A. IsCaKept base.expr base.k phase base.room m count A first (stages.Row 0 1)) (sym begun.none)
          (subst (λ xs. IsCaKept base.expr base.k phase base.room m count [] xs (stages.Row 0 1)) (sym none)
          (kept_start base.expr base.k phase base.room m count (subst (IsHeld base.expr base.k base.room m count) begun.none held)));
      seen = subst (λ A. AreRenewed base.expr base.k base.room m A late) (sym begun.none)
          (subst (λ r. AreRenewed base.expr base.k r m [] late) (sym begun.in_force) (subst (λ c. AreRenewed base.expr c (min room n) m [] late) (sym begun.asked) (subst (λ l. AreRenewed base.expr k (min room n) l [] late) (sym begun.lists) (seen base.expr))));
      reserved = reserved;
      paid = paid ∙ ap (λ (c : Costs). phase_length c.sorted c.random) (sym begun.costs);
      roomy = omega (arith, begun.in_force);
    }

-- ---- which access may be told
pub can_row : (base : Base) (phase : ℕ) (first : List Item) (stage : Stage) (row : Row) (list depth : ℕ) → Keeps base phase first stage
    → MayBeNextRow base.transcript (need_at stage) row → need_at stage ≡ needs.Row list depth → HasRoomFor (shown base needs.Done) row.object
    → CanTake base (Sorted list row.object row.grade)
can_row base phase first stage row list depth kept may is fits = row_can base list row.object row.grade kept.base (subst (λ need. MayBeNextRow base.transcript need row) is may) fits

asked_of : (m : ℕ) (A : List Access) (objects : List ℕ) (stage : Stage) (list object : ℕ) → IsSound m A objects stage → need_at stage ≡ needs.Grade list object
    → IsAskedFor m A object list
asked_of m A objects (stages.Row l d) list object sound is = absurd (row_not_grade l d list object is)
asked_of m A objects (stages.Choice l o d) list object sound is =
    let list_is = grade_list l o list object is in
    let object_is = grade_object l o list object is in
    subst (λ x. IsAskedFor m A x list) object_is (subst (λ x. IsAskedFor m A o x) list_is sound.0)
asked_of m A objects (stages.Finish ask) list object sound is =
    let list_is = grade_list ask.list ask.object list object is in
    let object_is = grade_object ask.list ask.object list object is in
    subst (λ x. IsAskedFor m A x list) object_is (subst (λ x. IsAskedFor m A ask.object x) list_is sound.asked)
asked_of m A objects stages.Done list object sound is = absurd (done_not_grade list object is)

pub can_grade : (base : Base) (phase : ℕ) (first : List Item) (stage : Stage) (grade list object : ℕ) → Keeps base phase first stage
    → MayBeNextGrade base.transcript (need_at stage) grade → need_at stage ≡ needs.Grade list object → CanTake base (Random list object grade)
can_grade base phase first stage grade list object kept may is =
    let asked = asked_of base.transcript.lists base.transcript.accesses (item_objects first) stage list object kept.sound is in
    record {
      follows = (asked.seen, asked_for_once base.transcript.lists base.transcript.count base.transcript.accesses object list kept.base.agreeing asked);
      consistent = subst (λ need. MayBeNextGrade base.transcript need grade) is may;
    }

-- ---- what was told is noted
pub was_renewed : (before after : Base) (a : Access) (object : ℕ) (late : LateSeen) → IsTold a before after → object_of a ≡ object
    → Contains (seen_objects after.transcript.accesses) object → KeepsSeen before late → WasRenewed after object late
was_renewed before after a object late told named seen kept = record {
  before = before.transcript.accesses;
  access = a;
  told = told.log.accesses;
  named = named;
  seen = seen;
  kept = subst (λ e. AreRenewed e after.k after.room after.transcript.lists before.transcript.accesses late) (sym told.expr)
      (subst (λ k. AreRenewed before.expr k after.room after.transcript.lists before.transcript.accesses late) (sym told.k)
      (subst (λ r. AreRenewed before.expr before.k r after.transcript.lists before.transcript.accesses late) (sym told.room)
      (subst (λ m. AreRenewed before.expr before.k before.room m before.transcript.accesses late) (sym told.log.lists) kept)));
}

pub seen_row : (before after : Base) (list object grade : ℕ) → IsTold (Sorted list object grade) before after
    → Contains (seen_objects after.transcript.accesses) object
seen_row before after list object grade told =
    subst (λ B. Contains (seen_objects B) object) (sym told.log.accesses)
    (seen_from_access (before.transcript.accesses ++ Sorted list object grade ∷ []) list object grade (Contains-append_right before.transcript.accesses (Sorted list object grade ∷ []) (Sorted list object grade) (contains_here (Sorted list object grade) [])))

pub seen_grade : (before after : Base) (phase : ℕ) (first : List Item) (stage : Stage) (list object grade : ℕ) → Keeps before phase first stage
    → need_at stage ≡ needs.Grade list object → IsTold (Random list object grade) before after → Contains (seen_objects after.transcript.accesses) object
seen_grade before after phase first stage list object grade kept is told =
    subst (λ B. Contains (seen_objects B) object) (sym told.log.accesses)
    (seen_more before.transcript.accesses (Random list object grade ∷ []) object (asked_of before.transcript.lists before.transcript.accesses (item_objects first) stage list object kept.sound is).seen)

-- ---- what follows may follow
pub phase_positive : (phase : ℕ) (costs : Costs) → phase ≡ phase_length costs.sorted costs.random → 1 ≤ phase
phase_positive phase costs is = let up : 1 ≤ max 1 (costs.random / costs.sorted) = omega arith in omega (arith, is)

depth_small : (base : Base) (phase : ℕ) (first : List Item) (stage : Stage) → Keeps base phase first stage → (depth : ℕ)
    → ((D : List (List Row)) → Agrees base.transcript.lists base.transcript.count D base.transcript.accesses → depth ≤ base.transcript.count) → depth ≤ 200000
depth_small base phase first stage kept depth within =
    let some = kept.base.agreeing in
    let few = within some.0 some.1 in
    let counted = kept.base.counted in
    omega arith

pub may_move : (before after : Base) (a : Access) (phase : ℕ) (late : LateSeen) (first : List Item) (capacity : ℕ) (stage : Stage)
    → Stands before phase late first capacity stage → IsTold a before after → MayMoveAt after stage first capacity
may_move before after a phase late first capacity (stages.Row list depth) stands told = (
  omega (arith, stands.kept.sound.0, told.log.lists),
  record {
    deep = depth_small before phase first (stages.Row list depth) stands.kept depth (λ D agrees. (stands.kept.on_table D agrees).at.within);
    none = no_items first stands.kept.sound.1;
    roomy = omega (arith, stands.roomy, told.room);
  },
)
may_move before after a phase late first capacity (stages.Choice list object depth) stands told = record {
  deep = depth_small before phase first (stages.Choice list object depth) stands.kept depth (λ D agrees. (stands.kept.on_table D agrees).at.within);
  none = no_items first stands.kept.sound.1;
  roomy = omega (arith, stands.roomy, told.room);
}
may_move before after a phase late first capacity (stages.Finish ask) stands told = tt
may_move before after a phase late first capacity stages.Done stands told = tt

-- ---- what is kept then
row_moved : (e : Tree) (k phase room m n : ℕ) (A : List Access) (first : List Item) (stage : Stage) (list depth object grade : ℕ)
    → need_at stage ≡ needs.Row list depth → IsCaKept e k phase room m n A first stage → SomeAgrees m n (A ++ Sorted list object grade ∷ [])
    → MayFollow room A (Sorted list object grade)
    → IsCaKept e k phase room m n (A ++ Sorted list object grade ∷ []) (moved (value e) k phase m n (A ++ Sorted list object grade ∷ []) stage first).first (moved (value e) k phase m n (A ++ Sorted list object grade ∷ []) stage first).stage
row_moved e k phase room m n A first (stages.Row l d) list depth object grade is kept some follows =
    let list_is = row_list l d list depth is in
    subst (λ x. IsCaKept e k phase room m n (A ++ Sorted list object grade ∷ []) (moved (value e) k phase m n (A ++ Sorted list object grade ∷ []) (stages.Row x d) first).first (moved (value e) k phase m n (A ++ Sorted list object grade ∷ []) (stages.Row x d) first).stage) (sym list_is)
    (row_kept e k phase room m n A first list d object grade (subst (λ x. IsCaKept e k phase room m n A first (stages.Row x d)) list_is kept) some follows)
row_moved e k phase room m n A first (stages.Choice l o d) list depth object grade is kept some follows = absurd (grade_not_row l o list depth is)
row_moved e k phase room m n A first (stages.Finish ask) list depth object grade is kept some follows = absurd (grade_not_row ask.list ask.object list depth is)
row_moved e k phase room m n A first stages.Done list depth object grade is kept some follows = absurd (done_not_row list depth is)

grade_moved : (e : Tree) (k phase room m n : ℕ) (A : List Access) (first : List Item) (stage : Stage) (list object grade : ℕ)
    → need_at stage ≡ needs.Grade list object → IsCaKept e k phase room m n A first stage → SomeAgrees m n (A ++ Random list object grade ∷ [])
    → MayFollow room A (Random list object grade)
    → IsCaKept e k phase room m n (A ++ Random list object grade ∷ []) (moved (value e) k phase m n (A ++ Random list object grade ∷ []) stage first).first (moved (value e) k phase m n (A ++ Random list object grade ∷ []) stage first).stage
grade_moved e k phase room m n A first (stages.Row l d) list object grade is kept some follows = absurd (row_not_grade l d list object is)
grade_moved e k phase room m n A first (stages.Choice l o d) list object grade is kept some follows =
    let list_is = sym (grade_list l o list object is) in
    let object_is = sym (grade_object l o list object is) in
    let a : Random l o grade ≡ Random list object grade = ap (λ x. Random x o grade) (sym list_is) ∙ ap (λ x. Random list x grade) (sym object_is) in
    subst (λ (a : Access). IsCaKept e k phase room m n (A ++ a ∷ []) (moved (value e) k phase m n (A ++ a ∷ []) (stages.Choice l o d) first).first (moved (value e) k phase m n (A ++ a ∷ []) (stages.Choice l o d) first).stage) a
    (choice_kept e k phase room m n A first l o d grade kept (subst (λ (b : Access). SomeAgrees m n (A ++ b ∷ [])) (sym a) some) (subst (MayFollow room A) (sym a) follows))
grade_moved e k phase room m n A first (stages.Finish ask) list object grade is kept some follows =
    let list_is = sym (grade_list ask.list ask.object list object is) in
    let object_is = sym (grade_object ask.list ask.object list object is) in
    let a : Random ask.list ask.object grade ≡ Random list object grade = ap (λ x. Random x ask.object grade) (sym list_is) ∙ ap (λ x. Random list x grade) (sym object_is) in
    subst (λ (a : Access). IsCaKept e k phase room m n (A ++ a ∷ []) (moved (value e) k phase m n (A ++ a ∷ []) (stages.Finish ask) first).first (moved (value e) k phase m n (A ++ a ∷ []) (stages.Finish ask) first).stage) a
    (finish_kept e k phase room m n A first ask grade kept (subst (λ (b : Access). SomeAgrees m n (A ++ b ∷ [])) (sym a) some) (subst (MayFollow room A) (sym a) follows))
grade_moved e k phase room m n A first stages.Done list object grade is kept some follows = absurd (done_not_grade list object is)

-- the same of a base that was told
kept_course : (after : Base) (phase : ℕ) (stage stage' : Stage) (first first' : List Item) (course : Course)
    → record { stage = stage'; first = first' } ≡ course → Keeps after phase course.first course.stage → Keeps after phase first' stage'
kept_course after phase stage stage' first first' course is kept = subst (λ (c : Course). Keeps after phase c.first c.stage) (sym is) kept

pub row_stands : (before after : Base) (phase : ℕ) (late late' : LateSeen) (first first' : List Item) (capacity capacity' : ℕ) (stage stage' : Stage)
    (list depth object grade : ℕ) → Stands before phase late first capacity stage → need_at stage ≡ needs.Row list depth
    → CanTake before (Sorted list object grade)
    → IsTold (Sorted list object grade) before after → Holds after → IsReserved after → KeepsSeen after late' → capacity' ≡ capacity
    → record { stage = stage'; first = first' } ≡ moved (value after.expr) after.k phase after.transcript.lists after.transcript.count after.transcript.accesses stage first → Stands after phase late' first' capacity' stage'
row_stands before after phase late late' first first' capacity capacity' stage stage' list depth object grade stands is can told held reserved seen same course = record {
  kept = kept_course after phase stage stage' first first' _ course
      (carried (λ e k room m n B. IsCaKept e k phase room m n B (moved (value e) k phase m n B stage first).first (moved (value e) k phase m n B stage first).stage) (Sorted list object grade) before after told
      (row_moved before.expr before.k phase before.room before.transcript.lists before.transcript.count before.transcript.accesses first stage list depth object grade is stands.kept (some_before (Sorted list object grade) before after told held.agreeing) can.follows));
  seen = seen;
  reserved = reserved;
  paid = stands.paid ∙ ap (λ (c : Costs). phase_length c.sorted c.random) (sym told.costs);
  roomy = omega (arith, stands.roomy, told.room, same);
}

pub grade_stands : (before after : Base) (phase : ℕ) (late late' : LateSeen) (first first' : List Item) (capacity capacity' : ℕ) (stage stage' : Stage)
    (list object grade : ℕ) → Stands before phase late first capacity stage → need_at stage ≡ needs.Grade list object
    → CanTake before (Random list object grade)
    → IsTold (Random list object grade) before after → Holds after → IsReserved after → KeepsSeen after late' → capacity' ≡ capacity
    → record { stage = stage'; first = first' } ≡ moved (value after.expr) after.k phase after.transcript.lists after.transcript.count after.transcript.accesses stage first → Stands after phase late' first' capacity' stage'
grade_stands before after phase late late' first first' capacity capacity' stage stage' list object grade stands is can told held reserved seen same course = record {
  kept = kept_course after phase stage stage' first first' _ course
      (carried (λ e k room m n B. IsCaKept e k phase room m n B (moved (value e) k phase m n B stage first).first (moved (value e) k phase m n B stage first).stage) (Random list object grade) before after told
      (grade_moved before.expr before.k phase before.room before.transcript.lists before.transcript.count before.transcript.accesses first stage list object grade is stands.kept (some_before (Random list object grade) before after told held.agreeing) can.follows));
  seen = seen;
  reserved = reserved;
  paid = stands.paid ∙ ap (λ (c : Costs). phase_length c.sorted c.random) (sym told.costs);
  roomy = omega (arith, stands.roomy, told.room, same);
}

-- ---- what is told of a row and of a grade
pub not_row : (log : Log) (need : Need) (row : Row) → MayBeNextRow log need row → ((list depth : ℕ) → need ≡ needs.Row list depth → ⊥) → ⊥
not_row log (needs.Row list depth) row may none = none list depth refl
not_row log (needs.Grade list object) row may none = may
not_row log needs.Done row may none = may

pub not_grade : (log : Log) (need : Need) (grade : ℕ) → MayBeNextGrade log need grade → ((list object : ℕ) → need ≡ needs.Grade list object → ⊥) → ⊥
not_grade log (needs.Row list depth) grade may none = may
not_grade log (needs.Grade list object) grade may none = none list object refl
not_grade log needs.Done grade may none = may

pub row_taken : (before after : Base) (stage stage' : Stage) (row : Row) (list depth : ℕ) (t : MachineState) → shown before (need_at stage) ≡ t
    → need_at stage ≡ needs.Row list depth → HasRoomFor (shown before needs.Done) row.object → IsTold (Sorted list row.object row.grade) before after
    → HasRoomFor t row.object × Takes (row_access t.need row) t (shown after (need_at stage'))
row_taken before after stage stage' row list depth t is need room_for told =
    let access : row_access (need_at stage) row ≡ Sorted list row.object row.grade = ap (λ need. row_access need row) need in
    subst (λ (s : MachineState). HasRoomFor s row.object × Takes (row_access s.need row) s (shown after (need_at stage'))) is (
      room_for,
      takes (row_access (need_at stage) row) before after (need_at stage) (need_at stage') (subst (λ a. IsTold a before after) (sym access) told),
    )

pub grade_told : (before after : Base) (stage stage' : Stage) (grade list object : ℕ) (t : MachineState) → shown before (need_at stage) ≡ t
    → need_at stage ≡ needs.Grade list object → IsTold (Random list object grade) before after
    → Takes (grade_access t.need grade) t (shown after (need_at stage'))
grade_told before after stage stage' grade list object t is need told =
    let access : grade_access (need_at stage) grade ≡ Random list object grade = ap (λ need. grade_access need grade) need in
    subst (λ (s : MachineState). Takes (grade_access s.need grade) s (shown after (need_at stage'))) is
    (takes (grade_access (need_at stage) grade) before after (need_at stage) (need_at stage') (subst (λ a. IsTold a before after) (sym access) told))
