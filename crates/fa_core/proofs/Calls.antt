-- What the calls of a machine need, and what they leave.
use Rattle.std.proofs.Common.{◌≡◌, ℕ, ◌+◌, ◌≤◌, min, List, [], drop, refl, sym, ap, subst, arith}
use Rattle.ranked_list.specs.declared.row.Row.{Row}
use Rattle.ranked_list.specs.declared.item.Item.{Item}
use Rattle.ranked_list.specs.declared.need.Need.TheVariants as needs
use Rattle.monotone_fn.specs.declared.costs.Costs.{Costs}
use Rattle.monotone_fn.specs.Tree.{Tree}
use Rattle.topk_theory.specs.declared.access.Access.TheVariants.{Sorted, Random}
use Rattle.topk_theory.specs.Transcript.{seen_objects}
use Rattle.machine_base.specs.Machine.{MachineState, IsBegun, MayBeNextRow, MayBeNextGrade, HasRoomFor, Takes, row_access, grade_access}
use Rattle.machine_base.specs.declared.asking.Ask.{Ask}
use Rattle.machine_base.specs.Asking.{ask_from}
use Rattle.machine_base.specs.declared.base.Base.{Base}
use Rattle.machine_base.specs.Base.{shown, IsHeld, Holds, IsReserved, IsTold, CanTake}
use Rattle.machine_base.proofs.Asks.{asked_for_once}
use Rattle.machine_base.proofs.Held.{some_before, carried, takes}
use Rattle.machine_base.proofs.Depths.{first_reached}
use Rattle.machine_base.proofs.Reserve.{row_can}
use Rattle.algorithm_theory.specs.Fagin.{fa_stop}
use Rattle.fa_core.specs.declared.stage.Stage.{Stage}
use Rattle.fa_core.specs.declared.stage.Stage.TheVariants as stages
use Rattle.fa_core.specs.Course.{need_at, asking, common_after, row_followed}
use Rattle.fa_core.specs.Kept.{IsFaKept, Keeps, Stands}
use Rattle.fa_core.proofs.Counting.{common_few}
use Rattle.fa_core.proofs.Steps.{row_kept, grade_kept}

-- ---- at the beginning
kept_start : (e : Tree) (k room m n : ℕ) → IsHeld e k room m n [] → IsFaKept e k room m n [] (stages.Row 0 1 0)
kept_start e k room m n held = record {
  base = held;
  sound = record { listed = omega (arith, held.some_list); unasked = λ other. refl; counted = refl };
  on_table = λ D agrees. record {
    at = first_reached (fa_stop k D) n (let positive = held.posed.positive in let fits = held.posed.fits in omega arith);
    made = refl;
  };
}

pub stands_start : (e : Tree) (k n room : ℕ) (costs : Costs) (base : Base) (items : List Item) (capacity : ℕ)
    → IsBegun e k n room costs (shown base needs.Done) → Holds base → IsReserved base → items ≡ [] → min room n ≤ capacity
    → Stands base items capacity (stages.Row 0 1 0)
stands_start e k n room costs base items capacity begun held reserved none roomy =
    let m : ℕ = base.transcript.lists in
    let count : ℕ = base.transcript.count in
    record {
      kept = subst (λ A. IsFaKept base.expr base.k base.room m count A (stages.Row 0 1 0)) (sym begun.none)
          (kept_start base.expr base.k base.room m count (subst (IsHeld base.expr base.k base.room m count) begun.none held));
      reserved = reserved;
      none = none;
      roomy = omega (arith, begun.in_force);
    }

-- ---- which access may be told
pub can_row : (base : Base) (stage : Stage) (row : Row) (list depth common : ℕ) → Keeps base stage → stage ≡ stages.Row list depth common
    → MayBeNextRow base.transcript (need_at stage) row → HasRoomFor (shown base needs.Done) row.object → CanTake base (Sorted list row.object row.grade)
can_row base stage row list depth common kept is may fits =
    row_can base list row.object row.grade kept.base (subst (λ s. MayBeNextRow base.transcript (need_at s) row) is may) fits

pub can_grade : (base : Base) (stage : Stage) (grade : ℕ) (ask : Ask) → Keeps base stage → stage ≡ stages.Asking ask
    → MayBeNextGrade base.transcript (need_at stage) grade → CanTake base (Random ask.list ask.object grade)
can_grade base stage grade ask kept is may =
    let asks : Keeps base (stages.Asking ask) = subst (Keeps base) is kept in
    record {
      follows = (asks.sound.asked.seen, asked_for_once base.transcript.lists base.transcript.count base.transcript.accesses ask.object ask.list asks.base.agreeing asks.sound.asked);
      consistent = subst (λ s. MayBeNextGrade base.transcript (need_at s) grade) is may;
    }

-- ---- what follows a row may follow
pub row_listed : (before after : Base) (stage : Stage) (list depth common object grade : ℕ) → Keeps before stage → stage ≡ stages.Row list depth common
    → IsTold (Sorted list object grade) before after → list + 1 ≤ after.transcript.lists
row_listed before after stage list depth common object grade kept is told =
    let row : Keeps before (stages.Row list depth common) = subst (Keeps before) is kept in
    omega (arith, row.sound.listed, told.log.lists)

pub depth_small : (base : Base) (stage : Stage) (list depth common : ℕ) → Keeps base stage → stage ≡ stages.Row list depth common → depth ≤ 200000
depth_small base stage list depth common kept is =
    let row : Keeps base (stages.Row list depth common) = subst (Keeps base) is kept in
    let within = (row.on_table row.base.agreeing.0 row.base.agreeing.1).at.within in
    omega (arith, row.base.counted)

pub common_small : (base : Base) (stage : Stage) (list depth common : ℕ) → Keeps base stage → stage ≡ stages.Row list depth common → common ≤ 200000
common_small base stage list depth common kept is =
    let row : Keeps base (stages.Row list depth common) = subst (Keeps base) is kept in
    let few = common_few base.transcript.lists base.transcript.accesses in
    omega (arith, row.sound.counted, row.base.roomy, row.base.posed.room_fits, row.base.counted)

-- ---- what is kept then
pub row_stands : (before after : Base) (items : List Item) (capacity : ℕ) (stage stage' : Stage) (list depth common object grade : ℕ)
    → Stands before items capacity stage → stage ≡ stages.Row list depth common → CanTake before (Sorted list object grade)
    → IsTold (Sorted list object grade) before after → Holds after → IsReserved after
    → stage' ≡ row_followed after.k after.transcript.lists after.transcript.accesses list depth (common_after after.transcript.lists after.transcript.accesses object common) → Stands after items capacity stage'
row_stands before after items capacity stage stage' list depth common object grade stands is can told held reserved then = record {
  kept = subst (Keeps after) (sym then)
      (carried (λ e k room m n B. IsFaKept e k room m n B (row_followed k m B list depth (common_after m B object common))) (Sorted list object grade) before after told
      (row_kept before.expr before.k before.room before.transcript.lists before.transcript.count before.transcript.accesses list depth common object grade (subst (Keeps before) is stands.kept)
      (some_before (Sorted list object grade) before after told held.agreeing) can.follows));
  reserved = reserved;
  none = stands.none;
  roomy = omega (arith, stands.roomy, told.room);
}

pub grade_stands : (before after : Base) (items : List Item) (capacity : ℕ) (stage stage' : Stage) (ask : Ask) (grade : ℕ)
    → Stands before items capacity stage → stage ≡ stages.Asking ask → CanTake before (Random ask.list ask.object grade)
    → IsTold (Random ask.list ask.object grade) before after → Holds after → IsReserved after
    → stage' ≡ asking (ask_from after.transcript.lists after.transcript.accesses (drop ask.place (seen_objects after.transcript.accesses)) ask.place) → Stands after items capacity stage'
grade_stands before after items capacity stage stage' ask grade stands is can told held reserved then = record {
  kept = subst (Keeps after) (sym then)
      (carried (λ e k room m n B. IsFaKept e k room m n B (asking (ask_from m B (drop ask.place (seen_objects B)) ask.place))) (Random ask.list ask.object grade) before after told
      (grade_kept before.expr before.k before.room before.transcript.lists before.transcript.count before.transcript.accesses ask grade (subst (Keeps before) is stands.kept)
      (some_before (Random ask.list ask.object grade) before after told held.agreeing) can.follows));
  reserved = reserved;
  none = stands.none;
  roomy = omega (arith, stands.roomy, told.room);
}

-- ---- what is told of a row and of a grade
pub row_taken : (before after : Base) (stage stage' : Stage) (row : Row) (list depth common : ℕ) (t : MachineState) → shown before (need_at stage) ≡ t
    → stage ≡ stages.Row list depth common → HasRoomFor (shown before needs.Done) row.object → IsTold (Sorted list row.object row.grade) before after
    → HasRoomFor t row.object × Takes (row_access t.need row) t (shown after (need_at stage'))
row_taken before after stage stage' row list depth common t is need room_for told =
    let access : row_access (need_at stage) row ≡ Sorted list row.object row.grade = ap (λ s. row_access (need_at s) row) need in
    subst (λ (s : MachineState). HasRoomFor s row.object × Takes (row_access s.need row) s (shown after (need_at stage'))) is (
      room_for,
      takes (row_access (need_at stage) row) before after (need_at stage) (need_at stage') (subst (λ a. IsTold a before after) (sym access) told),
    )

pub grade_told : (before after : Base) (stage stage' : Stage) (grade : ℕ) (ask : Ask) (t : MachineState) → shown before (need_at stage) ≡ t
    → stage ≡ stages.Asking ask → IsTold (Random ask.list ask.object grade) before after → Takes (grade_access t.need grade) t (shown after (need_at stage'))
grade_told before after stage stage' grade ask t is need told =
    let access : grade_access (need_at stage) grade ≡ Random ask.list ask.object grade = ap (λ s. grade_access (need_at s) grade) need in
    subst (λ (s : MachineState). Takes (grade_access s.need grade) s (shown after (need_at stage'))) is
    (takes (grade_access (need_at stage) grade) before after (need_at stage) (need_at stage') (subst (λ a. IsTold a before after) (sym access) told))
