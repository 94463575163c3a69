-- What the calls of a machine need, and what they leave.
use Rattle.std.proofs.Common.{◌≡◌, ℕ, min, Bool, List, [], length, Contains, sym, ap, subst, ◌∙◌, arith}
use Rattle.ranked_list.specs.declared.row.Row.{Row}
use Rattle.ranked_list.specs.declared.need.Need.TheVariants as needs
use Rattle.monotone_fn.specs.declared.costs.Costs.{Costs}
use Rattle.monotone_fn.specs.Tree.{Tree}
use Rattle.monotone_fn.specs.Shape.{list_count}
use Rattle.monotone_fn.specs.Value.{value}
use Rattle.topk_theory.specs.Order.{AreDistinct}
use Rattle.topk_theory.proofs.AgreementLists.{contains_nil}
use Rattle.topk_theory.proofs.AgreementNames.{each_once_within}
use Rattle.topk_theory.specs.declared.access.Access.TheVariants.{Sorted, Random}
use Rattle.machine_base.specs.Held.{Held}
use Rattle.machine_base.specs.Machine.{MachineState, IsBegun, MayBeNextRow, MayBeNextGrade, HasRoomFor, Takes, row_access, grade_access}
use Rattle.machine_base.specs.declared.asking.Ask.{Ask}
use Rattle.machine_base.specs.declared.base.Base.{Base}
use Rattle.machine_base.specs.Base.{shown, IsHeld, Holds, IsReserved, IsTold, CanTake}
use Rattle.machine_base.proofs.Asks.{asked_for_once}
use Rattle.machine_base.proofs.Depths.{first_reached}
use Rattle.machine_base.proofs.Held.{some_before, carried, takes}
use Rattle.machine_base.proofs.Reserve.{row_can}
use Rattle.algorithm_theory.specs.Restricted.{taz_stop}
use Rattle.restricted_core.specs.declared.stage.Stage.{Stage}
use Rattle.restricted_core.specs.declared.stage.Stage.TheVariants as stages
use Rattle.restricted_core.specs.Lists.{reads, IsNextList}
use Rattle.restricted_core.specs.Course.{need_at}
use Rattle.restricted_core.specs.Kept.{IsFor, IsTazKept, Keeps, IsRowTold, IsRowOver, Stands}
use Rattle.restricted_core.specs.Kept.{IsRowKept, IsOverKept}
use Rattle.restricted_core.proofs.Path.{first_row}
use Rattle.restricted_core.proofs.Steps.{row_kept, grade_kept, passes}

-- ---- at the beginning
kept_start : (e : Tree) (k room m n : ℕ) (sorted : List Bool) (board : Held) (list : ℕ) → IsHeld e k room m n [] → IsFor k room m sorted board → board.items ≡ []
    → IsNextList sorted 0 list → IsTazKept e k room m n [] sorted board (stages.Row list 1 0)
kept_start e k room m n sorted board list held fits none is = record {
  base = held;
  fits = fits;
  sound = record {
    listed = (let long = fits.one_each in let l = is.listed in omega arith);
    readable = is.readable;
    full = record { within = omega arith; known = λ i d l. absurd (omega arith) };
  };
  on_table = λ D agrees. record {
    at = first_reached (taz_stop (value e) k (reads sorted) D) n (let positive = held.posed.positive in let fits' = held.posed.fits in omega arith);
    made = first_row (reads sorted) D list (passes sorted 0 list is.onward is.passed);
    board = record {
      distinct = subst AreDistinct (sym none) (λ i j d l m'. absurd (omega arith));
      held = λ o c. absurd (contains_nil o (each_once_within [] o c));
      only = λ item c. absurd (contains_nil item (subst (λ xs. Contains xs item) none c));
    };
  };
}

-- what a board is for, and a base
pub stands_start : (e : Tree) (k n room : ℕ) (costs : Costs) (base : Base) (board : Held) (sorted : List Bool) (list : ℕ)
    → IsBegun e k n room costs (shown base needs.Done) → Holds base → IsReserved base → board.k ≡ k → board.room ≡ min room n → board.items ≡ []
    → length sorted ≡ list_count e → IsNextList sorted 0 list → Stands base sorted board (stages.Row list 1 0)
stands_start e k n room costs base board sorted list begun held reserved same_k same_room none one_each is =
    let m : ℕ = base.transcript.lists in
    let count : ℕ = base.transcript.count in
    let wide : length sorted ≡ m = one_each ∙ sym begun.lists in
    let fits : IsFor base.k base.room m sorted board = record {
      one_each = wide;
      some = record { list = list; listed = (let l = is.listed in omega arith); sorted = is.readable };
      same_k = same_k ∙ sym begun.asked;
      same_room = same_room ∙ sym begun.in_force;
    } in
    record {
      kept = subst (λ A. IsTazKept base.expr base.k base.room m count A sorted board (stages.Row list 1 0)) (sym begun.none)
          (kept_start base.expr base.k base.room m count sorted board list (subst (IsHeld base.expr base.k base.room m count) begun.none held) fits none is);
      reserved = reserved;
    }

-- ---- which access may be told
pub can_row : (base : Base) (sorted : List Bool) (board : Held) (stage : Stage) (row : Row) (list depth whole : ℕ) → Keeps base sorted board stage
    → stage ≡ stages.Row list depth whole → MayBeNextRow base.transcript (need_at stage) row → HasRoomFor (shown base needs.Done) row.object
    → CanTake base (Sorted list row.object row.grade)
can_row base sorted board stage row list depth whole kept is may fits =
    row_can base list row.object row.grade kept.base (subst (λ s. MayBeNextRow base.transcript (need_at s) row) is may) fits

pub can_grade : (base : Base) (sorted : List Bool) (board : Held) (stage : Stage) (grade : ℕ) (ask : Ask) (depth whole : ℕ) → Keeps base sorted board stage
    → stage ≡ stages.Asking ask depth whole → MayBeNextGrade base.transcript (need_at stage) grade → CanTake base (Random ask.list ask.object grade)
can_grade base sorted board stage grade ask depth whole kept is may =
    let asks : Keeps base sorted board (stages.Asking ask depth whole) = subst (Keeps base sorted board) is kept in
    record {
      follows = (asks.sound.0.asked.seen, asked_for_once base.transcript.lists base.transcript.count base.transcript.accesses ask.object ask.list asks.base.agreeing asks.sound.0.asked);
      consistent = subst (λ s. MayBeNextGrade base.transcript (need_at s) grade) is may;
    }

-- ---- what was told then
pub told_row : (before after : Base) (sorted : List Bool) (board : Held) (stage : Stage) (list depth whole object grade : ℕ) → Keeps before sorted board stage
    → stage ≡ stages.Row list depth whole → CanTake before (Sorted list object grade) → IsTold (Sorted list object grade) before after → Holds after
    → IsRowTold after sorted board list depth whole
told_row before after sorted board stage list depth whole object grade kept is can told held =
    carried (λ e k room m n B. IsRowKept e k room m n B sorted board list depth whole) (Sorted list object grade) before after told
    (row_kept before.expr before.k before.room before.transcript.lists before.transcript.count before.transcript.accesses sorted board list depth whole object grade (subst (Keeps before sorted board) is kept)
    (some_before (Sorted list object grade) before after told held.agreeing) can.follows)

pub told_grade : (before after : Base) (sorted : List Bool) (board : Held) (stage : Stage) (ask : Ask) (depth whole grade : ℕ) → Keeps before sorted board stage
    → stage ≡ stages.Asking ask depth whole → CanTake before (Random ask.list ask.object grade) → IsTold (Random ask.list ask.object grade) before after → Holds after
    → IsRowOver after sorted board depth whole ask.place
told_grade before after sorted board stage ask depth whole grade kept is can told held =
    carried (λ e k room m n B. IsOverKept e k room m n B sorted board depth whole ask.place) (Random ask.list ask.object grade) before after told
    (grade_kept before.expr before.k before.room before.transcript.lists before.transcript.count before.transcript.accesses sorted board ask depth whole grade (subst (Keeps before sorted board) is kept)
    (some_before (Random ask.list ask.object grade) before after told held.agreeing) can.follows)

-- ---- what is told of a row and of a grade
pub row_taken : (before after : Base) (stage stage' : Stage) (row : Row) (list depth whole : ℕ) (t : MachineState) → shown before (need_at stage) ≡ t
    → stage ≡ stages.Row list depth whole → HasRoomFor (shown before needs.Done) row.object → IsTold (Sorted list row.object row.grade) before after
    → HasRoomFor t row.object × Takes (row_access t.need row) t (shown after (need_at stage'))
row_taken before after stage stage' row list depth whole t is need room_for told =
    let access : row_access (need_at stage) row ≡ Sorted list row.object row.grade = ap (λ s. row_access (need_at s) row) need in
    subst (λ (s : MachineState). HasRoomFor s row.object × Takes (row_access s.need row) s (shown after (need_at stage'))) is (
      room_for,
      takes (row_access (need_at stage) row) before after (need_at stage) (need_at stage') (subst (λ a. IsTold a before after) (sym access) told),
    )

pub grade_told : (before after : Base) (stage stage' : Stage) (grade : ℕ) (ask : Ask) (depth whole : ℕ) (t : MachineState) → shown before (need_at stage) ≡ t
    → stage ≡ stages.Asking ask depth whole → IsTold (Random ask.list ask.object grade) before after
    → Takes (grade_access t.need grade) t (shown after (need_at stage'))
grade_told before after stage stage' grade ask depth whole t is need told =
    let access : grade_access (need_at stage) grade ≡ Random ask.list ask.object grade = ap (λ s. grade_access (need_at s) grade) need in
    subst (λ (s : MachineState). Takes (grade_access s.need grade) s (shown after (need_at stage'))) is
    (takes (grade_access (need_at stage) grade) before after (need_at stage) (need_at stage') (subst (λ a. IsTold a before after) (sym access) told))
