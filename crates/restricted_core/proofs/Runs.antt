-- A machine that keeps what it keeps makes its run, and what it answers.
use Rattle.std.proofs.Common.{◌≡◌, ℕ, ◌+◌, ◌-◌, Bool, List, ◌++◌, Contains, refl, sym, ap, subst, ◌∙◌, arith}
use Rattle.ranked_list.specs.declared.row.Row.{Row}
use Rattle.ranked_list.specs.declared.item.Item.{Item}
use Rattle.ranked_list.specs.declared.need.Need.TheVariants as needs
use Rattle.ranked_list.specs.Table.{grade_in}
use Rattle.monotone_fn.specs.Value.{value}
use Rattle.monotone_fn.proofs.Laws.{value-monotone}
use Rattle.topk_theory.specs.declared.access.Access.{Access}
use Rattle.topk_theory.specs.declared.access.Access.TheVariants.{Random}
use Rattle.topk_theory.specs.Aggregate.{IsTop}
use Rattle.topk_theory.specs.Order.{IsFirstK}
use Rattle.topk_theory.specs.Transcript.{Agrees, list_at, seen_objects, named_objects}
use Rattle.topk_theory.specs.Threshold.{item_objects}
use Rattle.topk_theory.specs.Machine.{IsAt, CanServe}
use Rattle.topk_theory.proofs.Agreement.{seen_is_named}
use Rattle.machine_base.specs.Held.{Held}
use Rattle.access_log.specs.Log.{Log, AgreesWith}
use Rattle.machine_base.specs.Machine.{IsOfSeen}
use Rattle.machine_base.specs.declared.base.Base.{Base}
use Rattle.machine_base.specs.Base.{shown}
use Rattle.machine_base.specs.declared.asking.Ask.{Ask}
use Rattle.machine_base.specs.Asking.{IsAsking}
use Rattle.machine_base.proofs.Asks.{asks_begin, ask_served}
use Rattle.machine_base.proofs.Makes.{makes_run, at_end, answer_by}
use Rattle.algorithm_theory.specs.Restricted.{taz_depth, taz_run, taz_answer, taz_objects, restricted_run, restricted_answer}
use Rattle.algorithm_theory.proofs.RestrictedNearBest.{taz_near_best}
use Rattle.algorithm_theory.proofs.RestrictedRuns.{taz_run_sees, answer_there}
use Rattle.algorithm_theory.proofs.RestrictedTop.{taz_answer_top}
use Rattle.restricted_core.specs.declared.stage.Stage.{Stage}
use Rattle.restricted_core.specs.declared.stage.Stage.TheVariants as stages
use Rattle.restricted_core.specs.Lists.{reads}
use Rattle.restricted_core.specs.Course.{need_at}
use Rattle.restricted_core.specs.OnTable.{OnAsks}
use Rattle.restricted_core.specs.Kept.{IsSound, Keeps}
use Rattle.restricted_core.specs.Machine.{RestrictedState, MakesItsRun, IsAnswer, ReadsNearBest}
use Rattle.restricted_core.proofs.Boards.{board_answer}
use Rattle.restricted_core.proofs.Path.{IsPosedOn, own, on_path, row_next}
use Rattle.restricted_core.proofs.Steps.{posed_on}

-- ---- what is needed
asks_next : (V : List ℕ → ℕ) (k m n : ℕ) (Z : ℕ → Bool) (D : List (List Row)) (A : List Access) (items : List Item) (depth whole : ℕ) (ask : Ask)
    → IsPosedOn k n Z D → IsAsking m A (seen_objects A) ask → Agrees m n D A → OnAsks V k n Z D A items depth whole ask.place
    → IsAt (taz_run V k Z D) A (needs.Grade ask.list ask.object)
asks_next V k m n Z D A items depth whole ask posed is agrees on =
    let r = asks_begin m n D A (seen_objects A) ask is agrees in
    on_path V k n Z D depth A (Random ask.list ask.object (grade_in (list_at D ask.list) ask.object)) r.0 posed on.at (ap (λ xs. A ++ xs) (sym r.1) ∙ on.made)

posed_of : (base : Base) (sorted : List Bool) (board : Held) (stage : Stage) (D : List (List Row)) → Keeps base sorted board stage
    → AgreesWith D base.transcript → IsPosedOn base.k base.transcript.count (reads sorted) D
posed_of base sorted board stage D kept agrees =
    posed_on base.expr base.k base.room base.transcript.lists base.transcript.count base.transcript.accesses sorted board D kept.base kept.fits agrees

needed : (base : Base) (sorted : List Bool) (board : Held) (stage : Stage) (D : List (List Row)) → Keeps base sorted board stage → AgreesWith D base.transcript
    → IsAt (taz_run (value base.expr) base.k (reads sorted) D) base.transcript.accesses (need_at stage) × CanServe D (need_at stage)
needed base sorted board (stages.Row list depth whole) D kept agrees =
    let on = kept.on_table D agrees in
    row_next (value base.expr) base.k base.transcript.count (reads sorted) D base.transcript.accesses depth list (posed_of base sorted board (stages.Row list depth whole) D kept agrees) on.at on.made
    (let below = kept.sound.listed in let same = agrees.lists in omega arith) kept.sound.readable
needed base sorted board (stages.Asking ask depth whole) D kept agrees = (
  asks_next (value base.expr) base.k base.transcript.lists base.transcript.count (reads sorted) D base.transcript.accesses board.items depth whole ask
      (posed_of base sorted board (stages.Asking ask depth whole) D kept agrees) kept.sound.0 agrees (kept.on_table D agrees),
  ask_served base.transcript.lists base.transcript.count D base.transcript.accesses ask.object ask.list kept.sound.0.asked agrees,
)
needed base sorted board stages.Done D kept agrees = at_end (taz_run (value base.expr) base.k (reads sorted) D) base.transcript.accesses D (kept.on_table D agrees).made

tame_need : (sorted : List Bool) (m : ℕ) (log : Log) (stage : Stage) → IsSound sorted m log.accesses stage → IsOfSeen log (need_at stage)
tame_need sorted m log (stages.Row list depth whole) sound = tt
tame_need sorted m log (stages.Asking ask depth whole) sound = sound.0.asked.seen
tame_need sorted m log stages.Done sound = tt

-- what contracts see of a machine that holds this
abbrev pub seen_as : Base → List Bool → Stage → RestrictedState
seen_as base sorted stage = record { state = shown base (need_at stage); sorted = sorted }

pub kept_makes : (base : Base) (sorted : List Bool) (board : Held) (stage : Stage) → Keeps base sorted board stage → MakesItsRun (seen_as base sorted stage)
kept_makes base sorted board stage kept =
    makes_run (restricted_run (reads sorted)) base (need_at stage) kept.base (λ D agrees. needed base sorted board stage D kept agrees) (tame_need sorted base.transcript.lists base.transcript stage kept.sound)

-- ---- a machine that is done
row_not_done : (list depth : ℕ) → needs.Row list depth ≡ needs.Done → ⊥
row_not_done list depth e = cc

grade_not_done : (list object : ℕ) → needs.Grade list object ≡ needs.Done → ⊥
grade_not_done list object e = cc

done_of : (stage : Stage) → need_at stage ≡ needs.Done → stage ≡ stages.Done
done_of (stages.Row list depth whole) e = absurd (row_not_done list depth e)
done_of (stages.Asking ask depth whole) e = absurd (grade_not_done ask.list ask.object e)
done_of stages.Done e = refl

kept_done : (base : Base) (sorted : List Bool) (board : Held) (stage : Stage) → Keeps base sorted board stage → need_at stage ≡ needs.Done
    → Keeps base sorted board stages.Done
kept_done base sorted board stage kept done = subst (Keeps base sorted board) (done_of stage done) kept

-- the first k of its board are the answer
pub answers : (base : Base) (sorted : List Bool) (board : Held) (stage : Stage) (items : List Item) → Keeps base sorted board stage → need_at stage ≡ needs.Done
    → ((others : List Item) → IsFirstK board.k board.items others → others ≡ items) → IsAnswer (seen_as base sorted stage) items
answers base sorted board stage items kept' done only =
    let V = value base.expr in
    let k : ℕ = base.k in
    let n : ℕ = base.transcript.count in
    let A = base.transcript.accesses in
    let Z : ℕ → Bool = reads sorted in
    let kept : Keeps base sorted board stages.Done = kept_done base sorted board stage kept' done in
    let posed : (D : List (List Row)) → AgreesWith D base.transcript → IsPosedOn k n Z D = λ D agrees. posed_of base sorted board stages.Done D kept agrees in
    let exact : (D : List (List Row)) → AgreesWith D base.transcript → items ≡ taz_answer V k Z D = λ D agrees.
    let on = kept.on_table D agrees in
    sym (only (taz_answer V k Z D) (subst (λ c. IsFirstK c board.items (taz_answer V k Z D)) (sym kept.fits.same_k)
    (board_answer V k n Z D A (taz_depth V k Z D) board.items (posed D agrees) refl (own V k n Z D (posed D agrees)).within on.made on.board))) in
    let top : (D : List (List Row)) → AgreesWith D base.transcript → IsTop V k D (item_objects items) = λ D agrees.
    subst (λ xs. IsTop V k D (item_objects xs)) (sym (exact D agrees)) (taz_answer_top V k n Z D (value-monotone base.expr) (posed D agrees).asked (posed D agrees).one) in
    let some : List (List Row) = kept.base.agreeing.0 in
    let agrees_some : AgreesWith some base.transcript = kept.base.agreeing.1 in
    let own_some = posed some agrees_some in
    let named : (o : ℕ) → Contains (item_objects items) o → Contains (named_objects A) o = λ o c.
    let there : Contains (taz_objects Z some (taz_depth V k Z some)) o = answer_there V k n Z some o agrees_some.table (subst (λ xs. Contains (item_objects xs) o) (exact some agrees_some) c) in
    seen_is_named A o (subst (λ B. Contains (seen_objects B) o) (sym (kept.on_table some agrees_some).made) ((taz_run_sees V k n Z some own_some.asked own_some.one o).1 there)) in
    answer_by (restricted_answer Z) (shown base (need_at stage)) items kept.base.agreeing exact top named

-- ---- it is near the best
pub near_best : (base : Base) (sorted : List Bool) (board : Held) (stage : Stage) → Keeps base sorted board stage → need_at stage ≡ needs.Done
    → ReadsNearBest (seen_as base sorted stage)
near_best base sorted board stage kept' done =
    let kept : Keeps base sorted board stages.Done = kept_done base sorted board stage kept' done in
    taz_near_best (value base.expr) base.k base.transcript.lists base.transcript.count (reads sorted) base.transcript.accesses (value-monotone base.expr) kept.fits.some (record {
      lists = omega (arith, kept.base.some_list);
      positive = kept.base.posed.positive;
      fits = kept.base.posed.fits;
      always = λ D agrees. (kept.on_table D agrees).made;
    })
