-- A machine that keeps what it keeps makes its run.
use Rattle.std.proofs.Common.{◌≡◌, ℕ, ◌≤◌, inl, inr, true, false, cond, List, sym, ap, subst, arith}
use Rattle.std.proofs.lemmas.Bool.{cases_Bool}
use Rattle.ranked_list.specs.declared.row.Row.{Row}
use Rattle.nra_core.specs.declared.late.LateBounds.{LateBounds}
use Rattle.ranked_list.specs.declared.need.Need.TheVariants.{Row as RowAt, Done}
use Rattle.monotone_fn.specs.Value.{value}
use Rattle.monotone_fn.proofs.Laws.{value-monotone}
use Rattle.topk_theory.specs.Asked.{no_random_run}
use Rattle.topk_theory.specs.NoRandom.{nra_run}
use Rattle.topk_theory.specs.Machine.{IsAt, CanServe}
use Rattle.access_log.specs.Log.{Log, AgreesWith}
use Rattle.machine_base.specs.Machine.{IsOfSeen, IsNoGrade}
use Rattle.machine_base.specs.declared.base.Base.{Base}
use Rattle.machine_base.specs.Base.{shown}
use Rattle.machine_base.proofs.Held.{held_asked}
use Rattle.machine_base.proofs.Makes.{makes_run, at_end}
use Rattle.nra_core.specs.declared.place.Place.{Place}
use Rattle.nra_core.specs.Place.{need_at}
use Rattle.nra_core.specs.Kept.{Keeps}
use Rattle.nra_core.specs.Machine.{MakesItsRun}
use Rattle.nra_core.proofs.Steps.{row_of, run_of, row_next}

-- no grade is needed
pub no_grade : (place : Place) → IsNoGrade (need_at place)
no_grade place = elim place.done as (λ b. IsNoGrade (cond b Done (RowAt place.list place.depth))) [ true ↦ tt | false ↦ tt ]

-- what is needed
pub need_of_row : (place : Place) → place.done ≡ false → need_at place ≡ RowAt place.list place.depth
need_of_row place open' = ap (λ b. cond b Done (RowAt place.list place.depth)) open'

pub need_when_done : (place : Place) → place.done ≡ true → need_at place ≡ Done
need_when_done place done = ap (λ b. cond b Done (RowAt place.list place.depth)) done

needed : (base : Base) (late : LateBounds) (place : Place) (D : List (List Row)) → Keeps base late place → AgreesWith D base.transcript
    → IsAt (nra_run (value base.expr) base.k D) base.transcript.accesses (need_at place) × CanServe D (need_at place)
needed base late place D kept agrees =
    let V = value base.expr in
    let A = base.transcript.accesses in
    let n : ℕ = base.transcript.count in
    let on = kept.on_table D agrees in
    elim (cases_Bool place.done) [
      | inl done ↦
          subst (λ need. IsAt (nra_run V base.k D) A need × CanServe D need) (sym (need_when_done place done))
          (at_end (nra_run V base.k D) A D (run_of V base.k n D A place done on))
      | inr open' ↦
          subst (λ need. IsAt (nra_run V base.k D) A need × CanServe D need) (sym (need_of_row place open'))
          (row_next V base.k n D A place (value-monotone base.expr) (held_asked base.expr base.k base.room base.transcript.lists n A D kept.base agrees) (omega (arith, kept.in_row, agrees.lists)) (row_of V base.k n D A place open' on))
    ]

tame_need : (log : Log) (place : Place) → IsOfSeen log (need_at place)
tame_need log place =
    elim (cases_Bool place.done) [
      | inl done ↦ subst (IsOfSeen log) (sym (need_when_done place done)) tt
      | inr open' ↦ subst (IsOfSeen log) (sym (need_of_row place open')) tt
    ]

pub kept_makes : (base : Base) (late : LateBounds) (place : Place) → Keeps base late place → MakesItsRun (shown base (need_at place))
kept_makes base late place kept = makes_run no_random_run base (need_at place) kept.base (λ D agrees. needed base late place D kept agrees) (tame_need base.transcript place)

-- the depth is one of the tables', so it is small
pub kept_depth : (base : Base) (late : LateBounds) (place : Place) → Keeps base late place → place.done ≡ false → place.depth ≤ base.transcript.count
kept_depth base late place kept open' =
    let some = kept.base.agreeing in
    (row_of (value base.expr) base.k base.transcript.count some.0 base.transcript.accesses place open' (kept.on_table some.0 some.1)).at.within
