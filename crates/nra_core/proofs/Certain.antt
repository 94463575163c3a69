-- The rows at the depth that is read are certain: the run reads each of them on every table that agrees.
use Rattle.std.proofs.Common.{◌≡◌, ℕ, suc, ◌<◌, ◌≤◌, true, false, List, [], arith, refl, sym, ap}
use Rattle.ranked_list.specs.declared.row.Row.{Row}
use Rattle.ranked_list.specs.declared.need.Need.TheVariants.{Row as RowAt, Done}
use Rattle.nra_core.specs.declared.late.LateBounds.{LateBounds}
use Rattle.monotone_fn.specs.Value.{value}
use Rattle.monotone_fn.proofs.Laws.{value-monotone}
use Rattle.topk_theory.specs.Asked.{no_random_run}
use Rattle.topk_theory.specs.Threshold.{sorted_block}
use Rattle.topk_theory.specs.NoRandom.{nra_run_to, nra_run, nra_depth}
use Rattle.access_log.specs.Log.{AgreesWith}
use Rattle.machine_base.specs.declared.base.Base.{Base}
use Rattle.machine_base.specs.Base.{shown}
use Rattle.machine_base.specs.Certain.{Meets, Foresees, left_beside, left_of}
use Rattle.machine_base.proofs.Certain.{row_met}
use Rattle.machine_base.proofs.Held.{held_asked}
use Rattle.nra_core.specs.declared.place.Place.{Place}
use Rattle.nra_core.specs.Place.{need_at}
use Rattle.nra_core.specs.OnTable.{quiet_at}
use Rattle.nra_core.specs.Kept.{Keeps}
use Rattle.nra_core.proofs.Steps.{row_of, reads_rows, own}
use Rattle.nra_core.proofs.Runs.{kept_depth, need_of_row, need_when_done}

row_certain : (base : Base) (late : LateBounds) (place : Place) (list : ℕ) (D : List (List Row)) → Keeps base late place → place.done ≡ false
    → list < base.transcript.lists → AgreesWith D base.transcript → Meets (nra_run (value base.expr) base.k D) (RowAt list place.depth)
row_certain base late place list D kept going l agrees =
    let V = value base.expr in
    let n : ℕ = base.transcript.count in
    let monotone = value-monotone base.expr in
    let asked = held_asked base.expr base.k base.room base.transcript.lists n base.transcript.accesses D kept.base agrees in
    let on = row_of V base.k n D base.transcript.accesses place going (kept.on_table D agrees) in
    row_met (nra_run_to D) (λ d. sorted_block 0 (suc d) D) (quiet_at V base.k D) n (nra_depth V base.k D) D place.depth list (λ d. refl) (reads_rows n D asked.table) asked.table
    (own V base.k n D monotone asked) on.at (omega (arith, agrees.lists, l))

positive : (base : Base) (late : LateBounds) (place : Place) → Keeps base late place → place.done ≡ false → 1 ≤ place.depth
positive base late place kept going =
    let some = kept.base.agreeing in
    (row_of (value base.expr) base.k base.transcript.count some.0 base.transcript.accesses place going (kept.on_table some.0 some.1)).at.positive

pub row_foreseen : (base : Base) (late : LateBounds) (place : Place) (list : ℕ) → Keeps base late place → place.done ≡ false → list < base.transcript.lists
    → Foresees no_random_run (shown base (need_at place)) list (RowAt list place.depth)
row_foreseen base late place list kept going l = record {
  certain = record { met = λ D agrees. row_certain base late place list D kept going l agrees };
  of = (refl, positive base late place kept going, kept_depth base late place kept going);
}

-- of each list that row is left, and at the end nothing
pub row_left : (base : Base) (place : Place) (list : ℕ) → place.done ≡ false → RowAt list place.depth ≡ left_of (shown base (need_at place)) [] list
row_left base place list going = ap (λ need. left_beside need base.transcript.accesses [] list) (sym (need_of_row place going))

pub nothing_left : (base : Base) (place : Place) (list : ℕ) → place.done ≡ true → Done ≡ left_of (shown base (need_at place)) [] list
nothing_left base place list done = ap (λ need. left_beside need base.transcript.accesses [] list) (sym (need_when_done place done))
