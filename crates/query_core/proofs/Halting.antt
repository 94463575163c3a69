-- A machine of the threshold algorithm that halts by a rule makes the run of the method that halts so, and foresees its accesses.
use Rattle.std.proofs.Common.{◌≡◌, ℕ, Bool, List, [], refl, sym, ap, subst, ◌∙◌}
use Rattle.ranked_list.specs.declared.need.Need.{Need}
use Rattle.topk_theory.specs.Asked.{Run}
use Rattle.machine_base.specs.Machine.{MachineState, MakesRun}
use Rattle.machine_base.specs.Certain.{Foresees}
use Rattle.query_text.specs.declared.algorithm.Algorithm.{Algorithm}
use Rattle.query_text.specs.Query.{IsRated}
use Rattle.ta_core.specs.declared.halting.Halting.{Halting}
use Rattle.ta_core.specs.declared.halting.Halting.TheVariants.{Exact, Within, Early}
use Rattle.ta_core.specs.Halting.{IsFair}
use Rattle.ta_core.specs.Machine.{ThresholdState, run_halting, MakesItsRun as MakesHaltingRun}
use Rattle.query_core.specs.declared.machine.Machine.{Machine}
use Rattle.query_core.specs.declared.machine.Machine.TheVariants.{Ta}
use Rattle.query_core.specs.Methods.{method_with, run_with}
use Rattle.query_core.specs.Machines.{algorithm_halting, method_of, state_of, MakesItsRun}

-- the run by a rule is that of its method
same_run : (rule : Halting) → run_halting rule ≡ run_with (method_with (algorithm_halting rule) [])
same_run Exact = refl
same_run (Within p q) = refl
same_run (Early depth) = refl

pub halting_makes : (rule : Halting) (t : MachineState) → MakesRun (run_halting rule) t → MakesRun (run_with (method_with (algorithm_halting rule) [])) t
halting_makes rule t makes = subst (λ (run : Run). MakesRun run t) (same_run rule) makes

-- and so of a machine that is one
pub threshold_makes : (machine : Machine) (t : ThresholdState) → machine ≡ Ta t → MakesHaltingRun t → MakesItsRun machine
threshold_makes machine t is makes = subst MakesItsRun (sym is) (halting_makes t.halting t.state makes)

pub threshold_foresees : (machine : Machine) (t : ThresholdState) (list : ℕ) (need : Need) → machine ≡ Ta t → Foresees (run_halting t.halting) t.state list need
    → Foresees (run_with (method_of machine)) (state_of machine) list need
threshold_foresees machine t list need is foresees =
    subst (λ (m : Machine). Foresees (run_with (method_of m)) (state_of m) list need) (sym is)
    (subst (λ (run : Run). Foresees run t.state list need) (same_run t.halting) foresees)

-- its method doesn't go by which lists can be read in order
halting_kept : (rule : Halting) (sorted : List Bool) → method_with (algorithm_halting rule) [] ≡ method_with (algorithm_halting rule) sorted
halting_kept Exact sorted = refl
halting_kept (Within p q) sorted = refl
halting_kept (Early depth) sorted = refl

pub halting_method : (rule : Halting) (a : Algorithm) (sorted : List Bool) → a ≡ algorithm_halting rule
    → method_with (algorithm_halting rule) [] ≡ method_with a sorted
halting_method rule a sorted is = halting_kept rule sorted ∙ sym (ap (λ (b : Algorithm). method_with b sorted) is)

-- what is lawful of an algorithm makes its rule fair
pub rated_fair : (rule : Halting) → IsRated (algorithm_halting rule) → IsFair rule
rated_fair Exact rated = tt
rated_fair (Within p q) rated = rated.fair
rated_fair (Early depth) rated = tt
