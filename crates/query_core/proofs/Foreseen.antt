-- What a machine of any of the algorithms foresees.
use Rattle.std.proofs.Common.{ℕ}
use Rattle.ranked_list.specs.declared.need.Need.TheVariants.{Done}
use Rattle.topk_theory.specs.Asked.{Run}
use Rattle.machine_base.specs.Machine.{MachineState}
use Rattle.machine_base.specs.Certain.{Foresees}

-- nothing is always foreseen
pub nothing_foreseen : (run : Run) (t : MachineState) (list : ℕ) → Foresees run t list Done
nothing_foreseen run t list = record { certain = record { met = λ D agrees. tt }; of = tt }
