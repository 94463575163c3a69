-- A machine of any of the algorithms.
use Rattle.std.specs.Prelude.{◌≡◌, ℕ, [], unwrap_or}
use Rattle.ranked_list.specs.declared.need.Need.{Need}
use Rattle.ranked_list.specs.declared.need.Need.TheVariants.{Done}
use Rattle.query_text.specs.declared.algorithm.Algorithm.{Algorithm}
use Rattle.query_text.specs.declared.algorithm.Algorithm.TheVariants.{Ta, Nra, Ca, Fa, Theta, Early, Taz}
use Rattle.machine_base.specs.Machine.{MachineState, MakesRun, IsBegun}
use Rattle.machine_base.specs.Certain.{left_of}
use Rattle.ta_core.specs.declared.halting.Halting.{Halting}
use Rattle.ta_core.specs.declared.halting.Halting.TheVariants as halts
use Rattle.ta_core.specs.Certain.{left_of_seen}
use Rattle.ca_core.specs.Machine.{IsLeftOf}
use Rattle.query_core.specs.declared.machine.Machine.{Machine}
use Rattle.query_core.specs.declared.machine.Machine.TheVariants as machines
use Rattle.query_core.specs.declared.ready.Ready.{Ready}
use Rattle.query_core.specs.Methods.{Method, method_with, run_with}
use Rattle.query_core.specs.Ready.{method_of_ready}
use Rattle.query_text.specs.Costs.{costs_in_force}

-- the algorithm that halts by a rule
abbrev pub algorithm_halting : Halting → Algorithm
algorithm_halting halts.Exact = Ta
algorithm_halting (halts.Within p q) = Theta p q
algorithm_halting (halts.Early depth) = Early depth

-- by what a machine runs, and what contracts see of its state
abbrev pub method_of : Machine → Method
method_of (machines.Ta t) = method_with (algorithm_halting t.halting) []
method_of (machines.Nra t) = method_with Nra []
method_of (machines.Ca t) = method_with Ca []
method_of (machines.Fa t) = method_with Fa []
method_of (machines.Taz t) = method_with Taz t.sorted

abbrev pub algorithm_of : Machine → Algorithm
algorithm_of machine = (method_of machine).algorithm

abbrev pub state_of : Machine → MachineState
state_of (machines.Ta t) = t.state
state_of (machines.Nra t) = t
state_of (machines.Ca t) = t
state_of (machines.Fa t) = t
state_of (machines.Taz t) = t.state

-- the machine makes the run of its method
abbrev pub MakesItsRun : Machine → Type 0
MakesItsRun machine = MakesRun (run_with (method_of machine)) (state_of machine)

-- the machine runs by the query's method, is asked what the query asks, may see as many objects as the query states or as there are, and
-- has made no access yet
pub record IsMachineFor (ready : Ready) (machine : Machine) : Type 0 where
  pub method : method_of machine ≡ method_of_ready ready
  pub begun : IsBegun ready.query.expr ready.query.k ready.count (unwrap_or ready.query.room ready.count) (costs_in_force ready.query) (state_of machine)

-- what is left of a list by the algorithm of a machine; two foresee nothing
abbrev pub IsLeftFor : Machine → ℕ → Need → Type 0
IsLeftFor (machines.Ta t) list need = need ≡ left_of_seen t.state list
IsLeftFor (machines.Nra t) list need = need ≡ left_of t [] list
IsLeftFor (machines.Ca t) list need = IsLeftOf t list need
IsLeftFor (machines.Fa t) list need = need ≡ Done
IsLeftFor (machines.Taz t) list need = need ≡ Done
