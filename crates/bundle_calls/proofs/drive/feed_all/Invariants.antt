use Rattle.std.proofs.Common.{◌≡◌, ◌-◌, length}
use Rattle.machine_base.specs.Machine.{asked_of}
use Rattle.query_core.specs.Methods.{run_with}
use Rattle.query_core.specs.Machines.{method_of, state_of}
use Rattle.query_core.specs.Driving.{Continues, CanDrive}
use Rattle.bundle_calls.proofs.drive.feed_all.Given as goal

-- the lists are as they were, and the machine has come some accesses on
abbrev pub invariant-loop-list : goal.invariant-loop-list
invariant-loop-list l = record {
  same : l.lists ≡ l.fn.lists;
  same_method : method_of l.machine ≡ method_of l.fn.machine;
  goes : Continues (state_of l.fn.machine) (state_of l.machine);
  can : CanDrive l.fn.lists (state_of l.machine);
}

-- what is left of the run
abbrev pub decreases-loop-list : goal.decreases-loop-list
decreases-loop-list l = length (run_with (method_of l.machine) (asked_of (state_of l.machine)) l.lists) - length (state_of l.machine).log.accesses
