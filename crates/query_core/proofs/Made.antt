-- The machine that is made for a query.
use Rattle.std.proofs.Common.{◌≡◌, ℕ, Bool, true, List, Contains, unwrap_or, subst}
use Rattle.monotone_fn.specs.declared.costs.Costs.{Costs}
use Rattle.monotone_fn.specs.Tree.{Tree}
use Rattle.machine_base.specs.Machine.{IsBegun}
use Rattle.query_text.specs.declared.algorithm.Algorithm.{Algorithm}
use Rattle.query_text.specs.declared.algorithm.Algorithm.TheVariants.{Taz}
use Rattle.query_text.specs.Costs.{costs_in_force}
use Rattle.query_core.specs.declared.machine.Machine.{Machine}
use Rattle.query_core.specs.declared.ready.Ready.{Ready}
use Rattle.query_core.specs.Ready.{HasToRead, method_of_ready}
use Rattle.query_core.specs.Machines.{method_of, state_of, IsMachineFor}

-- a machine that is begun with a copy of the query's expression, the room and the costs in force is the query's
pub machine_for : (ready : Ready) (machine : Machine) (e : Tree) (room : ℕ) (costs : Costs) → method_of machine ≡ method_of_ready ready
    → e ≡ ready.query.expr → room ≡ unwrap_or ready.query.room ready.count → costs ≡ costs_in_force ready.query
    → IsBegun e ready.query.k ready.count room costs (state_of machine) → IsMachineFor ready machine
machine_for ready machine e room costs same expr most paid begun =
    let q = ready.query in
    let in_force = unwrap_or q.room ready.count in
    record {
      method = same;
      begun = subst (λ x. IsBegun x q.k ready.count in_force (costs_in_force q) (state_of machine)) expr
          (subst (λ x. IsBegun e q.k ready.count x (costs_in_force q) (state_of machine)) most
          (subst (λ x. IsBegun e q.k ready.count room x (state_of machine)) paid begun));
    }

-- what is told of lists for an algorithm that reads what can be read
pub some_to_read : (a : Algorithm) (sorted : List Bool) → HasToRead a sorted → a ≡ Taz → Contains sorted true
some_to_read a sorted readable is = subst (λ b. HasToRead b sorted) is readable
