use Rattle.std.proofs.Common.{subst, ap, ◌∙◌}
use Rattle.source_state.specs.Log.{first_of, fault_in}
use Rattle.source_state.specs.State.{State}
use Rattle.source_state.specs.Events.{MayMove}
use Rattle.source_state.proofs.LogLaws.{settled_faults}
use Rattle.source_state.proofs.Growing.{broken_by}
use Rattle.source_state.proofs.state.SourceState.add_move.Goals as goal

pub returns-in-Some-clause-applied : goal.returns-in-Some-clause-applied
returns-in-Some-clause-applied c = ap (λ (s : State). fault_in s.log) c.add_settling.ensures.state ∙ ap first_of (settled_faults c.args.self.now.log _ _)

pub returns-in-None-clause-applied : goal.returns-in-None-clause-applied
returns-in-None-clause-applied c =
    broken_by c.args.self.now c.add_fault.new.self c.args.fault (subst (MayMove c.args.self.now) c.in-None.is c.requires).0 c.add_fault.ensures.state
