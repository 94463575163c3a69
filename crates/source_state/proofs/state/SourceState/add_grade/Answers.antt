use Rattle.std.proofs.Common.{sym, subst}
use Rattle.ranked_list.specs.Table.{IsRanked}
use Rattle.source_state.specs.declared.entry.Settling.{Settling}
use Rattle.source_state.specs.Log.{rows_in}
use Rattle.source_state.specs.State.{State, SettlesWell}
use Rattle.source_state.proofs.Sound.{settles_well}
use Rattle.source_state.proofs.state.SourceState.add_grade.Goals as goal

pub add_settling-requires-clause-fits : goal.add_settling-requires-clause-fits
add_settling-requires-clause-fits c =
    subst (λ (settling : Settling). SettlesWell (rows_in c.args.self.now.log) c.args.object settling) (sym c.settle-settling.ensures)
    (settles_well (rows_in c.args.self.now.log) c.args.object c.args.grade (subst (λ (s : State). IsRanked (rows_in s.log)) c.self.view_is c.self.invariant.sound.log.ranked))
