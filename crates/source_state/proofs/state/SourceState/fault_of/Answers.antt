use Rattle.std.proofs.Common.{sym, ap, subst, ◌∙◌, is_some, arith}
use Rattle.source_state.specs.Log.{rows_in}
use Rattle.source_state.specs.ObjectKeeping.{ObjectList}
use Rattle.source_state.specs.State.{State, asks_of}
use Rattle.source_state.specs.Keeping.{shown_by, KeepsFields}
use Rattle.source_state.proofs.Sound.{repeated_fault, fault_of_grades}
use Rattle.source_state.proofs.state.SourceState.fault_of.Goals as goal

pub returns-then-is_some : goal.returns-then-is_some
returns-then-is_some c =
    repeated_fault (rows_in c.args.self.now.log) c.deref-kept.result.now.objects.rows (asks_of c.args.self.now) c.args.row c.bottom-bottom.result c.rows-then-is_some.result
    (sym (ap (λ (list : ObjectList). list.rows) (subst KeepsFields (sym c.deref-kept.ensures) c.self.invariant).objects ∙ ap (λ (s : State). rows_in s.log) (ap shown_by c.deref-kept.ensures ∙ c.self.view_is))) (omega arith) c.bottom-bottom.ensures (omega arith)
    (sym (c.is_some.ensures ∙ ap is_some c.grade.ensures) ∙ c.if-is_some.true) c.rows-then-is_some.ensures.rows

pub returns : goal.returns
returns c =
    fault_of_grades (rows_in c.args.self.now.log) c.deref-kept.result.now.objects.rows (asks_of c.args.self.now) c.args.row c.bottom-bottom.result c.fault_by_grades.result
    (sym (ap (λ (list : ObjectList). list.rows) (subst KeepsFields (sym c.deref-kept.ensures) c.self.invariant).objects ∙ ap (λ (s : State). rows_in s.log) (ap shown_by c.deref-kept.ensures ∙ c.self.view_is))) (omega arith) c.bottom-bottom.ensures (omega arith)
    (sym (c.is_some.ensures ∙ ap is_some c.grade.ensures) ∙ c.if-is_some.false) c.fault_by_grades.ensures
