use Rattle.made_inputs.proofs.Making.{rows_pushed, state_pushed}
use Rattle.made_inputs.proofs.table.next_rows.Goals as goal

pub loop-place-preserved : goal.loop-place-preserved
loop-place-preserved c = (
  rows_pushed c.args.generator.now.state c.loop-place.place c.loop-place.rows.items c.push.new.self.items c.next_grade-grade.result
      c.loop-place.generator.state c.next_grade-grade.new.self.state
      c.loop-place.invariant.0 c.loop-place.invariant.1 c.next_grade-grade.ensures.steps c.next_grade-grade.ensures.gives c.in-Ok-push.ensures.items,
  state_pushed c.args.generator.now.state c.loop-place.place c.loop-place.generator.state c.next_grade-grade.new.self.state
      c.loop-place.invariant.1 c.next_grade-grade.ensures.steps,
)
