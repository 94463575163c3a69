use Rattle.std.proofs.Common.{subst, sym}
use Rattle.ranked_list.specs.Table.{IsTable}
use Rattle.made_inputs.proofs.Making.{table_pushed, state_pushed_on, is_table}
use Rattle.made_inputs.proofs.table.make_table.Goals as goal

pub loop-preserved : goal.loop-preserved
loop-preserved c = (
  table_pushed c.args.start c.args.count c.loop.counter c.loop.generator.state c.loop.table.items c.push.new.self.items c.in_ok-list.list
      c.loop.invariant.0 c.loop.invariant.1 c.in_ok-list.ensures.list c.in-Ok-push.ensures.items,
  state_pushed_on c.args.start c.args.count c.loop.counter c.loop.generator.state c.next_list.new.generator.state c.loop.invariant.1 c.in_ok-list.ensures.state,
)

pub returns-clause-table : goal.returns-clause-table
returns-clause-table c = subst (IsTable c.args.count) (sym c.loop.invariant.0) (is_table c.args.start c.args.count c.loop.counter)
