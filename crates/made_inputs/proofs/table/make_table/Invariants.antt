use Rattle.std.proofs.Common.{◌≡◌, ◌*◌}
use Rattle.made_inputs.specs.Made.{state_after, made_table}
use Rattle.made_inputs.proofs.table.make_table.Given as goal

abbrev pub invariant-loop : goal.invariant-loop
invariant-loop l =
    (l.table.items ≡ made_table l.fn.start l.fn.count l.counter)
    × (l.generator.state ≡ state_after l.fn.start (l.counter * l.fn.count))
