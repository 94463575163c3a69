use Rattle.std.proofs.Common.{◌≡◌}
use Rattle.fetcher.proofs.slot_table.serve_loop.Given as goal

abbrev pub invariant-loop : goal.invariant-loop
invariant-loop g l = l.pass ≡ l.initial.pass
