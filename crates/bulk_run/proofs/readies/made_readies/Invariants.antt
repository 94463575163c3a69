use Rattle.std.specs.List.{AllZip, range_with_len}
use Rattle.bulk_run.specs.Endings.{IsMadeReady}
use Rattle.bulk_run.proofs.readies.made_readies.Given as goal

-- the queries so far are ready
abbrev pub invariant-loop-number : goal.invariant-loop-number
invariant-loop-number l = AllZip (IsMadeReady l.input) (range_with_len 0 l.number) l.readies.items
