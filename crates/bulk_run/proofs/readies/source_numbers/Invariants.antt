use Rattle.std.proofs.Common.{◌≡◌}
use Rattle.topk_theory.specs.Transcript.{list_numbers}
use Rattle.bulk_run.proofs.readies.source_numbers.Given as goal

-- the numbers so far
abbrev pub invariant-loop-list : goal.invariant-loop-list
invariant-loop-list l = l.numbers.items ≡ list_numbers l.list
