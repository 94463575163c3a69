use Rattle.std.proofs.Common.{◌≡◌, []}
use Rattle.topk_theory.specs.Combined.{unknown_lists}
use Rattle.test_plain.proofs.phases.is_open.Given as goal

abbrev pub invariant-loop-list : goal.invariant-loop-list
invariant-loop-list l = unknown_lists l.list l.accesses l.object ≡ []
