use Rattle.std.proofs.Common.{◌≡◌, []}
use Rattle.topk_theory.specs.Combined.{unknown_lists}
use Rattle.machine_base.proofs.asking.next_unknown.Given as goal

abbrev pub invariant-loop-list : goal.invariant-loop-list
invariant-loop-list l = unknown_lists l.list l.transcript.accesses l.object ≡ []
