use Rattle.std.proofs.Common.{◌≡◌, ℕ, ◌<◌, false, slice_index_or}
use Rattle.topk_theory.specs.declared.access.Access.{Access}
use Rattle.test_plain.proofs.Scanning.{is_of}
use Rattle.test_plain.proofs.bounds.known_grade.Given as goal

abbrev pub invariant-loop-access : goal.invariant-loop-access
invariant-loop-access l = (k : ℕ) (d : Access) → k < l.access-index → is_of l.list l.object (slice_index_or l.accesses k d) ≡ false
