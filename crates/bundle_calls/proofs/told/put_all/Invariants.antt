use Rattle.std.proofs.Common.{◌≡◌, ℕ, drop}
use Rattle.containers.specs.Values.{value_of}
use Rattle.topk_theory.specs.Bounds.{grade_among}
use Rattle.bundle_calls.proofs.told.put_all.Given as goal

-- the grades of the rows from this place down
abbrev pub invariant-loop-place : goal.invariant-loop-place
invariant-loop-place l = (object : ℕ) → value_of l.grades object ≡ grade_among (drop l.place l.rows) object
