use Rattle.std.proofs.Common.{◌≡◌, ℕ, ◌+◌, ◌≤◌, ◌++◌, length}
use Rattle.topk_base.specs.Lines.{lines}
use Rattle.cert_text.specs.Judging.{SpellsAccesses}
use Rattle.cert_text.proofs.JudgingLaws.{Carries}
use Rattle.cert_text.proofs.reader.read_accesses.Given as goal

abbrev pub invariant-loop-line : goal.invariant-loop-line
invariant-loop-line l = record {
  few : l.number + length l.rest ≤ l.fn.first + length l.fn.text;
  read : (k : ℕ) × (l.number ≡ l.fn.first + k)
      × Carries (SpellsAccesses l.names) (lines l.rest) (λ more. l.accesses.items ++ more) k (SpellsAccesses l.names) (lines l.fn.text);
}

abbrev pub decreases-loop-line : goal.decreases-loop-line
decreases-loop-line l = length l.rest
