use Rattle.std.proofs.Common.{◌≡◌, ◌≢◌, refl}
use Rattle.cert_judge.specs.declared.judgement.Judgement.{Judgement}
use Rattle.cert_judge.specs.declared.judgement.Judgement.TheVariants.{BadLine, Inconsistent, WildGuess, WrongSize, UnseenAnswer, Figure, Fixes, Beaten}
use Rattle.command_line.specs.declared.status.Status.TheVariants.{Partial}
use Rattle.bundle_calls.specs.Judge.{told_status}
use Rattle.bundle_calls.proofs.judging.told_status.Goals as goal

-- all that is told but `fixes` ends so
partial : (told : Judgement) → told ≢ Fixes → Partial ≡ told_status told
partial (BadLine line) other = refl
partial (Inconsistent at kind) other = refl
partial (WildGuess at) other = refl
partial (WrongSize given k) other = refl
partial (UnseenAnswer object) other = refl
partial (Figure line) other = refl
partial Fixes other = absurd (other refl)
partial (Beaten inside outside low high counter) other = refl

pub returns-in_default : goal.returns-in_default
returns-in_default c = partial c.args.told.now c.in_default.not-Fixes
