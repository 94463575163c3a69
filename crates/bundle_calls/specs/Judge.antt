-- What is replied to an input that is judged.
use Rattle.std.specs.Prelude.{◌≡◌, ℕ, List}
use Rattle.topk_base.specs.Lines.{lines}
use Rattle.cert_judge.specs.declared.judgement.Judgement.{Judgement}
use Rattle.cert_judge.specs.declared.judgement.Judgement.TheVariants.{BadLine, Inconsistent, WildGuess, WrongSize, UnseenAnswer, Figure, Fixes, Beaten}
use Rattle.cert_judge.specs.Judging.{Tells}
use Rattle.cert_judge.specs.Text.{told_text}
use Rattle.command_line.specs.declared.status.Status.{Status}
use Rattle.command_line.specs.declared.status.Status.TheVariants.{Done, Partial}

-- the status of what is told: done exactly where the answer is fixed
abbrev pub told_status : Judgement → Status
told_status (BadLine line) = Partial
told_status (Inconsistent at kind) = Partial
told_status (WildGuess at) = Partial
told_status (WrongSize given k) = Partial
told_status (UnseenAnswer object) = Partial
told_status (Figure line) = Partial
told_status Fixes = Done
told_status (Beaten inside outside low high counter) = Partial

-- the text is that of what is told of the lines of these bytes, with its status
pub record JudgeReplies (bytes : List ℕ) (status : Status) (text : List ℕ) : Type 0 where
  pub told : Judgement
  pub tells : Tells (lines bytes) told
  pub status_is : status ≡ told_status told
  pub text_is : text ≡ told_text told
