-- What is told of a text that may be a certificate.
use Rattle.std.specs.Prelude.{◌≡◌, ℕ, List, Option, None, Some, Result, Ok, Err}
use Rattle.bundle_text.specs.declared.bundle.Bundle.{Bundle}
use Rattle.bundle_text.specs.Bundle.{content}
use Rattle.monotone_fn.specs.Value.{value}
use Rattle.monotone_fn.specs.Shape.{list_count}
use Rattle.topk_theory.specs.Adversary.{counter_table}
use Rattle.topk_theory.specs.Threshold.{item_objects}
use Rattle.algorithm_theory.specs.Within.{Factor}
use Rattle.access_log.specs.Log.{Log, IsConsistent}
use Rattle.query_text.specs.Query.{printed}
use Rattle.cert_text.specs.declared.certificate.Certificate.{Certificate}
use Rattle.cert_text.specs.Certificate.{guaranteed}
use Rattle.cert_text.specs.Reading.{Spells, IsFirstFault}
use Rattle.cert_judge.specs.declared.verdict.Verdict.{Verdict}
use Rattle.cert_judge.specs.declared.verdict.Verdict.TheVariants as verdict
use Rattle.cert_judge.specs.declared.verdict.JudgeFault.{JudgeFault}
use Rattle.cert_judge.specs.declared.verdict.JudgeFault.TheVariants as fault
use Rattle.cert_judge.specs.Deciding.{Judges, IsFair}
use Rattle.cert_judge.specs.JudgingWithin.{JudgesWithin}
use Rattle.cert_judge.specs.declared.judgement.Judgement.{Judgement}
use Rattle.cert_judge.specs.declared.judgement.Judgement.TheVariants.{BadLine, Inconsistent, WildGuess, WrongSize, UnseenAnswer, Figure, Fixes, Beaten}
use Rattle.cert_judge.specs.Transcripts.{log_of, IsFirstInconsistent}
use Rattle.cert_judge.specs.Figures.{HasItsFigures, IsFirstFigure}

-- the judge's word on the answer Y: whether it is fixed, or fixed to be within a factor, where there is one
abbrev pub JudgesBy : Option Factor → (List ℕ → ℕ) → ℕ → Log → List ℕ → Result Verdict JudgeFault → Type 0
JudgesBy None V k log Y result = Judges V k log Y result
JudgesBy (Some factor) V k log Y result = JudgesWithin V k factor log Y result

-- some table agrees with the certificate's accesses, and this is the judge's word on its answer, within the factor that it says
pub record IsJudged (c : Certificate) (result : Result Verdict JudgeFault) : Type 0 where
  pub consistent : IsConsistent (log_of c)
  pub judged : JudgesBy (guaranteed c) (value c.query.expr) c.query.k (log_of c) (item_objects c.items) result

-- the bundle is the table against the object inside, under the query's names and with its text
pub record IsCounterOf (c : Certificate) (inside : ℕ) (counter : Bundle) : Type 0 where
  pub names : (content counter).names ≡ c.query.names
  pub lists : (content counter).lists ≡ counter_table (list_count c.query.expr) c.count c.accesses inside
  pub query : (content counter).query ≡ printed c.query

-- what is told of a certificate: the first fault of its accesses, of its answer, of its figures, or the verdict
abbrev pub TellsOfCertificate : Certificate → Judgement → Type 0
TellsOfCertificate c (BadLine line) = ⊥
TellsOfCertificate c (Inconsistent at kind) = IsFirstInconsistent (list_count c.query.expr) c.count c.accesses at kind
TellsOfCertificate c (WildGuess at) = IsJudged c (Err (fault.WildGuess at))
TellsOfCertificate c (WrongSize given k) = IsJudged c (Err (fault.WrongSize given k))
TellsOfCertificate c (UnseenAnswer object) = IsJudged c (Err (fault.UnseenAnswer object))
TellsOfCertificate c (Figure line) = IsConsistent (log_of c) × IsFair c.query.k c.accesses (item_objects c.items) × IsFirstFigure c line
TellsOfCertificate c Fixes = IsJudged c (Ok verdict.Fixes) × HasItsFigures c
TellsOfCertificate c (Beaten inside outside low high counter) =
    IsJudged c (Ok (verdict.Beaten inside outside low high)) × HasItsFigures c × IsCounterOf c inside counter

-- the lines are a certificate's, and this is told of the certificate that they spell
pub record TellsOfIts (ls : List (List ℕ)) (told : Judgement) : Type 0 where
  pub some : (c : Certificate) × Spells ls c
  pub each : (c : Certificate) → Spells ls c → TellsOfCertificate c told

-- the lines are no certificate's, and the line told is the first at fault; or this is told of their certificate
abbrev pub Tells : List (List ℕ) → Judgement → Type 0
Tells ls (BadLine line) = ((c : Certificate) → ¬ Spells ls c) × IsFirstFault ls line
Tells ls (Inconsistent at kind) = TellsOfIts ls (Inconsistent at kind)
Tells ls (WildGuess at) = TellsOfIts ls (WildGuess at)
Tells ls (WrongSize given k) = TellsOfIts ls (WrongSize given k)
Tells ls (UnseenAnswer object) = TellsOfIts ls (UnseenAnswer object)
Tells ls (Figure line) = TellsOfIts ls (Figure line)
Tells ls Fixes = TellsOfIts ls Fixes
Tells ls (Beaten inside outside low high counter) = TellsOfIts ls (Beaten inside outside low high counter)
