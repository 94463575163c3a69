-- What a judge tells of the certificates of right answers.
use Rattle.std.specs.Prelude.{◌≡◌, ◌+◌, ◌<◌, ◌≤◌, ◌^◌, ℕ, ⊤, List, length, All, Some, codes, slice_get}
use Rattle.tk_io.specs.Faults.{Rose}
use Rattle.topk_base.specs.Lines.{lines}
use Rattle.bundle_text.specs.declared.bundle.Bundle.{Bundle}
use Rattle.bundle_text.specs.Bundle.{content, IsBundle}
use Rattle.topk_theory.specs.Transcript.{object_of}
use Rattle.machine_base.specs.declared.answer.Answer.{Answer}
use Rattle.cert_text.specs.declared.certificate.Certificate.{Certificate}
use Rattle.cert_text.specs.declared.outcome.Outcome.TheVariants.{Answered}
use Rattle.cert_text.specs.Reading.{Spells}
use Rattle.cert_judge.specs.declared.judgement.Judgement.TheVariants.{Fixes, Beaten}
use Rattle.cert_judge.specs.Figures.{HasItsFigures}
use Rattle.cert_judge.specs.Judging.{Tells}
use Rattle.source_pool.specs.declared.hold.Hold.{Hold}
use Rattle.query_admission.specs.View.{View}
use Rattle.query_admission.specs.declared.line_outcome.LineOutcome.{LineOutcome}
use Rattle.catalog_run.specs.Runs.{CatalogRun, IsRun}
use Rattle.catalog_run.specs.Running.{line_text}
use Rattle.server_conn.specs.Becoming.{LineSaid, IsLineTold}
use Rattle.server_conn.specs.Answers.{LineAnswer, IsAnswered}
use Rattle.command_line.specs.Calls.{Call, WroteWhole, input_limit}
use Rattle.command_line.specs.Ends.{EndsReading}
use Rattle.command_line.specs.declared.status.Status.{Status}
use Rattle.command_line.specs.declared.status.Status.TheVariants.{Done, Memory, ReadFault, WriteFault}
use Rattle.bundle_calls.specs.Reply.{Replies}
use Rattle.bundle_calls.specs.Judge.{JudgeReplies}

-- by its status a call wrote `fixes`, or a stream failed, or memory ran out
abbrev pub SaysFixes : Call → Status → Type 0
SaysFixes c Done = WroteWhole c (codes "fixes\n")
SaysFixes c ReadFault = Rose c.before.input.faults c.after.input.faults
SaysFixes c WriteFault = Rose c.before.output.faults c.after.output.faults
SaysFixes c Memory = ⊤
SaysFixes _ _ = ⊥

-- the text spells a certificate in which each figure is the one that its accesses give; a judge tells of it that its answer is fixed, and nothing else; so
-- each call of `judge` whose input it is, no longer than an input may be, says `fixes`
pub record IsFixedText (text : List ℕ) : Type 0 where
  pub spelled : (c : Certificate) × Spells (lines text) c × HasItsFigures c
  pub fixed : Tells (lines text) Fixes
  pub replied : JudgeReplies text Done (codes "fixes\n")
  pub alone : (status : Status) (said : List ℕ) → JudgeReplies text status said → (status ≡ Done) × (said ≡ codes "fixes\n")
  pub judged : (c : Call) (status : Status) → c.before.input.left ≡ Some text → length text ≤ input_limit → EndsReading JudgeReplies c status → SaysFixes c status

-- the numbers of an answer fit their types in the code: the versions of its lists have 64 bits, and the objects that were read have 32
pub record FitsItsTypes (versions : List ℕ) (answer : Answer) : Type 0 where
  pub each_version : All (λ version. version < 2 ^ 64) versions
  pub each_object : All (λ access. object_of access < 2 ^ 32) answer.transcript.accesses

-- where a line is answered, and the numbers fit their types, this text is a certificate that is fixed
abbrev pub IsFixedIfAnswered : LineOutcome → List ℕ → Type 0
IsFixedIfAnswered o text = (answer : Answer) → o.outcome ≡ Answered answer → FitsItsTypes o.versions answer → IsFixedText text

-- the certificates that are written are fixed: of `one` the text that answers a bundle's query; of `run` the text of each line that is answered, by the line's
-- place; of `serve` what is told of a line that is answered, and what a worker remembers of one
pub record AnswersAreFixed : Type 0 where
  pub one : (bytes text : List ℕ) → Replies bytes Done text → IsFixedText text
  pub run : (r : CatalogRun) (outcomes : List LineOutcome) → IsRun r outcomes → (at : ℕ) (o : LineOutcome) → slice_get outcomes at ≡ Some o
      → IsFixedIfAnswered o (line_text (at + 1) o)
  pub serve : (view : View) (line : List ℕ) (before now : List Hold) (told : LineSaid) (is : IsLineTold view line before now told)
      → IsFixedIfAnswered is.outcome told.text
  pub again : (view : View) (holds : List Hold) (answer : LineAnswer) (is : IsAnswered view holds answer) → IsFixedIfAnswered is.outcome answer.text

-- the table that is told to beat an answer is a bundle, which `one` reads
abbrev pub CountersAreBundles : Type 0
CountersAreBundles =
    (bytes : List ℕ) (inside outside low high : ℕ) (counter : Bundle) → Tells (lines bytes) (Beaten inside outside low high counter)
    → IsBundle (content counter)
