-- Replies as the code keeps them.
use Rattle.std.specs.Prelude.{◌≡◌, ◌⊎◌, ℕ, List, Some}
use Rattle.std.specs.Io.KnownBytes.{Keeps}
use Rattle.topk_base.specs.Lines.{lines}
use Rattle.bundle_text.specs.Bundle.{Content, Spells, IsFirstFault}
use Rattle.cert_text.specs.declared.outcome.Outcome.{Outcome}
use Rattle.cert_text.specs.Outcome.{IsOutcome, outcome_text}
use Rattle.query_admission.specs.declared.line_outcome.LineOutcome.{LineOutcome}
use Rattle.query_core.specs.declared.ready.Ready.{Ready}
use Rattle.query_admission.specs.Becomes.{Becomes}
use Rattle.command_line.specs.Calls.{Output}
use Rattle.command_line.specs.Ends.{Replying, Says}
use Rattle.command_line.specs.declared.status.Status.{Status}
use Rattle.command_line.specs.declared.status.Status.TheVariants.{BadInput, Memory}
use Rattle.bundle_calls.specs.declared.replies.Reply.{Reply}
use Rattle.bundle_calls.specs.declared.replies.Reply.TheVariants.{NoBundle, Line}
use Rattle.bundle_calls.specs.Bundled.{bundle_line}
use Rattle.bundle_calls.specs.Reply.{bundle_refused_text, outcome_status}

-- what becomes of a bundle's query line, and can be written
pub record IsLineOf (c : Content) (line : LineOutcome) : Type 0 where
  pub becomes : Becomes (bundle_line c) line.query line.count line.versions line.outcome
  pub writable : IsOutcome line.query line.versions line.outcome

-- what becomes of a query that is ready over a bundle's lists, and can be written
pub record BecomesOf (c : Content) (ready : Ready) (outcome : Outcome) : Type 0 where
  pub becomes : Becomes (bundle_line c) (Some ready.query) ready.count ready.versions.items outcome
  pub writable : IsOutcome (Some ready.query) ready.versions.items outcome

-- the reply to these lines
abbrev pub IsReplyTo : List (List ℕ) → Reply → Type 0
IsReplyTo ls (NoBundle line) = ((c : Content) → ¬ Spells ls c) × IsFirstFault ls line
IsReplyTo ls (Line line) = (c : Content) × Spells ls c × IsLineOf c line

-- the reply to an input of these bytes
abbrev pub IsReply : List ℕ → Reply → Type 0
IsReply bytes reply = IsReplyTo (lines bytes) reply

-- the text of a reply, and its status
abbrev pub reply_text : Reply → List ℕ
reply_text (NoBundle line) = bundle_refused_text line
reply_text (Line line) = outcome_text 1 line.query line.count line.versions line.outcome

abbrev pub reply_status : Reply → Status
reply_status (NoBundle line) = BadInput
reply_status (Line line) = outcome_status line.outcome

-- a reply can be written
abbrev pub IsWritable : Reply → Type 0
IsWritable (NoBundle line) = Unit {0}
IsWritable (Line line) = IsOutcome line.query line.versions line.outcome

-- such a reply was said, or nothing for lack of memory
abbrev pub SaysSome : (Status → List ℕ → Type 0) → Output → Output → Status → Type 0
SaysSome replies before now end =
    ((end ≡ Memory) × Keeps before.held now.held × (now.faults ≡ before.faults))
    ⊎ ((status : Status) × (text : List ℕ) × replies status text × Says before now text status end)

-- the reply to these bytes was said, or nothing for lack of memory
abbrev pub SaysReply : Replying → List ℕ → Output → Output → Status → Type 0
SaysReply replies bytes before now end = SaysSome (replies bytes) before now end
