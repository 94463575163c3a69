-- What `one` and `run` write is proved.
use Rattle.std.proofs.Common.{ℕ, ◌+◌, ◌++◌, List, [], ◌∷◌, map, All, Option, None, Some, inl, inr, refl, sym, ap, subst, append-nil}
use Rattle.std.proofs.lemmas.List.Elements.{All-nil, All-cons, All-head, All-tail}
use Rattle.query_text.specs.declared.query.Query.{Query}
use Rattle.cert_text.specs.declared.outcome.Outcome.{Outcome}
use Rattle.cert_text.specs.declared.outcome.Outcome.TheVariants.{Answered, Refused}
use Rattle.cert_text.specs.Outcome.{outcome_text}
use Rattle.query_core.specs.Claim.{IsProvedText, IsProvedWhole}
use Rattle.query_core.proofs.ClaimLaws.{refusal_proved, answer_proved}
use Rattle.query_admission.specs.View.{sorted_at}
use Rattle.query_admission.specs.Becomes.{Becomes}
use Rattle.query_admission.specs.declared.line_outcome.LineOutcome.{LineOutcome}
use Rattle.command_line.specs.Calls.{Call}
use Rattle.command_line.specs.Shelves.{Shelf}
use Rattle.command_line.specs.declared.command.Command.{Command}
use Rattle.command_line.specs.declared.command.Command.TheVariants.{One, Judge, Compare, Make, Run, Bulk, Node, Serve}
use Rattle.command_line.specs.declared.running.RunOptions.{RunOptions}
use Rattle.command_line.specs.declared.status.Status.{Status}
use Rattle.command_line.specs.declared.status.Status.TheVariants as status
use Rattle.port_calls.specs.Ports.{Ports}
use Rattle.topk_base.specs.Lines.{lines}
use Rattle.topk_base.specs.declared.settings.Settings.{Settings}
use Rattle.bundle_text.specs.Bundle.{Content}
use Rattle.bundle_calls.specs.Bundled.{bundle_line}
use Rattle.bundle_calls.specs.Reply.{Replies, RepliesToBundle}
use Rattle.catalog_run.specs.Runs.{CatalogRun}
use Rattle.catalog_run.specs.Running.{RepliesToLines, lines_run, outcomes_text}
use Rattle.catalog_run.specs.RunEnds.{EndsRunning}
use Rattle.command_line.specs.Ends.{EndsReading}
use Rattle.topk_top.specs.Answers.{is_sorted, IsRightLine}
use Rattle.topk_top.specs.Ends.{CommandEnds}
use Rattle.topk_top.specs.Claim.{ProvesBy, CommandProves}
use Rattle.topk_top.proofs.Right.{lines_right}

-- what is written of a line is proved where its answer is right
line_proved : (r : CatalogRun) (line : ℕ) (query : Option Query) (count : ℕ) (versions : List ℕ) (outcome : Outcome)
    → IsRightLine r (record { query = query; count = count; versions = versions; outcome = outcome }) → IsProvedText (outcome_text line query count versions outcome)
line_proved r line query count versions (Refused refusal) right = refusal_proved line query count versions refusal
line_proved r line query count versions (Answered answer) right =
    let is = right answer refl in
    subst (λ o. IsProvedText (outcome_text line o count versions (Answered answer))) (sym is.1)
    (answer_proved (map (is_sorted r.catalog) is.0.names) line is.0 count versions answer is.2.answered)

-- and of lines
lines_proved : (r : CatalogRun) (number : ℕ) (outcomes : List LineOutcome) → All (IsRightLine r) outcomes → IsProvedWhole (outcomes_text number outcomes)
lines_proved r number [] right = ([], refl, All-nil IsProvedText)
lines_proved r number (o ∷ outcomes) right =
    let rest = lines_proved r (number + 1) outcomes (All-tail (IsRightLine r) o outcomes right) in
    let text = outcome_text number o.query o.count o.versions o.outcome in (
      text ∷ rest.0,
      ap (λ said. text ++ said) rest.1,
      All-cons IsProvedText text rest.0 (line_proved r number o.query o.count o.versions o.outcome (All-head (IsRightLine r) o outcomes right)) rest.2,
    )

alone : (text : List ℕ) → IsProvedText text → IsProvedWhole text
alone text is = (text ∷ [], sym (append-nil text), All-cons IsProvedText text [] is (All-nil IsProvedText))

-- the reply to a bundle's line is proved
becomes_proved : (content : Content) (query : Option Query) (count : ℕ) (versions : List ℕ) (outcome : Outcome)
    → Becomes (bundle_line content) query count versions outcome → IsProvedText (outcome_text 1 query count versions outcome)
becomes_proved content query count versions (Refused refusal) becomes = refusal_proved 1 query count versions refusal
becomes_proved content None count versions (Answered answer) becomes = absurd becomes
becomes_proved content (Some query) count versions (Answered answer) becomes =
    answer_proved (sorted_at becomes.lists) 1 query count versions answer becomes.right

bundle_proved : (ls : List (List ℕ)) (said : Status) (text : List ℕ) → RepliesToBundle ls said text → IsProvedWhole text
bundle_proved ls said text is =
    subst IsProvedWhole (sym is.text_is) (alone (outcome_text 1 is.query is.count is.versions is.outcome)
    (becomes_proved is.content is.query is.count is.versions is.outcome is.becomes))

done_proved : (bytes text : List ℕ) → Replies bytes status.Done text → IsProvedWhole text
done_proved bytes text (inl bundle) = absurd (let e = bundle.status_is in cc)
done_proved bytes text (inr line) = bundle_proved (lines bytes) status.Done text line

partial_proved : (bytes text : List ℕ) → Replies bytes status.Partial text → IsProvedWhole text
partial_proved bytes text (inl bundle) = absurd (let e = bundle.status_is in cc)
partial_proved bytes text (inr line) = bundle_proved (lines bytes) status.Partial text line

one_proves : (c : Call) (s : Status) → EndsReading Replies c s → ProvesBy c s
one_proves c status.Done (bytes, text, read, replies, wrote) = (text, wrote, done_proved bytes text replies)
one_proves c status.Partial (bytes, text, read, replies, wrote) = (text, wrote, partial_proved bytes text replies)
one_proves c status.BadWords ends = tt
one_proves c status.BadCatalog ends = tt
one_proves c status.ReadFault ends = tt
one_proves c status.WriteFault ends = tt
one_proves c status.OpenFault ends = tt
one_proves c status.PortFault ends = tt
one_proves c status.Memory ends = tt
one_proves c status.LongInput ends = tt
one_proves c status.BadInput ends = tt

replied_proved : (settings : Settings) (text bytes : List ℕ) (before after : Shelf) (s : Status) (said : List ℕ)
    → RepliesToLines settings text bytes before after s said → IsProvedWhole said
replied_proved settings text bytes before after s said is =
    let r = lines_run settings is.catalog (lines bytes) before after in
    subst IsProvedWhole (sym is.said_is) (lines_proved r 1 is.outcomes (lines_right r is.outcomes is.run))

run_proves : (o : RunOptions) (c : Call) (s : Status) → EndsRunning o c s → ProvesBy c s
run_proves o c status.Done ends =
    let ran = ends.3 in (
      ran.0,
      record { held = ran.2.held; faults = ran.2.faults },
      replied_proved o.settings ends.0 ran.1.bytes ends.1 c.after.shelf status.Done ran.0 ran.1.replies,
    )
run_proves o c status.Partial ends =
    let ran = ends.3 in (
      ran.0,
      record { held = ran.2.held; faults = ran.2.faults },
      replied_proved o.settings ends.0 ran.1.bytes ends.1 c.after.shelf status.Partial ran.0 ran.1.replies,
    )
run_proves o c status.BadWords ends = tt
run_proves o c status.BadCatalog ends = tt
run_proves o c status.ReadFault ends = tt
run_proves o c status.WriteFault ends = tt
run_proves o c status.OpenFault ends = tt
run_proves o c status.PortFault ends = tt
run_proves o c status.Memory ends = tt
run_proves o c status.LongInput ends = tt
run_proves o c status.BadInput ends = tt

-- what a command has written is proved
pub command_proves : (o : Option Command) (c : Call) (p : Ports) (s : Status) → CommandEnds o c p s → CommandProves o c s
command_proves None c p s ends = tt
command_proves (Some One) c p s ends = one_proves c s ends.2
command_proves (Some Judge) c p s ends = tt
command_proves (Some Compare) c p s ends = tt
command_proves (Some (Make options)) c p s ends = tt
command_proves (Some (Run options)) c p s ends = run_proves options c s ends.1
command_proves (Some (Bulk options)) c p s ends = tt
command_proves (Some (Node options)) c p s ends = tt
command_proves (Some (Serve options)) c p s ends = tt
