-- How a top call ends, by its words and its status.
use Rattle.std.specs.Prelude.{◌≡◌, ℕ, List, Option, Some, None, codes}
use Rattle.command_line.specs.Commands.{command_of}
use Rattle.command_line.specs.declared.command.Command.{Command}
use Rattle.command_line.specs.declared.command.Command.TheVariants.{One, Judge, Compare, Make, Run, Bulk, Node, Serve}
use Rattle.command_line.specs.Calls.{Call, LeftAlone, KeepsShelf, WroteNothing, WroteWhole, WroteFront}
use Rattle.catalog_run.specs.RunEnds.{EndsRunning}
use Rattle.bulk_run.specs.Bulk.{bulk_text}
use Rattle.port_calls.specs.Ports.{Ports, KeepsPort}
use Rattle.port_calls.specs.NodeEnds.{EndsNode}
use Rattle.port_calls.specs.ServeEnds.{EndsServe}
use Rattle.command_line.specs.Codes.{exit_code}
use Rattle.bundle_calls.specs.Made.{made_text}
use Rattle.bundle_calls.specs.Reply.{Replies}
use Rattle.bundle_calls.specs.Judge.{JudgeReplies}
use Rattle.bundle_calls.specs.Compare.{Compares}
use Rattle.command_line.specs.declared.status.Status.{Status}
use Rattle.command_line.specs.declared.status.Status.TheVariants.{BadWords, Memory}
use Rattle.command_line.specs.declared.status.Status.TheVariants.{WriteFault}
use Rattle.command_line.specs.Ends.{EndsReading, EndsWriting}
use Rattle.topk_top.specs.Claim.{Proves}

-- `refused words`
abbrev pub words_refused_text : List ℕ
words_refused_text = codes "refused words\n"

-- how words end that are no command
abbrev pub EndsRefused : Call → Status → Type 0
EndsRefused c BadWords = LeftAlone c × WroteWhole c words_refused_text
EndsRefused c WriteFault = LeftAlone c × WroteFront c words_refused_text
EndsRefused c Memory = LeftAlone c × WroteNothing c
EndsRefused _ _ = ⊥

-- how each command ends, and words that are none; only a command that takes connections asks anything of the port
abbrev pub CommandEnds : Option Command → Call → Ports → Status → Type 0
CommandEnds None c p status = KeepsPort p × KeepsShelf c × EndsRefused c status
CommandEnds (Some One) c p status = KeepsPort p × KeepsShelf c × EndsReading Replies c status
CommandEnds (Some Judge) c p status = KeepsPort p × KeepsShelf c × EndsReading JudgeReplies c status
CommandEnds (Some Compare) c p status = KeepsPort p × KeepsShelf c × EndsReading Compares c status
CommandEnds (Some (Make options)) c p status = KeepsPort p × KeepsShelf c × EndsWriting (made_text options.start options.count options.lists) c status
CommandEnds (Some (Run options)) c p status = KeepsPort p × EndsRunning options c status
CommandEnds (Some (Bulk options)) c p status = KeepsPort p × KeepsShelf c × EndsWriting (bulk_text options) c status
CommandEnds (Some (Node options)) c p status = LeftAlone c × EndsNode options c p status
CommandEnds (Some (Serve options)) c p status = LeftAlone c × EndsServe options c p status

-- how a call ends: as its command does, and what it wrote of query lines is proved
pub record CallEnds (c : Call) (p : Ports) (status : Status) : Type 0 where
  pub ends : CommandEnds (command_of c.words) c p status
  pub proves : Proves c status

-- the exit status tells how the call ended
abbrev pub ExitsBy : Call → Ports → ℕ → Type 0
ExitsBy c p code = (status : Status) × CallEnds c p status × (code ≡ exit_code status)
