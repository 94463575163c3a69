-- A call ends as its command does.
use Rattle.std.proofs.Common.{◌≡◌, Option, Some, None, inl, inr, sym, subst}
use Rattle.command_line.specs.Commands.{command_of}
use Rattle.command_line.specs.declared.command.Command.{Command}
use Rattle.command_line.specs.declared.command.Command.TheVariants.{One, Judge, Compare, Make, Run, Bulk, Node, Serve}
use Rattle.topk_top.specs.Ends.{words_refused_text, CommandEnds, EndsRefused, CallEnds}
use Rattle.command_line.specs.Calls.{Call, KeepsShelf, LeftAlone, WroteNothing}
use Rattle.command_line.specs.Ends.{Says}
use Rattle.command_line.specs.declared.status.Status.{Status}
use Rattle.command_line.specs.declared.status.Status.TheVariants.{BadWords, Memory}
use Rattle.catalog_run.proofs.RunEnding.{refused_kept}
use Rattle.topk_top.specs.Claim.{CommandProves}
use Rattle.topk_top.proofs.Proving.{command_proves}
use Rattle.port_calls.specs.Ports.{Ports, KeepsPort}
use Rattle.command_line.proofs.Ending.{read_none}

-- what is said where words are refused ends so
pub ends_refused : (c : Call) (result : Status) → LeftAlone c
    → Says c.before.output c.after.output words_refused_text BadWords result → EndsRefused c result
ends_refused c result alone said = elim said [
  | inl whole ↦ subst (λ s. EndsRefused c s) (sym whole.0) (alone, record { held = whole.1; faults = whole.2 })
  | inr front ↦ subst (λ s. EndsRefused c s) (sym front.0) (alone, record { held = front.1; faults = front.2 })
]

-- memory may run out before the words are known
pub ends_without_memory : (command : Option Command) (c : Call) (p : Ports) → KeepsPort p → KeepsShelf c → LeftAlone c → WroteNothing c
    → CommandEnds command c p Memory
ends_without_memory None c p port kept alone nothing = (port, kept, (alone, nothing))
ends_without_memory (Some One) c p port kept alone nothing = (port, kept, (read_none c alone, nothing))
ends_without_memory (Some Judge) c p port kept alone nothing = (port, kept, (read_none c alone, nothing))
ends_without_memory (Some Compare) c p port kept alone nothing = (port, kept, (read_none c alone, nothing))
ends_without_memory (Some (Make options)) c p port kept alone nothing = (port, kept, (alone, nothing))
ends_without_memory (Some (Bulk options)) c p port kept alone nothing = (port, kept, (alone, nothing))
ends_without_memory (Some (Run options)) c p port kept alone nothing =
    (port, inl (refused_kept options.catalog c.before.shelf c.after.shelf kept, alone, nothing))
ends_without_memory (Some (Node options)) c p port kept alone nothing =
    (alone, inl (refused_kept options.catalog c.before.shelf c.after.shelf kept, port, nothing))
ends_without_memory (Some (Serve options)) c p port kept alone nothing =
    (alone, inl (refused_kept options.catalog c.before.shelf c.after.shelf kept, port, nothing))

-- a call ends as its command does
pub ends_as : (command : Option Command) (c : Call) (p : Ports) (status : Status) → command_of c.words ≡ command → CommandEnds command c p status
    → CallEnds c p status
ends_as command c p status is ends = record {
  ends = subst (λ o. CommandEnds o c p status) (sym is) ends;
  proves = subst (λ o. CommandProves o c status) (sym is) (command_proves command c p status ends);
}
