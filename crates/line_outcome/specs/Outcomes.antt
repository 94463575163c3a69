-- The outcome of a query line by how its query ended.
use Rattle.std.specs.Prelude.{ℕ, Option, None, Some, option_map}
use Rattle.machine_base.specs.declared.core_fault.CoreFault.{CoreFault}
use Rattle.machine_base.specs.declared.core_fault.CoreFault.TheVariants as core
use Rattle.cert_text.specs.declared.outcome.Outcome.{Outcome}
use Rattle.cert_text.specs.declared.outcome.Outcome.TheVariants.{Answered, Refused}
use Rattle.cert_text.specs.declared.refusal.Refusal.{Refusal}
use Rattle.cert_text.specs.declared.refusal.Refusal.TheVariants as refusal
use Rattle.source_state.specs.declared.entry.SourceFault.{SourceFault}
use Rattle.source_state.specs.declared.entry.SourceFault.TheVariants as fault
use Rattle.source_state.specs.declared.look.LookFault.{LookFault}
use Rattle.source_api.specs.declared.source.FailKind.TheVariants as kind
use Rattle.source_state.specs.declared.look.LookFault.TheVariants as look
use Rattle.query_run.specs.declared.ended.Ended.{Ended}
use Rattle.query_run.specs.declared.ended.Ended.TheVariants as ended

-- the refusal of a query that has no room for an object
abbrev pub core_refusal : CoreFault → Refusal
core_refusal (core.Strangers object count) = refusal.Strangers object count
core_refusal (core.RoomFull room) = refusal.RoomFull room

-- the refusal of a query that needs what is at fault with the source of a list
abbrev pub source_refusal : ℕ → SourceFault → Refusal
source_refusal list (fault.OutOfOrder place before after) = refusal.OutOfOrder list place before after
source_refusal list (fault.TooHigh place grade) = refusal.TooHigh list place grade
source_refusal list (fault.Repeated object place) = refusal.Repeated list object place
source_refusal list (fault.Clash object sorted random) = refusal.Clash list object sorted random
source_refusal list (fault.Above object grade bottom) = refusal.Above list object grade bottom
source_refusal list (fault.ShortList stated got) = refusal.ShortList list stated got
source_refusal list (fault.Moved had now) = refusal.Moved list had now

-- the refusal of a query that needs of a list what can't be had; none for lack of memory
abbrev pub look_refusal : ℕ → LookFault → Option Refusal
look_refusal list (look.Source fault) = Some (source_refusal list fault)
look_refusal list (look.Missing object) = Some (refusal.Missing list object)
look_refusal list (look.AsksFull kept) = Some (refusal.AsksFull list kept)
look_refusal list (look.Call kind.Failed) = Some (refusal.Failed list)
look_refusal list (look.Call kind.Garbled) = Some (refusal.Garbled list)
look_refusal list (look.Call kind.Memory) = None

-- the outcome of a query that ended so; none for lack of memory
abbrev pub ended_outcome : Ended → Option Outcome
ended_outcome (ended.Answered answer) = Some (Answered answer)
ended_outcome (ended.Core fault) = Some (Refused (core_refusal fault))
ended_outcome (ended.Look list fault) = option_map Refused (look_refusal list fault)
