-- What a node writes.
use Rattle.std.specs.Prelude.{◌≡◌, ℕ, List, [], ◌∷◌, codes}
use Rattle.std.specs.List.{concat}
use Rattle.std.specs.Fmt.{decimal}
use Rattle.std.specs.Io.KnownBytes.{Keeps}
use Rattle.command_line.specs.Calls.{Output}
use Rattle.command_line.specs.Ends.{Says}
use Rattle.command_line.specs.declared.status.Status.{Status}
use Rattle.command_line.specs.declared.status.Status.TheVariants.{Done, PortFault as AtFault}
use Rattle.source_node.specs.declared.serving.Served.{Served}
use Rattle.source_node.specs.declared.serving.Served.TheVariants.{Ended, PortFault}

-- `served COUNT`
abbrev pub served_text : ℕ → List ℕ
served_text count = concat (codes "served " ∷ decimal count ∷ codes "\n" ∷ [])

-- `refused node UnknownList NAME`
abbrev pub unlisted_text : List ℕ → List ℕ
unlisted_text name = concat (codes "refused node UnknownList " ∷ name ∷ codes "\n" ∷ [])

-- what is said of links that were served: how many they are, or nothing where the port failed
abbrev pub SaysServed : Output → Output → Served → Status → Type 0
SaysServed before now (Ended count) end = Says before now (served_text count) Done end
SaysServed before now PortFault end = (end ≡ AtFault) × Keeps before.held now.held × (now.faults ≡ before.faults)
