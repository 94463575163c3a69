-- How faults end a run of query lines: of the text that should be a catalog, of the shelf that should give it, of the input.
use Rattle.std.specs.Prelude.{◌≡◌, codes}
use Rattle.std.specs.Io.KnownBytes.{Keeps}
use Rattle.command_line.specs.declared.status.Status.{Status}
use Rattle.command_line.specs.declared.status.Status.TheVariants.{BadCatalog, Memory, LongInput, OpenFault, ReadFault}
use Rattle.catalog_text.specs.declared.catalog.CatalogFault.{CatalogFault}
use Rattle.catalog_text.specs.declared.catalog.CatalogFault.TheVariants.{CatalogLine, SameName, Memory as NoMemory}
use Rattle.source_api.specs.declared.source.Trouble.{Trouble}
use Rattle.source_api.specs.declared.source.Trouble.TheVariants.{Fail}
use Rattle.source_api.specs.declared.source.FailKind.TheVariants as fails
use Rattle.tk_io.specs.declared.whole.ReadError.{ReadError}
use Rattle.tk_io.specs.declared.whole.ReadError.TheVariants as read
use Rattle.command_line.specs.Calls.{Output}
use Rattle.command_line.specs.Ends.{Says}
use Rattle.catalog_run.specs.Running.{catalog_refused_text}

-- how a call ends for a fault of a text that should be a catalog: the fault is said, or nothing for lack of memory
abbrev pub SaysFault : Output → Output → CatalogFault → Status → Type 0
SaysFault before now (CatalogLine line) end = Says before now (catalog_refused_text (codes "CatalogLine") line) BadCatalog end
SaysFault before now (SameName line) end = Says before now (catalog_refused_text (codes "SameName") line) BadCatalog end
SaysFault before now NoMemory end = (end ≡ Memory) × Keeps before.held now.held × (now.faults ≡ before.faults)

-- the status where a shelf failed to give the catalog's text so
abbrev pub text_status : Trouble → Status
text_status (Fail fails.Memory) = Memory
text_status _ = OpenFault

-- the status where the input wasn't read to its end
abbrev pub read_status : ReadError → Status
read_status read.Failed = ReadFault
read_status read.Long = LongInput
read_status read.Memory = Memory
