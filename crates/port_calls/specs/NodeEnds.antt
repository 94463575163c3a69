-- How a node ends, by its status.
use Rattle.std.specs.Prelude.{◌≡◌, ◌⊎◌, ℕ, List, Some, None, IfSome}
use Rattle.tk_io.specs.Faults.{Rose}
use Rattle.csv_records.specs.Records.{records_of}
use Rattle.catalog_text.specs.Catalog.{Listed as Entry, IsCatalog}
use Rattle.command_line.specs.declared.node.NodeOptions.{NodeOptions}
use Rattle.source_api.specs.Counting.{no_counts}
use Rattle.source_api.specs.Places.{CountsTakes, SameElsewhere, counts_taken, with_source}
use Rattle.source_node.specs.Serving.{Seen}
use Rattle.source_node.specs.ServingLinks.{ServedAll, ServedSome}
use Rattle.source_node.specs.declared.serving.Served.{Served}
use Rattle.source_node.specs.declared.serving.Served.TheVariants.{Ended, PortFault as AtFault}
use Rattle.command_line.specs.Calls.{Call, KeepsShelf, WroteNothing, WroteWhole, WroteFront}
use Rattle.command_line.specs.Shelves.{Shelf, TellsTheSame, GivesText, TextFailed, TextRefused}
use Rattle.command_line.specs.declared.status.Status.{Status}
use Rattle.command_line.specs.declared.status.Status.TheVariants.{Done, Partial, BadCatalog, WriteFault, OpenFault, PortFault, Memory}
use Rattle.catalog_run.specs.Running.{RefusesCatalog}
use Rattle.catalog_run.specs.RunEnds.{from_shelf}
use Rattle.port_calls.specs.Named.{place_named}
use Rattle.port_calls.specs.NodeTexts.{served_text, unlisted_text}
use Rattle.port_calls.specs.Ports.{Ports, KeepsPort, listening}

-- the source of a place was taken of a shelf, and put back when it had become this one; nothing was counted at other places
pub record Borrows (place : List ℕ) (before now : Shelf) (source source_now : Seen) : Type 0 where
  pub tells : TellsTheSame before now
  pub fresh : source.counts ≡ no_counts
  pub unasked : source.at_hand ≡ 0
  pub list : IfSome (before.lists place) (λ told. source.list ≡ Some told)
  pub states : IfSome (before.versions place) (λ told. source.states ≡ Some told)
  pub here : now.at place ≡ with_source source_now.counts (counts_taken (before.at place))
  pub elsewhere : SameElsewhere place before.at now.at

-- the source of a place was asked of a shelf, which gave none: its count of failed takes may have gone up there, and nothing else was counted
pub record TakesNone (place : List ℕ) (before now : Shelf) : Type 0 where
  pub tells : TellsTheSame before now
  pub here : CountsTakes (before.at place) (now.at place)
  pub untaken : (now.at place).taken ≡ (before.at place).taken
  pub elsewhere : SameElsewhere place before.at now.at

-- it failed to give one: its count of failed takes of this place went up, or stands at its last value
pub record TakeFailed (place : List ℕ) (before now : Shelf) : Type 0 where
  pub none : TakesNone place before now
  pub rose : Rose (before.at place).take_faults (now.at place).take_faults

-- it gave none for lack of memory, which counts nothing
pub record TakeRefused (place : List ℕ) (before now : Shelf) : Type 0 where
  pub none : TakesNone place before now
  pub same : now.at place ≡ before.at place

-- the port failed to listen at this number: it was asked for no link, and the source wasn't asked
pub record ListenFailed (number : ℕ) (p : Ports) (source source_now : Seen) : Type 0 where
  pub links : p.after.links ≡ p.before.links
  pub closed : p.after.closed ≡ p.before.closed
  pub rose : Rose p.before.faults p.after.faults
  pub calls : p.after.calls ≡ (listening number p.before).calls
  pub same : source_now ≡ source

-- how a source is served at a port, which listens at the number of the options: to so many links as are asked for or as come, each of which gets what a
-- connection of a node gets; or the port failed
abbrev pub ServesAt : NodeOptions → Ports → Seen → Seen → Served → Type 0
ServesAt o p source source_now (Ended count) =
    ServedAll o.name o.version o.listening.conns (listening o.listening.at p.before) p.after source source_now count
ServesAt o p source source_now AtFault =
    ListenFailed o.listening.at p source source_now
    ⊎ ServedSome o.name o.version o.listening.conns (listening o.listening.at p.before) p.after source source_now

-- the source of a place was taken, served at the port and put back
pub record ServesPlace (o : NodeOptions) (place : List ℕ) (c : Call) (p : Ports) (served : Served) : Type 0 where
  pub source : Seen
  pub source_now : Seen
  pub borrows : Borrows place c.before.shelf c.after.shelf source source_now
  pub serves : ServesAt o p source source_now served

-- how a node ends whose list is at this place
abbrev pub EndsAtPlace : NodeOptions → List ℕ → Call → Ports → Status → Type 0
EndsAtPlace o place c p Done = (count : ℕ) × ServesPlace o place c p (Ended count) × WroteWhole c (served_text count)
EndsAtPlace o place c p WriteFault = (count : ℕ) × ServesPlace o place c p (Ended count) × WroteFront c (served_text count)
EndsAtPlace o place c p PortFault = ServesPlace o place c p AtFault × WroteNothing c
EndsAtPlace o place c p OpenFault = TakeFailed place c.before.shelf c.after.shelf × KeepsPort p × WroteNothing c
EndsAtPlace o place c p Memory = TakeRefused place c.before.shelf c.after.shelf × KeepsPort p × WroteNothing c
EndsAtPlace _ _ _ _ _ = ⊥

-- the text is a catalog that has a list of the options' name, and a node at its place ends so
pub record EndsListed (o : NodeOptions) (text : List ℕ) (c : Call) (p : Ports) (status : Status) : Type 0 where
  pub catalog : List Entry
  pub is : IsCatalog (records_of text) catalog
  pub place : List ℕ
  pub named : place_named o.name catalog ≡ Some place
  pub ends : EndsAtPlace o place c p status

-- nothing was asked of the shelf or of the port
pub record AskedNothing (c : Call) (p : Ports) : Type 0 where
  pub shelf : KeepsShelf c
  pub port : KeepsPort p

-- the text is no catalog, and this says so
pub record NoCatalog (text : List ℕ) (c : Call) (p : Ports) (said : List ℕ) : Type 0 where
  pub refuses : RefusesCatalog text said
  pub nothing : AskedNothing c p

-- the text is a catalog without a list of the options' name, and this says so
pub record Unlisted (o : NodeOptions) (text : List ℕ) (c : Call) (p : Ports) (said : List ℕ) : Type 0 where
  pub catalog : List Entry
  pub is : IsCatalog (records_of text) catalog
  pub none : place_named o.name catalog ≡ None
  pub said_is : said ≡ unlisted_text o.name
  pub nothing : AskedNothing c p

-- how a node ends over the catalog that is this text, once the shelf gave it
abbrev pub EndsOverCatalog : NodeOptions → List ℕ → Call → Ports → Status → Type 0
EndsOverCatalog o text c p Partial = (said : List ℕ) × Unlisted o text c p said × WroteWhole c said
EndsOverCatalog o text c p BadCatalog = (said : List ℕ) × NoCatalog text c p said × WroteWhole c said
EndsOverCatalog o text c p WriteFault =
    ((said : List ℕ) × (NoCatalog text c p said ⊎ Unlisted o text c p said) × WroteFront c said) ⊎ EndsListed o text c p WriteFault
EndsOverCatalog o text c p Memory = (AskedNothing c p × WroteNothing c) ⊎ EndsListed o text c p Memory
EndsOverCatalog o text c p status = EndsListed o text c p status

-- the shelf gave the catalog's text, and then a node over it ended so
abbrev pub EndsOn : NodeOptions → Call → Ports → Status → Type 0
EndsOn o c p status =
    (text : List ℕ) × (given : Shelf) × GivesText o.catalog c.before.shelf given text × EndsOverCatalog o text (from_shelf given c) p status

-- how a node ends
abbrev pub EndsNode : NodeOptions → Call → Ports → Status → Type 0
EndsNode o c p OpenFault = (TextFailed o.catalog c.before.shelf c.after.shelf × KeepsPort p × WroteNothing c) ⊎ EndsOn o c p OpenFault
EndsNode o c p Memory = (TextRefused o.catalog c.before.shelf c.after.shelf × KeepsPort p × WroteNothing c) ⊎ EndsOn o c p Memory
EndsNode o c p status = EndsOn o c p status
