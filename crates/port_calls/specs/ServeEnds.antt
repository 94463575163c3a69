-- How a server of queries ends, by its status.
use Rattle.std.specs.Prelude.{◌≡◌, ◌⊎◌, ℕ, List}
use Rattle.tk_io.specs.Faults.{Rose}
use Rattle.csv_records.specs.Records.{records_of}
use Rattle.catalog_text.specs.Catalog.{Listed as Entry, IsCatalog}
use Rattle.command_line.specs.declared.node.Listening.{Listening}
use Rattle.command_line.specs.declared.serving.ServeOptions.{ServeOptions}
use Rattle.query_server.specs.Accepting.{TookAll, TookSome}
use Rattle.query_server.specs.Serving.{AsksForLinks}
use Rattle.query_server.specs.declared.server.Served.{Served}
use Rattle.query_server.specs.declared.server.Served.TheVariants.{Ended, PortFault as AtFault, Memory as NoMemory}
use Rattle.std.specs.Io.KnownBytes.{Keeps}
use Rattle.command_line.specs.Ends.{Says}
use Rattle.command_line.specs.Calls.{Call, Output, WroteNothing, WroteWhole, WroteFront}
use Rattle.command_line.specs.Shelves.{Shelf, GivesText, TextFailed, TextRefused}
use Rattle.command_line.specs.declared.status.Status.{Status}
use Rattle.command_line.specs.declared.status.Status.TheVariants.{Done, BadCatalog, WriteFault, OpenFault, PortFault, Memory}
use Rattle.catalog_run.specs.RunEnds.{from_shelf}
use Rattle.port_calls.specs.NodeEnds.{NoCatalog, AskedNothing}
use Rattle.port_calls.specs.NodeTexts.{served_text}
use Rattle.port_calls.specs.Ports.{Ports, KeepsPort, listening}
use Rattle.port_calls.specs.Opening.{BorrowsSome, BorrowsAll, OpensAll}

-- the port failed to listen at this number: it was asked for no link
pub record ServeListenFailed (number : ℕ) (p : Ports) : Type 0 where
  pub links : p.after.links ≡ p.before.links
  pub rose : Rose p.before.faults p.after.faults
  pub calls : p.after.calls ≡ (listening number p.before).calls

-- the port was to listen at the stated number, and then it was asked for links and for nothing else, as a server that ended so does
abbrev pub ListensFor : Listening → Ports → Served → Type 0
ListensFor l p served = AsksForLinks l.conns (listening l.at p.before).calls p.after.calls served

-- so many links of a port, which listens at the stated number, were taken to be served, as many as are asked for or as come; or the port failed; how many
-- were taken before memory ran out is free
abbrev pub ServesPort : Listening → Ports → Served → Type 0
ServesPort l p (Ended count) = TookAll l.conns p.before.links p.after.links p.before.faults p.after.faults count × ListensFor l p (Ended count)
ServesPort l p AtFault =
    ServeListenFailed l.at p
    ⊎ (TookSome l.conns p.before.links p.after.links p.before.faults p.after.faults × ListensFor l p AtFault)
ServesPort l p NoMemory = ListensFor l p NoMemory

-- the sources of a catalog were taken, which says what became of the lists, and put back, and between the two the port was served
pub record ServesThem (l : Listening) (catalog : List Entry) (before now : Shelf) (p : Ports) (served : Served) : Type 0 where
  pub borrows : BorrowsAll catalog before now
  pub opens : OpensAll catalog before now
  pub serves : ServesPort l p served
  pub closed : p.after.closed ≡ p.before.closed

-- the same; where memory ran out some sources may not have been taken, and the port may have been left as it was
abbrev pub EndsLists : Listening → List Entry → Shelf → Shelf → Ports → Served → Type 0
EndsLists l catalog before now p (Ended count) = ServesThem l catalog before now p (Ended count)
EndsLists l catalog before now p AtFault = ServesThem l catalog before now p AtFault
EndsLists l catalog before now p NoMemory = BorrowsSome catalog before now × (KeepsPort p ⊎ ServesPort l p NoMemory)

-- the same of the catalog that is this text
pub record ServesLists (o : ServeOptions) (text : List ℕ) (c : Call) (p : Ports) (served : Served) : Type 0 where
  pub catalog : List Entry
  pub is : IsCatalog (records_of text) catalog
  pub them : ServesThem o.listening catalog c.before.shelf c.after.shelf p served

-- no memory was left: the text may be a catalog whose sources were asked for, and all that were taken were put back; and the port may have listened
pub record WantsMemory (o : ServeOptions) (text : List ℕ) (c : Call) (p : Ports) : Type 0 where
  pub catalog : List Entry
  pub is : IsCatalog (records_of text) catalog
  pub borrows : BorrowsSome catalog c.before.shelf c.after.shelf
  pub port : KeepsPort p ⊎ ServesPort o.listening p NoMemory

-- how a server ends over the catalog that is this text, once the shelf gave it
abbrev pub ServeEndsOverCatalog : ServeOptions → List ℕ → Call → Ports → Status → Type 0
ServeEndsOverCatalog o text c p Done = (count : ℕ) × ServesLists o text c p (Ended count) × WroteWhole c (served_text count)
ServeEndsOverCatalog o text c p PortFault = ServesLists o text c p AtFault × WroteNothing c
ServeEndsOverCatalog o text c p BadCatalog = (said : List ℕ) × NoCatalog text c p said × WroteWhole c said
ServeEndsOverCatalog o text c p WriteFault =
    ((said : List ℕ) × NoCatalog text c p said × WroteFront c said)
    ⊎ ((count : ℕ) × ServesLists o text c p (Ended count) × WroteFront c (served_text count))
ServeEndsOverCatalog o text c p Memory = (AskedNothing c p ⊎ WantsMemory o text c p) × WroteNothing c
ServeEndsOverCatalog _ _ _ _ _ = ⊥

-- the shelf gave the catalog's text, and then a server over it ended so
abbrev pub ServeEndsOn : ServeOptions → Call → Ports → Status → Type 0
ServeEndsOn o c p status =
    (text : List ℕ) × (given : Shelf) × GivesText o.catalog c.before.shelf given text × ServeEndsOverCatalog o text (from_shelf given c) p status

-- how a server of queries ends
abbrev pub EndsServe : ServeOptions → Call → Ports → Status → Type 0
EndsServe o c p OpenFault = TextFailed o.catalog c.before.shelf c.after.shelf × KeepsPort p × WroteNothing c
EndsServe o c p Memory = (TextRefused o.catalog c.before.shelf c.after.shelf × KeepsPort p × WroteNothing c) ⊎ ServeEndsOn o c p Memory
EndsServe o c p status = ServeEndsOn o c p status

-- what is said of links that were served: how many they are, or nothing where the port failed or memory ran out
abbrev pub SaysServeEnded : Output → Output → Served → Status → Type 0
SaysServeEnded before now (Ended count) end = Says before now (served_text count) Done end
SaysServeEnded before now AtFault end = (end ≡ PortFault) × Keeps before.held now.held × (now.faults ≡ before.faults)
SaysServeEnded before now NoMemory end = (end ≡ Memory) × Keeps before.held now.held × (now.faults ≡ before.faults)
