-- How a server of queries ends, by what was done.
use Rattle.std.proofs.Common.{ℕ, List, codes, Err, inl, inr, refl, sym, subst}
use Rattle.csv_records.specs.Records.{records_of}
use Rattle.catalog_text.specs.Catalog.{Listed as Entry, IsCatalog}
use Rattle.catalog_text.specs.Judging.{Judges}
use Rattle.catalog_text.specs.declared.catalog.CatalogFault.{CatalogFault}
use Rattle.catalog_text.specs.declared.catalog.CatalogFault.TheVariants.{CatalogLine, SameName, Memory as NoMemory}
use Rattle.command_line.specs.declared.serving.ServeOptions.{ServeOptions}
use Rattle.command_line.specs.Calls.{Call}
use Rattle.command_line.specs.Ends.{Says}
use Rattle.command_line.specs.declared.status.Status.{Status}
use Rattle.command_line.specs.declared.status.Status.TheVariants.{Done, Partial, BadCatalog, Memory, PortFault, OpenFault, WriteFault, BadWords, ReadFault, LongInput, BadInput}
use Rattle.catalog_run.specs.Faults.{SaysFault}
use Rattle.catalog_run.specs.Running.{catalog_refused_text}
use Rattle.query_server.specs.declared.server.Served.{Served}
use Rattle.query_server.specs.declared.server.Served.TheVariants.{Ended, PortFault as AtFault, Memory as NoneLeft}
use Rattle.port_calls.specs.NodeEnds.{AskedNothing, NoCatalog}
use Rattle.port_calls.specs.Ports.{Ports}
use Rattle.port_calls.specs.ServeEnds.{EndsLists, ServeEndsOverCatalog, ServeEndsOn, EndsServe, SaysServeEnded}

-- what is said of links that were served ends so
pub ends_served : (o : ServeOptions) (text : List ℕ) (catalog : List Entry) (c : Call) (p : Ports) (served : Served) (result : Status)
    → IsCatalog (records_of text) catalog → EndsLists o.listening catalog c.before.shelf c.after.shelf p served
    → SaysServeEnded c.before.output c.after.output served result → ServeEndsOverCatalog o text c p result
ends_served o text catalog c p (Ended count) result is ends says = elim says [
  | inl whole ↦ subst (ServeEndsOverCatalog o text c p) (sym whole.0) (count, record { catalog = catalog; is = is; them = ends }, record { held = whole.1; faults = whole.2 })
  | inr front ↦ subst (ServeEndsOverCatalog o text c p) (sym front.0) (inr (count, record { catalog = catalog; is = is; them = ends }, record { held = front.1; faults = front.2 }))
]
ends_served o text catalog c p AtFault result is ends says =
    subst (ServeEndsOverCatalog o text c p) (sym says.0) (record { catalog = catalog; is = is; them = ends }, record { held = says.1; faults = says.2 })
ends_served o text catalog c p NoneLeft result is ends says =
    subst (ServeEndsOverCatalog o text c p) (sym says.0) (inr (record { catalog = catalog; is = is; borrows = ends.0; port = ends.1 }), record { held = says.1; faults = says.2 })

-- what is said of a text that is no catalog ends so
ends_no_catalog : (o : ServeOptions) (text said : List ℕ) (c : Call) (p : Ports) (result : Status) → NoCatalog text c p said
    → Says c.before.output c.after.output said BadCatalog result → ServeEndsOverCatalog o text c p result
ends_no_catalog o text said c p result none says = elim says [
  | inl whole ↦ subst (ServeEndsOverCatalog o text c p) (sym whole.0) (said, none, record { held = whole.1; faults = whole.2 })
  | inr front ↦ subst (ServeEndsOverCatalog o text c p) (sym front.0) (inl (said, none, record { held = front.1; faults = front.2 }))
]

-- a text that should be a catalog ends so for its fault
pub ends_at_fault : (o : ServeOptions) (text : List ℕ) (c : Call) (p : Ports) (fault : CatalogFault) (result : Status) → Judges (records_of text) (Err fault)
    → AskedNothing c p → SaysFault c.before.output c.after.output fault result → ServeEndsOverCatalog o text c p result
ends_at_fault o text c p (CatalogLine line) result judged nothing says =
    ends_no_catalog o text (catalog_refused_text (codes "CatalogLine") line) c p result
    (record { refuses = inl (record { number = line; first = judged; said_is = refl }); nothing = nothing }) says
ends_at_fault o text c p (SameName line) result judged nothing says =
    ends_no_catalog o text (catalog_refused_text (codes "SameName") line) c p result
    (record { refuses = inr (record { number = line; first = judged; said_is = refl }); nothing = nothing }) says
ends_at_fault o text c p NoMemory result judged nothing says =
    subst (ServeEndsOverCatalog o text c p) (sym says.0) (inl nothing, record { held = says.1; faults = says.2 })

-- a server over the catalog's text ends as the server does
pub ends_on : (o : ServeOptions) (c : Call) (p : Ports) (status : Status) → ServeEndsOn o c p status → EndsServe o c p status
ends_on o c p Done h = h
ends_on o c p Partial h = h
ends_on o c p BadWords h = h
ends_on o c p BadCatalog h = h
ends_on o c p ReadFault h = h
ends_on o c p WriteFault h = h
ends_on o c p OpenFault h = absurd h.3
ends_on o c p PortFault h = h
ends_on o c p Memory h = inr h
ends_on o c p LongInput h = h
ends_on o c p BadInput h = h
