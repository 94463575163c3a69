-- How a node ends, by what was done.
use Rattle.std.proofs.Common.{◌≡◌, ℕ, Bool, true, false, cond, List, [], ◌∷◌, length, codes, Option, Some, None, Err, nat_lt, inl, inr, refl, sym, ap, ◌∙◌, subst, ltb-false}
use Rattle.std.specs.Prelude.{find, option_map, slice_get}
use Rattle.std.specs.List.{position, position_or_len}
use Rattle.std.specs.Option.{option_and_then}
use Rattle.std.specs.Str.{bytes_eq}
use Rattle.std.proofs.lemmas.List.Folds.{find_at}
use Rattle.std.proofs.lemmas.Option.{slice_get_past}
use Rattle.tk_io.specs.Calls.{PortCall, with_more}
use Rattle.tk_io.specs.Links.{Closed}
use Rattle.csv_records.specs.Records.{records_of}
use Rattle.catalog_text.specs.Catalog.{Listed as Entry}
use Rattle.catalog_text.specs.Judging.{Judges}
use Rattle.catalog_text.specs.declared.catalog.CatalogFault.{CatalogFault}
use Rattle.catalog_text.specs.declared.catalog.CatalogFault.TheVariants.{CatalogLine, SameName, Memory as NoMemory}
use Rattle.command_line.specs.declared.node.NodeOptions.{NodeOptions}
use Rattle.command_line.specs.Calls.{Call}
use Rattle.command_line.specs.Ends.{Says}
use Rattle.command_line.specs.declared.status.Status.{Status}
use Rattle.command_line.specs.declared.status.Status.TheVariants.{Done, Partial, BadCatalog, Memory, PortFault, OpenFault, WriteFault, BadWords, ReadFault, LongInput, BadInput}
use Rattle.catalog_run.specs.Faults.{SaysFault}
use Rattle.catalog_run.specs.Running.{catalog_refused_text}
use Rattle.source_node.specs.Serving.{Seen}
use Rattle.source_node.specs.ServingLinks.{PortAt, EndsServing}
use Rattle.source_node.specs.declared.serving.Served.{Served}
use Rattle.source_node.specs.declared.serving.Served.TheVariants.{Ended, PortFault as AtFault}
use Rattle.port_calls.specs.NodeEnds.{AskedNothing, NoCatalog, Unlisted, ServesAt, ServesPlace, EndsAtPlace, EndsListed, EndsOverCatalog, EndsOn, EndsNode}
use Rattle.port_calls.specs.NodeTexts.{SaysServed}
use Rattle.port_calls.specs.Named.{place_named}
use Rattle.port_calls.specs.Ports.{Ports}

-- links that were served at a port which listens, which had been left as it was but for that
pub serves_at : (o : NodeOptions) (name : List ℕ) (p : Ports) (mid : PortAt) (source source_now : Seen) (served : Served) → name ≡ o.name
    → mid.links ≡ p.before.links → mid.closed ≡ p.before.closed → mid.faults ≡ p.before.faults
    → mid.calls ≡ with_more (PortCall.Listened o.listening.at ∷ []) p.before.calls
    → EndsServing name o.version o.listening.conns mid p.after source source_now served → ServesAt o p source source_now served
serves_at o name p mid source source_now served same links closed faults calls ends =
    by served (at_calls (at_faults (at_closed (at_links (subst (λ (n : List ℕ). EndsServing n o.version o.listening.conns mid p.after source source_now served) same ends)))))
  where
    Ends : Option (List (List ℕ)) → Option (List Closed) → ℕ → Option (List PortCall) → Served → Type 0
    Ends l c f k s = EndsServing o.name o.version o.listening.conns (record { links = l; closed = c; faults = f; calls = k }) p.after source source_now s

    at_links : Ends mid.links mid.closed mid.faults mid.calls served → Ends p.before.links mid.closed mid.faults mid.calls served
    at_links e = subst (λ (l : Option (List (List ℕ))). Ends l mid.closed mid.faults mid.calls served) links e

    at_closed : Ends p.before.links mid.closed mid.faults mid.calls served → Ends p.before.links p.before.closed mid.faults mid.calls served
    at_closed e = subst (λ (c : Option (List Closed)). Ends p.before.links c mid.faults mid.calls served) closed e

    at_faults : Ends p.before.links p.before.closed mid.faults mid.calls served → Ends p.before.links p.before.closed p.before.faults mid.calls served
    at_faults e = subst (λ (f : ℕ). Ends p.before.links p.before.closed f mid.calls served) faults e

    at_calls : Ends p.before.links p.before.closed p.before.faults mid.calls served
        → Ends p.before.links p.before.closed p.before.faults (with_more (PortCall.Listened o.listening.at ∷ []) p.before.calls) served
    at_calls e = subst (λ (k : Option (List PortCall)). Ends p.before.links p.before.closed p.before.faults k served) calls e

    by : (s : Served) → Ends p.before.links p.before.closed p.before.faults (with_more (PortCall.Listened o.listening.at ∷ []) p.before.calls) s
        → ServesAt o p source source_now s
    by (Ended count) e = e
    by AtFault e = inr e

-- what is said of links that were served ends so
pub ends_served : (o : NodeOptions) (place : List ℕ) (c : Call) (p : Ports) (served : Served) (result : Status) → ServesPlace o place c p served
    → SaysServed c.before.output c.after.output served result → EndsAtPlace o place c p result
ends_served o place c p (Ended count) result serves says = elim says [
  | inl whole ↦ subst (EndsAtPlace o place c p) (sym whole.0) (count, serves, record { held = whole.1; faults = whole.2 })
  | inr front ↦ subst (EndsAtPlace o place c p) (sym front.0) (count, serves, record { held = front.1; faults = front.2 })
]
ends_served o place c p AtFault result serves says =
    subst (EndsAtPlace o place c p) (sym says.0) (serves, record { held = says.1; faults = says.2 })

-- a node whose list is at a place ends as one over the catalog does
pub ends_listed : (o : NodeOptions) (text : List ℕ) (c : Call) (p : Ports) (status : Status) → EndsListed o text c p status → EndsOverCatalog o text c p status
ends_listed o text c p Done h = h
ends_listed o text c p Partial h = absurd h.ends
ends_listed o text c p BadWords h = h
ends_listed o text c p BadCatalog h = absurd h.ends
ends_listed o text c p ReadFault h = h
ends_listed o text c p WriteFault h = inr h
ends_listed o text c p OpenFault h = h
ends_listed o text c p PortFault h = h
ends_listed o text c p Memory h = inr h
ends_listed o text c p LongInput h = h
ends_listed o text c p BadInput h = h

-- what is said of a name that isn't in the catalog ends so
pub ends_unlisted : (o : NodeOptions) (text said : List ℕ) (c : Call) (p : Ports) (result : Status) → Unlisted o text c p said
    → Says c.before.output c.after.output said Partial result → EndsOverCatalog o text c p result
ends_unlisted o text said c p result unlisted says = elim says [
  | inl whole ↦ subst (EndsOverCatalog o text c p) (sym whole.0) (said, unlisted, record { held = whole.1; faults = whole.2 })
  | inr front ↦ subst (EndsOverCatalog o text c p) (sym front.0) (inl (said, inr unlisted, record { held = front.1; faults = front.2 }))
]

-- what is said of a text that is no catalog ends so
ends_no_catalog : (o : NodeOptions) (text said : List ℕ) (c : Call) (p : Ports) (result : Status) → NoCatalog text c p said
    → Says c.before.output c.after.output said BadCatalog result → EndsOverCatalog o text c p result
ends_no_catalog o text said c p result none says = elim says [
  | inl whole ↦ subst (EndsOverCatalog o text c p) (sym whole.0) (said, none, record { held = whole.1; faults = whole.2 })
  | inr front ↦ subst (EndsOverCatalog o text c p) (sym front.0) (inl (said, inl none, record { held = front.1; faults = front.2 }))
]

-- a text that should be a catalog ends so for its fault
pub ends_at_fault : (o : NodeOptions) (text : List ℕ) (c : Call) (p : Ports) (fault : CatalogFault) (result : Status) → Judges (records_of text) (Err fault)
    → AskedNothing c p → SaysFault c.before.output c.after.output fault result → EndsOverCatalog o text c p result
ends_at_fault o text c p (CatalogLine line) result judged nothing says =
    ends_no_catalog o text (catalog_refused_text (codes "CatalogLine") line) c p result
    (record { refuses = inl (record { number = line; first = judged; said_is = refl }); nothing = nothing }) says
ends_at_fault o text c p (SameName line) result judged nothing says =
    ends_no_catalog o text (catalog_refused_text (codes "SameName") line) c p result
    (record { refuses = inr (record { number = line; first = judged; said_is = refl }); nothing = nothing }) says
ends_at_fault o text c p NoMemory result judged nothing says =
    subst (EndsOverCatalog o text c p) (sym says.0) (inl (nothing, record { held = says.1; faults = says.2 }))

-- a node over the catalog's text ends as the node does
pub ends_on : (o : NodeOptions) (c : Call) (p : Ports) (status : Status) → EndsOn o c p status → EndsNode o c p status
ends_on o c p Done h = h
ends_on o c p Partial h = h
ends_on o c p BadWords h = h
ends_on o c p BadCatalog h = h
ends_on o c p ReadFault h = h
ends_on o c p WriteFault h = h
ends_on o c p OpenFault h = inr h
ends_on o c p PortFault h = h
ends_on o c p Memory h = inr h
ends_on o c p LongInput h = h
ends_on o c p BadInput h = h

-- the place of a name, by where the source of the name stands
found_first : (test : Entry → Bool) (catalog : List Entry) → find test catalog ≡ option_and_then (slice_get catalog) (position test catalog)
found_first test catalog = find_at test catalog ∙ go (nat_lt (position_or_len test catalog) (length catalog)) refl
  where
    go : (b : Bool) → nat_lt (position_or_len test catalog) (length catalog) ≡ b
        → slice_get catalog (position_or_len test catalog) ≡ option_and_then (slice_get catalog) (cond b (Some (position_or_len test catalog)) None)
    go true e = refl
    go false e = slice_get_past catalog (position_or_len test catalog) (ltb-false (position_or_len test catalog) (length catalog) e)

pub named_none : (name given : List ℕ) (catalog : List Entry) → given ≡ name → position (λ entry. bytes_eq entry.name given) catalog ≡ None
    → place_named name catalog ≡ None
named_none name given catalog same none =
    subst (λ n. place_named n catalog ≡ None) same
    (ap (option_map (λ (entry : Entry). entry.place)) (found_first (λ entry. bytes_eq entry.name given) catalog ∙ ap (option_and_then (slice_get catalog)) none))

pub named_at : (name given : List ℕ) (catalog : List Entry) (at : ℕ) (found : Option Entry) → given ≡ name
    → position (λ entry. bytes_eq entry.name given) catalog ≡ Some at → found ≡ slice_get catalog at
    → option_map (λ (entry : Entry). entry.place) found ≡ place_named name catalog
named_at name given catalog at found same is get =
    subst (λ n. option_map (λ (entry : Entry). entry.place) found ≡ place_named n catalog) same
    (ap (option_map (λ (entry : Entry). entry.place))
    (get ∙ sym (found_first (λ entry. bytes_eq entry.name given) catalog ∙ ap (option_and_then (slice_get catalog)) is)))
