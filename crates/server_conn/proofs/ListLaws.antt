-- The sources of a query that is admitted over open lists are in a pool that has those of the lists.
use Rattle.std.proofs.Common.{◌≡◌, ℕ, ◌<◌, ◌≤◌, List, [], ◌∷◌, All, map, length, suc, slice_get, slice_index_or, inl, inr, Option, None, Some, option_map, sym, ap, ◌∙◌, subst, arith}
use Rattle.std.specs.List.{AllByRecursion}
use Rattle.std.proofs.lemmas.Bool.{cases_lt}
use Rattle.std.proofs.lemmas.Option.{same_Some, get_or_from_slice_get}
use Rattle.std.proofs.lemmas.List.{get_or_past, get_or-map, length-map}
use Rattle.std.proofs.lemmas.List.Elements.{All-from_recursion, All-get_or}
use Rattle.topk_base.specs.declared.TheConstants.{MAX_OBJECTS}
use Rattle.source_pool.specs.declared.hold.Hold.{Hold}
use Rattle.query_core.specs.declared.ready.Ready.{Ready as ReadyQuery}
use Rattle.query_admission.specs.Admission.{IsAdmitted, Admits}
use Rattle.query_admission.specs.declared.admitted.Admitted.{Admitted}
use Rattle.query_admission.specs.declared.admitted.Admitted.TheVariants.{Ready, Refused}
use Rattle.query_admission.specs.declared.lists.ListInfo.{ListInfo}
use Rattle.query_admission.proofs.Positions.{nothing}
use Rattle.query_admission.proofs.ReadyLists.{admitted_states}
use Rattle.query_run.specs.Advancing.{IsSourceIn, HasSourcesIn}
use Rattle.catalog_open.specs.declared.opened.Opening.{Opening}
use Rattle.catalog_open.specs.declared.opened.Opening.TheVariants.{Closed}
use Rattle.catalog_open.specs.Entries.{no_entry, entry_at, opening_at}
use Rattle.catalog_text.specs.Catalog.{Listed as Entry}
use Rattle.catalog_open.specs.Views.{entry_named, said_of, listed_at}
use Rattle.query_admission.specs.Causes.{line_over}
use Rattle.server_conn.specs.declared.opened.OpenedEntry.{OpenedEntry}
use Rattle.server_conn.specs.declared.opened.OpenedEntry.TheVariants.{Opened, NotOpened, TooLarge}
use Rattle.server_conn.specs.Entries.{Openings, IsSized, AreEntriesOf, opening_of, view_in, IsThere, HasSources}

none_some : {m : ℕ} → None ≡ Some m → ⊥
none_some e = cc

-- what became of the source of an entry, by the entry
pub opening_is : (entries : List OpenedEntry) (place : ℕ) → place < length entries
    → opening_at (map opening_of entries) place ≡ opening_of (slice_index_or entries place (NotOpened None))
opening_is entries place within = get_or-map opening_of entries place (NotOpened None) Closed within

pub opening_past : (entries : List OpenedEntry) (place : ℕ) → length entries ≤ place → opening_at (map opening_of entries) place ≡ Closed
opening_past entries place past =
    let long : length (map opening_of entries) ≡ length entries = length-map entries opening_of in
    get_or_past (map opening_of entries) place Closed (omega (arith, past, long))

-- the list of a name that the catalog has, by its entry and what became of its source
pub list_found : (catalog : List Entry) (openings : List Opening) (name : List ℕ) (place : ℕ) (from : Entry) (opening : Opening) (l : ListInfo)
    → entry_named catalog name ≡ Some place → slice_get catalog place ≡ Some from → opening ≡ opening_at openings place → l ≡ said_of from opening
    → Some l ≡ option_map (listed_at catalog openings) (entry_named catalog name)
list_found catalog openings name place from opening l named read became said =
    let here : entry_at catalog place ≡ from = get_or_from_slice_get catalog place from no_entry read in
    let is : l ≡ listed_at catalog openings place = said ∙ (ap (said_of from) became ∙ ap (λ (e : Entry). said_of e (opening_at openings place)) (sym here)) in
    ap Some is ∙ ap (option_map (listed_at catalog openings)) (sym named)

module _ (holds : List Hold) (o : Openings) (are : AreEntriesOf o.catalog o.entries) (there : All (IsThere holds) o.entries) where
  -- a list of an entry that states no more than a list may have is that of a source that is there
  entry_there : (n : ℕ) (entry : OpenedEntry) (from : Entry) (l : ListInfo) → n ≤ MAX_OBJECTS → IsSized entry → IsThere holds entry
      → said_of from (opening_of entry) ≡ l → l.size ≡ Some n → IsSourceIn holds n l.source
  entry_there n (Opened count source version) from l small sized is said size =
      let same : count ≡ n = same_Some count n (ap (λ (k : ListInfo). k.size) said ∙ size) in
      subst (IsSourceIn holds n) (ap (λ (k : ListInfo). k.source) said) (subst (λ m. IsSourceIn holds m source) same is)
  entry_there n (NotOpened none) from l small sized is said size = absurd (none_some (ap (λ (k : ListInfo). k.size) said ∙ size))
  entry_there n (TooLarge count none) from l small sized is said size =
      let same : count ≡ n = same_Some count n (ap (λ (k : ListInfo). k.size) said ∙ size) in
      absurd (omega (arith, sized, same, small))

  placed_there : (n place : ℕ) (l : ListInfo) → n ≤ MAX_OBJECTS → listed_at o.catalog (map opening_of o.entries) place ≡ l → l.size ≡ Some n
      → IsSourceIn holds n l.source
  placed_there n place l small said size = elim (cases_lt place (length o.entries)) [
    | inl within ↦
        let from = entry_at o.catalog place in
        entry_there n (slice_index_or o.entries place (NotOpened None)) from l small (All-get_or IsSized o.entries place (NotOpened None) within are.sized)
        (All-get_or (IsThere holds) o.entries place (NotOpened None) within there) (ap (said_of from) (sym (opening_is o.entries place within)) ∙ said) size
    | inr past ↦
        let from = entry_at o.catalog place in
        absurd (none_some (ap (λ (k : ListInfo). k.size) (ap (said_of from) (sym (opening_past o.entries place past)) ∙ said) ∙ size))
  ]

  named_there : (n : ℕ) (name : List ℕ) (l : ListInfo) → n ≤ MAX_OBJECTS
      → option_map (listed_at o.catalog (map opening_of o.entries)) (entry_named o.catalog name) ≡ Some l → l.size ≡ Some n → IsSourceIn holds n l.source
  named_there n name l small e size = at (entry_named o.catalog name) e
    where
      at : (p : Option ℕ) → option_map (listed_at o.catalog (map opening_of o.entries)) p ≡ Some l → IsSourceIn holds n l.source
      at None e = absurd cc
      at (Some place) e = placed_there n place l small (same_Some (listed_at o.catalog (map opening_of o.entries) place) l e) size

  all_there : (n : ℕ) (names : List (List ℕ)) (ls : List ListInfo) → n ≤ MAX_OBJECTS → map (view_in o).listed names ≡ map Some ls
      → ((place : ℕ) → place < length ls → (slice_index_or ls place nothing).size ≡ Some n) → AllByRecursion (IsSourceIn holds n) (map (λ l. l.source) ls)
  all_there n [] [] small e sizes = tt
  all_there n [] (l ∷ ls) small e sizes = absurd cc
  all_there n (name ∷ names) [] small e sizes = tt
  all_there n (name ∷ names) (l ∷ ls) small e sizes =
      let here : (view_in o).listed name ≡ Some l = cc in
      let rest : map (view_in o).listed names ≡ map Some ls = cc in
      (named_there n name l small here (sizes 0 (omega arith)), all_there n names ls small rest (λ place h. sizes (suc place) (omega (arith, h))))

  admitted_there : (number : ℕ) (bytes : List ℕ) (ready : ReadyQuery) → IsAdmitted (line_over (view_in o) number bytes) ready → HasSourcesIn holds ready
  admitted_there number bytes ready admitted = record {
    each = subst (All (IsSourceIn holds ready.count)) admitted.sources
        (All-from_recursion (IsSourceIn holds ready.count) (map (λ (l : ListInfo). l.source) admitted.lists)
        (all_there ready.count ready.query.names admitted.lists admitted.sound.counted admitted.listed (admitted_states (line_over (view_in o) number bytes) ready admitted)));
  }

  pub has_sources : (number : ℕ) (bytes : List ℕ) (a : Admitted) → Admits (line_over (view_in o) number bytes) a → HasSources holds a
  has_sources number bytes (Ready ready) admits = admitted_there number bytes ready admits
  has_sources number bytes (Refused refusal query) admits = tt
