-- Sources that stand in slots.
use Rattle.std.specs.Prelude.{◌≡◌, ◌≤◌, ◌++◌, ◌∷◌, [], ℕ, List, Option, None, map, length, vec_len, vec_capacity}
use Rattle.ranked_list.specs.declared.row.Row.{Row}
use Rattle.fetcher.specs.declared.slot.Slot.{Slot}
use Rattle.catalog_open.specs.declared.opened.Opening.TheVariants.{Closed, Open}
use Rattle.catalog_open.specs.declared.opened.OpenSources.{OpenSources}
use Rattle.catalog_open.specs.Openings.{Sources, run_count}

-- what is said of the source of a slot
abbrev pub of_slot : {S X : Type 0} → (S → X) → Slot S → X
of_slot said slot = said slot.source

-- a slot without a feeder; one in which a source stands of which nothing was fetched
abbrev pub IsIdle : {S : Type 0} → Slot S → Type 0
IsIdle slot = slot.feeder ≡ None

abbrev pub fresh_slot : {S : Type 0} → S → Slot S
fresh_slot source = record { source = source; feeder = None; fetched = record { rows = 0; grades = 0 } }

-- the open sources that stand in slots, by the lists that they tell and the versions that are at hand, by their places and by how many objects they have
abbrev pub sources_in : {S : Type 0} → (S → Option (List Row)) → (S → ℕ) → List (Slot S) → (places counts : List ℕ) → Sources
sources_in list at_hand slots places counts = record {
  told = map (of_slot list) slots;
  versions = map (of_slot at_hand) slots;
  places = places;
  counts = counts;
}

abbrev pub sources_of : {S : Type 0} → (S → Option (List Row)) → (S → ℕ) → OpenSources S → Sources
sources_of list at_hand opened = sources_in list at_hand opened.slots.items opened.places.items opened.counts.items

-- no source is open, and no entry is settled
pub record IsBare {S : Type 0} (opened : OpenSources S) : Type 0 where
  pub openings : opened.openings.items ≡ []
  pub places : opened.places.items ≡ []
  pub counts : opened.counts.items ≡ []
  pub slots : opened.slots.items ≡ []

-- there is room for the sources of so many entries, of which no more are open than are settled
pub record HasRoom {S : Type 0} (entries : ℕ) (opened : OpenSources S) : Type 0 where
  pub openings : entries ≤ vec_capacity opened.openings
  pub places : entries ≤ vec_capacity opened.places
  pub counts : entries ≤ vec_capacity opened.counts
  pub slots : entries ≤ vec_capacity opened.slots
  pub many_places : vec_len opened.places ≡ vec_len opened.slots
  pub many_counts : vec_len opened.counts ≡ vec_len opened.slots
  pub few : vec_len opened.slots ≤ vec_len opened.openings

-- the next entry is settled: its source isn't open
pub record ClosesNext {S : Type 0} (before now : OpenSources S) : Type 0 where
  pub openings : now.openings.items ≡ before.openings.items ++ Closed ∷ []
  pub places : now.places.items ≡ before.places.items
  pub counts : now.counts.items ≡ before.counts.items
  pub slots : now.slots.items ≡ before.slots.items

-- or it is, and states so many objects
pub record OpensNext {S : Type 0} (at_hand : S → ℕ) (source : S) (size : ℕ) (before now : OpenSources S) : Type 0 where
  pub openings : now.openings.items ≡ before.openings.items ++ Open size (length before.slots.items) (at_hand source) ∷ []
  pub places : now.places.items ≡ before.places.items ++ length before.openings.items ∷ []
  pub counts : now.counts.items ≡ before.counts.items ++ run_count size ∷ []
  pub slots : now.slots.items ≡ before.slots.items ++ fresh_slot source ∷ []
