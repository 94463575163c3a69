-- What opening sources and putting them back do to a shelf.
use Rattle.std.specs.Prelude.{◌≡◌, ◌≢◌, ◌⊎◌, ◌≤◌, ◌<◌, ◌+◌, ℕ, zero, suc, Bool, true, List, [], ◌∷◌, All, Option, None, Some, IfSome, length, nat_le, if◌then◌else◌, slice_index_or}
use Rattle.std.specs.Str.{bytes_eq}
use Rattle.tk_io.specs.Faults.{counted, Rose}
use Rattle.ranked_list.specs.declared.row.Row.{Row}
use Rattle.source_api.specs.declared.counts.Counts.{Counts}
use Rattle.source_api.specs.declared.ledger.PlaceCounts.{PlaceCounts}
use Rattle.source_api.specs.Counting.{added, raised}
use Rattle.catalog_text.specs.Catalog.{Listed as Entry}
use Rattle.catalog_open.specs.declared.opened.Opening.{Opening}
use Rattle.catalog_open.specs.declared.opened.Opening.TheVariants.{Closed, Open}
use Rattle.catalog_open.specs.Entries.{entry_at, opening_at, entry_told}
use Rattle.topk_base.specs.declared.TheConstants.{MAX_OBJECTS}

-- what a shelf has counted, by place
abbrev pub Counted : Type 0
Counted = List ℕ → PlaceCounts

-- a source that was put back: at which place, and what it had counted
pub record Used : Type 0 where
  pub place : List ℕ
  pub counts : Counts

-- what those had counted that were put back at a place
abbrev pub used_at : List ℕ → List Used → List Counts
used_at place [] = []
used_at place (one ∷ used) = if bytes_eq one.place place then one.counts ∷ used_at place used else used_at place used

-- counts with these added
abbrev pub added_all : Counts → List Counts → Counts
added_all counts [] = counts
added_all counts (more ∷ others) = added_all (added counts more) others

-- a count that went up so many times
abbrev pub counted_times : ℕ → ℕ → ℕ
counted_times zero count = count
counted_times (suc times) count = counted (counted_times times count)

-- between two moments sources were taken of a shelf and these put back, and of each place so many are still held; calls that take a source may have
-- failed, and no text was asked for that failed
pub record MovesBut (held : List ℕ → ℕ) (used : List Used) (before now : Counted) : Type 0 where
  pub texts : (place : List ℕ) → (now place).text_faults ≡ (before place).text_faults
  pub takes : (place : List ℕ) → (before place).take_faults ≤ (now place).take_faults
  pub taken : (place : List ℕ) → (now place).taken ≡ counted_times (length (used_at place used) + held place) (before place).taken
  pub returned : (place : List ℕ) → (now place).returned ≡ counted_times (length (used_at place used)) (before place).returned
  pub sources : (place : List ℕ) → (now place).sources ≡ added_all (before place).sources (used_at place used)

-- no source is held; between two moments all sources that were taken were put back, and these are they
abbrev pub none_held : List ℕ → ℕ
none_held place = 0

abbrev pub Moves : List Used → Counted → Counted → Type 0
Moves used before now = MovesBut none_held used before now

-- between two moments these sources were put back on a shelf, and neither a text nor a source was asked for
pub record PutsBack (used : List Used) (before now : Counted) : Type 0 where
  pub texts : (place : List ℕ) → (now place).text_faults ≡ (before place).text_faults
  pub takes : (place : List ℕ) → (now place).take_faults ≡ (before place).take_faults
  pub taken : (place : List ℕ) → (now place).taken ≡ (before place).taken
  pub returned : (place : List ℕ) → (now place).returned ≡ counted_times (length (used_at place used)) (before place).returned
  pub sources : (place : List ℕ) → (now place).sources ≡ added_all (before place).sources (used_at place used)

-- at a place sources were put back, and calls that take one may have failed
pub record MovesAt (before now : PlaceCounts) : Type 0 where
  pub texts : now.text_faults ≡ before.text_faults
  pub takes : before.take_faults ≤ now.take_faults
  pub counts : List Counts
  pub sources : now.sources ≡ added_all before.sources counts

-- a source has counted nothing: it gave neither a row nor a grade, and no call of it failed, was garbled or told of another version
pub record IsUnread (counts : Counts) : Type 0 where
  pub rows : counts.rows_given ≡ 0
  pub grades : counts.grades_given ≡ 0
  pub faults : counts.faults ≡ 0
  pub garbles : counts.garbles ≡ 0
  pub moves : counts.moves ≡ 0

-- the sources that were put back at a place had given nothing; a count stands still at its last value
pub record GivesNothing (before now : PlaceCounts) : Type 0 where
  pub rows : raised now.sources.rows_given 0 ≡ raised before.sources.rows_given 0
  pub grades : raised now.sources.grades_given 0 ≡ raised before.sources.grades_given 0

-- between two moments nothing was counted but at the places of these entries of the catalog
abbrev pub KeepsOthers : List Entry → (ℕ → Type 0) → Counted → Counted → Type 0
KeepsOthers catalog These before now = (place : List ℕ) → ((entry : ℕ) → These entry → (entry_at catalog entry).place ≢ place) → now place ≡ before place

-- at a place a call that takes a source failed, or one of a source failed or was answered by garbled data: that count rose, or stands at its last value
abbrev pub TroubleAt : PlaceCounts → PlaceCounts → Type 0
TroubleAt before now =
    Rose before.take_faults now.take_faults ⊎ (Rose before.sources.faults now.sources.faults ⊎ Rose before.sources.garbles now.sources.garbles)

-- how many of these entries of the catalog have a place
abbrev pub standing : List Entry → List ℕ → List ℕ → ℕ
standing catalog [] place = 0
standing catalog (entry ∷ entries) place =
    if bytes_eq (entry_at catalog entry).place place then suc (standing catalog entries place) else standing catalog entries place

-- the open sources, by their numbers: the lists that they tell, the versions that are at hand, where they stand in the catalog, and how many objects
-- they have
pub record Sources : Type 0 where
  pub told : List (Option (List Row))
  pub versions : List ℕ
  pub places : List ℕ
  pub counts : List ℕ

abbrev pub no_sources : Sources
no_sources = record { told = []; versions = []; places = []; counts = [] }

-- how many objects a source has in a run: as many as it states, or none where it states more than a list may have
abbrev pub run_count : ℕ → ℕ
run_count size = if nat_le size MAX_OBJECTS then size else 0

-- a source that tells the list of a place tells this list, and states its length
abbrev pub IsToldAs : Option (List Row) → Option (List Row) → ℕ → Type 0
IsToldAs list told size = IfSome list (λ rows. (told ≡ Some rows) × (size ≡ length rows))

-- a source is at this version: it is the one at hand, and the one that is told, where one is
pub record IsAtVersion (told : Option ℕ) (held version : ℕ) : Type 0 where
  pub at_hand : held ≡ version
  pub stated : IfSome told (λ states. version ≡ states)

-- the source at a place of the catalog is the one of this number, and states so many objects at this version
pub record IsSource (lists : List ℕ → Option (List Row)) (versions : List ℕ → Option ℕ) (catalog : List Entry) (s : Sources)
    (place size source version : ℕ) : Type 0 where
  pub within : source < length s.places
  pub stands : slice_index_or s.places source 0 ≡ place
  pub counted : slice_index_or s.counts source 0 ≡ run_count size
  pub told : IsToldAs (entry_told lists catalog place) (slice_index_or s.told source None) size
  pub at : IsAtVersion (entry_told versions catalog place) (slice_index_or s.versions source 0) version

-- what became of the source at a place: it is wanted and open, or it isn't open, and had trouble where it is wanted
abbrev pub IsOpening : (lists : List ℕ → Option (List Row)) (versions : List ℕ → Option ℕ) (catalog : List Entry) (s : Sources) (Wanted : ℕ → Type 0)
    (before now : Counted) (place : ℕ) → Opening → Type 0
IsOpening lists versions catalog s Wanted before now place Closed =
    Wanted place → TroubleAt (before (entry_at catalog place).place) (now (entry_at catalog place).place)
IsOpening lists versions catalog s Wanted before now place (Open size source version) =
    Wanted place × IsSource lists versions catalog s place size source version

-- a source that has a number is open under this number
pub record IsNumbered (catalog : List Entry) (openings : List Opening) (place source : ℕ) : Type 0 where
  pub within : place < length catalog
  pub size : ℕ
  pub version : ℕ
  pub open_as : opening_at openings place ≡ Open size source version

-- the sources of the first entries of a catalog were opened, those that are wanted: what became of each, and what the shelf has counted. The open ones
-- were taken of their places, one for each entry, and all others that were taken were put back
pub record AreOpened (lists : List ℕ → Option (List Row)) (versions : List ℕ → Option ℕ) (catalog : List Entry) (Wanted : ℕ → Type 0)
    (before now : Counted) (openings : List Opening) (s : Sources) : Type 0 where
  pub each : (place : ℕ) → place < length openings → IsOpening lists versions catalog s Wanted before now place (opening_at openings place)
  pub numbered : (source : ℕ) → source < length s.places → IsNumbered catalog openings (slice_index_or s.places source 0) source
  pub many_told : length s.told ≡ length s.places
  pub many_versions : length s.versions ≡ length s.places
  pub many_counts : length s.counts ≡ length s.places
  pub small : All (λ count. count ≤ MAX_OBJECTS) s.counts
  pub used : List Used
  pub moves : MovesBut (standing catalog s.places) used before now
  pub others : KeepsOthers catalog Wanted before now

-- sources that were put back at the places of their entries, by what they had counted
abbrev pub put_back : List Entry → List ℕ → List Counts → List Used
put_back catalog [] counts = []
put_back catalog (place ∷ places) [] = []
put_back catalog (place ∷ places) (one ∷ counts) = record { place = (entry_at catalog place).place; counts = one } ∷ put_back catalog places counts

-- an entry has a place or hasn't, as a number; how many of the entries that are marked have it
abbrev pub one_at : List ℕ → List ℕ → ℕ
one_at here place = if bytes_eq here place then 1 else 0

abbrev pub marked_at : List Entry → List Bool → List ℕ → ℕ
marked_at [] marks place = 0
marked_at (entry ∷ catalog) [] place = 0
marked_at (entry ∷ catalog) (marked ∷ marks) place = (if marked then one_at entry.place place else 0) + marked_at catalog marks place

-- the source of a place was asked for so many times but for lack of memory: each call gave one or failed, and is counted as that; where none failed no
-- failure was counted
pub record AsksFor (calls : ℕ) (before now : PlaceCounts) : Type 0 where
  pub given : ℕ
  pub failed : ℕ
  pub all : given + failed ≡ calls
  pub taken : now.taken ≡ counted_times given before.taken
  pub faults : counted_times failed before.take_faults ≤ now.take_faults
  pub quiet : failed ≡ 0 → now.take_faults ≡ before.take_faults

-- it was asked for no more than so many times
pub record AsksAtMost (most : ℕ) (before now : PlaceCounts) : Type 0 where
  pub calls : ℕ
  pub few : calls ≤ most
  pub asks : AsksFor calls before now

-- the source of each entry that is marked was asked for exactly once, and that of no other
abbrev pub AsksEachOnce : List Entry → List Bool → Counted → Counted → Type 0
AsksEachOnce catalog marks before now = (place : List ℕ) → AsksFor (marked_at catalog marks place) (before place) (now place)

-- the same of the first of these entries, where memory was refused: of each that is marked at most once
abbrev pub AsksEachAtMostOnce : List Entry → List Bool → Counted → Counted → Type 0
AsksEachAtMostOnce catalog marks before now = (place : List ℕ) → AsksAtMost (marked_at catalog marks place) (before place) (now place)

-- these entries are of the catalog, and sources that are put back at their places count there
pub record IsKnownAt (catalog : List Entry) (knows : List ℕ → Bool) (place : ℕ) : Type 0 where
  pub within : place < length catalog
  pub known : knows (entry_at catalog place).place ≡ true
