-- Sources that were taken of a shelf, before they are open.
use Rattle.std.specs.Prelude.{◌≡◌, ◌≤◌, ◌+◌, ℕ, Bool, true, false, List, [], ◌∷◌, All, Option, None, Some, Result, Ok, Err, IfSome, length, map, slice_get}
use Rattle.topk_base.specs.declared.Memory.{Memory as WantOfMemory}
use Rattle.tk_io.specs.Faults.{Rose}
use Rattle.ranked_list.specs.declared.row.Row.{Row}
use Rattle.source_api.specs.declared.counts.Counts.{Counts}
use Rattle.source_api.specs.declared.ledger.PlaceCounts.{PlaceCounts}
use Rattle.source_api.specs.declared.source.Trouble.{Trouble}
use Rattle.source_api.specs.declared.source.FailKind.TheVariants.{Memory}
use Rattle.source_api.specs.declared.source.Trouble.TheVariants.{Fail}
use Rattle.source_api.specs.Calls.{Call, IsUncalled}
use Rattle.source_api.specs.Counting.{GaveNothing, IsNoMove, TroubleHasCause, no_counts}
use Rattle.source_api.specs.Places.{CountsTakes, SameAtEach, SameElsewhere, counts_taken, put_back_at}
use Rattle.catalog_text.specs.Catalog.{Listed as Entry}
use Rattle.fetcher.specs.declared.slot.Slot.{Slot}
use Rattle.catalog_open.specs.declared.taking.OpenEntry.{OpenEntry}
use Rattle.catalog_open.specs.declared.taking.OpenEntry.TheVariants.{Unwanted, NotTaken, Taken}
use Rattle.catalog_open.specs.declared.opened.OpenSources.{OpenSources}
use Rattle.catalog_open.specs.Entries.{IsMarked, entry_at}
use Rattle.catalog_open.specs.Openings.{Counted, IsKnownAt, IsToldAs, IsUnread, KeepsOthers, MovesBut, TroubleAt, one_at}
use Rattle.catalog_open.specs.Slots.{ClosesNext, IsIdle, OpensNext, of_slot}

-- what a source is seen as: the list and the version that it tells, the version at hand, what it has counted, and the calls that were made of it
pub record SourceView : Type 0 where
  pub list : Option (List Row)
  pub states : Option ℕ
  pub at_hand : ℕ
  pub counts : Counts
  pub calls : Option (List Call)

abbrev pub seen : {S : Type 0} → (S → Option (List Row)) → (S → Option ℕ) → (S → ℕ) → (S → Counts) → (S → Option (List Call)) → S → SourceView
seen list states at_hand counts calls source =
    record { list = list source; states = states source; at_hand = at_hand source; counts = counts source; calls = calls source }

-- what a shelf is seen as: what it tells of its places, what it has counted there, and the places at which sources that are put back count
pub record ShelfView : Type 0 where
  pub texts : List ℕ → Option (List ℕ)
  pub lists : List ℕ → Option (List Row)
  pub versions : List ℕ → Option ℕ
  pub at : Counted
  pub knows : List ℕ → Bool

abbrev pub shelf_seen : {H : Type 0} → (H → List ℕ → Option (List ℕ)) → (H → List ℕ → Option (List Row)) → (H → List ℕ → Option ℕ) → (H → Counted)
    → (H → List ℕ → Bool) → H → ShelfView
shelf_seen texts lists versions at knows shelf = record { texts = texts shelf; lists = lists shelf; versions = versions shelf; at = at shelf; knows = knows shelf }

-- what no call on a shelf changes
pub record SameShelf (before now : ShelfView) : Type 0 where
  pub texts : SameAtEach before.texts now.texts
  pub lists : SameAtEach before.lists now.lists
  pub versions : SameAtEach before.versions now.versions
  pub known : (place : List ℕ) → before.knows place ≡ true → now.knows place ≡ true

-- a new source of a place of which a list and a version are told
pub record IsNew (list : Option (List Row)) (version : Option ℕ) (source : SourceView) : Type 0 where
  pub fresh : source.counts ≡ no_counts
  pub uncalled : IsUncalled source.calls
  pub tells : IfSome list (λ rows. source.list ≡ Some rows)
  pub stated : IfSome version (λ told. source.states ≡ Some told)

-- a source was asked for its size, exactly once and for nothing else, and answered so
abbrev pub IsAskedOnce : Result ℕ Trouble → SourceView → Type 0
IsAskedOnce answer source = IfSome source.calls (λ calls. calls ≡ Call.Size answer ∷ [])

-- it answered with this size
pub record IsSized (list : Option (List Row)) (version : Option ℕ) (source : SourceView) (size : ℕ) : Type 0 where
  pub asked : IsAskedOnce (Ok size) source
  pub fresh : source.counts ≡ no_counts
  pub tells : IsToldAs list source.list size
  pub stated : IfSome version (λ told. source.at_hand ≡ told)

-- it had trouble
pub record IsTroubled (source : SourceView) (why : Trouble) : Type 0 where
  pub asked : IsAskedOnce (Err why) source
  pub cause : TroubleHasCause no_counts source.counts why
  pub given : GaveNothing no_counts source.counts
  pub unmoved : IsNoMove why

abbrev pub Answers : Option (List Row) → Option ℕ → SourceView → Option (Result ℕ Trouble) → Type 0
Answers list version source None = IsNew list version source
Answers list version source (Some (Ok size)) = IsSized list version source size
Answers list version source (Some (Err why)) = IsTroubled source why

-- a call that takes a source failed
pub record TakeFails (before now : PlaceCounts) : Type 0 where
  pub counts : CountsTakes before now
  pub untaken : now.taken ≡ before.taken
  pub rose : Rose before.take_faults now.take_faults

-- what becomes of an entry whose source couldn't be taken for this cause
abbrev pub not_taken : {S : Type 0} → Trouble → Result (OpenEntry S) WantOfMemory
not_taken (Fail Memory) = Err (record {})
not_taken _ = Ok NotTaken

-- it is known what becomes of an entry: a source that was taken was asked for its size, and had the memory to answer
abbrev pub is_answered : {S : Type 0} → OpenEntry S → Bool
is_answered (Taken source None) = false
is_answered (Taken source (Some (Err (Fail Memory)))) = false
is_answered _ = true

-- the size under which a source is opened that answered so
abbrev pub size_to_open : Bool → Option (Result ℕ Trouble) → Option ℕ
size_to_open false (Some (Ok size)) = Some size
size_to_open _ _ = None

-- how many sources are held of a place by an entry, and by some entries
abbrev pub held_one : {S : Type 0} → OpenEntry S → List ℕ → List ℕ → ℕ
held_one (Taken source size) here place = one_at here place
held_one _ here place = 0

abbrev pub held_at : {S : Type 0} → List (OpenEntry S) → List Entry → List ℕ → ℕ
held_at [] catalog place = 0
held_at (entry ∷ entries) [] place = 0
held_at (entry ∷ entries) (one ∷ catalog) place = held_one entry one.place place + held_at entries catalog place

module _ {S : Type 0} (view : S → SourceView) where
  -- a source was asked for its size, unless it was asked
  abbrev pub IsAsked : OpenEntry S → OpenEntry S → Type 0
  IsAsked (Taken before size) (Taken now answer) =
      (list : Option (List Row)) (version : Option ℕ) → Answers list version (view before) size → Answers list version (view now) answer
  IsAsked Unwanted now = now ≡ Unwanted
  IsAsked NotTaken now = now ≡ NotTaken
  IsAsked (Taken before size) now = ⊥

  abbrev pub IsAskedAt : Option (OpenEntry S) → Option (OpenEntry S) → Type 0
  IsAskedAt None now = now ≡ None
  IsAskedAt (Some before) now = (after : OpenEntry S) × (now ≡ Some after) × IsAsked before after

  abbrev pub AreAsked : List (OpenEntry S) → List (OpenEntry S) → Type 0
  AreAsked before now = (i : ℕ) → IsAskedAt (slice_get before i) (slice_get now i)

  -- a call for the source of a place, where it is wanted, ended so: one that isn't wanted isn't asked for, and lack of memory counts nothing
  abbrev pub Took : Result (OpenEntry S) WantOfMemory → Bool → List ℕ → ShelfView → ShelfView → Type 0
  Took (Err _) wanted place before now = SameAtEach before.at now.at
  Took (Ok Unwanted) false place before now = SameAtEach before.at now.at
  Took (Ok NotTaken) true place before now = SameElsewhere place before.at now.at × TakeFails (before.at place) (now.at place)
  Took (Ok (Taken source None)) true place before now =
      SameElsewhere place before.at now.at × (now.at place ≡ counts_taken (before.at place)) × IsNew (before.lists place) (before.versions place) (view source)
      × (now.knows place ≡ true)
  Took _ _ _ _ _ = ⊥

  pub record TakesOne (wanted : Bool) (place : List ℕ) (before now : ShelfView) (result : Result (OpenEntry S) WantOfMemory) : Type 0 where
    pub same : SameShelf before now
    pub took : Took result wanted place before now

  -- this became of the source of an entry with a mark, between two moments of the shelf
  abbrev pub Became : Bool → (before now : ShelfView) (place : List ℕ) → OpenEntry S → Type 0
  Became false before now place Unwanted = Unit {0}
  Became true before now place NotTaken = TroubleAt (before.at place) (now.at place)
  Became true before now place (Taken source size) = Answers (before.lists place) (before.versions place) (view source) size × (now.knows place ≡ true)
  Became _ _ _ _ _ = ⊥

  abbrev pub AllBecame : (before now : ShelfView) → List (OpenEntry S) → List Entry → List Bool → Type 0
  AllBecame before now [] catalog marks = Unit {0}
  AllBecame before now (entry ∷ entries) (one ∷ catalog) (mark ∷ marks) = Became mark before now one.place entry × AllBecame before now entries catalog marks
  AllBecame before now (entry ∷ entries) _ _ = ⊥

  -- the sources of the first entries of a catalog were taken, where they are marked
  pub record AreTaken (catalog : List Entry) (marks : List Bool) (before now : ShelfView) (entries : List (OpenEntry S)) : Type 0 where
    pub same : SameShelf before now
    pub became : AllBecame before now entries catalog marks
    pub moves : MovesBut (held_at entries catalog) [] before.at now.at
    pub others : KeepsOthers catalog (IsMarked marks) before.at now.at

  -- a source was put back at its place, and its entry isn't open
  pub record GivesBack (source : S) (place : List ℕ) (before now : ShelfView) (opened opened_now : OpenSources S) : Type 0 where
    pub elsewhere : SameElsewhere place before.at now.at
    pub back : now.at place ≡ put_back_at (before.knows place) (view source).counts (before.at place)
    pub closes : ClosesNext opened opened_now

  -- the next entry was settled: its source is open, or was put back, or there is none
  abbrev pub SettlesTaken : S → Option ℕ → List ℕ → (before now : ShelfView) (opened opened_now : OpenSources S) → Type 0
  SettlesTaken source (Some size) place before now opened opened_now =
      SameAtEach before.at now.at × OpensNext (λ s. (view s).at_hand) source size opened opened_now
  SettlesTaken source None place before now opened opened_now = GivesBack source place before now opened opened_now

  abbrev pub Settles : Bool → OpenEntry S → List Entry → (before now : ShelfView) (opened opened_now : OpenSources S) → Type 0
  Settles short (Taken source size) catalog before now opened opened_now =
      SettlesTaken source (size_to_open short size) (entry_at catalog (length opened.openings.items)).place before now opened opened_now
  Settles short Unwanted catalog before now opened opened_now = SameAtEach before.at now.at × ClosesNext opened opened_now
  Settles short NotTaken catalog before now opened opened_now = SameAtEach before.at now.at × ClosesNext opened opened_now

  -- the source of a slot was asked for its size once, and told one
  abbrev pub WasAsked : Slot S → Type 0
  WasAsked slot = (size : ℕ) × IsAskedOnce (Ok size) (view slot.source)

  -- what became of each entry is known, and each open source counts at its place, was asked for its size once and for nothing else, and has no feeder
  pub record AreReady (catalog : List Entry) (knows : List ℕ → Bool) (opened : OpenSources S) : Type 0 where
    pub all : length opened.openings.items ≡ length catalog
    pub few : length opened.slots.items ≤ length catalog
    pub known : All (IsKnownAt catalog knows) opened.places.items
    pub idle : All IsIdle opened.slots.items
    pub unread : All IsUnread (map (of_slot (λ source. (view source).counts)) opened.slots.items)
    pub asked : All WasAsked opened.slots.items
