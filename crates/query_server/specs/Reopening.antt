-- What asking sources for their sizes again makes of lists.
use Rattle.std.specs.Prelude.{◌≡◌, ◌≢◌, ◌⊎◌, ◌<◌, ℕ, ⊤, List, Option, Some, None, Result, Ok, Err, IfSome, length, slice_index_or}
use Rattle.ranked_list.specs.declared.row.Row.{Row}
use Rattle.tk_io.specs.Faults.{Rose}
use Rattle.source_api.specs.Calls.{Call, with_call}
use Rattle.source_api.specs.Counting.{NoneFell, GaveNothing}
use Rattle.source_api.specs.declared.counts.Counts.{Counts}
use Rattle.source_api.specs.declared.source.Trouble.{Trouble}
use Rattle.fetcher.specs.declared.slot.Slot.{Slot}
use Rattle.server_conn.specs.declared.opened.OpenedEntry.{OpenedEntry}
use Rattle.server_conn.specs.declared.opened.OpenedEntry.TheVariants.{Opened, NotOpened, TooLarge}
use Rattle.query_server.specs.Homes.{home_at, home_of, entry_at}

-- this became of a list whose source states so many objects at a version
abbrev pub IsByItsSize : ℕ → ℕ → OpenedEntry → Type 0
IsByItsSize size at_hand (Opened count source version) = (count ≡ size) × (version ≡ at_hand)
IsByItsSize size at_hand (NotOpened source) = ⊥
IsByItsSize size at_hand (TooLarge count source) = count ≡ size

-- what a source answered that was asked for its size, if this became of its list
abbrev pub HasAnswer : Result ℕ Trouble → OpenedEntry → Type 0
HasAnswer answer (Opened count source version) = answer ≡ Ok count
HasAnswer answer (NotOpened source) = (why : Trouble) × (answer ≡ Err why)
HasAnswer answer (TooLarge count source) = answer ≡ Ok count

-- a list isn't open only where its source failed or gave garbled data: that count rose, or stands at its last value; else nothing was counted
abbrev pub HasCauseInCounts : Counts → Counts → OpenedEntry → Type 0
HasCauseInCounts before now (Opened count source version) = now ≡ before
HasCauseInCounts before now (NotOpened source) = Rose before.faults now.faults ⊎ Rose before.garbles now.garbles
HasCauseInCounts before now (TooLarge count source) = now ≡ before

-- an open list has the version that its source has at hand, and one whose size is known has as many objects as its source tells rows
abbrev pub IsAsStated : Option (List Row) → ℕ → OpenedEntry → Type 0
IsAsStated told at_hand (Opened count source version) = (version ≡ at_hand) × IfSome told (λ rows. count ≡ length rows)
IsAsStated told at_hand (NotOpened source) = ⊤
IsAsStated told at_hand (TooLarge count source) = IfSome told (λ rows. count ≡ length rows)

-- an open list has the version that its source, which stands in the slot of its number, has at hand
abbrev pub IsAtHand : {S : Type 0} → (S → ℕ) → List (Slot S) → OpenedEntry → Type 0
IsAtHand {S} at_hand slots (Opened count source version) =
    (d : Slot S) → source < length slots → version ≡ at_hand (slice_index_or slots source d).source
IsAtHand at_hand slots (NotOpened source) = ⊤
IsAtHand at_hand slots (TooLarge count source) = ⊤

module _ {S : Type 0} (list : S → Option (List Row)) (counts : S → Counts) (calls : S → Option (List Call)) where
  -- a source was asked for its size and for nothing else: it tells the list that it told, and gave neither a row nor a grade
  pub record IsAsked (before after : S) : Type 0 where
    pub answer : Result ℕ Trouble
    pub call : calls after ≡ with_call (Call.Size answer) (calls before)
    pub told : list after ≡ list before
    pub later : NoneFell (counts before) (counts after)
    pub given : GaveNothing (counts before) (counts after)

  -- of the sources in slots the one of this number was asked, if there is one, and all others stand as they stood
  pub record AsksOne (home : Option ℕ) (before after : List (Slot S)) : Type 0 where
    pub size : length after ≡ length before
    pub asked : (i : ℕ) (d : Slot S) → home ≡ Some i → IsAsked (slice_index_or before i d).source (slice_index_or after i d).source
    pub others : (i : ℕ) (d : Slot S) → home ≢ Some i → slice_index_or after i d ≡ slice_index_or before i d

  -- of the sources in slots some of those of these lists were asked, each once, and all others stand as they stood
  pub record AsksSome (homes : List (Option ℕ)) (before after : List (Slot S)) : Type 0 where
    pub size : length after ≡ length before
    pub each : (i : ℕ) (d : Slot S)
        → (slice_index_or after i d ≡ slice_index_or before i d) ⊎ IsAsked (slice_index_or before i d).source (slice_index_or after i d).source
    pub others : (i : ℕ) (d : Slot S) → ((place : ℕ) → home_at homes place ≢ Some i) → slice_index_or after i d ≡ slice_index_or before i d

module _ {S : Type 0} (list : S → Option (List Row)) (counts : S → Counts) (calls : S → Option (List Call)) (at_hand : S → ℕ) where
  -- a source was asked for its size, and by what it answered this became of its list
  pub record Reopens (before after : S) (entry : OpenedEntry) : Type 0 where
    pub asked : IsAsked list counts calls before after
    pub answer : HasAnswer asked.answer entry
    pub cause : HasCauseInCounts (counts before) (counts after) entry
    pub stated : IsAsStated (list after) (at_hand after) entry

  -- this became of a list whose source has this number, as it answered; a list without a source stays as it was
  abbrev pub ReopensAt : List (Slot S) → List (Slot S) → Option ℕ → OpenedEntry → OpenedEntry → Type 0
  ReopensAt before after None entry now = now ≡ entry
  ReopensAt before after (Some source) entry now =
      (d : Slot S) → Reopens (slice_index_or before source d).source (slice_index_or after source d).source now

  -- this became of all lists
  pub record ReopensAll (entries now : List OpenedEntry) (before after : List (Slot S)) : Type 0 where
    pub each : (place : ℕ) → ReopensAt before after (home_of (entry_at entries place)) (entry_at entries place) (entry_at now place)
