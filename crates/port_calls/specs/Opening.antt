-- The lists of a catalog all of whose sources were opened.
use Rattle.std.specs.Prelude.{◌≡◌, ◌<◌, ℕ, Bool, true, List, None, Some, length, map, nat_le, replicate, if◌then◌else◌}
use Rattle.topk_base.specs.declared.TheConstants.{MAX_OBJECTS}
use Rattle.catalog_text.specs.Catalog.{Listed as Entry}
use Rattle.catalog_open.specs.declared.opened.Opening.{Opening}
use Rattle.catalog_open.specs.declared.opened.Opening.TheVariants.{Closed, Open}
use Rattle.catalog_open.specs.Openings.{Counted, Used, Moves, PutsBack, Sources, AreOpened, KeepsOthers, AsksEachAtMostOnce, AsksEachOnce}
use Rattle.query_server.specs.OpenedEntry.{OpenedEntry}
use Rattle.query_server.specs.OpenedEntry.TheVariants.{Opened, NotOpened, TooLarge}
use Rattle.command_line.specs.Shelves.{Shelf, TellsTheSame}

-- what becomes of a list by what became of its source: one that states more objects than a list may have is too large
abbrev pub entry_of : Opening → OpenedEntry
entry_of Closed = NotOpened None
entry_of (Open size source version) = if nat_le size MAX_OBJECTS then Opened size source version else TooLarge size (Some source)

-- each source of a catalog is marked
abbrev pub every : List Entry → List Bool
every catalog = replicate (length catalog) true

-- an entry is one of the catalog's
abbrev pub IsOneOf : List Entry → ℕ → Type 0
IsOneOf catalog entry = entry < length catalog

-- sources of the lists of a catalog were asked of a shelf, each at most once, and all that it gave were put back; nothing was counted at other places
pub record BorrowsSome (catalog : List Entry) (before now : Shelf) : Type 0 where
  pub tells : TellsTheSame before now
  pub used : List Used
  pub moves : Moves used before.at now.at
  pub few : AsksEachAtMostOnce catalog (every catalog) before.at now.at
  pub others : KeepsOthers catalog (IsOneOf catalog) before.at now.at

-- and each was asked for once
pub record BorrowsAll (catalog : List Entry) (before now : Shelf) : Type 0 where
  pub borrows : BorrowsSome catalog before now
  pub once : AsksEachOnce catalog (every catalog) before.at now.at

-- the source of each list of a catalog was opened, and this became of the lists: one is open, or too large, by what its source states, and not open where
-- a call that takes its source, or one of the source, failed or was garbled. Since then nothing was counted but what the sources that were put back counted
pub record OpensAll (catalog : List Entry) (before now : Shelf) : Type 0 where
  pub then_counted : Counted
  pub openings : List Opening
  pub sources : Sources
  pub opened : AreOpened before.lists before.versions catalog (IsOneOf catalog) before.at then_counted openings sources
  pub entries : List OpenedEntry
  pub many : length entries ≡ length catalog
  pub became : entries ≡ map entry_of openings
  pub used : List Used
  pub back : PutsBack used then_counted now.at
