-- The sources that a run takes of a shelf.
use Rattle.std.specs.Prelude.{ℕ, List}
use Rattle.catalog_text.specs.Catalog.{Listed as Entry}
use Rattle.catalog_open.specs.Wanted.{IsWanted}
use Rattle.catalog_open.specs.Openings.{Used, Moves, KeepsOthers}
use Rattle.catalog_run.specs.Runs.{AsksWantedAtMostOnce}
use Rattle.command_line.specs.Shelves.{Shelf, TellsTheSame}

-- sources of the lists that query lines name were asked of a shelf, each at most once, and all that it gave were put back; nothing was counted at the places of
-- other lists
pub record TakesSources (catalog : List Entry) (lines : List (List ℕ)) (before now : Shelf) : Type 0 where
  pub tells : TellsTheSame before now
  pub used : List Used
  pub moves : Moves used before.at now.at
  pub few : AsksWantedAtMostOnce catalog lines before.at now.at
  pub others : KeepsOthers catalog (IsWanted catalog lines) before.at now.at
