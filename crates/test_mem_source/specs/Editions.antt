-- The lists that a source in memory changes to.
use Rattle.std.specs.Prelude.{ℕ, Bool, ◌&&◌, nat_le, List, [], ◌∷◌, Option, None, Some, map, if◌then◌else◌}
use Rattle.ranked_list.specs.declared.row.Row.{Row}
use Rattle.test_mem_source.specs.declared.edition.Later.{Later}

-- a list with its version, which takes the place of the one before it just before a call of this number
pub record Edition : Type 0 where
  pub call : ℕ
  pub version : ℕ
  pub rows : List Row

abbrev pub as_edition : Later → Edition
as_edition later = record { call = later.call; version = later.version; rows = later.rows.items }

abbrev pub editions_of : List Later → List Edition
editions_of later = map as_edition later

-- the call from which an edition stands: the first one where there is none
abbrev pub since : Option Edition → ℕ
since None = 1
since (Some held) = held.call

-- whether an edition has come by a call, and no earlier than the one that stands
abbrev pub comes : ℕ → Option Edition → Edition → Bool
comes call held next = nat_le (since held) next.call && nat_le next.call call

-- the edition that stands at a call: of those that have come the last to come, and of two that come together the one further down
abbrev pub standing : ℕ → Option Edition → List Edition → Option Edition
standing call held [] = held
standing call held (next ∷ more) = standing call (if comes call held next then Some next else held) more
