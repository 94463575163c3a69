-- The JSON values whose texts the bodies are.
use Rattle.std.specs.Prelude.{◌≡◌, ℕ, zero, suc, List, map, codes, Option, None, Some}
use Rattle.ranked_list.specs.declared.row.Row.{Row}
use Rattle.serde_json.specs.Data.{Data, null, number, unsigned, array, object, no_items, item, Members, no_members, member, put}
use Rattle.serde_json.specs.View.{items_of}
use Rattle.page_json.specs.Bodies.{rows_of}

-- a whole number
abbrev pub number_value : ℕ → Data
number_value n = number (unsigned n)

-- members with a version that isn't 0
abbrev pub with_version : ℕ → Members → Members
with_version zero members = members
with_version (suc n) members = put (codes "version") (number_value (suc n)) members

-- an object of one key at a version
abbrev pub body_value : List ℕ → Data → ℕ → Data
body_value key value version = object (with_version version (member key value no_members))

-- a row as an array
abbrev pub row_value : Row → Data
row_value row = array (item (number_value row.object) (item (number_value row.grade) no_items))

-- rows as an array
abbrev pub rows_value : List Row → Data
rows_value rows = array (items_of (map row_value rows))

-- a grade, or `null` for None
abbrev pub grade_value : Option ℕ → Data
grade_value None = null
grade_value (Some grade) = number_value grade

-- these rows are read of their array
abbrev pub ReadBack : List Row → Type 0
ReadBack rows = rows_of (items_of (map row_value rows)) ≡ Some rows
