-- What lists that a caller has in memory say.
use Rattle.std.specs.Prelude.{ℕ, List, map}
use Rattle.ranked_list.specs.declared.row.Row.{Row}
use Rattle.bundle_text.specs.declared.given.GivenRow.{GivenRow}
use Rattle.bundle_text.specs.declared.given.GivenList.{GivenList}
use Rattle.bundle_text.specs.Bundle.{Content}

-- the row of an object and its grade
abbrev pub row_given : GivenRow → Row
row_given given = record { object = given.object; grade = given.grade }

-- the rows of a list
abbrev pub rows_given : List GivenRow → List Row
rows_given rows = map row_given rows

-- what lists under their names and a query say
abbrev pub content_given : List GivenList → List ℕ → Content
content_given lists query = record { names = map (λ list. list.name.now) lists; lists = map (λ list. rows_given list.rows.now) lists; query = query }
