-- How the JSON bodies of a list's replies are written: compact, and without the version 0.
use Rattle.std.specs.Prelude.{ℕ, zero, suc, List, ◌++◌, map, codes, decimal, Option, None, Some}
use Rattle.std.specs.List.{join_with_byte}
use Rattle.ranked_list.specs.declared.row.Row.{Row}

-- the end of a body at a version
abbrev pub version_text : ℕ → List ℕ
version_text zero = codes "}"
version_text (suc n) = codes ",\"version\":" ++ decimal (suc n) ++ codes "}"

-- the body of a size
abbrev pub size_text : ℕ → ℕ → List ℕ
size_text version count = codes "{\"count\":" ++ decimal count ++ version_text version

-- a row in a body
abbrev pub row_text : Row → List ℕ
row_text row = codes "[" ++ decimal row.object ++ codes "," ++ decimal row.grade ++ codes "]"

-- the body of a page, whose rows stand between commas
abbrev pub page_text : ℕ → List Row → List ℕ
page_text version rows = codes "{\"rows\":[" ++ join_with_byte 44 (map row_text rows) ++ codes "]" ++ version_text version

-- a grade in a body, with `null` for None
abbrev pub grade_or_null : Option ℕ → List ℕ
grade_or_null None = codes "null"
grade_or_null (Some grade) = decimal grade

-- the body of a grade
abbrev pub grade_text : ℕ → Option ℕ → List ℕ
grade_text version grade = codes "{\"grade\":" ++ grade_or_null grade ++ version_text version
