-- The lists of a bundle as a query line knows them.
use Rattle.std.specs.Prelude.{ℕ, true, List, length, map, Option, Some, option_map}
use Rattle.std.specs.List.{position}
use Rattle.std.specs.Str.{bytes_eq}
use Rattle.ranked_list.specs.declared.row.Row.{Row}
use Rattle.bundle_text.specs.Bundle.{Content}
use Rattle.topk_theory.specs.Transcript.{list_at}
use Rattle.query_admission.specs.View.{View}
use Rattle.query_admission.specs.Causes.{QueryLine}
use Rattle.query_admission.specs.declared.lists.ListInfo.{ListInfo}

-- where a name stands in a bundle
abbrev pub bundle_place : Content → List ℕ → Option ℕ
bundle_place c name = position (λ other. bytes_eq other name) c.names

-- what the list at a place says of itself: the number of its rows, that it offers random access and can be read in order, and version 0
abbrev pub bundle_listed : Content → ℕ → ListInfo
bundle_listed c place = record { size = Some (length (list_at c.lists place)); random = true; sorted = true; source = place; version = 0 }

-- the lists of a bundle by name: all are told, all offer random access, and all can be read in order
abbrev pub bundle_view : Content → View
bundle_view c = record {
  listed = λ name. option_map (bundle_listed c) (bundle_place c name);
  told = λ name. option_map (list_at c.lists) (bundle_place c name);
}

-- the query line of a bundle, which is line 1
abbrev pub bundle_line : Content → QueryLine
bundle_line c = record { view = bundle_view c; number = 1; bytes = c.query }

-- the lists at these places of a bundle
abbrev pub lists_at : Content → List ℕ → List (List Row)
lists_at c places = map (list_at c.lists) places
