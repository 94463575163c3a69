-- How far a loop over the values of a page has come.
use Rattle.std.specs.Prelude.{◌≡◌, ℕ, List, ◌++◌, drop, option_map}
use Rattle.ranked_list.specs.declared.row.Row.{Row}
use Rattle.serde_json.specs.declared.value.Value.{Value}
use Rattle.serde_json.specs.View.{items_view}
use Rattle.page_json.specs.Bodies.{rows_of}

-- the values are read as these rows and then as those that the rest is read as
abbrev pub AreRead : List Row → List Value → ℕ → Type 0
AreRead rows values index = option_map (λ more. rows ++ more) (rows_of (items_view (drop index values))) ≡ rows_of (items_view values)
