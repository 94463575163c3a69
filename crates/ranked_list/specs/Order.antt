-- Whether a row may follow the rows above it, by its grade.
use Rattle.std.specs.Prelude.{◌≡◌, ◌≤◌, ◌<◌, ℕ, IsSomeAnd}
use Rattle.std.specs.Option.{ForSome}
use Rattle.std.specs.declared.option.Option.{Option}
use Rattle.std.specs.declared.result.Result.{Result}
use Rattle.std.specs.declared.result.Result.TheVariants.{Ok, Err}
use Rattle.ranked_list.specs.declared.row.Row.{Row}
use Rattle.ranked_list.specs.declared.order.RowFault.{RowFault}
use Rattle.ranked_list.specs.declared.order.RowFault.TheVariants.{OutOfOrder, TooHigh}
use Rattle.ranked_list.specs.Table.{top_grade}

-- what is found of the row at a place under the last one: that its grade isn't above the greatest nor above the last one's;
-- else that it is above the greatest, with the place and the grade; else that it is above the last one's, with the place and both grades
abbrev pub FindsOrder : {T : Type 0} → ℕ → Option Row → Row → Result T RowFault → Type 0
FindsOrder place last row (Ok done) = (row.grade ≤ top_grade) × ForSome last (λ above. row.grade ≤ above.grade)
FindsOrder place last row (Err (TooHigh at grade)) = (top_grade < row.grade) × (at ≡ place) × (grade ≡ row.grade)
FindsOrder place last row (Err (OutOfOrder at before after)) =
    (row.grade ≤ top_grade) × IsSomeAnd last (λ above. (above.grade < row.grade) × (before ≡ above.grade)) × (at ≡ place) × (after ≡ row.grade)
