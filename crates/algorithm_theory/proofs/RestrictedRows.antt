-- The definitions on small tables, with figures that were worked out by hand. What `refl` proves holds by computing alone.
use Rattle.std.proofs.Common.{refl, ◌≡◌, ℕ, zero, suc, ◌*◌, Bool, true, false, sum, slice_index, List, [], ◌∷◌}
use Rattle.ranked_list.specs.declared.row.Row.{Row}
use Rattle.ranked_list.specs.declared.item.Item.{Item}
use Rattle.topk_theory.specs.declared.access.Access.TheVariants.{Sorted, Random}
use Rattle.topk_theory.specs.Threshold.{ta_depth, ta_answer}
use Rattle.algorithm_theory.specs.Restricted.{taz_depth, taz_run, taz_answer}

abbrev row : ℕ → ℕ → Row
row object grade = record { object = object; grade = grade }

abbrev item : ℕ → ℕ → Item
item object aggregate = record { object = object; low = aggregate; high = aggregate }

-- three objects in two lists
abbrev three : List (List Row)
three = (row 1 900 ∷ row 2 800 ∷ row 3 100 ∷ []) ∷ (row 2 700 ∷ row 3 600 ∷ row 1 500 ∷ []) ∷ []

-- the first list alone can be read in order; both can
abbrev first_alone : ℕ → Bool
first_alone zero = true
first_alone (suc list) = false

abbrev both : ℕ → Bool
both list = true

-- the bottom of the other list stays at the greatest grade, so no sum reaches the threshold, and all three objects are seen
pub three_read : taz_run sum 1 first_alone three
    ≡ Sorted 0 1 900 ∷ Random 1 1 500 ∷ Sorted 0 2 800 ∷ Random 1 2 700 ∷ Sorted 0 3 100 ∷ Random 1 3 600 ∷ []
three_read = refl

pub three_by_sum : taz_answer sum 1 first_alone three ≡ item 2 1500 ∷ []
three_by_sum = refl

-- where the other list has no weight, its first row is enough
abbrev leading : List ℕ → ℕ
leading grades = 1 * slice_index grades 0

pub three_leading : taz_run leading 1 first_alone three ≡ Sorted 0 1 900 ∷ Random 1 1 500 ∷ []
three_leading = refl

pub three_first : taz_answer leading 1 first_alone three ≡ item 1 900 ∷ []
three_first = refl

-- where both can be read in order, the run is the threshold algorithm's: at depth 2 all three objects are seen
pub three_both : taz_run sum 1 both three
    ≡ Sorted 0 1 900 ∷ Sorted 1 2 700 ∷ Random 1 1 500 ∷ Random 0 2 800 ∷ Sorted 0 2 800 ∷ Sorted 1 3 600 ∷ Random 0 3 100 ∷ []
three_both = refl

pub three_alike : taz_answer sum 1 both three ≡ ta_answer sum 1 three
three_alike = refl

-- two objects, each the first of one list: all are seen at depth 1, where the threshold algorithm goes on to depth 2
abbrev crossed : List (List Row)
crossed = (row 1 9 ∷ row 2 0 ∷ []) ∷ (row 2 9 ∷ row 1 0 ∷ []) ∷ []

pub crossed_higher : taz_depth sum 1 both crossed ≡ 1
crossed_higher = refl

pub crossed_deeper : ta_depth sum 1 crossed ≡ 2
crossed_deeper = refl
