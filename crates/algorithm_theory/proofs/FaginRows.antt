-- The definitions on small tables, with figures that were worked out by hand. What `refl` proves holds by computing alone.
use Rattle.std.proofs.Common.{refl, ◌≡◌, ℕ, min, sum, slice_index, List, [], ◌∷◌}
use Rattle.ranked_list.specs.declared.row.Row.{Row}
use Rattle.ranked_list.specs.declared.item.Item.{Item}
use Rattle.topk_theory.specs.declared.access.Access.TheVariants.{Sorted, Random}
use Rattle.topk_theory.specs.Threshold.{ta_depth}
use Rattle.algorithm_theory.specs.Fagin.{fa_depth, fa_seen, fa_run, fa_answer}

abbrev row : ℕ → ℕ → Row
row object grade = record { object = object; grade = grade }

abbrev item : ℕ → ℕ → Item
item object aggregate = record { object = object; low = aggregate; high = aggregate }

abbrev lesser : List ℕ → ℕ
lesser grades = min (slice_index grades 0) (slice_index grades 1)

-- three objects in two lists: at depth 1 none stands in both, at depth 2 object 2 alone does
abbrev three : List (List Row)
three = (row 1 900 ∷ row 2 800 ∷ row 3 100 ∷ []) ∷ (row 2 700 ∷ row 3 600 ∷ row 1 500 ∷ []) ∷ []

-- the rows see 1, 2 and 3; of 1 the second list's grade is unknown, of 3 the first's
pub three_read : fa_run 1 three
    ≡ Sorted 0 1 900 ∷ Sorted 1 2 700 ∷ Sorted 0 2 800 ∷ Sorted 1 3 600 ∷ Random 1 1 500 ∷ Random 0 3 100 ∷ []
three_read = refl

pub three_by_sum : fa_answer sum 1 three ≡ item 2 1500 ∷ []
three_by_sum = refl

-- by the lesser grade the threshold algorithm stops at depth 1 with 700
pub three_by_lesser : fa_answer lesser 1 three ≡ item 2 700 ∷ []
three_by_lesser = refl

pub three_higher : ta_depth lesser 1 three ≡ 1
three_higher = refl

pub three_deep : fa_depth 1 three ≡ 2
three_deep = refl

-- all three stand in both only down to the last depth
pub three_whole : fa_depth 3 three ≡ 3
three_whole = refl

-- three objects in three lists, each the last of one: the algorithm reads all rows, and the threshold algorithm two depths
abbrev around : List (List Row)
around =
    (row 1 10 ∷ row 2 1 ∷ row 3 0 ∷ []) ∷ (row 2 2 ∷ row 3 1 ∷ row 1 1 ∷ []) ∷ (row 3 1 ∷ row 1 1 ∷ row 2 1 ∷ []) ∷ []

pub around_deep : fa_depth 1 around ≡ 3
around_deep = refl

pub around_higher : ta_depth sum 1 around ≡ 2
around_higher = refl

-- two objects of one row are seen in the order of the lists, and before those of lower places: 4 and 2, then 3 and 1
abbrev crossed : List (List Row)
crossed =
    (row 4 9 ∷ row 3 8 ∷ row 2 7 ∷ row 1 6 ∷ []) ∷ (row 2 9 ∷ row 1 8 ∷ row 4 7 ∷ row 3 6 ∷ []) ∷ []

pub crossed_seen : fa_seen 1 crossed ≡ 4 ∷ 2 ∷ 3 ∷ 1 ∷ []
crossed_seen = refl
