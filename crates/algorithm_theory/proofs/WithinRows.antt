-- The definitions on small tables, with figures that were worked out by hand. What `refl` proves holds by computing alone.
use Rattle.std.proofs.Common.{refl, ◌≡◌, ℕ, min, sum, slice_index, List, [], ◌∷◌}
use Rattle.ranked_list.specs.declared.row.Row.{Row}
use Rattle.ranked_list.specs.declared.item.Item.{Item}
use Rattle.topk_theory.specs.declared.access.Access.TheVariants.{Sorted, Random}
use Rattle.algorithm_theory.specs.Within.{Factor}
use Rattle.algorithm_theory.specs.Nearby.{theta_depth, theta_run, theta_answer, early_depth, early_run, early_answer}
use Rattle.algorithm_theory.specs.Guarantee.{exact_factor, no_factor, early_guarantee}

abbrev row : ℕ → ℕ → Row
row object grade = record { object = object; grade = grade }

abbrev item : ℕ → ℕ → Item
item object aggregate = record { object = object; low = aggregate; high = aggregate }

abbrev over : ℕ → ℕ → Factor
over p q = record { p = p; q = q }

abbrev lesser : List ℕ → ℕ
lesser grades = min (slice_index grades 0) (slice_index grades 1)

-- three objects in two lists: the threshold by sum falls from 1600 to 1400, and at depth 1 object 2 has 1500 and object 1 has 1400
abbrev three : List (List Row)
three = (row 1 900 ∷ row 2 800 ∷ row 3 100 ∷ []) ∷ (row 2 700 ∷ row 3 600 ∷ row 1 500 ∷ []) ∷ []

-- 8 * 1500 is at least 7 * 1600, so it stops at depth 1; 16 * 1500 is 15 * 1600, and 17 * 1500 less than 16 * 1600
pub eight_sevenths : theta_run sum 1 (over 8 7) three ≡ Sorted 0 1 900 ∷ Sorted 1 2 700 ∷ Random 1 1 500 ∷ Random 0 2 800 ∷ []
eight_sevenths = refl

pub eight_sevenths_answer : theta_answer sum 1 (over 8 7) three ≡ item 2 1500 ∷ []
eight_sevenths_answer = refl

pub tight : theta_depth sum 1 (over 16 15) three ∷ theta_depth sum 1 (over 17 16) three ∷ theta_depth sum 1 exact_factor three ∷ [] ≡ 1 ∷ 2 ∷ 2 ∷ []
tight = refl

-- an early stop at depth 1 answers the same, within 1600 / 1500; from depth 2 on it is the threshold algorithm
pub early_answers : early_answer sum 1 1 three ≡ item 2 1500 ∷ []
early_answers = refl

pub early_shows : early_guarantee sum 2 (early_run sum 1 1 three) (2 ∷ []) ≡ over 1600 1500
early_shows = refl

pub late_shows : early_guarantee sum 2 (early_run sum 1 5 three) (2 ∷ []) ≡ exact_factor
late_shows = refl

pub depths : early_depth sum 1 1 three ∷ early_depth sum 1 2 three ∷ early_depth sum 1 5 three ∷ [] ≡ 1 ∷ 2 ∷ 2 ∷ []
depths = refl

-- three objects take depth 2, and two are there at depth 1, of which the lesser has 1400
pub more : early_depth sum 3 1 three ∷ early_depth sum 2 1 three ∷ [] ≡ 2 ∷ 1 ∷ []
more = refl

pub two_show : early_guarantee sum 2 (early_run sum 2 1 three) (2 ∷ 1 ∷ []) ≡ over 1600 1400
two_show = refl

-- by the lesser grade the first rows have the threshold 5 and the aggregates 0, so nothing is promised
abbrev apart : List (List Row)
apart = (row 1 5 ∷ row 2 0 ∷ row 3 0 ∷ []) ∷ (row 2 5 ∷ row 1 0 ∷ row 3 0 ∷ []) ∷ []

pub nothing_shows : early_guarantee lesser 2 (early_run lesser 1 1 apart) (1 ∷ []) ≡ no_factor
nothing_shows = refl

pub no_depth : early_depth lesser 1 1 apart ∷ theta_depth lesser 1 (over 1000000 1) apart ∷ [] ≡ 1 ∷ 2 ∷ []
no_depth = refl
