-- The definitions on small tables, with figures that were worked out by hand. What `refl` proves holds by computing alone.
use Rattle.std.proofs.Common.{refl, ◌≡◌, ℕ, zero, suc, ◌+◌, ◌<◌, min, max, sum, slice_index, slice_index_or, List, [], ◌∷◌, Some, None, All, Contains, lit<, arith}
use Rattle.ranked_list.specs.declared.row.Row.{Row}
use Rattle.ranked_list.specs.declared.item.Item.{Item}
use Rattle.ranked_list.specs.Table.{IsTable, objects}
use Rattle.topk_theory.specs.declared.access.Access.{Access}
use Rattle.topk_theory.specs.declared.access.Access.TheVariants.{Sorted, Random}
use Rattle.topk_theory.specs.Aggregate.{aggregate, IsTop}
use Rattle.topk_theory.specs.Transcript.{Agrees, named_objects, seen_objects, random_rows, bottom_of, depth, cost}
use Rattle.topk_theory.specs.Bounds.{known_grade, low, high, threshold}
use Rattle.topk_theory.specs.Fixes.{IsObjectSet, IsOver, FixesOver, Fixes}
use Rattle.topk_theory.specs.Threshold.{threshold_at, ta_depth, ta_run, ta_answer}
use Rattle.topk_theory.specs.NoRandom.{nra_depth, nra_run, nra_answer}
use Rattle.topk_theory.specs.Combined.{phase_length, ca_run, ca_answer}
use Rattle.topk_theory.specs.Consistent.{Kind, too_many_objects, rises, repeats, clashes, falls_short, above_bottom, IsOfKind, IsFirstKind}

abbrev row : ℕ → ℕ → Row
row object grade = record { object = object; grade = grade }

abbrev item : ℕ → ℕ → ℕ → Item
item object least most = record { object = object; low = least; high = most }

-- the lesser of two grades; the lesser, and the second once more; the second smallest of four
abbrev lesser : List ℕ → ℕ
lesser grades = min (slice_index grades 0) (slice_index grades 1)

abbrev lesser_and_second : List ℕ → ℕ
lesser_and_second grades = min (slice_index grades 0) (slice_index grades 1) + slice_index grades 1

abbrev second_smallest : List ℕ → ℕ
second_smallest grades = min (max (min (slice_index grades 0) (slice_index grades 1)) (min (slice_index grades 2) (slice_index grades 3))) (min (max (slice_index grades 0) (slice_index grades 1)) (max (slice_index grades 2) (slice_index grades 3)))

-- three objects in two lists
abbrev three : List (List Row)
three = (row 1 900 ∷ row 2 800 ∷ row 3 100 ∷ []) ∷ (row 2 700 ∷ row 3 600 ∷ row 1 500 ∷ []) ∷ []

-- the best by sum: the threshold falls from 1600 to 1400, and object 2 has 1500
abbrev three_run : List Access
three_run = Sorted 0 1 900 ∷ Sorted 1 2 700 ∷ Random 1 1 500 ∷ Random 0 2 800 ∷ Sorted 0 2 800 ∷ Sorted 1 3 600 ∷ Random 0 3 100 ∷ []

sum-thresholds : threshold_at sum three 1 ∷ threshold_at sum three 2 ∷ [] ≡ 1600 ∷ 1400 ∷ []
sum-thresholds = refl

sum-depth : ta_depth sum 1 three ≡ 2
sum-depth = refl

sum-run : ta_run sum 1 three ≡ three_run
sum-run = refl

sum-answer : ta_answer sum 1 three ≡ item 2 1500 1500 ∷ []
sum-answer = refl

sum-cost : cost 1 1 three_run ∷ depth 2 three_run ∷ threshold sum 2 three_run ∷ [] ≡ 7 ∷ 2 ∷ 1400 ∷ []
sum-cost = refl

sum-named : named_objects three_run ≡ 1 ∷ 2 ∷ 3 ∷ []
sum-named = refl

-- the best by the lesser grade: its aggregate equals the threshold
lesser-run : ta_run lesser 1 three ≡ Sorted 0 1 900 ∷ Sorted 1 2 700 ∷ Random 1 1 500 ∷ Random 0 2 800 ∷ []
lesser-run = refl

lesser-answer : ta_answer lesser 1 three ≡ item 2 700 700 ∷ []
lesser-answer = refl

-- all three by sum: the last depth has no new object
all-depth : ta_depth sum 3 three ≡ 3
all-depth = refl

all-answer : ta_answer sum 3 three ≡ item 2 1500 1500 ∷ item 1 1400 1400 ∷ item 3 700 700 ∷ []
all-answer = refl

all-cost : cost 1 0 (ta_run sum 3 three) ∷ cost 0 1 (ta_run sum 3 three) ∷ [] ≡ 6 ∷ 3 ∷ []
all-cost = refl

-- a list that stands twice in the expression
twice-answer : ta_answer lesser_and_second 3 three ≡ item 2 1400 1400 ∷ item 1 1000 1000 ∷ item 3 700 700 ∷ []
twice-answer = refl

twice-depth : ta_depth lesser_and_second 1 three ∷ cost 2 3 (ta_run lesser_and_second 1 three) ∷ [] ≡ 1 ∷ 10 ∷ []
twice-depth = refl

-- one list of one object of grade 0
abbrev single : List (List Row)
single = (row 9 0 ∷ []) ∷ []

single-run : ta_run sum 1 single ≡ Sorted 0 9 0 ∷ []
single-run = refl

single-answer : ta_answer sum 1 single ≡ item 9 0 0 ∷ []
single-answer = refl

-- equal grades everywhere: of the objects that were met the lesser number wins, and object 1 isn't met
abbrev level : List (List Row)
level = (row 3 5 ∷ row 1 5 ∷ row 4 5 ∷ row 2 5 ∷ []) ∷ (row 4 5 ∷ row 2 5 ∷ row 1 5 ∷ row 3 5 ∷ []) ∷ []

level-run : ta_run sum 1 level ≡ Sorted 0 3 5 ∷ Sorted 1 4 5 ∷ Random 1 3 5 ∷ Random 0 4 5 ∷ []
level-run = refl

level-answer : ta_answer sum 1 level ≡ item 3 10 10 ∷ []
level-answer = refl

-- one object in four lists: it is new once, and no grade is missing
abbrev four_lists : List (List Row)
four_lists = (row 5 10 ∷ []) ∷ (row 5 40 ∷ []) ∷ (row 5 20 ∷ []) ∷ (row 5 30 ∷ []) ∷ []

four-run : ta_run second_smallest 1 four_lists ≡ Sorted 0 5 10 ∷ Sorted 1 5 40 ∷ Sorted 2 5 20 ∷ Sorted 3 5 30 ∷ []
four-run = refl

four-answer : ta_answer second_smallest 1 four_lists ≡ item 5 20 20 ∷ []
four-answer = refl

-- without random access: object 1 outside has high 1500, which isn't above object 2's low
abbrev three_sorted : List Access
three_sorted = Sorted 0 1 900 ∷ Sorted 1 2 700 ∷ Sorted 0 2 800 ∷ Sorted 1 3 600 ∷ []

nra-run : nra_run sum 1 three ≡ three_sorted
nra-run = refl

nra-answer : nra_answer sum 1 three ≡ item 2 1500 1500 ∷ []
nra-answer = refl

nra-bounds : low sum 2 three_sorted 1 ∷ high sum 2 three_sorted 1 ∷ low sum 2 three_sorted 3 ∷ high sum 2 three_sorted 3 ∷ cost 1 1 three_sorted ∷ []
    ≡ 900 ∷ 1500 ∷ 600 ∷ 1400 ∷ 4 ∷ []
nra-bounds = refl

nra-known : known_grade three_sorted 1 0 ∷ known_grade three_sorted 1 1 ∷ [] ≡ Some 900 ∷ None ∷ []
nra-known = refl

-- all three without random access: nobody is outside, and two answers are open
nra-all : nra_answer sum 3 three ≡ item 2 1500 1500 ∷ item 1 900 1500 ∷ item 3 600 1400 ∷ []
nra-all = refl

-- an answer with an open grade: its aggregate lies between its bounds
abbrev open_grade : List (List Row)
open_grade = (row 1 900 ∷ row 2 100 ∷ row 3 0 ∷ []) ∷ (row 2 300 ∷ row 3 200 ∷ row 1 100 ∷ []) ∷ []

open-depth : nra_depth sum 1 open_grade ≡ 2
open-depth = refl

open-aggregate : aggregate sum open_grade 1 ≡ 1000
open-aggregate = refl

open-answer : nra_answer sum 1 open_grade ≡ item 1 900 1100 ∷ []
open-answer = refl

-- the lists in opposite orders: the one in the middle is the best by the lesser grade
abbrev crossed : List (List Row)
crossed = (row 1 10 ∷ row 2 8 ∷ row 3 0 ∷ []) ∷ (row 3 10 ∷ row 2 8 ∷ row 1 0 ∷ []) ∷ []

crossed-run : nra_run lesser 1 crossed ≡ Sorted 0 1 10 ∷ Sorted 1 3 10 ∷ Sorted 0 2 8 ∷ Sorted 1 2 8 ∷ []
crossed-run = refl

crossed-answer : nra_answer lesser 1 crossed ≡ item 2 8 8 ∷ []
crossed-answer = refl

-- no access: nothing is known, and the bottoms are the greatest grade
none-bounds : depth 2 [] ∷ bottom_of 0 [] ∷ low sum 2 [] 4 ∷ high sum 2 [] 4 ∷ [] ≡ 0 ∷ 1000000 ∷ 0 ∷ 2000000 ∷ []
none-bounds = refl

-- an object that was asked for twice: named once and not seen, and each access costs
abbrev asked : List Access
asked = Random 1 7 5 ∷ Random 1 7 5 ∷ []

asked-named : named_objects asked ≡ 7 ∷ []
asked-named = refl

asked-seen : seen_objects asked ≡ []
asked-seen = refl

asked-bounds : low sum 2 asked 7 ∷ high sum 2 asked 7 ∷ cost 1 3 asked ∷ [] ≡ 5 ∷ 1000005 ∷ 6 ∷ []
asked-bounds = refl

-- one list of two objects: accesses that no such list goes with any more, each of its first kind
abbrev one_read : List Access
one_read = Sorted 0 5 9 ∷ []

abbrev two_read : List Access
two_read = Sorted 0 5 9 ∷ Sorted 0 6 8 ∷ []

third-object : IsFirstKind 1 2 two_read (Sorted 0 7 7) too_many_objects
third-object = grind arith

risen-grade : IsFirstKind 1 2 one_read (Sorted 0 6 10) rises
risen-grade = grind arith

given-again : IsFirstKind 1 2 two_read (Sorted 0 5 8) repeats
given-again = grind arith

other-grade : IsFirstKind 1 2 two_read (Random 0 6 9) clashes
other-grade = record { holds = (8, (1, lit< tt, refl), grind arith); first = grind arith }

other-row : IsFirstKind 1 2 (Random 0 6 9 ∷ []) (Sorted 0 6 8) clashes
other-row = record { holds = (9, (0, lit< tt, refl), grind arith); first = grind arith }

passed-over : IsFirstKind 1 2 (Random 0 6 9 ∷ []) (Sorted 0 5 8) falls_short
passed-over = record { holds = (row 6 9, (0, lit< tt, refl), grind arith, grind arith, lit< tt); first = grind arith }

over-bottom : IsFirstKind 1 2 one_read (Random 0 6 10) above_bottom
over-bottom = grind arith

-- accesses of no kind
second-row : (kind : Kind) → ¬ IsOfKind 1 2 one_read (Sorted 0 6 8) kind
second-row = grind arith

same-again : (kind : Kind) → ¬ IsOfKind 1 2 two_read (Random 0 6 8) kind
same-again = grind arith

-- both lists of the three objects hold the same ones
first-in-second : (object : ℕ) → Contains (objects (slice_index_or three 0 [])) object → Contains (objects (slice_index_or three 1 [])) object
first-in-second object (zero, inside, same) = (2, lit< tt, same)
first-in-second object (suc zero, inside, same) = (0, lit< tt, same)
first-in-second object (suc (suc zero), inside, same) = (1, lit< tt, same)
first-in-second object (suc (suc (suc more)), inside, same) = absurd (omega arith)

second-in-first : (object : ℕ) → Contains (objects (slice_index_or three 1 [])) object → Contains (objects (slice_index_or three 0 [])) object
second-in-first object (zero, inside, same) = (1, lit< tt, same)
second-in-first object (suc zero, inside, same) = (2, lit< tt, same)
second-in-first object (suc (suc zero), inside, same) = (0, lit< tt, same)
second-in-first object (suc (suc (suc more)), inside, same) = absurd (omega arith)

three-same : (i j : ℕ) (d e : List Row) → i < 2 → j < 2 → (object : ℕ) → Contains (objects (slice_index_or three i d)) object
    → Contains (objects (slice_index_or three j e)) object
three-same zero zero d e hi hj object held = held
three-same zero (suc zero) d e hi hj object held = first-in-second object held
three-same (suc zero) zero d e hi hj object held = second-in-first object held
three-same (suc zero) (suc zero) d e hi hj object held = held
three-same zero (suc (suc j)) d e hi hj object held = absurd (omega arith)
three-same (suc zero) (suc (suc j)) d e hi hj object held = absurd (omega arith)
three-same (suc (suc i)) j d e hi hj object held = absurd (omega arith)

-- it is a table, and its run agrees with it
three-table : IsTable 3 three
three-table = record { sized = grind arith; ranked = grind arith; same = λ i d hi j e hj. three-same i j d e hi hj }

three-random : (list : ℕ) → list < 2 → All (Contains (slice_index_or three list [])) (random_rows list three_run)
three-random zero below zero d inside = (1, lit< tt, refl)
three-random zero below (suc zero) d inside = (2, lit< tt, refl)
three-random zero below (suc (suc k)) d inside = absurd (omega arith)
three-random (suc zero) below zero d inside = (2, lit< tt, refl)
three-random (suc zero) below (suc k) d inside = absurd (omega arith)
three-random (suc (suc list)) below k d inside = absurd (omega arith)

three-agrees : Agrees 2 3 three three_run
three-agrees = record { lists = refl; table = three-table; drawn = record { in_range = grind arith; sorted = grind arith; random = three-random } }

-- object 2 is the best of it by sum, over the objects 1, 2 and 3
three-top : IsTop sum 1 three (2 ∷ [])
three-top = grind arith

three-set : IsObjectSet 3 (1 ∷ 2 ∷ 3 ∷ [])
three-set = grind arith

three-over : IsOver (3 ∷ 2 ∷ 1 ∷ []) three
three-over = grind arith

-- no access fixes object 9 over the one object 9, and doesn't fix it without knowing the objects
none-fixes : FixesOver sum 1 1 1 (9 ∷ []) [] (9 ∷ [])
none-fixes = record { sized = refl; distinct = grind arith; members = grind arith; always = λ D agrees over. record { sized = refl; distinct = grind arith; members = λ k d inside. (over (slice_index_or (9 ∷ []) k d)).1 (k, inside, grind arith); unbeaten = λ inside outside held found out. absurd (out ((over outside).0 found)) } }

not-eight : ¬ Contains {X = ℕ} (8 ∷ []) 9
not-eight = grind arith

none-open : ¬ Fixes sum 1 1 1 [] (9 ∷ [])
none-open fixes = not-eight ((fixes (8 ∷ []) (record { sized = refl; distinct = grind arith }) (grind arith)).members 0 0 (lit< tt))

-- the combined algorithm: both seen objects have the high 1600 at depth 1, and the smaller is asked for
combined-run : ca_run sum 1 1 three ≡ Sorted 0 1 900 ∷ Sorted 1 2 700 ∷ Random 1 1 500 ∷ Sorted 0 2 800 ∷ Sorted 1 3 600 ∷ []
combined-run = refl

combined-answer : ca_answer sum 1 1 three ≡ item 2 1500 1500 ∷ []
combined-answer = refl

-- where a random phase comes after two rows alone, no object that misses a grade is viable by then
combined-later : ca_run sum 1 (phase_length 1 2) three ≡ Sorted 0 1 900 ∷ Sorted 1 2 700 ∷ Sorted 0 2 800 ∷ Sorted 1 3 600 ∷ []
combined-later = refl

-- where none comes the finish asks for what is missing, in the order of the bounds
combined-finish : ca_run sum 3 (phase_length 1 9) three ≡ Sorted 0 1 900 ∷ Sorted 1 2 700 ∷ Sorted 0 2 800 ∷ Sorted 1 3 600 ∷ Random 1 1 500 ∷ Random 0 3 100 ∷ []
combined-finish = refl

combined-three : ca_answer sum 3 (phase_length 1 9) three ≡ item 2 1500 1500 ∷ item 1 1400 1400 ∷ item 3 700 700 ∷ []
combined-three = refl

combined-lengths : phase_length 3 10 ∷ phase_length 10 3 ∷ phase_length 1 1 ∷ [] ≡ 3 ∷ 1 ∷ 1 ∷ []
combined-lengths = refl
