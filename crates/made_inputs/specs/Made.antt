-- Tables that are made from a number. Lists count from 0, objects from 1.
use Rattle.std.specs.Prelude.{ℕ, zero, suc, ◌+◌, ◌*◌, ◌/◌, ◌%◌, ◌^◌, List, map}
use Rattle.std.specs.List.{range_with_len}
use Rattle.ranked_list.specs.declared.row.Row.{Row}
use Rattle.ranked_list.specs.Table.{top_grade}
use Rattle.topk_theory.specs.Transcript.{list_numbers}
use Rattle.topk_theory.specs.Adversary.{by_grade, graded}

-- the state that follows a state
abbrev pub next_state : ℕ → ℕ
next_state state = (state * 6364136223846793005 + 1442695040888963407) % 2 ^ 64

-- the state so many steps after a state
abbrev pub state_after : ℕ → ℕ → ℕ
state_after state zero = state
state_after state (suc steps) = next_state (state_after state steps)

-- the grade of a state
abbrev pub grade_of : ℕ → ℕ
grade_of state = (state / 2 ^ 33) % (top_grade + 1)

-- the grade of an object in a list: each object of the first list gets one step, then each of the second, and so on
abbrev pub made_grade : ℕ → ℕ → ℕ → ℕ → ℕ
made_grade start count list object = grade_of (state_after start (list * count + object))

-- a list, by grade falling, then by the object's number rising
abbrev pub made_list : ℕ → ℕ → ℕ → List Row
made_list start count list = by_grade (graded (made_grade start count list) (range_with_len 1 count))

-- the table of so many lists over the objects 1 to count
abbrev pub made_table : ℕ → ℕ → ℕ → List (List Row)
made_table start count lists = map (made_list start count) (list_numbers lists)
