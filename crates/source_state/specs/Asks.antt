-- The objects that were asked of a source, in the order of asking, as they stand.
use Rattle.std.specs.Prelude.{◌==◌, ◌&&◌, ℕ, Bool, true, not, Option, Some, None, List, [], ◌∷◌, ◌++◌, map, filter_map, is_some, is_none, nat_lt, if◌then◌else◌}
use Rattle.std.specs.List.{find}
use Rattle.std.specs.Option.{option_map}
use Rattle.ranked_list.specs.declared.row.Row.{Row}
use Rattle.topk_theory.specs.Bounds.{grade_among}
use Rattle.source_state.specs.declared.ask.Ask.{Ask}
use Rattle.source_state.specs.declared.entry.LogEntry.{LogEntry}
use Rattle.source_state.specs.declared.entry.Settling.{Settling}
use Rattle.source_state.specs.declared.entry.Settling.TheVariants.{Graded}
use Rattle.source_state.specs.Log.{rows_in, settling_in}

-- how the ask of an object stands after a log: what it settled as, if it did, and whether the rows hold it
abbrev pub ask_in : List LogEntry → ℕ → Ask
ask_in log object = record { object = object; settling = settling_in log object; is_held = is_some (grade_among (rows_in log) object) }

-- the ask of an object, if there is one
abbrev pub ask_of : List Ask → ℕ → Option Ask
ask_of asks object = find (λ ask. object == ask.object) asks

-- the grade of a settling, where it is good
abbrev pub good_grade : Option Settling → Option ℕ
good_grade (Some (Graded grade)) = Some grade
good_grade _ = None

-- the good grade of an ask that the rows don't hold
abbrev pub open_grade : Ask → Option ℕ
open_grade ask = if ask.is_held then None else good_grade ask.settling

-- the same as a row of its object; all of them, in the order of asking; the first of them that is above a grade
abbrev pub open_row : Ask → Option Row
open_row ask = option_map (λ grade. record { object = ask.object; grade = grade }) (open_grade ask)

abbrev pub open_rows : List Ask → List Row
open_rows asks = filter_map open_row asks

abbrev pub first_above : ℕ → List Ask → Option Row
first_above bottom asks = find (λ row. nat_lt bottom row.grade) (open_rows asks)

-- an ask is due where it isn't settled and the rows don't hold its object; the first that is due
abbrev pub is_due : Ask → Bool
is_due ask = not ask.is_held && is_none ask.settling

abbrev pub first_due : List Ask → Option Ask
first_due asks = find is_due asks

-- the asks with those of an object changed; settled as told; held by the rows
abbrev pub change : ℕ → (Ask → Ask) → Ask → Ask
change object turn ask = if object == ask.object then turn ask else ask

abbrev pub settled_asks : ℕ → Settling → List Ask → List Ask
settled_asks object settling asks = map (change object (λ ask. record ask { settling = Some settling })) asks

abbrev pub held_asks : ℕ → List Ask → List Ask
held_asks object asks = map (change object (λ ask. record ask { is_held = true })) asks

-- an ask that isn't settled yet
abbrev pub new_ask : ℕ → Bool → Ask
new_ask object is_held = record { object = object; settling = None; is_held = is_held }

-- the asks with one more, where its object isn't found
abbrev pub with_one_more : Option Ask → Ask → List Ask → List Ask
with_one_more None ask asks = asks ++ ask ∷ []
with_one_more (Some found) ask asks = asks

-- whether an ask is due where one is, and true where none is
abbrev pub stops : Option Ask → Bool
stops None = true
stops (Some ask) = is_due ask
