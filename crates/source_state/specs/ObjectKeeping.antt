-- What the kept rows and the asks keep beside what they show.
use Rattle.std.specs.Prelude.{◌≡◌, ◌≢◌, ◌≤◌, ◌+◌, ◌*◌, ◌-◌, ◌++◌, ℕ, Option, None, Some, List, length, map, nat_eq, position, is_some, replicate, AllPairs}
use Rattle.std.specs.List.{position_or_len}
use Rattle.ranked_list.specs.declared.row.Row.{Row}
use Rattle.topk_theory.specs.Bounds.{grade_among}
use Rattle.containers.specs.Values.{Values, value_of}
use Rattle.source_state.specs.declared.ask.Ask.{Ask}
use Rattle.source_state.specs.declared.spots.Spot.{Spot}
use Rattle.source_state.specs.declared.spots.Request.{Request}
use Rattle.source_state.specs.Asks.{open_grade, is_due}
use Rattle.topk_base.specs.declared.TheConstants.{MAX_OBJECTS}

-- rows and asks with room for so many of each
pub record ObjectList : Type 0 where
  pub room : ℕ
  pub rows : List Row
  pub asks : List Ask

-- the objects of asks
abbrev pub ask_objects : List Ask → List ℕ
ask_objects asks = map (λ ask. ask.object) asks

-- the grade that a table has of an object, and the place of its ask
abbrev pub sorted_of : Option Spot → Option ℕ
sorted_of None = None
sorted_of (Some spot) = spot.sorted

abbrev pub place_of : Option Spot → Option ℕ
place_of None = None
place_of (Some spot) = spot.place

abbrev pub sorted_at : Values Spot → ℕ → Option ℕ
sorted_at spots object = sorted_of (value_of spots object)

abbrev pub place_at : Values Spot → ℕ → Option ℕ
place_at spots object = place_of (value_of spots object)

-- a request as it stands: the rows hold its object where the table has a grade of it
abbrev pub standing : Values Spot → Request → Ask
standing spots request = record { object = request.object; settling = request.settling; is_held = is_some (sorted_at spots request.object) }

abbrev pub standings : Values Spot → List Request → List Ask
standings spots requests = map (standing spots) requests

-- what the fields show
abbrev pub listed : ℕ → Values Spot → List Row → List Request → ObjectList
listed room spots rows requests = record { room = room; rows = rows; asks = standings spots requests }

-- a table that has no object, with memory for as many rows and asks
pub record IsVacant (room : ℕ) (spots : Values Spot) : Type 0 where
  pub none : (object : ℕ) → value_of spots object ≡ None
  pub spare : 2 * room ≤ spots.spare

-- the table has each object's grade among the rows and the place of its ask, and memory for those that there is room for; each open grade
-- stands among the tops under the place of its ask, and no ask before the cursor is due
pub record KeepsObjects (list : ObjectList) (spots : Values Spot) (tops : List (Option ℕ)) (place row_capacity ask_capacity : ℕ) : Type 0 where
  pub sorted : (object : ℕ) → sorted_at spots object ≡ grade_among list.rows object
  pub placed : (object : ℕ) → place_at spots object ≡ position (nat_eq object) (ask_objects list.asks)
  pub distinct : AllPairs (λ (one : ℕ) (other : ℕ). one ≢ other) (ask_objects list.asks)
  pub stands : tops ≡ map open_grade list.asks ++ replicate (list.room - length list.asks) None
  pub cursor : place ≡ position_or_len is_due list.asks
  pub few_rows : length list.rows ≤ list.room
  pub few_asks : length list.asks ≤ list.room
  pub small : list.room ≤ MAX_OBJECTS
  pub row_room : list.room ≤ row_capacity
  pub ask_room : list.room ≤ ask_capacity
  pub spare : 2 * list.room ≤ length list.rows + length list.asks + spots.spare
