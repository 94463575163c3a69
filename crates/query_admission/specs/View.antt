-- Lists by their names, as far as they are known.
use Rattle.std.specs.Prelude.{◌≡◌, ◌==◌, ℕ, Bool, false, not, nat_lt, is_none, is_some, List, map, Option, None, Some, slice_get, option_and_then, if◌then◌else◌}
use Rattle.std.specs.List.{position}
use Rattle.ranked_list.specs.declared.row.Row.{Row}
use Rattle.query_text.specs.declared.query.Query.{Query}
use Rattle.query_text.specs.declared.algorithm.Algorithm.{Algorithm}
use Rattle.query_text.specs.declared.algorithm.Algorithm.TheVariants.{Taz}
use Rattle.query_core.specs.Methods.{Method, method_with}
use Rattle.query_admission.specs.declared.lists.ListInfo.{ListInfo}
use Rattle.topk_base.specs.declared.TheConstants.{MAX_OBJECTS}

-- the most objects of a list that a query may name
abbrev pub most_objects : ℕ
most_objects = MAX_OBJECTS

-- what is known by a name: what its list says of itself, None where no list has the name; and the list's rows, where they are told
pub record View : Type 0 where
  pub listed : List ℕ → Option ListInfo
  pub told : List ℕ → Option (List Row)

-- these are a query's lists in its order: what they say of themselves; their rows, where all are told
abbrev pub AreListed : View → Query → List ListInfo → Type 0
AreListed view q lists = map view.listed q.names ≡ map Some lists

abbrev pub AreTold : View → Query → List (List Row) → Type 0
AreTold view q D = map view.told q.names ≡ map Some D

-- a stated size passes a test; one that isn't stated doesn't
abbrev pub size_passes : (ℕ → Bool) → Option ℕ → Bool
size_passes test None = false
size_passes test (Some size) = test size

-- the list wasn't opened; it states more objects than a list may have; it states another size than this; it offers no random access; it offers
-- sorted access; it offers none
abbrev pub is_closed : ListInfo → Bool
is_closed list = is_none list.size

abbrev pub is_large : ListInfo → Bool
is_large list = size_passes (nat_lt most_objects) list.size

abbrev pub differs : ℕ → ListInfo → Bool
differs n list = size_passes (λ size. not (size == n)) list.size

abbrev pub lacks_random : ListInfo → Bool
lacks_random list = not list.random

abbrev pub offers_sorted : ListInfo → Bool
offers_sorted list = list.sorted

abbrev pub lacks_sorted : ListInfo → Bool
lacks_sorted list = not list.sorted

-- the number of the list for which an algorithm can't read the lists in order, if there is one: the first list without sorted access; but where the
-- algorithm reads those lists that have it, the first of all lists where none has it
abbrev pub unread_list : Algorithm → List ListInfo → Option ℕ
unread_list Taz lists = if is_some (position offers_sorted lists) then None else Some 0
unread_list algorithm lists = position lacks_sorted lists

-- of each list, whether it offers sorted access; by what a query runs over lists
abbrev pub sorted_at : List ListInfo → List Bool
sorted_at lists = map (λ list. list.sorted) lists

abbrev pub method_over : Query → List ListInfo → Method
method_over q lists = method_with q.algorithm (sorted_at lists)

-- the versions that lists had when they were opened
abbrev pub versions_at : List ListInfo → List ℕ
versions_at lists = map (λ list. list.version) lists

-- the size that the list with this number states; the count of a query is that of its first list
abbrev pub size_stated : List ListInfo → ℕ → Option ℕ
size_stated lists list = option_and_then (λ l. l.size) (slice_get lists list)

abbrev pub count_of : List ListInfo → Option ℕ
count_of lists = size_stated lists 0
