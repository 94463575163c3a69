-- Fagin's algorithm on a whole table: where it stops, what it reads and what it answers. Depths count from 1.
use Rattle.std.specs.Prelude.{◌≡◌, ◌⊎◌, ◌<◌, ◌≤◌, ◌-◌, ◌==◌, ℕ, Bool, true, false, List, ◌++◌, length, map, count_by, nat_lt, nat_le}
use Rattle.std.specs.List.{list_all, flat_map}
use Rattle.ranked_list.specs.declared.row.Row.{Row}
use Rattle.ranked_list.specs.declared.item.Item.{Item}
use Rattle.ranked_list.specs.Table.{place_in}
use Rattle.topk_theory.specs.Order.{first_k}
use Rattle.topk_theory.specs.declared.access.Access.{Access}
use Rattle.topk_theory.specs.Aggregate.{objects_of}
use Rattle.topk_theory.specs.Transcript.{Agrees, list_at, seen_objects, depth}
use Rattle.topk_theory.specs.Threshold.{least_from, scored, ta_depth}
use Rattle.topk_theory.specs.NoRandom.{nra_run_to}
use Rattle.topk_theory.specs.Combined.{unknown_lists, missing_grades}
use Rattle.topk_theory.specs.Asked.{Run, Answering}

-- the object stands in the first depth places of every list
abbrev pub stands_in_all : List (List Row) → ℕ → ℕ → Bool
stands_in_all D depth object = list_all (λ rows. nat_lt (place_in rows object) depth) D

-- at least k objects stand in the first depth places of every list
abbrev pub fa_stop : ℕ → List (List Row) → ℕ → Bool
fa_stop k D depth = nat_le k (count_by (stands_in_all D depth) (objects_of D))

-- the least depth at which the algorithm stops
abbrev pub fa_depth : ℕ → List (List Row) → ℕ
fa_depth k D = least_from (fa_stop k D) (length (objects_of D) - 1) 1

-- the sorted accesses down to this depth
abbrev pub fa_rows : ℕ → List (List Row) → List Access
fa_rows k D = nra_run_to D (fa_depth k D)

-- the objects that they give, in the order of first sight
abbrev pub fa_seen : ℕ → List (List Row) → List ℕ
fa_seen k D = seen_objects (fa_rows k D)

-- then the unknown grades of each of these objects, in the order of the lists
abbrev pub fa_asks : ℕ → List (List Row) → List Access
fa_asks k D = flat_map (missing_grades D (fa_rows k D)) (fa_seen k D)

-- what the algorithm reads
abbrev pub fa_run : ℕ → List (List Row) → List Access
fa_run k D = fa_rows k D ++ fa_asks k D

-- what it answers: the first k of the objects that it sees, by aggregate falling, then by number rising
abbrev pub fa_answer : (List ℕ → ℕ) → ℕ → List (List Row) → List Item
fa_answer V k D = first_k k (map (scored V D) (fa_seen k D))

-- the run and the answer of Fagin's algorithm
abbrev pub fagin_run : Run
fagin_run asked D = fa_run asked.k D

abbrev pub fagin_answer : Answering
fagin_answer asked D = fa_answer asked.value asked.k D

-- the depth is the least from 1 on at which the algorithm stops, and is at most n
pub record IsLeastCommon (k n : ℕ) (D : List (List Row)) (depth : ℕ) : Type 0 where
  pub from_one : 1 ≤ depth
  pub within : depth ≤ n
  pub stops : fa_stop k D depth ≡ true
  pub least : (other : ℕ) → 1 ≤ other → other < depth → fa_stop k D other ≡ false

-- one object is seen before another: it stands in some list at a lesser place than the other in every list,
-- or at the same place where that list comes first
pub record IsSeenBefore (D : List (List Row)) (one other : ℕ) : Type 0 where
  pub list : ℕ
  pub listed : list < length D
  pub before : (further : ℕ) → further < length D
      → (place_in (list_at D list) one < place_in (list_at D further) other)
      ⊎ ((place_in (list_at D list) one ≡ place_in (list_at D further) other) × (list < further))

-- how many of the seen objects have no unknown grade in m lists
abbrev pub known_whole : ℕ → List Access → ℕ
known_whole m A = count_by (λ object. length (unknown_lists m A object) == 0) (seen_objects A)

-- on every table of m lists and n objects that agrees with A the threshold algorithm stops no deeper than A reads
abbrev pub IsNoShallower : (List ℕ → ℕ) → ℕ → ℕ → ℕ → List Access → Type 0
IsNoShallower V k m n A = (D : List (List Row)) → Agrees m n D A → ta_depth V k D ≤ depth m A
