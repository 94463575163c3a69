-- The value of an expression at the grades of one object, and its bounds where some grades are unknown.
use Rattle.std.specs.Prelude.{◌≡◌, ℕ, ◌+◌, ◌*◌, ◌/◌, ◌<◌, ◌≤◌, min, Bool, ◌&&◌, nat_lt, nat_le, List, [], ◌∷◌, length, map, sum, zip, find, count_by, All, Contains, slice_index, slice_get, Option, Some, unwrap_or, MatchOption}
use Rattle.monotone_fn.specs.Tree.{Tree, Trees, Terms}
use Rattle.monotone_fn.specs.Shape.{greatest}

-- the least number of a list, or 0 where there is none
abbrev pub least : List ℕ → ℕ
least [] = 0
least (n ∷ []) = n
least (n ∷ m ∷ ns) = min n (least (m ∷ ns))

-- v is among the numbers and none is smaller
pub record IsLeast (ns : List ℕ) (v : ℕ) : Type 0 where
  pub among : Contains ns v
  pub bounds : All (λ n. v ≤ n) ns

-- the place of the lower median among n values, from 1
abbrev pub middle : ℕ → ℕ
middle n = (n + 1) / 2

-- fewer values than the middle's place are smaller, and that many at least are not greater
abbrev pub is_median : List ℕ → ℕ → Bool
is_median ns v = nat_lt (count_by (λ n. nat_lt n v) ns) (middle (length ns)) && nat_le (middle (length ns)) (count_by (λ n. nat_le n v) ns)

-- the lower median: the one value among them that is one by counting, or 0 where there is none
abbrev pub median : List ℕ → ℕ
median ns = unwrap_or (find (is_median ns) ns) 0

-- v is a lower median of the values, by counting
pub record IsMedian (ns : List ℕ) (v : ℕ) : Type 0 where
  pub among : Contains ns v
  pub fewer_smaller : count_by (λ n. nat_lt n v) ns < middle (length ns)
  pub enough_not_greater : middle (length ns) ≤ count_by (λ n. nat_le n v) ns

-- the value of a tree at the grades of one object, one for each list
abbrev mutual
  pub value : Tree → List ℕ → ℕ
  value (Tree.Grade l) x = slice_index x l
  value (Tree.Min ts) x = least (values ts x)
  value (Tree.Max ts) x = greatest (values ts x)
  value (Tree.Sum ts) x = sum (values ts x)
  value (Tree.Median ts) x = median (values ts x)
  value (Tree.Wsum us) x = sum (products us x)

  pub values : Trees → List ℕ → List ℕ
  values Trees.no_tree x = []
  values (Trees.tree_then t ts) x = value t x ∷ values ts x

  pub products : Terms → List ℕ → List ℕ
  products Terms.no_term x = []
  products (Terms.term_then w t us) x = w * value t x ∷ products us x

-- the grades with 0 in place of each unknown one
abbrev pub with_zeros : List (Option ℕ) → List ℕ
with_zeros known = map (λ g. unwrap_or g 0) known

-- the grades with the list's bottom in place of each unknown one
abbrev pub with_bottoms : List (Option ℕ) → List ℕ → List ℕ
with_bottoms known bottoms = map (λ p. unwrap_or p.0 p.1) (zip known bottoms)

-- the least value that an object with these known grades may have
abbrev pub low : Tree → List (Option ℕ) → ℕ
low t known = value t (with_zeros known)

-- the greatest value that it may have under these bottoms
abbrev pub high : Tree → List (Option ℕ) → List ℕ → ℕ
high t known bottoms = value t (with_bottoms known bottoms)

-- ys are as many grades as xs, and none is smaller than the one of xs in its place
pub record NoSmaller (xs ys : List ℕ) : Type 0 where
  pub same_length : length xs ≡ length ys
  pub each : (i : ℕ) → i < length xs → slice_index xs i ≤ slice_index ys i

-- grades no smaller in each place give a value no smaller
abbrev pub IsMonotone : (List ℕ → ℕ) → Type 0
IsMonotone V = (xs ys : List ℕ) → NoSmaller xs ys → V xs ≤ V ys

-- an object's grades: each known one is the object's, and each unknown one is at most its list's bottom
pub record IsWithin (known : List (Option ℕ)) (bottoms grades : List ℕ) : Type 0 where
  pub as_many_known : length known ≡ length grades
  pub as_many_bottoms : length bottoms ≡ length grades
  pub each : (i : ℕ) (k : Option ℕ) → slice_get known i ≡ Some k → MatchOption k (slice_index grades i ≤ slice_index bottoms i) (λ g. slice_index grades i ≡ g)
