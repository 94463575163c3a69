-- What is kept of the seen objects where bounds are renewed late. `low` and `high` give the present bounds of an object, and a set of objects is a test.
use Rattle.std.specs.Prelude.{◌≡◌, ◌≢◌, ◌<◌, ◌≤◌, ◌⊎◌, ◌==◌, ℕ, Bool, true, false, not, ◌&&◌, ◌||◌, List, length, filter, min, count_by, AllPairs, Contains, nat_lt, nat_le}
use Rattle.ranked_list.specs.declared.item.Item.{Item}

-- an object with its bounds
abbrev pub with_bounds : (ℕ → ℕ) → (ℕ → ℕ) → ℕ → Item
with_bounds low high object = record { object = object; low = low object; high = high object }

-- no object is listed twice
abbrev pub AreApart : List ℕ → Type 0
AreApart seen = AllPairs (λ (one : ℕ) (other : ℕ). one ≢ other) seen

-- the set has k of the seen objects, all where they are fewer, and none outside has a greater low. Ties are free.
pub record AreFirstByLow (k : ℕ) (low : ℕ → ℕ) (seen : List ℕ) (is_top : ℕ → Bool) : Type 0 where
  pub sized : count_by is_top seen ≡ min k (length seen)
  pub held : (object : ℕ) → is_top object ≡ true → Contains seen object
  pub greatest : (inside outside : ℕ) → is_top inside ≡ true → Contains seen outside → is_top outside ≡ false → low outside ≤ low inside

-- the bound is the least low of the set
pub record IsLeastLow (low : ℕ → ℕ) (is_top : ℕ → Bool) (bound : ℕ) : Type 0 where
  pub reached : (object : ℕ) × (is_top object ≡ true) × (low object ≡ bound)
  pub least : (object : ℕ) → is_top object ≡ true → bound ≤ low object

-- the object's low is the bound; and its high is above it
abbrev pub is_tied : (ℕ → ℕ) → ℕ → ℕ → Bool
is_tied low bound object = low object == bound

abbrev pub is_open : (ℕ → ℕ) → (ℕ → ℕ) → ℕ → ℕ → Bool
is_open low high bound object = is_tied low bound object && nat_lt bound (high object)

-- no object with a low below the bound has a high above it, and of those whose low is the bound no more have a high above it than the set has places for
pub record AreOthersWithin (low high : ℕ → ℕ) (seen : List ℕ) (is_top : ℕ → Bool) (bound : ℕ) : Type 0 where
  pub below : (object : ℕ) → Contains seen object → low object < bound → high object ≤ bound
  pub tied : count_by (is_open low high bound) seen ≤ count_by (λ object. is_top object && is_tied low bound object) seen

-- the algorithm may stop: at least k objects are seen, none of n is unseen or the threshold is no greater than the bound, and the others are within it
pub record MayStop (k n threshold : ℕ) (low high : ℕ → ℕ) (seen : List ℕ) (is_top : ℕ → Bool) (bound : ℕ) : Type 0 where
  pub enough : k ≤ length seen
  pub unseen : (n ≤ length seen) ⊎ (threshold ≤ bound)
  pub others : AreOthersWithin low high seen is_top bound

-- each candidate is a seen object outside the first; an object outside both is given up: its high is no greater than the low of any of the first
pub record KeepsCandidates (k : ℕ) (low high : ℕ → ℕ) (seen : List ℕ) (is_top is_candidate : ℕ → Bool) : Type 0 where
  pub first : AreFirstByLow k low seen is_top
  pub apart : (object : ℕ) → is_candidate object ≡ true → Contains seen object × (is_top object ≡ false)
  pub given_up : (inside outside : ℕ) → is_top inside ≡ true → Contains seen outside → is_top outside ≡ false → is_candidate outside ≡ false
      → high outside ≤ low inside

-- the set with one object more, or less; with one in place of another
abbrev pub with_one : (ℕ → Bool) → ℕ → ℕ → Bool
with_one is_in object other = is_in other || (object == other)

abbrev pub without : (ℕ → Bool) → ℕ → ℕ → Bool
without is_in object other = is_in other && not (object == other)

abbrev pub exchanged : (ℕ → Bool) → ℕ → ℕ → ℕ → Bool
exchanged is_in leaves joins other = with_one (without is_in leaves) joins other

-- a candidate stands against the stop: its high is above the bound, and its low is below it,
-- or is the bound with each of the first of that low having a high above it too
pub record IsWitness (low high : ℕ → ℕ) (is_top : ℕ → Bool) (bound object : ℕ) : Type 0 where
  pub above : bound < high object
  pub no_place : (low object < bound) ⊎ ((low object ≡ bound) × ((inside : ℕ) → is_top inside ≡ true → low inside ≡ bound → bound < high inside))

-- bounds after one more access, which names an object: the lows of all others stay, none falls, and no high rises
pub record AreNextBounds (low high next_low next_high : ℕ → ℕ) (object : ℕ) : Type 0 where
  pub others : (other : ℕ) → object ≢ other → next_low other ≡ low other
  pub rises : (other : ℕ) → low other ≤ next_low other
  pub falls : (other : ℕ) → next_high other ≤ high other

-- the items whose low is no less than the bound; is above it; is the bound
abbrev pub at_least : ℕ → List Item → List Item
at_least bound items = filter (λ (item : Item). nat_le bound item.low) items

abbrev pub above_low : ℕ → List Item → List Item
above_low bound items = filter (λ (item : Item). nat_lt bound item.low) items

abbrev pub at_low : ℕ → List Item → List Item
at_low bound items = filter (λ (item : Item). item.low == bound) items
