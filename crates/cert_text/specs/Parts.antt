-- What one line of a certificate says, where it says it, as the crate's inner functions read it.
use Rattle.std.specs.Prelude.{ℕ, List, codes, Option, Some, None, option_and_then, if◌then◌else◌, nat_le, position}
use Rattle.std.specs.Str.{bytes_eq}
use Rattle.topk_base.specs.Cuts.{cut_at, rest_after}
use Rattle.topk_base.specs.Numbers.{number_up_to}
use Rattle.ranked_list.specs.declared.item.Item.{Item}
use Rattle.topk_theory.specs.declared.access.Access.{Access}
use Rattle.topk_theory.specs.declared.access.Access.TheVariants.{Sorted, Random}
use Rattle.cert_text.specs.declared.factor.Guarantee.{Guarantee}
use Rattle.cert_text.specs.declared.parts.Figures.{Figures}
use Rattle.topk_base.specs.declared.TheConstants.{MAX_OBJECTS}

infixl 10 ◌>>=◌
abbrev pub ◌>>=◌ : {A B : Type 0} → Option A → (A → Option B) → Option B
o >>= f = option_and_then f o

-- the greatest numbers of 32 and of 64 bits
abbrev pub top_32 : ℕ
top_32 = 4294967295

abbrev pub top_64 : ℕ
top_64 = 18446744073709551615

-- the number that a text spells, where it is within a range
unfoldable pub number_within : ℕ → ℕ → List ℕ → Option ℕ
number_within least most text = do
  number ← number_up_to most text
  if nat_le least number then Some number else None

-- the number before the first space of a text, and what follows the space
unfoldable pub number_before : ℕ → List ℕ → Option (ℕ × List ℕ)
number_before most text = do
  cut ← cut_at 32 text
  number ← number_up_to most cut.0
  Some (number, cut.1)

-- what a line says that begins with a word
unfoldable pub number_in : List ℕ → Option ℕ
number_in line = do
  text ← rest_after (codes "certificate ") line
  number_within 1 9223372036854775807 text

unfoldable pub count_in : List ℕ → Option ℕ
count_in line = do
  text ← rest_after (codes "count ") line
  number_within 1 MAX_OBJECTS text

-- the version that a line gives the list with this name
unfoldable pub version_in : List ℕ → List ℕ → Option ℕ
version_in name line = do
  text ← rest_after (codes "version ") line
  text ← rest_after name text
  text ← rest_after (codes " ") text
  number_within 1 top_64 text

unfoldable pub item_in : List ℕ → Option Item
item_in line = do
  text ← rest_after (codes "answer ") line
  object ← number_before top_32 text
  low ← number_before top_64 object.1
  high ← number_up_to top_64 low.1
  Some (record { object = object.0; low = low.0; high = high })

-- the guarantee of a line
unfoldable pub guarantee_in : List ℕ → Option Guarantee
guarantee_in line = do
  text ← rest_after (codes "guarantee ") line
  p ← number_before top_64 text
  q ← number_up_to top_64 p.1
  Some (record { p = p.0; q = q })

-- the figures, from what follows their depth and their number of sorted accesses
abbrev pub figures_after : ℕ → ℕ → List ℕ → Option Figures
figures_after depth sorted text = do
  text ← rest_after (codes "random ") text
  random ← number_before top_64 text
  text ← rest_after (codes "cost ") random.1
  cost ← number_up_to top_64 text
  Some (record { depth = depth; sorted = sorted; random = random.0; cost = cost })

-- the figures of a line
unfoldable pub figures_in : List ℕ → Option Figures
figures_in line = do
  text ← rest_after (codes "stop depth ") line
  depth ← number_before top_64 text
  text ← rest_after (codes "sorted ") depth.1
  sorted ← number_before top_64 text
  figures_after depth.0 sorted.0 sorted.1

-- the number of the list with a name
abbrev pub list_named : List (List ℕ) → List ℕ → Option ℕ
list_named names name = position (λ other. bytes_eq other name) names

-- a list by its name, an object and a grade
unfoldable pub row_in : List (List ℕ) → List ℕ → Option (ℕ × ℕ × ℕ)
row_in names text = do
  name ← cut_at 32 text
  list ← list_named names name.0
  object ← number_before top_32 name.1
  grade ← number_up_to top_32 object.1
  Some (list, object.0, grade)

-- the access that a line begins as: the first word says how it was made
abbrev pub access_or : Option (List ℕ) → List (List ℕ) → Option Access → Option Access
access_or (Some text) names other = row_in names text >>= λ row. Some (Sorted row.0 row.1 row.2)
access_or None names other = other

unfoldable pub access_in : List (List ℕ) → List ℕ → Option Access
access_in names line = access_or (rest_after (codes "s ") line) names (do
  text ← rest_after (codes "r ") line
  row ← row_in names text
  Some (Random row.0 row.1 row.2))
