-- Which words may stand at a place of a query text.
use Rattle.std.specs.Prelude.{◌≡◌, ◌==◌, ◌&&◌, ◌||◌, ◌+◌, ◌<◌, ◌≤◌, ℕ, Bool, true, false, List, [], ◌∷◌, ◌++◌, length, take, codes, find, is_some, Option}
use Rattle.std.specs.List.{list_any}
use Rattle.std.specs.Str.{bytes_eq}
use Rattle.topk_base.specs.Numbers.{is_empty, is_number}
use Rattle.topk_base.specs.Names.{is_name}
use Rattle.query_text.specs.Shape.{algorithm_words, opening}
use Rattle.query_text.specs.declared.operator.Operator.{Operator}
use Rattle.query_text.specs.declared.operator.Operator.TheVariants.{Min, Max, Sum, Median, Wsum}
use Rattle.query_text.specs.declared.parser_state.ParserState.{ParserState}
use Rattle.query_text.specs.declared.parser_state.ParserState.TheVariants as stages

-- one of these words, or a number, or a name or an operator with its parenthesis
pub data Class : Type 0 where
  words : List (List ℕ) → Class
  digits : Class
  operand : Class

-- the operators
abbrev pub operators : List Operator
operators = Min ∷ Max ∷ Sum ∷ Median ∷ Wsum ∷ []

-- the operator that a word opens, if it opens one
abbrev pub opened_by : List ℕ → Option Operator
opened_by word = find (λ operator. bytes_eq word (opening operator)) operators

-- the words of all algorithms
abbrev pub using_words : List (List ℕ)
using_words = algorithm_words ++ codes "theta " ∷ codes "early " ∷ []

-- whether a word begins with another
abbrev pub is_front : List ℕ → List ℕ → Bool
is_front [] word = true
is_front (x ∷ xs) [] = false
is_front (x ∷ xs) (y ∷ ys) = (x == y) && is_front xs ys

-- whether a word of the class begins so
abbrev pub begins : Class → List ℕ → Bool
begins (Class.words ws) front = list_any (is_front front) ws
begins Class.digits front = is_empty front || is_number front
begins Class.operand front = is_empty front || (is_name front || is_some (opened_by front))

-- whether it is a word of the class
abbrev pub is_whole : Class → List ℕ → Bool
is_whole (Class.words ws) word = list_any (bytes_eq word) ws
is_whole Class.digits word = is_number word
is_whole Class.operand word = is_name word || is_some (opened_by word)

-- what comes next, inside an operator or outside of all
abbrev pub class_at : ParserState → Bool → Class
class_at stages.Top inside = Class.words (codes "top " ∷ [])
class_at stages.Count inside = Class.digits
class_at stages.By inside = Class.words (codes " by " ∷ [])
class_at stages.Operand inside = Class.operand
class_at stages.Behind true = Class.words (codes "," ∷ codes ")" ∷ [])
class_at stages.Behind false = Class.words (codes " using " ∷ [])
class_at stages.Weight inside = Class.digits
class_at stages.Times inside = Class.words (codes "*" ∷ [])
class_at stages.Algorithm inside = Class.words using_words
class_at stages.Factor inside = Class.digits
class_at stages.Over inside = Class.words (codes "/" ∷ [])
class_at stages.Under inside = Class.digits
class_at stages.Depth inside = Class.digits
class_at stages.Options inside = Class.words (codes " cost " ∷ codes " room " ∷ [])
class_at stages.Sorted inside = Class.digits
class_at stages.Between inside = Class.words (codes " " ∷ [])
class_at stages.Random inside = Class.digits
class_at stages.Priced inside = Class.words (codes " room " ∷ [])
class_at stages.Room inside = Class.digits
class_at stages.Done inside = Class.words []

-- the longest front of the text that begins a word of the class has this length
pub record IsLongest (class : Class) (text : List ℕ) (count : ℕ) : Type 0 where
  pub within : count ≤ length text
  pub fits : 0 < count → begins class (take count text) ≡ true
  pub ends : count < length text → begins class (take (count + 1) text) ≡ false

-- the longest front of the text that begins a name has this length
pub record IsLongestName (text : List ℕ) (count : ℕ) : Type 0 where
  pub within : count ≤ length text
  pub fits : 0 < count → is_name (take count text) ≡ true
  pub ends : count < length text → is_name (take (count + 1) text) ≡ false
