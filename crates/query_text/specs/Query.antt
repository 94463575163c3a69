-- Queries: what is printed of one, and which are lawful.
use Rattle.std.specs.Prelude.{◌≡◌, ◌≢◌, ◌<◌, ◌≤◌, ℕ, map, List, [], ◌∷◌, ◌++◌, length, All, AllPairs, Some, None, IfSome, option_map, slice_index_or}
use Rattle.std.specs.Str.{bytes_eq}
use Rattle.std.specs.Fmt.{decimal}
use Rattle.topk_base.specs.Names.{IsName}
use Rattle.monotone_fn.specs.Tree.{Tree, Trees, Terms}
use Rattle.monotone_fn.specs.declared.costs.Costs.{Costs}
use Rattle.query_text.specs.Written.{Written, Arguments, Argument}
use Rattle.query_text.specs.Pieces.{each_once}
use Rattle.query_text.specs.Shape.{SyntaxTree, Named, algorithm_word, spelled}
use Rattle.query_text.specs.declared.query.Query.{Query}
use Rattle.query_text.specs.declared.algorithm.Algorithm.{Algorithm}
use Rattle.query_text.specs.declared.algorithm.Algorithm.TheVariants.{Theta, Early}
use Rattle.query_text.specs.declared.operator.Operator.TheVariants.{Min, Max, Sum, Median, Wsum}
use Rattle.topk_base.specs.declared.TheConstants.{MAX_LISTS, MAX_NUMBER, MAX_WEIGHT}

-- the name of a list by its number
abbrev pub name_of : List (List ℕ) → ℕ → List ℕ
name_of names list = slice_index_or names list []

-- an expression with its lists by name
abbrev mutual
  pub written : List (List ℕ) → Tree → Written
  written names (Tree.Grade list) = Written.name (name_of names list)
  written names (Tree.Min ts) = Written.call Min (arguments names ts)
  written names (Tree.Max ts) = Written.call Max (arguments names ts)
  written names (Tree.Sum ts) = Written.call Sum (arguments names ts)
  written names (Tree.Median ts) = Written.call Median (arguments names ts)
  written names (Tree.Wsum us) = Written.call Wsum (weighted names us)

  pub arguments : List (List ℕ) → Trees → Arguments
  arguments names Trees.no_tree = Arguments.no_argument
  arguments names (Trees.tree_then t ts) = Arguments.argument_then None (written names t) (arguments names ts)

  pub weighted : List (List ℕ) → Terms → Arguments
  weighted names Terms.no_term = Arguments.no_argument
  weighted names (Terms.term_then weight t us) = Arguments.argument_then (Some (decimal weight)) (written names t) (weighted names us)

-- an expression as an argument without a weight, and one with a weight
abbrev pub plain_argument : List (List ℕ) → Tree → Argument
plain_argument names tree = (None, written names tree)

abbrev pub weighted_argument : List (List ℕ) → ℕ × Tree → Argument
weighted_argument names term = (Some (decimal term.0), written names term.1)

-- the digits of both costs
abbrev pub cost_digits : Costs → List ℕ × List ℕ
cost_digits costs = (decimal costs.sorted, decimal costs.random)

-- an algorithm as a text has it
abbrev pub named_as : Algorithm → Named
named_as (Theta p q) = Named.factor (decimal p) (decimal q)
named_as (Early depth) = Named.depth (decimal depth)
named_as algorithm = Named.word (algorithm_word algorithm)

-- the syntax tree of a query
abbrev pub shape_of : Query → SyntaxTree
shape_of query = record {
  k = decimal query.k;
  expr = written query.names query.expr;
  algorithm = named_as query.algorithm;
  cost = option_map cost_digits query.cost;
  room = option_map decimal query.room;
}

-- the text of a query
unfoldable pub printed : Query → List ℕ
printed query = spelled (shape_of query)

-- the numbers of the lists that a tree names, in the order of its text, as often as they stand there
abbrev mutual
  pub lists_of : Tree → List ℕ
  lists_of (Tree.Grade list) = list ∷ []
  lists_of (Tree.Min ts) = lists_among ts
  lists_of (Tree.Max ts) = lists_among ts
  lists_of (Tree.Sum ts) = lists_among ts
  lists_of (Tree.Median ts) = lists_among ts
  lists_of (Tree.Wsum us) = lists_under us

  pub lists_among : Trees → List ℕ
  lists_among Trees.no_tree = []
  lists_among (Trees.tree_then t ts) = lists_of t ++ lists_among ts

  pub lists_under : Terms → List ℕ
  lists_under Terms.no_term = []
  lists_under (Terms.term_then weight t us) = lists_of t ++ lists_under us

-- there is one or more
abbrev pub HasTree : Trees → Type 0
HasTree Trees.no_tree = ⊥
HasTree (Trees.tree_then t ts) = Unit {0}

abbrev pub HasTerm : Terms → Type 0
HasTerm Terms.no_term = ⊥
HasTerm (Terms.term_then weight t us) = Unit {0}

-- each operator has something below it, and each weight is within its range
abbrev mutual
  pub IsPlain : Tree → Type 0
  IsPlain (Tree.Grade list) = Unit {0}
  IsPlain (Tree.Min ts) = HasTree ts × ArePlain ts
  IsPlain (Tree.Max ts) = HasTree ts × ArePlain ts
  IsPlain (Tree.Sum ts) = HasTree ts × ArePlain ts
  IsPlain (Tree.Median ts) = HasTree ts × ArePlain ts
  IsPlain (Tree.Wsum us) = HasTerm us × AreWeighed us

  pub ArePlain : Trees → Type 0
  ArePlain Trees.no_tree = Unit {0}
  ArePlain (Trees.tree_then t ts) = IsPlain t × ArePlain ts

  pub AreWeighed : Terms → Type 0
  AreWeighed Terms.no_term = Unit {0}
  AreWeighed (Terms.term_then weight t us) = (weight ≤ MAX_WEIGHT) × IsPlain t × AreWeighed us

-- a number that may be k, a cost or the room
abbrev pub IsCount : ℕ → Type 0
IsCount n = (1 ≤ n) × (n ≤ MAX_NUMBER)

-- the two parts of a factor are within their range, and it isn't below 1
pub record IsFactor (over under : ℕ) : Type 0 where
  pub p : IsCount over
  pub q : IsCount under
  pub fair : under ≤ over

-- the numbers of an algorithm are within their ranges
abbrev pub IsRated : Algorithm → Type 0
IsRated (Theta p q) = IsFactor p q
IsRated (Early depth) = IsCount depth
IsRated _ = Unit {0}

-- the names that an expression gives its lists, in the order of its text, as often as they stand there
abbrev pub names_given : List (List ℕ) → Tree → List (List ℕ)
names_given names tree = map (name_of names) (lists_of tree)

-- the query is lawful: its names are names and differ, each list of its expression has one of them, each of them is that of a list,
-- and the lists are numbered in the order in which the expression names them first; the numbers are within their ranges
pub record IsLawful (query : Query) : Type 0 where
  pub k : IsCount query.k
  pub names : All IsName query.names
  pub different : AllPairs ◌≢◌ query.names
  pub few : length query.names ≤ MAX_LISTS
  pub listed : All (λ list. list < length query.names) (lists_of query.expr)
  pub numbered : each_once bytes_eq (names_given query.names query.expr) ≡ query.names
  pub weights : IsPlain query.expr
  pub algorithm : IsRated query.algorithm
  pub cost : IfSome query.cost (λ cost. IsCount cost.sorted × IsCount cost.random)
  pub room : IfSome query.room IsCount
