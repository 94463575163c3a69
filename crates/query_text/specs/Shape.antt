-- The shape of query text: a syntax tree and its spelling.
use Rattle.std.specs.Prelude.{◌≡◌, ◌+◌, ◌<◌, ◌≤◌, ℕ, List, [], ◌∷◌, ◌++◌, length, take, codes, map, IsTrue, Option, Some, None, IfSome}
use Rattle.std.specs.List.{list_any}
use Rattle.std.specs.Str.{bytes_eq}
use Rattle.query_text.specs.Written.{Written, Arguments, IsNumber, IsWritten}
use Rattle.query_text.specs.Pieces.{Piece, text_of}
use Rattle.query_text.specs.declared.algorithm.Algorithm.{Algorithm}
use Rattle.query_text.specs.declared.algorithm.Algorithm.TheVariants.{Ta, Nra, Ca, Fa, Theta, Early, Taz}
use Rattle.query_text.specs.declared.operator.Operator.{Operator}
use Rattle.query_text.specs.declared.operator.Operator.TheVariants.{Min, Max, Sum, Median, Wsum}
use Rattle.topk_base.specs.declared.TheConstants.{MAX_NUMBER, MAX_WEIGHT}

-- the word of an algorithm, with the blank before its numbers, if it has any
abbrev pub algorithm_word : Algorithm → List ℕ
algorithm_word Ta = codes "ta"
algorithm_word Nra = codes "nra"
algorithm_word Ca = codes "ca"
algorithm_word Fa = codes "fa"
algorithm_word (Theta p q) = codes "theta "
algorithm_word (Early depth) = codes "early "
algorithm_word Taz = codes "taz"

-- the algorithms that have no numbers, and their words
abbrev pub algorithms : List Algorithm
algorithms = Ta ∷ Nra ∷ Ca ∷ Fa ∷ Taz ∷ []

abbrev pub algorithm_words : List (List ℕ)
algorithm_words = map algorithm_word algorithms

-- the word of an operator
abbrev pub operator_word : Operator → List ℕ
operator_word Min = codes "min"
operator_word Max = codes "max"
operator_word Sum = codes "sum"
operator_word Median = codes "median"
operator_word Wsum = codes "wsum"

-- an operator with the parenthesis behind it
abbrev pub opening : Operator → List ℕ
opening operator = operator_word operator ++ codes "("

-- k, a cost, the room, a depth or a part of a factor, by its digits
abbrev pub count_piece : List ℕ → Piece
count_piece digits = Piece.number 1 MAX_NUMBER digits

-- a weight and the `*` behind it, if there is one
abbrev pub weight_pieces : Option (List ℕ) → List Piece
weight_pieces None = []
weight_pieces (Some digits) = Piece.number 0 MAX_WEIGHT digits ∷ Piece.fixed (codes "*") ∷ []

-- the pieces of an expression, of the arguments in parentheses, and of the arguments behind the first
abbrev mutual
  pub expr_pieces : Written → List Piece
  expr_pieces (Written.name text) = Piece.name text ∷ []
  expr_pieces (Written.call operator arguments) = Piece.fixed (opening operator) ∷ argument_pieces arguments ++ Piece.fixed (codes ")") ∷ []

  pub argument_pieces : Arguments → List Piece
  argument_pieces Arguments.no_argument = []
  argument_pieces (Arguments.argument_then weight first rest) = weight_pieces weight ++ (expr_pieces first ++ further_pieces rest)

  pub further_pieces : Arguments → List Piece
  further_pieces Arguments.no_argument = []
  further_pieces (Arguments.argument_then weight next rest) = Piece.fixed (codes ",") ∷ (weight_pieces weight ++ (expr_pieces next ++ further_pieces rest))

-- an algorithm as a text has it: by its word alone, or with its factor or its depth, by their digits
pub data Named : Type 0 where
  word : List ℕ → Named
  factor : List ℕ → List ℕ → Named
  depth : List ℕ → Named

-- its pieces
abbrev pub named_pieces : Named → List Piece
named_pieces (Named.word text) = Piece.fixed text ∷ []
named_pieces (Named.factor p q) = Piece.fixed (codes "theta ") ∷ count_piece p ∷ Piece.fixed (codes "/") ∷ count_piece q ∷ []
named_pieces (Named.depth digits) = Piece.fixed (codes "early ") ∷ count_piece digits ∷ []

-- its word is that of an algorithm without numbers, and its numbers are numbers
abbrev pub IsNamed : Named → Type 0
IsNamed (Named.word text) = IsTrue (list_any (bytes_eq text) algorithm_words)
IsNamed (Named.factor p q) = IsNumber p × IsNumber q
IsNamed (Named.depth digits) = IsNumber digits

-- a query text as a syntax tree: numbers by their digits
pub record SyntaxTree : Type 0 where
  pub k : List ℕ
  pub expr : Written
  pub algorithm : Named
  pub cost : Option (List ℕ × List ℕ)
  pub room : Option (List ℕ)

-- the pieces of a cost and of a room, if there are any
abbrev pub cost_pieces : Option (List ℕ × List ℕ) → List Piece
cost_pieces None = []
cost_pieces (Some cost) = Piece.fixed (codes " cost ") ∷ count_piece cost.0 ∷ Piece.fixed (codes " ") ∷ count_piece cost.1 ∷ []

abbrev pub room_pieces : Option (List ℕ) → List Piece
room_pieces None = []
room_pieces (Some room) = Piece.fixed (codes " room ") ∷ count_piece room ∷ []

-- what stands before the expression, and what stands behind it
abbrev pub front_pieces : List ℕ → List Piece
front_pieces k = Piece.fixed (codes "top ") ∷ count_piece k ∷ Piece.fixed (codes " by ") ∷ []

abbrev pub algorithm_pieces : Named → List Piece
algorithm_pieces named = Piece.fixed (codes " using ") ∷ named_pieces named

-- the pieces of a query text
abbrev pub pieces_of : SyntaxTree → List Piece
pieces_of shape = front_pieces shape.k ++ (expr_pieces shape.expr ++ (algorithm_pieces shape.algorithm ++ (cost_pieces shape.cost ++ room_pieces shape.room)))

-- the text that a syntax tree spells
abbrev pub spelled : SyntaxTree → List ℕ
spelled shape = text_of (pieces_of shape)

-- the syntax tree is one: its numbers are numbers, of any length, its expression is well formed, and so is its algorithm
pub record IsShape (shape : SyntaxTree) : Type 0 where
  pub k : IsNumber shape.k
  pub expr : IsWritten shape.expr
  pub algorithm : IsNamed shape.algorithm
  pub cost : IfSome shape.cost (λ cost. IsNumber cost.0 × IsNumber cost.1)
  pub room : IfSome shape.room IsNumber

-- the text is of the shape of query text
pub record IsText (text : List ℕ) : Type 0 where
  pub shape : SyntaxTree
  pub sound : IsShape shape
  pub same : spelled shape ≡ text

-- some text of the shape begins so
pub record BeginsQuery (front : List ℕ) : Type 0 where
  pub shape : SyntaxTree
  pub sound : IsShape shape
  pub rest : List ℕ
  pub same : spelled shape ≡ front ++ rest

-- the text isn't of the shape, and this is the length of the longest front of it that begins a text of the shape
pub record IsSyntaxFault (text : List ℕ) (at : ℕ) : Type 0 where
  pub refused : IsText text → ⊥
  pub within : at ≤ length text
  pub begins : BeginsQuery (take at text)
  pub longest : at < length text → BeginsQuery (take (at + 1) text) → ⊥
