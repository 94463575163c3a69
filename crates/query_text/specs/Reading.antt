-- What reading a line answers.
use Rattle.std.specs.Prelude.{◌≡◌, ◌⊎◌, ◌<◌, ◌≤◌, ℕ, List, length, Result, Ok, Err}
use Rattle.std.specs.Str.Parse.{digits_value}
use Rattle.monotone_fn.specs.Limits.{IsExpr, Makes}
use Rattle.monotone_fn.specs.declared.fault.ExprFault.TheVariants.{TooManyNodes as ManyNodes, TooDeep as Deep, TooBig as Big}
use Rattle.query_text.specs.Pieces.{Piece, AreFine, IsNumberFault, IsNameFault}
use Rattle.query_text.specs.Shape.{SyntaxTree, Named, IsShape, pieces_of, spelled, IsSyntaxFault}
use Rattle.query_text.specs.Query.{printed, IsLawful}
use Rattle.query_text.specs.declared.query.Query.{Query}
use Rattle.query_text.specs.declared.fault.QueryFault.{QueryFault}
use Rattle.query_text.specs.declared.fault.QueryFault.TheVariants.{LongLine, Syntax, Number, TooManyLists, BadTheta, TooManyNodes, TooDeep, TooBig, Memory}
use Rattle.topk_base.specs.declared.TheConstants.{MAX_LINE}

-- the line spells the query, which is lawful, whether or not its expression is within the limits of expressions
pub record Spells (line : List ℕ) (query : Query) : Type 0 where
  pub short : length line ≤ MAX_LINE
  pub lawful : IsLawful query
  pub text : printed query ≡ line

-- the line is of the shape, and its pieces have this fault
pub record HasFault (line : List ℕ) (IsFault : List Piece → Type 0) : Type 0 where
  pub short : length line ≤ MAX_LINE
  pub shape : SyntaxTree
  pub sound : IsShape shape
  pub text : spelled shape ≡ line
  pub fault : IsFault (pieces_of shape)

-- the line spells a query, but its tree is refused as an expression
pub record IsTreeRefused (line : List ℕ) (why : Query → Type 0) : Type 0 where
  pub query : Query
  pub spells : Spells line query
  pub refused : why query

-- the line is of the shape, and no piece is at fault, but it names the factor p / q, which is below 1
pub record IsBadFactor (line : List ℕ) (p q : ℕ) : Type 0 where
  pub short : length line ≤ MAX_LINE
  pub shape : SyntaxTree
  pub sound : IsShape shape
  pub text : spelled shape ≡ line
  pub fine : AreFine (pieces_of shape)
  pub over : List ℕ
  pub under : List ℕ
  pub factor : shape.algorithm ≡ Named.factor over under
  pub is_over : digits_value 10 over ≡ p
  pub is_under : digits_value 10 under ≡ q
  pub less : p < q

-- what a line is read as, and why it is refused: of several reasons the first of these,
-- but that of a number out of its range and a list too many the first in the line counts
abbrev pub Reads : List ℕ → Result Query QueryFault → Type 0
Reads line (Ok query) = Spells line query × IsExpr query.expr
Reads line (Err (LongLine limit)) = (MAX_LINE < length line) × (limit ≡ MAX_LINE)
Reads line (Err (Syntax at)) = (length line ≤ MAX_LINE) × IsSyntaxFault line at
Reads line (Err (Number at)) = HasFault line (λ pieces. IsNumberFault pieces at)
Reads line (Err (TooManyLists at)) = HasFault line (λ pieces. IsNameFault pieces at)
Reads line (Err (BadTheta p q)) = IsBadFactor line p q
Reads line (Err (TooManyNodes nodes)) = IsTreeRefused line (λ query. Makes query.expr (Err (ManyNodes nodes)))
Reads line (Err (TooDeep depth)) = IsTreeRefused line (λ query. Makes query.expr (Err (Deep depth)))
Reads line (Err (TooBig node)) = IsTreeRefused line (λ query. Makes query.expr (Err (Big node)))
Reads line (Err Memory) = Unit {0}

-- where the line is the text of a lawful query whose expression is within the limits, reading answers that query, unless memory is refused
abbrev pub IsReadBack : List ℕ → Result Query QueryFault → Type 0
IsReadBack line result = (query : Query) → IsLawful query → IsExpr query.expr → printed query ≡ line → (result ≡ Ok query) ⊎ (result ≡ Err Memory)
