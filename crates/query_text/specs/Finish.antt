-- The query of a draft.
use Rattle.std.specs.Prelude.{◌≡◌, ◌<◌, ◌≤◌, ◌^◌, Option, Some, None, Result, Ok, Err, IfSome}
use Rattle.monotone_fn.specs.Shown.{tree_of}
use Rattle.monotone_fn.specs.Limits.{IsExpr, Makes}
use Rattle.monotone_fn.specs.declared.fault.ExprFault.TheVariants.{TooManyNodes as ManyNodes, TooDeep as Deep, TooBig as Big}
use Rattle.query_text.specs.Draft.{names_of}
use Rattle.query_text.specs.declared.algorithm.Algorithm.{Algorithm}
use Rattle.query_text.specs.declared.algorithm.Algorithm.TheVariants.{Theta, Early}
use Rattle.query_text.specs.declared.draft.Draft.{Draft}
use Rattle.query_text.specs.declared.query.Query.{Query}
use Rattle.query_text.specs.declared.fault.QueryFault.{QueryFault}
use Rattle.query_text.specs.declared.fault.QueryFault.TheVariants as faults

-- the query that a draft is, whether or not its tree is an expression
abbrev pub query_in : Draft → Query
query_in draft = record { k = draft.k; names = names_of draft; expr = tree_of draft.operand; algorithm = draft.algorithm; cost = draft.cost; room = draft.room }

-- the factor of an algorithm isn't below 1, if it has one
abbrev pub IsFair : Algorithm → Type 0
IsFair (Theta p q) = q ≤ p
IsFair _ = Unit {0}

-- whether a factor is below 1
abbrev pub TestsFactor : Algorithm → Option QueryFault → Type 0
TestsFactor algorithm None = IsFair algorithm
TestsFactor algorithm (Some (faults.BadTheta p q)) = (algorithm ≡ Theta p q) × (p < q)
TestsFactor _ _ = ⊥

-- what becomes of a draft
abbrev pub Finishes : Draft → Result Query QueryFault → Type 0
Finishes draft (Ok query) = (query ≡ query_in draft) × IsExpr query.expr × IsFair draft.algorithm
Finishes draft (Err (faults.BadTheta p q)) = (draft.algorithm ≡ Theta p q) × (p < q)
Finishes draft (Err (faults.TooManyNodes nodes)) = IsFair draft.algorithm × Makes (tree_of draft.operand) (Err (ManyNodes nodes))
Finishes draft (Err (faults.TooDeep depth)) = IsFair draft.algorithm × Makes (tree_of draft.operand) (Err (Deep depth))
Finishes draft (Err (faults.TooBig node)) = IsFair draft.algorithm × Makes (tree_of draft.operand) (Err (Big node))
Finishes draft (Err faults.Memory) = Unit {0}
Finishes _ _ = ⊥

-- the numbers of an algorithm are small
abbrev pub AreSmall : Algorithm → Type 0
AreSmall (Theta p q) = (p < 2 ^ 32) × (q < 2 ^ 32)
AreSmall (Early depth) = depth < 2 ^ 32
AreSmall _ = Unit {0}

-- the numbers of a draft are small
pub record IsSmall (draft : Draft) : Type 0 where
  pub k : draft.k < 2 ^ 32
  pub algorithm : AreSmall draft.algorithm
  pub cost : IfSome draft.cost (λ cost. (cost.sorted < 2 ^ 32) × (cost.random < 2 ^ 32))
  pub room : IfSome draft.room (λ room. room < 2 ^ 32)
