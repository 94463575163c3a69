-- Of which kind of inconsistency one access more is, if of any.
use Rattle.std.specs.Prelude.{◌≡◌, ℕ, List, Option, Some, None}
use Rattle.topk_theory.specs.declared.access.Access.{Access}
use Rattle.topk_theory.specs.Consistent.{Kind, number_of, IsOfKind, IsFirstKind}

-- the number of the first kind of which an access is, None where it is of none
abbrev pub IsFirstOf : ℕ → ℕ → List Access → Access → Option ℕ → Type 0
IsFirstOf m n A access None = (kind : Kind) → ¬ IsOfKind m n A access kind
IsFirstOf m n A access (Some number) = (kind : Kind) × (number_of kind ≡ number) × IsFirstKind m n A access kind
