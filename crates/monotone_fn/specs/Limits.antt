-- Which trees are expressions, and why a tree is refused.
use Rattle.std.specs.Prelude.{◌≡◌, ℕ, ◌+◌, ◌-◌, ◌^◌, ◌<◌, ◌≤◌, min, Bool, nat_lt, List, All, length, replicate, Option, Some, None, unwrap_or, Result, Ok, Err}
use Rattle.std.specs.List.{position_from}
use Rattle.monotone_fn.specs.Tree.{Tree}
use Rattle.monotone_fn.specs.Shape.{nodes_of, node_count, depth, NumbersLists}
use Rattle.monotone_fn.specs.Value.{value}
use Rattle.monotone_fn.specs.declared.fault.ExprFault.{ExprFault}
use Rattle.monotone_fn.specs.declared.fault.ExprFault.TheVariants.{TooManyNodes, TooDeep, TooBig, Memory}
use Rattle.topk_base.specs.declared.TheConstants.{MAX_DEPTH, MAX_LISTS, MAX_NODES, MAX_VALUE, TOP_GRADE}

-- each is a grade
abbrev pub AreGrades : List ℕ → Type 0
AreGrades xs = All (λ g. g ≤ TOP_GRADE) xs

-- each one that is known is a grade
abbrev pub AreGradesWhereKnown : List (Option ℕ) → Type 0
AreGradesWhereKnown known = All (λ g. unwrap_or g 0 ≤ TOP_GRADE) known

-- the value where each grade is the greatest that there is, in as many lists as an expression may name
abbrev pub top_value : Tree → ℕ
top_value t = value t (replicate MAX_LISTS TOP_GRADE)

-- the number, from 1 in the order in which texts end, of the first node whose value may pass the greatest that is allowed
abbrev pub first_too_big : Tree → Option ℕ
first_too_big t = position_from (λ n. nat_lt MAX_VALUE (top_value n)) 1 (nodes_of t)

-- the value of a node at these grades passes the greatest that is allowed
abbrev pub passes : List ℕ → Tree → Bool
passes x n = nat_lt MAX_VALUE (value n x)

-- a walk over nodes counts those that end: there is a result where no value passes, and else the count is at the first that does
abbrev pub Passes : {A : Type 0} → List ℕ → List Tree → ℕ → ℕ → Option A → Type 0
Passes x nodes before after (Some r) = (position_from (passes x) (before + 1) nodes ≡ None) × (after ≡ before + length nodes)
Passes x nodes before after None = position_from (passes x) (before + 1) nodes ≡ Some after

-- the tree is an expression
pub record IsExpr (t : Tree) : Type 0 where
  pub lists : NumbersLists t
  pub few_nodes : node_count t ≤ MAX_NODES
  pub shallow : depth t ≤ MAX_DEPTH
  pub small : All (λ n. top_value n ≤ MAX_VALUE) (nodes_of t)

-- a count as a u64 gives it: its last value where it passes that
abbrev pub counted : ℕ → ℕ
counted n = min n (2 ^ 64 - 1)

-- what becomes of a tree: too many nodes come before too much depth, and both before a value too big
abbrev pub Makes : Tree → Result Tree ExprFault → Type 0
Makes t (Ok e) = (e ≡ t) × IsExpr t
Makes t (Err (TooManyNodes n)) = (MAX_NODES < node_count t) × (n ≡ counted (node_count t))
Makes t (Err (TooDeep d)) = (node_count t ≤ MAX_NODES) × (MAX_DEPTH < depth t) × (d ≡ counted (depth t))
Makes t (Err (TooBig n)) = (node_count t ≤ MAX_NODES) × (depth t ≤ MAX_DEPTH) × (first_too_big t ≡ Some n)
Makes t (Err Memory) = ⊥
