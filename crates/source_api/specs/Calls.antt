-- The calls that were made of a source, in their order, each with what it answered.
use Rattle.std.specs.Prelude.{◌≡◌, ℕ, Option, Some, None, IfSome, List, [], ◌∷◌, ◌++◌}
use Rattle.std.specs.declared.result.Result.{Result}
use Rattle.ranked_list.specs.declared.row.Row.{Row}
use Rattle.source_api.specs.declared.source.Trouble.{Trouble}

-- a call: how many rows the list has; the rows after the first `from`, at most `count` of them; or the grade of an object. Each stands
-- with its answer, or with why it gave none
pub data Call : Type 0 where
  Size : Result ℕ Trouble → Call
  Page : ℕ → ℕ → Result (List Row) Trouble → Call
  Grade : ℕ → Result (Option ℕ) Trouble → Call

-- the calls with one more, where the source tells them
abbrev pub with_call : Call → Option (List Call) → Option (List Call)
with_call call None = None
with_call call (Some calls) = Some (calls ++ call ∷ [])

-- no call was made of a source, where it tells them
abbrev pub IsUncalled : Option (List Call) → Type 0
IsUncalled calls = IfSome calls (λ made. made ≡ [])
