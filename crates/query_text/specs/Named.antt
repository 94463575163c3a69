-- What a word stands for.
use Rattle.std.specs.Prelude.{◌≡◌, ℕ, ◌<◌, List, length}
use Rattle.std.specs.Str.{bytes_eq}
use Rattle.query_text.specs.Pieces.{with_member}
use Rattle.query_text.specs.declared.fault.QueryFault.{QueryFault}
use Rattle.query_text.specs.declared.fault.QueryFault.TheVariants as faults
use Rattle.topk_base.specs.declared.TheConstants.{MAX_LISTS}

-- why a name isn't taken as that of a list
abbrev pub IsListMissed : List (List ℕ) → List ℕ → ℕ → QueryFault → Type 0
IsListMissed names word at (faults.TooManyLists place) = (place ≡ at) × (MAX_LISTS < length (with_member bytes_eq names word))
IsListMissed names word at faults.Memory = Unit {0}
IsListMissed _ _ _ _ = ⊥
