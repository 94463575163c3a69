-- A run over few lists of not too many objects is short.
use Rattle.std.proofs.Common.{ℕ, ◌<◌, ◌≤◌, ◌^◌, List, length}
use Rattle.ranked_list.specs.declared.row.Row.{Row}
use Rattle.monotone_fn.specs.Value.{IsMonotone}
use Rattle.topk_theory.specs.Asked.{Asked}
use Rattle.topk_theory.specs.Threshold.{IsAsked}
use Rattle.query_core.specs.Methods.{Method, run_with}
use Rattle.query_core.proofs.AllFacts.{facts}

-- a run over 8 lists of 200,000 objects at most has fewer than 2^24 accesses
pub run_short : (method : Method) (asked : Asked) (n : ℕ) (D : List (List Row)) → IsMonotone asked.value → IsAsked asked.k n D → length D ≤ 8 → n ≤ 200000
    → length (run_with method asked D) < 2 ^ 24
run_short method asked n D monotone is few counted = (facts method).short asked n D monotone is few counted
