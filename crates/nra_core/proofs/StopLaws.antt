-- The laws, each on one transcript.
use Rattle.std.proofs.Common.{◌≡◌, ℕ, ◌<◌, ◌≤◌, Bool, true, List, ◌++◌, length, Contains, sym, ◌∙◌, arith}
use Rattle.ranked_list.specs.declared.row.Row.{Row}
use Rattle.topk_theory.specs.declared.access.Access.{Access}
use Rattle.topk_theory.specs.Transcript.{Agrees, named_objects, seen_objects}
use Rattle.topk_theory.specs.Bounds.{low, high, threshold}
use Rattle.topk_theory.specs.NoRandom.{is_quiet}
use Rattle.nra_core.specs.Late.{AreFirstByLow, IsLeastLow, MayStop, AreNextBounds}
use Rattle.nra_core.proofs.Stop.{stop_from_quiet, quiet_from_stop}
use Rattle.nra_core.proofs.Shown.{quiet_same}
use Rattle.nra_core.proofs.Members.{bound_rises}

-- on a table that agrees, the algorithm is quiet exactly where it may stop
pub stop_of_quiet : (V : List ℕ → ℕ) (k n : ℕ) (D : List (List Row)) (A : List Access) (is_top : ℕ → Bool) (bound : ℕ) → 1 ≤ k → 0 < length D
    → ((o : ℕ) → Contains (named_objects A) o → Contains (seen_objects A) o) → Agrees (length D) n D A
    → AreFirstByLow k (low V (length D) A) (seen_objects A) is_top → (k ≤ length (seen_objects A) → IsLeastLow (low V (length D) A) is_top bound)
    → is_quiet V k (length D) D A ≡ true
    → MayStop k n (threshold V (length D) A) (low V (length D) A) (high V (length D) A) (seen_objects A) is_top bound
stop_of_quiet V k n D A is_top bound one some named agrees first least quiet =
    stop_from_quiet V k (length D) n A is_top bound one first least (sym (quiet_same V k n D A some named agrees) ∙ quiet)

pub quiet_of_stop : (V : List ℕ → ℕ) (k n : ℕ) (D : List (List Row)) (A : List Access) (is_top : ℕ → Bool) (bound : ℕ) → 1 ≤ k → 0 < length D
    → ((o : ℕ) → Contains (named_objects A) o → Contains (seen_objects A) o) → Agrees (length D) n D A
    → AreFirstByLow k (low V (length D) A) (seen_objects A) is_top → (k ≤ length (seen_objects A) → IsLeastLow (low V (length D) A) is_top bound)
    → MayStop k n (threshold V (length D) A) (low V (length D) A) (high V (length D) A) (seen_objects A) is_top bound
    → is_quiet V k (length D) D A ≡ true
quiet_of_stop V k n D A is_top bound one some named agrees first least stop =
    quiet_same V k n D A some named agrees ∙ quiet_from_stop V k (length D) n A is_top bound one first least stop

-- a high that is no greater than the bound stays no greater than it
pub high_stays_within : (k : ℕ) (low high next next_high : ℕ → ℕ) (seen more : List ℕ) (is_top then : ℕ → Bool) (object bound after outside : ℕ)
    → AreNextBounds low high next next_high object → k ≤ length seen → AreFirstByLow k low seen is_top → IsLeastLow low is_top bound
    → AreFirstByLow k next (seen ++ more) then → IsLeastLow next then after → high outside ≤ bound → next_high outside ≤ after
high_stays_within k low high next next_high seen more is_top then object bound after outside bounds enough first least later now within =
    let rises = bound_rises k low next seen more is_top then bound after enough bounds.rises first later least now in
    let falls = bounds.falls outside in
    omega arith
