-- Whether a transcript alone shows that the algorithm without random access is quiet.
use Rattle.std.specs.Prelude.{ℕ, Bool, not, ◌&&◌, ◌||◌, List, length, drop, nat_le}
use Rattle.std.specs.List.{list_all}
use Rattle.ranked_list.specs.declared.item.Item.{Item}
use Rattle.topk_theory.specs.Order.{in_order, kth_low}
use Rattle.topk_theory.specs.declared.access.Access.{Access}
use Rattle.topk_theory.specs.Transcript.{seen_objects}
use Rattle.topk_theory.specs.Bounds.{threshold}
use Rattle.topk_theory.specs.NoRandom.{seen_items, exceeds}

-- at least k objects were seen, and the number is not above the k-th largest of their lows
abbrev pub is_idle : (List ℕ → ℕ) → ℕ → ℕ → List Access → ℕ → Bool
is_idle V k m A high = not (exceeds (kth_low k (seen_items V m A)) high)

-- at least k objects were seen, and neither the high of a seen object outside the first k nor,
-- where unseen ones of n are left, the threshold is above the k-th largest low
abbrev pub is_quiet_seen : (List ℕ → ℕ) → ℕ → ℕ → ℕ → List Access → Bool
is_quiet_seen V k m n A =
    nat_le k (length (seen_objects A))
    && ((nat_le n (length (seen_objects A)) || is_idle V k m A (threshold V m A))
    && list_all (λ (item : Item). is_idle V k m A item.high) (drop k (in_order (seen_items V m A))))
