-- Passes that are joined again.
use Rattle.std.proofs.Common.{◌≡◌, ◌+◌, ℕ, sym, ap, ◌∙◌}
use Rattle.atomic_table.specs.Seated.{TableId}
use Rattle.keyed_lock.specs.declared.hold.Hold.{Hold}
use Rattle.keyed_lock.specs.Hold.{Lock, share_of, joined}

-- the pass that one more part was joined to
pub share_more : {K : Type 0} (lock : Lock K) (before other after : TableId × Hold K) (parts now : ℕ) → before ≡ share_of lock parts → other ≡ share_of lock 1
    → after ≡ (lock.id, joined before.1 other.1) → now ≡ parts + 1 → after ≡ share_of lock now
share_more lock before other after parts now was its is more =
    let both : (lock.id, joined before.1 other.1) ≡ share_of lock (parts + 1) = λ i. (lock.id, joined (was i).1 (its i).1) in
    is ∙ (both ∙ ap (share_of lock) (sym more))
