-- What a base holds of its transcript before any access.
use Rattle.std.proofs.Common.{◌≡◌, ℕ, ◌*◌, ◌≤◌, min, max, [], refl, sym, ap, ap₂, subst, ◌∙◌, arith}
use Rattle.ranked_list.specs.declared.need.Need.TheVariants.{Done}
use Rattle.monotone_fn.specs.declared.costs.Costs.{Costs}
use Rattle.monotone_fn.specs.Tree.{Tree}
use Rattle.monotone_fn.specs.Shape.{list_count, NumbersLists}
use Rattle.access_log.specs.Log.{Log}
use Rattle.machine_base.specs.Machine.{IsBegun}
use Rattle.machine_base.specs.declared.base.Base.{Base}
use Rattle.machine_base.specs.Base.{shown, IsHeld, IsReserved}
use Rattle.machine_base.proofs.Held.{held_start}
use Rattle.machine_base.proofs.Reserve.{reserved_start}

-- a log over m lists of n objects without an access, for which room is reserved
abbrev pub empty_log : ℕ → ℕ → ℕ → ℕ → Log
empty_log m n objects accesses = record { lists = m; count = n; accesses = []; spare_objects = objects; spare_accesses = accesses }

-- the log for which room was reserved
pub room_reserved : (m n room objects accesses : ℕ) (made log : Log) → made ≡ empty_log m n 0 0
    → log ≡ record made { spare_objects = max made.spare_objects objects; spare_accesses = max made.spare_accesses accesses }
    → objects ≡ room → accesses ≡ 2 * (m * room) → log ≡ empty_log m n room (2 * (m * room))
room_reserved m n room objects accesses made log first then some more =
    let spare : max 0 objects ≡ room = omega (arith, some) in
    let twice : max 0 accesses ≡ 2 * (m * room) = omega (arith, more) in
    then ∙ ap (λ (l : Log). record l { spare_objects = max l.spare_objects objects; spare_accesses = max l.spare_accesses accesses }) first
    ∙ ap₂ (empty_log m n) spare twice

-- with it a base is begun
pub begun_empty : (e : Tree) (k n room most m objects accesses : ℕ) (costs : Costs) (log : Log) → most ≡ min room n → m ≡ list_count e
    → log ≡ empty_log m n objects accesses
    → IsBegun e k n room costs (shown (record { expr = e; k = k; room = most; costs = costs; transcript = log }) Done)
begun_empty e k n room most m objects accesses costs log in_force lists is = record {
  expr = refl;
  asked = refl;
  in_force = in_force;
  costs = refl;
  lists = ap (λ (l : Log). l.lists) is ∙ lists;
  count = ap (λ (l : Log). l.count) is;
  none = ap (λ (l : Log). l.accesses) is;
}

-- holds what it must
pub held_empty : (e : Tree) (k n room most m objects accesses : ℕ) (log : Log) → NumbersLists e → 1 ≤ k → k ≤ n → n ≤ 200000 → 1 ≤ room
    → most ≡ min room n → m ≡ list_count e → log ≡ empty_log m n objects accesses → IsHeld e k most log.lists log.count log.accesses
held_empty e k n room most m objects accesses log numbers asked fits counted roomy in_force lists is =
    let held : IsHeld e k most (list_count e) n [] = held_start e k most n numbers asked fits counted (omega arith) (omega arith) in
    subst (λ (l : Log). IsHeld e k most l.lists l.count l.accesses) (sym is) (subst (λ at. IsHeld e k most at n []) (sym lists) held)

-- and has room where the room was reserved for its objects, and for twice as many accesses as its lists have of them
pub reserved_empty : (base : Base) (m n : ℕ) → base.transcript ≡ empty_log m n base.room (2 * (m * base.room)) → IsReserved base
reserved_empty base m n is =
    let log : Log = base.transcript in
    let spare : log.spare_objects ≡ base.room = ap (λ (l : Log). l.spare_objects) is in
    let more : log.spare_accesses ≡ 2 * (m * base.room) = ap (λ (l : Log). l.spare_accesses) is in
    let here : log.lists ≡ m = ap (λ (l : Log). l.lists) is in
    let twice : 2 * (log.lists * base.room) ≡ 2 * (m * base.room) = ap (λ x. 2 * (x * base.room)) here in
    reserved_start base (ap (λ (l : Log). l.accesses) is) (omega (arith, spare)) (omega (arith, more, twice))
