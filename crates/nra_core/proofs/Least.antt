-- The least low of the first is the k-th largest low of the seen objects.
use Rattle.std.proofs.Common.{◌≡◌, ◌⊎◌, inl, inr, ℕ, ◌-◌, ◌<◌, ◌≤◌, List, length, Option, Some, None, MatchOption, sym, ap, ◌∙◌, arith}
use Rattle.std.specs.Option.{option_map}
use Rattle.std.proofs.lemmas.Option.{slice_get_past}
use Rattle.ranked_list.specs.declared.item.Item.{Item}
use Rattle.monotone_fn.specs.Tree.{Tree}
use Rattle.monotone_fn.specs.Value.{value}
use Rattle.topk_theory.specs.declared.access.Access.{Access}
use Rattle.topk_theory.specs.Order.{in_order, kth_low}
use Rattle.topk_theory.specs.Transcript.{seen_objects}
use Rattle.topk_theory.specs.Bounds.{low, high, bounded}
use Rattle.topk_theory.specs.NoRandom.{seen_items}
use Rattle.topk_theory.proofs.InOrder.{length-in_order}
use Rattle.topk_theory.proofs.ThresholdLists.{length-map}
use Rattle.topk_theory.proofs.Agreement.{seen_distinct}
use Rattle.access_log.specs.Log.{Log}
use Rattle.containers.specs.Slots.{Slots}
use Rattle.nra_core.specs.Late.{IsLeastLow}
use Rattle.nra_core.proofs.Stop.{kth_low_is}
use Rattle.nra_core.specs.declared.late.LateBounds.{LateBounds}
use Rattle.nra_core.specs.LatePlaces.{IsLate, KeepsLate, HasLeast, is_first}
use Rattle.nra_core.proofs.Noted.{least_of_first, first_at}

-- fewer than k are seen: there is no k-th low
pub few_seen : (V : List ℕ → ℕ) (k m : ℕ) (A : List Access) → 1 ≤ k → length (seen_objects A) < k → kth_low k (seen_items V m A) ≡ None
few_seen V k m A one few =
    let items = seen_items V m A in
    let size : length (in_order items) ≡ length items = length-in_order items in
    let made : length items ≡ length (seen_objects A) = length-map (bounded V m A) (seen_objects A) in
    ap (option_map (λ (item : Item). item.low)) (slice_get_past (in_order items) (k - 1) (omega arith))

-- the bound that the slots have is the least low of the first
pub least_low_is : (V : List ℕ → ℕ) (k m : ℕ) (A : List Access) (first : Slots) (candidates : List (Option ℕ)) (bound : ℕ) → IsLate V k m A first candidates
    → HasLeast k first.entries bound → IsLeastLow (low V m A) (is_first A first.entries) bound
least_low_is V k m A first candidates bound late has =
    let least = has.least in
    let is = has.is in
    let own = first_at V k m A first candidates has.slot least.entry late least.there in
    record {
      reached = (own.0, own.1, sym own.2 ∙ is);
      least = λ inside t. (let upto = least_of_first V k m A first candidates has.slot late least inside t in omega arith);
    }

pub enough_seen : (V : List ℕ → ℕ) (k m : ℕ) (A : List Access) (first : Slots) (candidates : List (Option ℕ)) → IsLate V k m A first candidates
    → k ≤ length first.entries → k ≤ length (seen_objects A)
enough_seen V k m A first candidates late many = let full = late.full in omega arith

pub kth_is_least : (V : List ℕ → ℕ) (k m : ℕ) (A : List Access) (first : Slots) (candidates : List (Option ℕ)) (bound : ℕ) → IsLate V k m A first candidates
    → HasLeast k first.entries bound → kth_low k (seen_items V m A) ≡ Some bound
kth_is_least V k m A first candidates bound late has =
    kth_low_is k (low V m A) (high V m A) (seen_objects A) (is_first A first.entries) bound late.asked (seen_distinct A) (enough_seen V k m A first candidates late has.enough)
    late.keeps.first (least_low_is V k m A first candidates bound late has)

-- what the call answers
pub bound_is : (e : Tree) (log : Log) (late : LateBounds) (found : Option ℕ)
    → MatchOption found ((length late.first.entries < late.k) ⊎ (late.k ≡ 0)) (λ bound. HasLeast late.k late.first.entries bound)
    → KeepsLate e log late → found ≡ kth_low late.k (seen_items (value e) log.lists log.accesses)
bound_is e log late None none keeps =
    let kept = keeps.kept in
    let full = kept.full in
    let asked = kept.asked in
    let few : length (seen_objects log.accesses) < late.k = elim none [ inl less ↦ omega arith | inr zero_k ↦ omega arith ] in
    sym (few_seen (value e) late.k log.lists log.accesses asked few)
bound_is e log late (Some bound) has keeps = sym (kth_is_least (value e) late.k log.lists log.accesses late.first late.candidates bound keeps.kept has)
