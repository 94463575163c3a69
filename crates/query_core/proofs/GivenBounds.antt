-- Bounds that are the aggregate on each table that agrees with a transcript are those that the transcript gives.
use Rattle.std.proofs.Common.{◌≡◌, ◌≢◌, ℕ, ◌+◌, ◌<◌, List, Contains, sym, ap, ap₂, ◌∙◌, arith}
use Rattle.std.proofs.lemmas.List.Elements.{Contains-append_left}
use Rattle.ranked_list.specs.declared.row.Row.{Row}
use Rattle.ranked_list.specs.declared.item.Item.{Item}
use Rattle.topk_theory.specs.declared.access.Access.{Access}
use Rattle.topk_theory.specs.Aggregate.{aggregate}
use Rattle.topk_theory.specs.Transcript.{Agrees, named_objects}
use Rattle.topk_theory.specs.Bounds.{low, high, bounded}
use Rattle.topk_theory.specs.Consistent.{SomeAgrees}
use Rattle.topk_theory.specs.Threshold.{scored}
use Rattle.topk_theory.specs.Adversary.{MayBeObjects, object_set, completed, against}
use Rattle.topk_theory.proofs.AgreementLists.{all_from_members}
use Rattle.topk_theory.proofs.Agreement.{named_distinct, named_count}
use Rattle.topk_theory.proofs.Adversary.{holds_against}
use Rattle.topk_theory.proofs.Consistent.{object_set_is}

-- the objects of some table that agrees
may_be : (m n : ℕ) (A : List Access) → 0 < m → SomeAgrees m n A → MayBeObjects n A (object_set n (named_objects A))
may_be m n A lists some = record {
  is_set = object_set_is n (named_objects A) (named_distinct A) (named_count m n some.0 A lists some.1);
  named = all_from_members (Contains (object_set n (named_objects A))) (named_objects A) (λ o c. Contains-append_left (named_objects A) _ o c);
}

-- both bounds of a named object are its aggregates in some tables that agree
pub record AreReached (V : List ℕ → ℕ) (m n : ℕ) (A : List Access) (object : ℕ) : Type 0 where
  pub lowest : (D : List (List Row)) × Agrees m n D A × (aggregate V D object ≡ low V m A object)
  pub highest : (D : List (List Row)) × Agrees m n D A × (aggregate V D object ≡ high V m A object)

pub bounds_reached : (V : List ℕ → ℕ) (m n : ℕ) (A : List Access) (object : ℕ) → 0 < m → SomeAgrees m n A → Contains (named_objects A) object
    → AreReached V m n A object
bounds_reached V m n A object lists some named =
    let O = object_set n (named_objects A) in
    let there : Contains O object = Contains-append_left (named_objects A) _ object named in
    let one = holds_against V m n A O object lists some (may_be m n A lists some) in
    let two = holds_against V m n A O (object + 1) lists some (may_be m n A lists some) in
    let apart : object ≢ object + 1 = λ e. absurd (omega arith) in
    record {
      lowest = (completed (against object A) O m A, one.agrees, one.lowest there);
      highest = (completed (against (object + 1) A) O m A, two.agrees, two.highest object there apart);
    }

-- bounds that are the aggregate on each table that agrees are those that the transcript gives, where the object is named
pub always_bounded : (V : List ℕ → ℕ) (m n : ℕ) (A : List Access) (item : Item) → 0 < m → SomeAgrees m n A → Contains (named_objects A) item.object
    → ((D : List (List Row)) → Agrees m n D A → scored V D item.object ≡ item) → item ≡ bounded V m A item.object
always_bounded V m n A item lists some named always =
    let reached = bounds_reached V m n A item.object lists some named in
    let low_is : item.low ≡ low V m A item.object = sym (ap (λ (i : Item). i.low) (always reached.lowest.0 reached.lowest.1)) ∙ reached.lowest.2 in
    let high_is : item.high ≡ high V m A item.object = sym (ap (λ (i : Item). i.high) (always reached.highest.0 reached.highest.1)) ∙ reached.highest.2 in
    ap₂ (λ (l : ℕ) (h : ℕ). record { object = item.object; low = l; high = h }) low_is high_is
