-- Items of different objects.
use Rattle.std.proofs.Common.{◌≡◌, ◌≢◌, ℕ, List, length, map, refl, sym, ap, subst, ◌∙◌, arith, get_or, AllPairs}
use Rattle.std.proofs.lemmas.List.{length-map, get_or-map}
use Rattle.std.proofs.lemmas.List.Kept.{AllPairs-filter}
use Rattle.ranked_list.specs.declared.row.Row.{Row}
use Rattle.ranked_list.specs.declared.item.Item.{Item}
use Rattle.topk_theory.specs.Order.{AreDistinct}
use Rattle.topk_theory.specs.Aggregate.{objects_of}
use Rattle.topk_theory.specs.Threshold.{stands, objects_to, scored}
use Rattle.topk_theory.proofs.Agreement.{objects_of_distinct}
use Rattle.monotone_fn.specs.Tree.{Tree}
use Rattle.test_plain.specs.Posed.{IsPosed}

pub made_apart : (f : ℕ → Item) (os : List ℕ) → ((o : ℕ) → (f o).object ≡ o) → AllPairs (λ (a : ℕ) (b : ℕ). a ≢ b) os → AreDistinct (map f os)
made_apart f os keeps apart = λ i j d lt within same.
    let size : length (map f os) ≡ length os = length-map os f in
    let at_i : get_or (map f os) i d ≡ f (get_or os i 0) = get_or-map f os i 0 d (omega arith) in
    let at_j : get_or (map f os) j d ≡ f (get_or os j 0) = get_or-map f os j 0 d (omega arith) in
    apart i j 0 lt (omega arith)
    (sym (keeps (get_or os i 0)) ∙ sym (ap (λ (item : Item). item.object) at_i) ∙ same ∙ ap (λ (item : Item). item.object) at_j ∙ keeps (get_or os j 0))

pub scored_apart : (V : List ℕ → ℕ) (D : List (List Row)) (e : Tree) (depth : ℕ) (items : List Item) → IsPosed D e
    → items ≡ map (scored V D) (objects_to D depth) → AreDistinct items
scored_apart V D e depth items h same =
    subst AreDistinct (sym same) (made_apart (scored V D) (objects_to D depth) (λ o. refl)
    (AllPairs-filter (λ (a : ℕ) (b : ℕ). a ≢ b) (stands D depth) (objects_of D) (objects_of_distinct h.table.0 D h.table.1)))
