-- The objects that sorted accesses gave, access by access.
use Rattle.std.proofs.Common.{◌≡◌, ℕ, ◌+◌, ◌<◌, inl, inr, Bool, true, false, cond, List, [], ◌∷◌, ◌++◌, length, take, slice_index_or, refl, sym, ap, subst, ◌∙◌}
use Rattle.std.proofs.lemmas.Bool.{cases_Bool, cond-true, cond-false, true≢false}
use Rattle.std.proofs.lemmas.List.{take_more}
use Rattle.ranked_list.specs.declared.item.Item.{Item}
use Rattle.topk_theory.specs.declared.access.Access.{Access}
use Rattle.topk_theory.specs.declared.access.Access.TheVariants.{Sorted, Random}
use Rattle.topk_theory.specs.Order.{AreDistinct}
use Rattle.topk_theory.specs.Transcript.{object_of, is_sorted, seen_objects}
use Rattle.topk_theory.specs.Bounds.{bounded}
use Rattle.topk_theory.specs.NoRandom.{seen_items}
use Rattle.topk_theory.proofs.AgreementNames.{has, has_contains, has_not}
use Rattle.topk_theory.proofs.Agreement.{seen_distinct, seen_objects_old, seen_objects_new, seen_objects_random}
use Rattle.test_plain.proofs.Apart.{made_apart}

same_sight : (A : List Access) (a : Access) → is_sorted a ≡ false → seen_objects (A ++ a ∷ []) ≡ seen_objects A
same_sight A (Sorted list object grade) e = absurd (true≢false e)
same_sight A (Random list object grade) e = seen_objects_random A list object grade

pub seen_same : (A : List Access) (a : Access) (b : Bool) (objects : List ℕ) → b ≡ is_sorted a → b ≡ false → objects ≡ seen_objects A
    → objects ≡ seen_objects (A ++ a ∷ [])
seen_same A a b objects e t h = h ∙ sym (same_sight A a (sym e ∙ t))

sees_once : (A : List Access) (list object grade : ℕ)
    → cond (has object (seen_objects A)) (seen_objects A) (seen_objects A ++ object ∷ []) ≡ seen_objects (A ++ Sorted list object grade ∷ [])
sees_once A list object grade =
    elim (cases_Bool (has object (seen_objects A))) [
      | inl t ↦ cond-true (has object (seen_objects A)) (seen_objects A) (seen_objects A ++ object ∷ []) t ∙ sym (seen_objects_old A list object grade (has_contains object (seen_objects A) t))
      | inr f ↦ cond-false (has object (seen_objects A)) (seen_objects A) (seen_objects A ++ object ∷ []) f ∙ sym (seen_objects_new A list object grade (has_not object (seen_objects A) f))
    ]

sight_more : (A : List Access) (a : Access) (old new : List ℕ) → is_sorted a ≡ true → old ≡ seen_objects A
    → new ≡ cond (has (object_of a) old) old (old ++ object_of a ∷ []) → new ≡ seen_objects (A ++ a ∷ [])
sight_more A (Sorted list object grade) old new t e f = f ∙ ap (λ z. cond (has object z) z (z ++ object ∷ [])) e ∙ sees_once A list object grade
sight_more A (Random list object grade) old new t e f = absurd (true≢false (sym t))

pub seen_more : (A : List Access) (a : Access) (b : Bool) (old new : List ℕ) → b ≡ is_sorted a → b ≡ true → old ≡ seen_objects A
    → new ≡ cond (has (object_of a) old) old (old ++ object_of a ∷ []) → new ≡ seen_objects (A ++ a ∷ [])
seen_more A a b old new e t h f = sight_more A a old new (sym e ∙ t) h f

pub seen_next : (A : List Access) (i : ℕ) (d : Access) → i < length A → seen_objects (take i A ++ slice_index_or A i d ∷ []) ≡ seen_objects (take (i + 1) A)
seen_next A i d l = ap seen_objects (sym (take_more A i d l))

-- the items of the seen objects are of different objects
pub seen_apart : (V : List ℕ → ℕ) (m : ℕ) (A : List Access) (items : List Item) → items ≡ seen_items V m A → AreDistinct items
seen_apart V m A items same = subst AreDistinct (sym same) (made_apart (bounded V m A) (seen_objects A) (λ o. refl) (seen_distinct A))
