-- The greatest grade that is known ahead of a list, from its heap.
use Rattle.std.proofs.Common.{◌≡◌, ◌≢◌, ℕ, ◌<◌, ◌≤◌, inl, inr, cond, List, [], Option, Some, None, slice_get, slice_index_or, sym, ap, subst, ◌∙◌}
use Rattle.std.specs.Option.{option_and_then}
use Rattle.std.specs.Ordering.{nat_cmp}
use Rattle.std.specs.Cmp.{nat_cmp_is}
use Rattle.std.specs.declared.cmp.Ordering.TheVariants.{Greater}
use Rattle.std.proofs.lemmas.Bool.{cases_Bool, cases_lt}
use Rattle.std.proofs.lemmas.Option.{slice_get-get_or}
use Rattle.topk_theory.specs.declared.access.Access.{Access}
use Rattle.topk_theory.specs.Transcript.{named_objects}
use Rattle.topk_theory.specs.Bounds.{known_grade}
use Rattle.topk_theory.proofs.AgreementNames.{has, has_contains, has_not}
use Rattle.topk_theory.proofs.Unseen.{unnamed_unknown}
use Rattle.containers.specs.Ranks.{rank_at}
use Rattle.access_log.specs.RecordsKept.{AreAhead, IsGreatestAhead, heap_at, grade_ahead}
use Rattle.access_log.proofs.RecordKept.{unnamed_unread}
use Rattle.access_log.proofs.AheadKept.{at_any}

-- the greatest grade ahead, from the heap of the list
pub no_greatest : (m list : ℕ) (A : List Access) (heaps : List (List (Option ℕ))) (heap : List (Option ℕ)) → list < m → AreAhead m A (named_objects A) heaps
    → heap ≡ slice_index_or heaps list heap → ((key : ℕ) → rank_at heap key ≡ None) → IsGreatestAhead A list None
no_greatest m list A heaps heap l h e n = λ object.
    let same : heap ≡ heap_at heaps list = e ∙ at_any heaps list heap [] (subst (λ k. list < k) (sym h.sized) l) in
    elim (cases_Bool (has object (named_objects A))) [
      | inl t ↦
          let c = has_contains object (named_objects A) t in
          let at : slice_get (named_objects A) c.0 ≡ Some object = slice_get-get_or (named_objects A) c.0 object c.1 ∙ ap Some c.2 in
          sym (ap (option_and_then (λ o. grade_ahead A o list)) at) ∙ sym (h.grades list c.0 l) ∙ sym (ap (λ ranks. rank_at ranks c.0) same) ∙ n c.0
      | inr f ↦ let absent = has_not object (named_objects A) f in ap (λ b. cond b None (known_grade A object list)) (unnamed_unread A object list absent) ∙ unnamed_unknown A object list absent
    ]

pub is_greatest : (m list : ℕ) (A : List Access) (heaps : List (List (Option ℕ))) (heap : List (Option ℕ)) (key rank : ℕ) → list < m
    → AreAhead m A (named_objects A) heaps → heap ≡ slice_index_or heaps list heap → rank_at heap key ≡ Some rank
    → ((other another : ℕ) → rank_at heap other ≡ Some another → nat_cmp another rank ≢ Greater) → IsGreatestAhead A list (Some rank)
is_greatest m list A heaps heap key rank l h e there above =
    let same : heap ≡ heap_at heaps list = e ∙ at_any heaps list heap [] (subst (λ k. list < k) (sym h.sized) l) in
    let at : option_and_then (λ o. grade_ahead A o list) (slice_get (named_objects A) key) ≡ Some rank = sym (h.grades list key l) ∙ sym (ap (λ ranks. rank_at ranks key) same) ∙ there in (
      some_object A list rank (slice_get (named_objects A) key) at,
      (λ object other g. elim (cases_Bool (has object (named_objects A))) [
        | inl t ↦
            let c = has_contains object (named_objects A) t in
            let where_it_is : slice_get (named_objects A) c.0 ≡ Some object = slice_get-get_or (named_objects A) c.0 object c.1 ∙ ap Some c.2 in
            let ranked : rank_at heap c.0 ≡ Some other = ap (λ ranks. rank_at ranks c.0) same ∙ h.grades list c.0 l ∙ ap (option_and_then (λ o. grade_ahead A o list)) where_it_is ∙ g in
            not_greater other rank (above c.0 other ranked)
        | inr f ↦
            let absent = has_not object (named_objects A) f in
            absurd (none_is_some (sym (ap (λ b. cond b None (known_grade A object list)) (unnamed_unread A object list absent) ∙ unnamed_unknown A object list absent) ∙ g))
      ]),
    )
  where
    none_is_some : {x : ℕ} → None ≡ Some x → ⊥
    none_is_some e = cc

    some_object : (A : List Access) (list rank : ℕ) (o : Option ℕ) → option_and_then (λ o. grade_ahead A o list) o ≡ Some rank
        → (object : ℕ) × (grade_ahead A object list ≡ Some rank)
    some_object A list rank None e = absurd (none_is_some e)
    some_object A list rank (Some object) e = (object, e)

    not_greater : (a b : ℕ) → nat_cmp a b ≢ Greater → a ≤ b
    not_greater a b n = elim (cases_lt b a) [ inl l ↦ absurd (n (sym (nat_cmp_is a b Greater l))) | inr p ↦ p ]
