-- One item put on a board.
use Rattle.std.proofs.Common.{◌≡◌, ◌≢◌, suc, ◌<◌, ◌⊎◌, inl, inr, cond, ◌==◌, List, [], ◌∷◌, Contains, sym, ap, subst, ◌∙◌, arith}
use Rattle.std.specs.declared.cmp.Ordering.TheVariants.{Less, Equal, Greater}
use Rattle.std.specs.Ordering.{match_ordering}
use Rattle.std.proofs.lemmas.Bool.{cases_order, lt-ltb, le-ltb, eq-eqb, ne_eqb}
use Rattle.std.proofs.lemmas.List.Kept.{AllPairs-cons}
use Rattle.ranked_list.specs.declared.item.Item.{Item}
use Rattle.topk_theory.specs.Order.{AreDistinct}
use Rattle.ranked_list.specs.Items.{put_item}
use Rattle.topk_theory.proofs.AgreementLists.{contains_nil, contains_here, contains_there, contains_cases, all_from_members}
use Rattle.topk_theory.proofs.InOrder.{AreDistinct-rest}

put_less : (item held : Item) (items : List Item) → item.object < held.object → put_item item (held ∷ items) ≡ item ∷ held ∷ items
put_less item held items l =
    ap (λ r. match_ordering r (item ∷ held ∷ items) (item ∷ items) (held ∷ put_item item items)) (ap (λ b. cond b Less (cond (item.object == held.object) Equal Greater)) (lt-ltb item.object held.object l))

put_equal : (item held : Item) (items : List Item) → item.object ≡ held.object → put_item item (held ∷ items) ≡ item ∷ items
put_equal item held items e =
    ap (λ r. match_ordering r (item ∷ held ∷ items) (item ∷ items) (held ∷ put_item item items))
    (ap (λ b. cond b Less (cond (item.object == held.object) Equal Greater)) (le-ltb item.object held.object (omega arith)) ∙ ap (λ b. cond b Equal Greater) (eq-eqb item.object held.object e))

put_greater : (item held : Item) (items : List Item) → held.object < item.object → put_item item (held ∷ items) ≡ held ∷ put_item item items
put_greater item held items l =
    ap (λ r. match_ordering r (item ∷ held ∷ items) (item ∷ items) (held ∷ put_item item items))
    (ap (λ b. cond b Less (cond (item.object == held.object) Equal Greater)) (le-ltb item.object held.object (omega arith)) ∙ ap (λ b. cond b Equal Greater) (ne_eqb item.object held.object (λ e. absurd (omega arith))))

pub put_has : (item : Item) (items : List Item) → Contains (put_item item items) item
put_has item [] = contains_here item []
put_has item (held ∷ items) =
    elim (cases_order item.object held.object) [
      | inl e ↦ subst (λ ys. Contains ys item) (sym (put_equal item held items e)) (contains_here item items)
      | inr apart ↦ elim apart [
        | inl l ↦ subst (λ ys. Contains ys item) (sym (put_less item held items l)) (contains_here item (held ∷ items))
        | inr g ↦ subst (λ ys. Contains ys item) (sym (put_greater item held items g)) (contains_there held (put_item item items) item (put_has item items))
      ]
    ]

pub put_keeps : (item : Item) (items : List Item) (x : Item) → Contains items x → item.object ≢ x.object → Contains (put_item item items) x
put_keeps item [] x h n = absurd (contains_nil x h)
put_keeps item (held ∷ items) x h n =
    elim (cases_order item.object held.object) [
      | inl e ↦ subst (λ ys. Contains ys x) (sym (put_equal item held items e)) (elim (contains_cases held items x h) [
        | inl same ↦ absurd (n (e ∙ ap (λ (i : Item). i.object) same))
        | inr r ↦ contains_there item items x r
      ])
      | inr apart ↦ elim apart [
        | inl l ↦ subst (λ ys. Contains ys x) (sym (put_less item held items l)) (contains_there item (held ∷ items) x h)
        | inr g ↦ subst (λ ys. Contains ys x) (sym (put_greater item held items g)) (elim (contains_cases held items x h) [
          | inl same ↦ subst (λ z. Contains (held ∷ put_item item items) z) same (contains_here held (put_item item items))
          | inr r ↦ contains_there held (put_item item items) x (put_keeps item items x r n)
        ])
      ]
    ]

pub put_from : (item : Item) (items : List Item) (x : Item) → Contains (put_item item items) x → (item ≡ x) ⊎ Contains items x
put_from item [] x h = elim (contains_cases item [] x h) [ inl e ↦ inl e | inr r ↦ inr r ]
put_from item (held ∷ items) x h =
    elim (cases_order item.object held.object) [
      | inl e ↦ elim (contains_cases item items x (subst (λ ys. Contains ys x) (put_equal item held items e) h)) [
        | inl same ↦ inl same
        | inr r ↦ inr (contains_there held items x r)
      ]
      | inr apart ↦ elim apart [
        | inl l ↦ elim (contains_cases item (held ∷ items) x (subst (λ ys. Contains ys x) (put_less item held items l) h)) [
          | inl same ↦ inl same
          | inr r ↦ inr r
        ]
        | inr g ↦ elim (contains_cases held (put_item item items) x (subst (λ ys. Contains ys x) (put_greater item held items g) h)) [
          | inl same ↦ inr (subst (λ z. Contains (held ∷ items) z) same (contains_here held items))
          | inr r ↦ elim (put_from item items x r) [
            | inl same ↦ inl same
            | inr k ↦ inr (contains_there held items x k)
          ]
        ]
      ]
    ]

distinct_head_of : (held : Item) (items : List Item) (x : Item) → AreDistinct (held ∷ items) → Contains items x → held.object ≢ x.object
distinct_head_of held items x d h = λ e. d 0 (suc h.0) x (omega arith) (omega (arith, h.1)) (e ∙ sym (ap (λ (i : Item). i.object) h.2))

pub put_distinct : (item : Item) (items : List Item) → AreDistinct items → ((x : Item) → Contains items x → item.object ≢ x.object)
    → AreDistinct (put_item item items)
put_distinct item [] d n = λ i j e l m. absurd (omega arith)
put_distinct item (held ∷ items) d n =
    elim (cases_order item.object held.object) [
      | inl e ↦ absurd (n held (contains_here held items) e)
      | inr apart ↦ elim apart [
        | inl l ↦ subst AreDistinct (sym (put_less item held items l))
            (AllPairs-cons (λ (a : Item) (b : Item). a.object ≢ b.object) item (held ∷ items) (all_from_members (λ (b : Item). item.object ≢ b.object) (held ∷ items) n) d)
        | inr g ↦ subst AreDistinct (sym (put_greater item held items g))
            (AllPairs-cons (λ (a : Item) (b : Item). a.object ≢ b.object) held (put_item item items)
            (all_from_members (λ (b : Item). held.object ≢ b.object) (put_item item items) (λ x h. elim (put_from item items x h) [
              | inl same ↦ λ e. n held (contains_here held items) (ap (λ (i : Item). i.object) same ∙ sym e)
              | inr r ↦ distinct_head_of held items x d r
            ]))
            (put_distinct item items (AreDistinct-rest held items d) (λ x h. n x (contains_there held items x h))))
      ]
    ]
