-- The least and the greatest of objects, one object after another.
use Rattle.std.proofs.Common.{◌≡◌, ◌<◌, ◌≤◌, ◌⊎◌, inl, inr, ℕ, ◌==◌, ◌&&◌, ◌||◌, Bool, true, false, cond, nat_lt, List, ◌∷◌, ◌++◌, [], Contains, Option, Some, None, refl, sym, ap, subst, ◌∙◌, arith, ltb-true, ltb-false, eqb-true, eq-eqb}
use Rattle.std.proofs.lemmas.Bool.{cases_Bool, cond-true, cond-false, or_cases, or_parts, and_parts, and_from, true≢false}
use Rattle.std.proofs.lemmas.List.Elements.{Contains-append_left, Contains-push, Contains-push_cases}
use Rattle.topk_theory.proofs.AgreementLists.{contains_nil}
use Rattle.topk_theory.proofs.AgreementNames.{has_contains, has_not}
use Rattle.cert_judge.specs.Objects.{has}
use Rattle.cert_judge.specs.Extremes.{IsLeast, IsGreatest, FindsLeast, FindsGreatest, lesser, greater}
use Rattle.cert_judge.specs.Outside.{IsOneOutside}
use Rattle.cert_judge.specs.declared.bound.Bound.{Bound}

-- what the test of two numbers and of the objects' ids says
test_true : (a b i j : ℕ) (less : Bool) → (less || (a == b && nat_lt i j)) ≡ true → (less ≡ true) ⊎ ((a ≡ b) × (i < j))
test_true a b i j less e =
    elim (or_cases less (a == b && nat_lt i j) e) [
      | inl l ↦ inl l
      | inr both ↦ let p = and_parts (a == b) (nat_lt i j) both in inr (eqb-true a b p.0, ltb-true i j p.1)
    ]

test_false : (a b i j : ℕ) (less : Bool) → (less || (a == b && nat_lt i j)) ≡ false → (less ≡ false) × (a ≡ b → j ≤ i)
test_false a b i j less e =
    let p = or_parts less (a == b && nat_lt i j) e in (
      p.0,
      λ same. elim (cases_Bool (nat_lt i j)) [
        | inl t ↦ absurd (true≢false (sym (and_from (a == b) (nat_lt i j) (eq-eqb a b same) t) ∙ p.1))
        | inr f ↦ ltb-false i j f
      ],
    )

-- one more object
least_new : (f : ℕ → ℕ) (P Q : ℕ → Type 0) (best next : Bound) → IsLeast f P best.object → best.value ≡ f best.object → next.value ≡ f next.object
    → ((o : ℕ) → Q o → P o ⊎ (next.object ≡ o)) → Q next.object
    → ((next.value < best.value) ⊎ ((next.value ≡ best.value) × (next.object < best.object))) → IsLeast f Q next.object
least_new f P Q best next h value here split is_one below = record {
  is_one = is_one;
  least = λ o q. elim (split o q) [
    | inl p ↦ let up : f best.object ≤ f o = h.least o p in elim below [
      | inl l ↦ omega arith
      | inr r ↦ let same = r.0 in omega arith
    ]
    | inr e ↦ subst (λ z. f next.object ≤ f z) e (omega arith)
  ];
  first = λ o q same. elim (split o q) [
    | inl p ↦ let up : f best.object ≤ f o = h.least o p in elim below [
      | inl l ↦ absurd (omega arith)
      | inr r ↦ let equal = r.0 in let less = r.1 in
          let tied : f o ≡ f best.object = omega arith in
          let first : best.object ≤ o = h.first o p tied in omega arith
    ]
    | inr e ↦ omega arith
  ];
}

least_kept : (f : ℕ → ℕ) (P Q : ℕ → Type 0) (best next : Bound) → IsLeast f P best.object → best.value ≡ f best.object → next.value ≡ f next.object
    → ((o : ℕ) → Q o → P o ⊎ (next.object ≡ o)) → ((o : ℕ) → P o → Q o)
    → best.value ≤ next.value → (next.value ≡ best.value → best.object ≤ next.object) → IsLeast f Q best.object
least_kept f P Q best next h value here split kept low ties = record {
  is_one = kept best.object h.is_one;
  least = λ o q. elim (split o q) [
    | inl p ↦ h.least o p
    | inr e ↦ subst (λ z. f best.object ≤ f z) e (omega arith)
  ];
  first = λ o q same. elim (split o q) [
    | inl p ↦ h.first o p same
    | inr e ↦ subst (λ z. best.object ≤ z) e (ties (here ∙ ap f e ∙ same ∙ sym value))
  ];
}

pub least_step : (f : ℕ → ℕ) (P Q : ℕ → Type 0) (best : Option Bound) (next : Bound) → FindsLeast f P best → next.value ≡ f next.object
    → ((o : ℕ) → Q o → P o ⊎ (next.object ≡ o)) → ((o : ℕ) → P o → Q o) → Q next.object → FindsLeast f Q (Some (lesser best next))
least_step f P Q None next none here split kept is_one = (
  record {
    is_one = is_one;
    least = λ o q. elim (split o q) [ inl p ↦ absurd (none o p) | inr e ↦ subst (λ z. f next.object ≤ f z) e (omega arith) ];
    first = λ o q same. elim (split o q) [ inl p ↦ absurd (none o p) | inr e ↦ omega arith ];
  },
  here,
)
least_step f P Q (Some best) next h here split kept is_one =
    let test = nat_lt next.value best.value || (next.value == best.value && nat_lt next.object best.object) in
    elim (cases_Bool test) [
      | inl t ↦ subst (λ z. FindsLeast f Q (Some z)) (sym (cond-true test next best t)) (
        least_new f P Q best next h.0 h.1 here split is_one
            (elim (test_true next.value best.value next.object best.object (nat_lt next.value best.value) t) [
              | inl l ↦ inl (ltb-true next.value best.value l)
              | inr r ↦ inr r
            ]),
        here,
      )
      | inr e ↦ subst (λ z. FindsLeast f Q (Some z)) (sym (cond-false test next best e))
          (let p = test_false next.value best.value next.object best.object (nat_lt next.value best.value) e in
          (least_kept f P Q best next h.0 h.1 here split kept (ltb-false next.value best.value p.0) p.1, h.1))
    ]

greatest_new : (f : ℕ → ℕ) (P Q : ℕ → Type 0) (best next : Bound) → IsGreatest f P best.object → best.value ≡ f best.object → next.value ≡ f next.object
    → ((o : ℕ) → Q o → P o ⊎ (next.object ≡ o)) → Q next.object
    → ((best.value < next.value) ⊎ ((next.value ≡ best.value) × (next.object < best.object))) → IsGreatest f Q next.object
greatest_new f P Q best next h value here split is_one above = record {
  is_one = is_one;
  greatest = λ o q. elim (split o q) [
    | inl p ↦ let up : f o ≤ f best.object = h.greatest o p in elim above [
      | inl l ↦ omega arith
      | inr r ↦ let same = r.0 in omega arith
    ]
    | inr e ↦ subst (λ z. f z ≤ f next.object) e (omega arith)
  ];
  first = λ o q same. elim (split o q) [
    | inl p ↦ let up : f o ≤ f best.object = h.greatest o p in elim above [
      | inl l ↦ absurd (omega arith)
      | inr r ↦ let equal = r.0 in let less = r.1 in
          let tied : f o ≡ f best.object = omega arith in
          let first : best.object ≤ o = h.first o p tied in omega arith
    ]
    | inr e ↦ omega arith
  ];
}

greatest_kept : (f : ℕ → ℕ) (P Q : ℕ → Type 0) (best next : Bound) → IsGreatest f P best.object → best.value ≡ f best.object → next.value ≡ f next.object
    → ((o : ℕ) → Q o → P o ⊎ (next.object ≡ o)) → ((o : ℕ) → P o → Q o)
    → next.value ≤ best.value → (next.value ≡ best.value → best.object ≤ next.object) → IsGreatest f Q best.object
greatest_kept f P Q best next h value here split kept low ties = record {
  is_one = kept best.object h.is_one;
  greatest = λ o q. elim (split o q) [
    | inl p ↦ h.greatest o p
    | inr e ↦ subst (λ z. f z ≤ f best.object) e (omega arith)
  ];
  first = λ o q same. elim (split o q) [
    | inl p ↦ h.first o p same
    | inr e ↦ subst (λ z. best.object ≤ z) e (ties (here ∙ ap f e ∙ same ∙ sym value))
  ];
}

pub greatest_step : (f : ℕ → ℕ) (P Q : ℕ → Type 0) (best : Option Bound) (next : Bound) → FindsGreatest f P best → next.value ≡ f next.object
    → ((o : ℕ) → Q o → P o ⊎ (next.object ≡ o)) → ((o : ℕ) → P o → Q o) → Q next.object → FindsGreatest f Q (Some (greater best next))
greatest_step f P Q None next none here split kept is_one = (
  record {
    is_one = is_one;
    greatest = λ o q. elim (split o q) [ inl p ↦ absurd (none o p) | inr e ↦ subst (λ z. f z ≤ f next.object) e (omega arith) ];
    first = λ o q same. elim (split o q) [ inl p ↦ absurd (none o p) | inr e ↦ omega arith ];
  },
  here,
)
greatest_step f P Q (Some best) next h here split kept is_one =
    let test = nat_lt best.value next.value || (next.value == best.value && nat_lt next.object best.object) in
    elim (cases_Bool test) [
      | inl t ↦ subst (λ z. FindsGreatest f Q (Some z)) (sym (cond-true test next best t)) (
        greatest_new f P Q best next h.0 h.1 here split is_one
            (elim (test_true next.value best.value next.object best.object (nat_lt best.value next.value) t) [
              | inl l ↦ inl (ltb-true best.value next.value l)
              | inr r ↦ inr r
            ]),
        here,
      )
      | inr e ↦ subst (λ z. FindsGreatest f Q (Some z)) (sym (cond-false test next best e))
          (let p = test_false next.value best.value next.object best.object (nat_lt best.value next.value) e in
          (greatest_kept f P Q best next h.0 h.1 here split kept (ltb-false best.value next.value p.0) p.1, h.1))
    ]

-- of the same objects
pub greatest_over : (f : ℕ → ℕ) (P Q : ℕ → Type 0) (best : Option Bound) → FindsGreatest f P best → ((o : ℕ) → P o → Q o) → ((o : ℕ) → Q o → P o)
    → FindsGreatest f Q best
greatest_over f P Q None none to from = λ o q. none o (from o q)
greatest_over f P Q (Some best) h to from =
    (record { is_one = to best.object h.0.is_one; greatest = λ o q. h.0.greatest o (from o q); first = λ o q same. h.0.first o (from o q) same }, h.1)

-- the objects of a list, one after another
pub least_listed : (f : ℕ → ℕ) (xs : List ℕ) (best : Option Bound) (next : Bound) → FindsLeast f (Contains xs) best → next.value ≡ f next.object
    → FindsLeast f (Contains (xs ++ next.object ∷ [])) (Some (lesser best next))
least_listed f xs best next h here =
    least_step f (Contains xs) (Contains (xs ++ next.object ∷ [])) best next h here
    (λ o q. Contains-push_cases xs next.object o q) (λ o p. Contains-append_left xs (next.object ∷ []) o p) (Contains-push xs next.object)

pub least_of_none : (f : ℕ → ℕ) → FindsLeast f (Contains []) None
least_of_none f = λ o c. contains_nil o c

pub greatest_of_none : (f : ℕ → ℕ) (Y : List ℕ) → FindsGreatest f (IsOneOutside [] Y) None
greatest_of_none f Y = λ o c. contains_nil o c.among

pub greatest_listed : (f : ℕ → ℕ) (xs Y : List ℕ) (best result : Option Bound) (object : ℕ) → FindsGreatest f (IsOneOutside xs Y) best
    → result ≡ cond (has object Y) best (Some (greater best (record { object = object; value = f object })))
    → FindsGreatest f (IsOneOutside (xs ++ object ∷ []) Y) result
greatest_listed f xs Y best result object h e =
    let Q : ℕ → Type 0 = IsOneOutside (xs ++ object ∷ []) Y in
    let next : Bound = record { object = object; value = f object } in
    let kept : (o : ℕ) → IsOneOutside xs Y o → Q o = λ o p. record { among = Contains-append_left xs (object ∷ []) o p.among; outside = p.outside } in
    elim (cases_Bool (has object Y)) [
      | inl t ↦ subst (FindsGreatest f Q) (sym (e ∙ cond-true (has object Y) best (Some (greater best next)) t))
          (greatest_over f (IsOneOutside xs Y) Q best h kept (λ o q. elim (Contains-push_cases xs object o q.among) [
            | inl c ↦ record { among = c; outside = q.outside }
            | inr same ↦ absurd (q.outside (subst (Contains Y) same (has_contains object Y t)))
          ]))
      | inr u ↦ subst (FindsGreatest f Q) (sym (e ∙ cond-false (has object Y) best (Some (greater best next)) u))
          (greatest_step f (IsOneOutside xs Y) Q best next h refl
          (λ o q. elim (Contains-push_cases xs object o q.among) [ inl c ↦ inl (record { among = c; outside = q.outside }) | inr same ↦ inr same ])
          kept (record { among = Contains-push xs object; outside = has_not object Y u }))
    ]
