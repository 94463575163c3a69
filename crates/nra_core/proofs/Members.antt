-- The k objects with the greatest lows: one in place of another, and what more accesses leave of them.
use Rattle.std.proofs.Common.{◌≡◌, ◌≢◌, ◌⊎◌, inl, inr, ℕ, ◌+◌, ◌<◌, ◌≤◌, min, Bool, true, false, List, [], ◌∷◌, ◌++◌, length, Contains, sym, ap, subst, ◌∙◌, arith, length-append}
use Rattle.std.specs.List.{count_by}
use Rattle.std.proofs.lemmas.Bool.{cases_Bool, cases_eq, false≢true}
use Rattle.std.proofs.lemmas.List.Elements.{Contains-append_left, Contains-append_right, Contains-append_cases}
use Rattle.topk_theory.proofs.AgreementLists.{contains_nil, contains_here, contains_cases}
use Rattle.topk_theory.proofs.ThresholdLists.{count_all}
use Rattle.nra_core.specs.Late.{AreApart, AreFirstByLow, IsLeastLow, with_one, without, exchanged, AreNextBounds}
use Rattle.topk_theory.proofs.Counts.{count_less, count_short, count_longer, count_append, count_none, some_differs}
use Rattle.nra_core.proofs.SetCounts.{with_itself, with_other, without_itself, without_other, count_exchanged}

-- ---- members of a set with one in place of another
pub differs : (is_in : ℕ → Bool) (one other : ℕ) → is_in one ≡ true → is_in other ≡ false → one ≢ other
differs is_in one other t f = λ e. false≢true (sym f ∙ ap is_in (sym e) ∙ t)

pub in_exchanged : (is_in : ℕ → Bool) (leaves joins object : ℕ) → exchanged is_in leaves joins object ≡ true
    → (joins ≡ object) ⊎ ((is_in object ≡ true) × (leaves ≢ object))
in_exchanged is_in leaves joins object t =
    elim (cases_eq joins object) [
      | inl e ↦ inl e
      | inr n ↦ (
          let kept : without is_in leaves object ≡ true = sym (with_other (without is_in leaves) joins object n) ∙ t in
          elim (cases_eq leaves object) [
            | inl e ↦ absurd (false≢true (sym (without_itself is_in leaves) ∙ ap (without is_in leaves) e ∙ kept))
            | inr other ↦ inr (sym (without_other is_in leaves object other) ∙ kept, other)
          ])
    ]

pub not_in_exchanged : (is_in : ℕ → Bool) (leaves joins object : ℕ) → exchanged is_in leaves joins object ≡ false
    → (joins ≢ object) × ((leaves ≡ object) ⊎ (is_in object ≡ false))
not_in_exchanged is_in leaves joins object f =
    let apart : joins ≢ object = λ e. false≢true (sym f ∙ ap (exchanged is_in leaves joins) (sym e) ∙ with_itself (without is_in leaves) joins) in (
      apart,
      elim (cases_eq leaves object) [
        | inl e ↦ inl e
        | inr other ↦ inr (sym (without_other is_in leaves object other) ∙ sym (with_other (without is_in leaves) joins object apart) ∙ f)
      ],
    )

-- ---- one in place of another
-- what lets a set have one object in place of another: of the set none has a lower low than the one that leaves, of the other seen objects none a greater one, and the one that joins has no lower one
pub record MayExchange (k : ℕ) (low : ℕ → ℕ) (seen : List ℕ) (is_top : ℕ → Bool) (leaves joins : ℕ) : Type 0 where
  pub sized : count_by is_top seen ≡ min k (length seen)
  pub held : (object : ℕ) → is_top object ≡ true → Contains seen object
  pub member : is_top leaves ≡ true
  pub seen_one : Contains seen joins
  pub outside : is_top joins ≡ false
  pub least : (inside : ℕ) → is_top inside ≡ true → low leaves ≤ low inside
  pub others : (other : ℕ) → joins ≢ other → Contains seen other → is_top other ≡ false → low other ≤ low leaves
  pub no_less : low leaves ≤ low joins

exchange_greatest : (k : ℕ) (low : ℕ → ℕ) (seen : List ℕ) (is_top : ℕ → Bool) (leaves joins inside outside : ℕ)
    → MayExchange k low seen is_top leaves joins → exchanged is_top leaves joins inside ≡ true → Contains seen outside
    → exchanged is_top leaves joins outside ≡ false → low outside ≤ low inside
exchange_greatest k low seen is_top leaves joins inside outside may t c f =
    let not_in = not_in_exchanged is_top leaves joins outside f in
    let upto : low outside ≤ low leaves = elim not_in.1 [
      | inl e ↦ subst (λ o. low o ≤ low leaves) e (omega arith)
      | inr out ↦ may.others outside not_in.0 c out
    ] in
    let from : low leaves ≤ low inside = elim (in_exchanged is_top leaves joins inside t) [
      | inl e ↦ subst (λ o. low leaves ≤ low o) e may.no_less
      | inr within ↦ may.least inside within.0
    ] in
    omega arith

pub exchange_first : (k : ℕ) (low : ℕ → ℕ) (seen : List ℕ) (is_top : ℕ → Bool) (leaves joins : ℕ) → AreApart seen
    → MayExchange k low seen is_top leaves joins → AreFirstByLow k low seen (exchanged is_top leaves joins)
exchange_first k low seen is_top leaves joins apart may = record {
  sized = count_exchanged is_top seen leaves joins apart (may.held leaves may.member) may.member may.seen_one may.outside ∙ may.sized;
  held = λ object t. elim (in_exchanged is_top leaves joins object t) [
    | inl e ↦ subst (λ o. Contains seen o) e may.seen_one
    | inr within ↦ may.held object within.0
  ];
  greatest = λ inside outside t c f. exchange_greatest k low seen is_top leaves joins inside outside may t c f;
}

-- an exchange at the bound leaves the bound
pub exchange_least : (low : ℕ → ℕ) (is_top : ℕ → Bool) (bound leaves joins : ℕ) → IsLeastLow low is_top bound → low joins ≡ bound
    → IsLeastLow low (exchanged is_top leaves joins) bound
exchange_least low is_top bound leaves joins least tied = record {
  reached = (joins, with_itself (without is_top leaves) joins, tied);
  least = λ object t. elim (in_exchanged is_top leaves joins object t) [
    | inl e ↦ subst (λ o. bound ≤ low o) e (omega arith)
    | inr within ↦ least.least object within.0
  ];
}

-- ---- while fewer than k are seen, each is in the set
pub all_in : (k : ℕ) (low : ℕ → ℕ) (seen : List ℕ) (is_top : ℕ → Bool) (object : ℕ) → length seen ≤ k → AreFirstByLow k low seen is_top
    → Contains seen object → is_top object ≡ true
all_in k low seen is_top object few first c =
    elim (cases_Bool (is_top object)) [
      | inl t ↦ t
      | inr f ↦ absurd (
          let short = count_short is_top seen object c f in
          let sized = first.sized in
          let h : ⊥ = omega arith in h)
    ]

-- ---- the least low only rises
-- once k are seen, each of the set later has a low that is no less than that of some one before
pub least_rises : (k : ℕ) (low next : ℕ → ℕ) (seen more : List ℕ) (is_top then : ℕ → Bool) (inside : ℕ) → k ≤ length seen → ((o : ℕ) → low o ≤ next o)
    → AreFirstByLow k low seen is_top → AreFirstByLow k next (seen ++ more) then → then inside ≡ true
    → (before : ℕ) × (is_top before ≡ true) × (low before ≤ next inside)
least_rises k low next seen more is_top then inside enough rises first later t =
    elim (cases_Bool (is_top inside)) [
      | inl was ↦ (inside, was, rises inside)
      | inr new ↦ elim (some_differs is_top then (seen ++ more)) [
        | inl gone ↦ (
          gone.0,
          gone.2,
          (let upto = later.greatest inside gone.0 t gone.1 gone.3 in
              let own = rises gone.0 in
              omega arith),
        )
        | inr all ↦ absurd (
            let more_then = count_less is_top then (seen ++ more) inside all (later.held inside t) new t in
            let no_fewer = count_longer is_top seen more in
            let before = first.sized in
            let after = later.sized in
            let h : ⊥ = omega arith in h)
      ]
    ]

-- so the least low itself does
pub bound_rises : (k : ℕ) (low next : ℕ → ℕ) (seen more : List ℕ) (is_top then : ℕ → Bool) (bound after : ℕ) → k ≤ length seen
    → ((o : ℕ) → low o ≤ next o) → AreFirstByLow k low seen is_top → AreFirstByLow k next (seen ++ more) then → IsLeastLow low is_top bound
    → IsLeastLow next then after → bound ≤ after
bound_rises k low next seen more is_top then bound after enough rises first later least now =
    let from = least_rises k low next seen more is_top then now.reached.0 enough rises first later now.reached.1 in
    let upto = least.least from.0 from.1 in
    let own = from.2 in
    let e = now.reached.2 in
    omega arith

-- ---- the set after one more access
-- one of the set is named
pub first_of_member : (k : ℕ) (low high next next_high : ℕ → ℕ) (seen : List ℕ) (is_top : ℕ → Bool) (object : ℕ)
    → AreNextBounds low high next next_high object → AreFirstByLow k low seen is_top → is_top object ≡ true → AreFirstByLow k next seen is_top
first_of_member k low high next next_high seen is_top object bounds first named = record {
  sized = first.sized;
  held = first.held;
  greatest = λ inside outside t c f.
      let upto = first.greatest inside outside t c f in
      let same : next outside ≡ low outside = bounds.others outside (differs is_top object outside named f) in
      let own = bounds.rises inside in
      omega arith;
}

-- a new one, while fewer than k are seen
pub first_of_few : (k : ℕ) (low next : ℕ → ℕ) (seen : List ℕ) (is_top : ℕ → Bool) (object : ℕ) → length seen < k → AreFirstByLow k low seen is_top
    → AreFirstByLow k next (seen ++ object ∷ []) (with_one is_top object)
first_of_few k low next seen is_top object few first =
    let now = seen ++ object ∷ [] in
    let each : (o : ℕ) → Contains now o → with_one is_top object o ≡ true = λ o c.
    elim (cases_eq object o) [
      | inl e ↦ subst (λ x. with_one is_top object x ≡ true) e (with_itself is_top object)
      | inr n ↦ with_other is_top object o n ∙ all_in k low seen is_top o (omega arith) first (seen_before c n)
    ] in
    let all : count_by (with_one is_top object) now ≡ length now = count_all (with_one is_top object) now each in
    let size : length now ≡ length seen + 1 = length-append seen (object ∷ []) in
    record {
      sized = omega arith;
      held = λ o t. elim (cases_eq object o) [
        | inl e ↦ subst (λ x. Contains now x) e (Contains-append_right seen (object ∷ []) object (contains_here object []))
        | inr n ↦ Contains-append_left seen (object ∷ []) o (first.held o (sym (with_other is_top object o n) ∙ t))
      ];
      greatest = λ inside outside t c f. absurd (false≢true (sym f ∙ each outside c));
    }
  where
    seen_before : {o : ℕ} → Contains (seen ++ object ∷ []) o → object ≢ o → Contains seen o
    seen_before {o} c n = elim (Contains-append_cases seen (object ∷ []) o c) [
      | inl before ↦ before
      | inr last ↦ absurd (elim (contains_cases object [] o last) [ inl e ↦ n e | inr none ↦ contains_nil o none ])
    ]

-- one outside, whose low isn't above any of the set
pub first_of_outside : (k : ℕ) (low high next next_high : ℕ → ℕ) (seen more : List ℕ) (is_top : ℕ → Bool) (object : ℕ) → k ≤ length seen
    → AreNextBounds low high next next_high object → AreFirstByLow k low seen is_top → is_top object ≡ false
    → ((o : ℕ) → Contains (seen ++ more) o → object ≢ o → Contains seen o) → ((o : ℕ) → Contains more o → object ≡ o)
    → ((inside : ℕ) → is_top inside ≡ true → next object ≤ low inside) → AreFirstByLow k next (seen ++ more) is_top
first_of_outside k low high next next_high seen more is_top object enough bounds first out seen_else only below = record {
  sized = (
      let none : count_by is_top more ≡ 0 = count_none is_top more (λ o c. subst (λ x. is_top x ≡ false) (only o c) out) in
      let sum : count_by is_top (seen ++ more) ≡ count_by is_top seen + count_by is_top more = count_append is_top seen more in
      let size : length (seen ++ more) ≡ length seen + length more = length-append seen more in
      let before = first.sized in
      omega arith);
  held = λ o t. Contains-append_left seen more o (first.held o t);
  greatest = λ inside outside t c f.
      let same : next inside ≡ low inside = bounds.others inside (λ e. differs is_top inside object t out (sym e)) in
      elim (cases_eq object outside) [
        | inl e ↦ subst (λ o. next o ≤ next inside) e (let upto = below inside t in omega arith)
        | inr n ↦ (
            let upto = first.greatest inside outside t (seen_else outside c n) f in
            let unmoved : next outside ≡ low outside = bounds.others outside n in
            omega arith)
      ];
}

-- one outside, whose low isn't below the least of the set, in place of one that has the least
pub first_of_exchange : (k : ℕ) (low high next next_high : ℕ → ℕ) (seen more : List ℕ) (is_top : ℕ → Bool) (object leaves : ℕ)
    → AreApart (seen ++ more) → k ≤ length seen → AreNextBounds low high next next_high object → AreFirstByLow k low seen is_top
    → is_top object ≡ false → Contains (seen ++ more) object → ((o : ℕ) → Contains (seen ++ more) o → object ≢ o → Contains seen o)
    → ((o : ℕ) → Contains more o → object ≡ o) → is_top leaves ≡ true → ((inside : ℕ) → is_top inside ≡ true → low leaves ≤ low inside)
    → low leaves ≤ next object → AreFirstByLow k next (seen ++ more) (exchanged is_top leaves object)
first_of_exchange k low high next next_high seen more is_top object leaves apart enough bounds first out there seen_else only member least above =
    let same : (inside : ℕ) → is_top inside ≡ true → next inside ≡ low inside = λ inside t. bounds.others inside (λ e. differs is_top inside object t out (sym e)) in
    exchange_first k next (seen ++ more) is_top leaves object apart (record {
      sized = (
          let none : count_by is_top more ≡ 0 = count_none is_top more (λ o c. subst (λ x. is_top x ≡ false) (only o c) out) in
          let sum : count_by is_top (seen ++ more) ≡ count_by is_top seen + count_by is_top more = count_append is_top seen more in
          let size : length (seen ++ more) ≡ length seen + length more = length-append seen more in
          let before = first.sized in
          omega arith);
      held = λ o t. Contains-append_left seen more o (first.held o t);
      member = member;
      seen_one = there;
      outside = out;
      least = λ inside t. let a = same inside t in let b = same leaves member in let c = least inside t in omega arith;
      others = λ other n c f.
          let upto = first.greatest leaves other member (seen_else other c n) f in
          let unmoved : next other ≡ low other = bounds.others other n in
          let b = same leaves member in
          omega arith;
      no_less = (let b = same leaves member in omega arith);
    })
