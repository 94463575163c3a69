-- The first by low, the candidates and those given up: what one more access and one step of the walk keep, and what the end of the walk tells.
use Rattle.std.proofs.Common.{◌≡◌, ◌≢◌, inl, inr, ℕ, ◌+◌, ◌<◌, ◌≤◌, ◌==◌, min, Bool, true, false, not, ◌&&◌, List, [], ◌∷◌, ◌++◌, length, Contains, nat_lt, sym, ap, subst, ◌∙◌, arith, length-append}
use Rattle.std.specs.List.{count_by}
use Rattle.std.proofs.lemmas.Bool.{cases_Bool, cases_lt, cases_eq, false≢true, and_parts, and_from, eq-eqb, eqb-true, lt-ltb, ltb-true}
use Rattle.std.proofs.lemmas.List.Elements.{Contains-append_left}
use Rattle.topk_theory.proofs.AgreementLists.{contains_nil}
use Rattle.nra_core.proofs.Stop.{counted_top}
use Rattle.nra_core.specs.Late.{AreApart, AreFirstByLow, IsLeastLow, is_tied, is_open, AreOthersWithin, KeepsCandidates, with_one, without, exchanged, IsWitness, AreNextBounds}
use Rattle.topk_theory.proofs.Counts.{count_le, count_less, count_same}
use Rattle.nra_core.proofs.SetCounts.{with_itself, with_other, without_itself, without_other}
use Rattle.nra_core.proofs.Members.{differs, in_exchanged, not_in_exchanged, exchange_first, exchange_least, all_in, least_rises, first_of_member, first_of_few, first_of_outside, first_of_exchange}

-- ---- for good: who was given up stays so
-- whoever is outside both later was outside both before
abbrev pub WereOutside : List ℕ → (ℕ → Bool) → (ℕ → Bool) → List ℕ → (ℕ → Bool) → (ℕ → Bool) → Type 0
WereOutside seen is_top is_candidate now then candidate_then = (object : ℕ) → Contains now object → then object ≡ false → candidate_then object ≡ false → Contains seen object × (is_top object ≡ false) × (is_candidate object ≡ false)

pub given_up_stays : (k : ℕ) (low high next next_high : ℕ → ℕ) (seen more : List ℕ) (is_top is_candidate then candidate_then : ℕ → Bool) (object : ℕ)
    → AreNextBounds low high next next_high object → KeepsCandidates k low high seen is_top is_candidate → AreFirstByLow k next (seen ++ more) then
    → WereOutside seen is_top is_candidate (seen ++ more) then candidate_then → (inside outside : ℕ) → then inside ≡ true
    → Contains (seen ++ more) outside → then outside ≡ false → candidate_then outside ≡ false → next_high outside ≤ next inside
given_up_stays k low high next next_high seen more is_top is_candidate then candidate_then object bounds keeps later were inside outside t c f g =
    let was = were outside c f g in
    elim (cases_lt (length seen) k) [
      | inl few ↦ absurd (false≢true (sym was.1 ∙ all_in k low seen is_top outside (omega arith) keeps.first was.0))
      | inr enough ↦ (
          let from = least_rises k low next seen more is_top then inside enough bounds.rises keeps.first later t in
          let before = keeps.given_up from.0 outside from.1 was.0 was.1 was.2 in
          let falls = bounds.falls outside in
          let own = from.2 in
          omega arith)
    ]

-- ---- one more access
-- it names one of the first
pub keeps_of_member : (k : ℕ) (low high next next_high : ℕ → ℕ) (seen : List ℕ) (is_top is_candidate : ℕ → Bool) (object : ℕ)
    → AreNextBounds low high next next_high object → KeepsCandidates k low high seen is_top is_candidate → is_top object ≡ true
    → KeepsCandidates k next next_high seen is_top is_candidate
keeps_of_member k low high next next_high seen is_top is_candidate object bounds keeps named = record {
  first = first_of_member k low high next next_high seen is_top object bounds keeps.first named;
  apart = keeps.apart;
  given_up = λ inside outside t c f g.
      let before = keeps.given_up inside outside t c f g in
      let falls = bounds.falls outside in
      let rises = bounds.rises inside in
      omega arith;
}

-- a new object, while fewer than k are seen
pub keeps_of_few : (k : ℕ) (low high next next_high : ℕ → ℕ) (seen : List ℕ) (is_top is_candidate : ℕ → Bool) (object : ℕ)
    → AreNextBounds low high next next_high object → length seen < k → KeepsCandidates k low high seen is_top is_candidate
    → KeepsCandidates k next next_high (seen ++ object ∷ []) (with_one is_top object) is_candidate
keeps_of_few k low high next next_high seen is_top is_candidate object bounds few keeps =
    let now = seen ++ object ∷ [] in
    let first : AreFirstByLow k next now (with_one is_top object) = first_of_few k low next seen is_top object few keeps.first in
    let size : length now ≡ length seen + 1 = length-append seen (object ∷ []) in
    record {
      first = first;
      apart = λ o t. absurd (false≢true (sym (keeps.apart o t).1 ∙ all_in k low seen is_top o (omega arith) keeps.first (keeps.apart o t).0));
      given_up = λ inside outside t c f g. absurd (false≢true (sym f ∙ all_in k next now (with_one is_top object) outside (omega arith) first c));
    }

-- what is told of an access that names an object outside the first, once k are seen: what is seen then is what was seen, and the object
pub record NamesOutside (k : ℕ) (seen more : List ℕ) (is_top : ℕ → Bool) (object : ℕ) : Type 0 where
  pub enough : k ≤ length seen
  pub apart : AreApart (seen ++ more)
  pub outside : is_top object ≡ false
  pub there : Contains (seen ++ more) object
  pub only : (other : ℕ) → Contains more other → object ≡ other
  pub others : (other : ℕ) → Contains (seen ++ more) other → object ≢ other → Contains seen other

-- its low isn't above that of any of the first: those stay, and it is a candidate
pub keeps_of_outside : (k : ℕ) (low high next next_high : ℕ → ℕ) (seen more : List ℕ) (is_top is_candidate : ℕ → Bool) (object : ℕ)
    → AreNextBounds low high next next_high object → NamesOutside k seen more is_top object → KeepsCandidates k low high seen is_top is_candidate
    → ((inside : ℕ) → is_top inside ≡ true → next object ≤ low inside) → KeepsCandidates k next next_high (seen ++ more) is_top (with_one is_candidate object)
keeps_of_outside k low high next next_high seen more is_top is_candidate object bounds names keeps below =
    let first : AreFirstByLow k next (seen ++ more) is_top = first_of_outside k low high next next_high seen more is_top object names.enough bounds keeps.first names.outside names.others names.only below in
    record {
      first = first;
      apart = λ o t. elim (cases_eq object o) [
        | inl e ↦ subst (λ x. Contains (seen ++ more) x × (is_top x ≡ false)) e (names.there, names.outside)
        | inr n ↦ (let was = keeps.apart o (sym (with_other is_candidate object o n) ∙ t) in (Contains-append_left seen more o was.0, was.1))
      ];
      given_up = given_up_stays k low high next next_high seen more is_top is_candidate is_top (with_one is_candidate object) object bounds keeps first
          (λ o c f g.
          let n : object ≢ o = λ e. false≢true (sym g ∙ ap (with_one is_candidate object) (sym e) ∙ with_itself is_candidate object) in
          (names.others o c n, f, sym (with_other is_candidate object o n) ∙ g));
    }

-- the same where it was seen before: it need not become a candidate again
pub keeps_of_known : (k : ℕ) (low high next next_high : ℕ → ℕ) (seen : List ℕ) (is_top is_candidate : ℕ → Bool) (object : ℕ)
    → AreNextBounds low high next next_high object → k ≤ length seen → Contains seen object → is_top object ≡ false
    → KeepsCandidates k low high seen is_top is_candidate → ((inside : ℕ) → is_top inside ≡ true → next object ≤ low inside)
    → KeepsCandidates k next next_high seen is_top is_candidate
keeps_of_known k low high next next_high seen is_top is_candidate object bounds enough there out keeps below = record {
  first = record {
    sized = keeps.first.sized;
    held = keeps.first.held;
    greatest = λ inside outside t c f.
        let same : next inside ≡ low inside = bounds.others inside (λ e. differs is_top inside object t out (sym e)) in
        elim (cases_eq object outside) [
          | inl e ↦ subst (λ o. next o ≤ next inside) e (let upto = below inside t in omega arith)
          | inr n ↦ (
              let upto = keeps.first.greatest inside outside t c f in
              let unmoved : next outside ≡ low outside = bounds.others outside n in
              omega arith)
        ];
  };
  apart = keeps.apart;
  given_up = λ inside outside t c f g.
      let before = keeps.given_up inside outside t c f g in
      let falls = bounds.falls outside in
      let rises = bounds.rises inside in
      omega arith;
}

-- its low isn't below the least of the first: it takes the place of one that has the least, which joins the candidates
pub keeps_of_exchange : (k : ℕ) (low high next next_high : ℕ → ℕ) (seen more : List ℕ) (is_top is_candidate : ℕ → Bool) (object leaves : ℕ)
    → AreNextBounds low high next next_high object → NamesOutside k seen more is_top object → KeepsCandidates k low high seen is_top is_candidate
    → is_top leaves ≡ true → ((inside : ℕ) → is_top inside ≡ true → low leaves ≤ low inside) → low leaves ≤ next object
    → KeepsCandidates k next next_high (seen ++ more) (exchanged is_top leaves object) (exchanged is_candidate object leaves)
keeps_of_exchange k low high next next_high seen more is_top is_candidate object leaves bounds names keeps member least above =
    let apart_two : leaves ≢ object = differs is_top leaves object member names.outside in
    let first : AreFirstByLow k next (seen ++ more) (exchanged is_top leaves object) =
    first_of_exchange k low high next next_high seen more is_top object leaves names.apart names.enough bounds keeps.first names.outside names.there names.others names.only member least above in
    let left : exchanged is_top leaves object leaves ≡ false = with_other (without is_top leaves) object leaves (λ e. apart_two (sym e)) ∙ without_itself is_top leaves in
    let outside_too : (o : ℕ) → object ≢ o → is_top o ≡ false → exchanged is_top leaves object o ≡ false = λ o n f.
    with_other (without is_top leaves) object o n ∙ without_other is_top leaves o (differs is_top leaves o member f) ∙ f in
    record {
      first = first;
      apart = λ o t. elim (in_exchanged is_candidate object leaves o t) [
        | inl e ↦ subst (λ x. Contains (seen ++ more) x × (exchanged is_top leaves object x ≡ false)) e (Contains-append_left seen more leaves (keeps.first.held leaves member), left)
        | inr was ↦ (let before = keeps.apart o was.0 in (Contains-append_left seen more o before.0, outside_too o was.1 before.1))
      ];
      given_up = given_up_stays k low high next next_high seen more is_top is_candidate (exchanged is_top leaves object) (exchanged is_candidate object leaves) object bounds keeps first
          (λ o c f g.
          let top = not_in_exchanged is_top leaves object o f in
          let candidate = not_in_exchanged is_candidate object leaves o g in
          let out : is_top o ≡ false = elim top.1 [ inl e ↦ absurd (candidate.0 e) | inr h ↦ h ] in
          let none : is_candidate o ≡ false = elim candidate.1 [ inl e ↦ absurd (top.0 e) | inr h ↦ h ] in
          (names.others o c top.0, out, none));
    }

-- ---- one step of the walk
-- a candidate whose high is no greater than the bound is given up
pub keeps_of_giving_up : (k : ℕ) (low high : ℕ → ℕ) (seen : List ℕ) (is_top is_candidate : ℕ → Bool) (bound object : ℕ)
    → KeepsCandidates k low high seen is_top is_candidate → IsLeastLow low is_top bound → high object ≤ bound
    → KeepsCandidates k low high seen is_top (without is_candidate object)
keeps_of_giving_up k low high seen is_top is_candidate bound object keeps least within = record {
  first = keeps.first;
  apart = λ o t. keeps.apart o (was_in is_candidate object o t);
  given_up = λ inside outside t c f g. elim (cases_eq object outside) [
    | inl e ↦ subst (λ o. high o ≤ low inside) e (let from = least.least inside t in omega arith)
    | inr n ↦ keeps.given_up inside outside t c f (sym (without_other is_candidate object outside n) ∙ g)
  ];
}
  where
    was_in : (is_in : ℕ → Bool) (one o : ℕ) → without is_in one o ≡ true → is_in o ≡ true
    was_in is_in one o t = (and_parts (is_in o) (not (one == o)) t).0

-- a candidate whose low is the bound takes the place of one of the first whose low is the bound and whose high is no greater; that one is given up
pub keeps_of_tie : (k : ℕ) (low high : ℕ → ℕ) (seen : List ℕ) (is_top is_candidate : ℕ → Bool) (bound object leaves : ℕ) → AreApart seen
    → KeepsCandidates k low high seen is_top is_candidate → IsLeastLow low is_top bound → is_candidate object ≡ true → low object ≡ bound → is_top leaves ≡ true
    → low leaves ≡ bound → high leaves ≤ bound → KeepsCandidates k low high seen (exchanged is_top leaves object) (without is_candidate object)
keeps_of_tie k low high seen is_top is_candidate bound object leaves apart keeps least candidate tied member at_bound within =
    let of = keeps.apart object candidate in
    let first : AreFirstByLow k low seen (exchanged is_top leaves object) = exchange_first k low seen is_top leaves object apart (record {
      sized = keeps.first.sized;
      held = keeps.first.held;
      member = member;
      seen_one = of.0;
      outside = of.1;
      least = λ inside t. let from = least.least inside t in omega arith;
      others = λ other n c f. keeps.first.greatest leaves other member c f;
      no_less = omega arith;
    }) in
    let then = exchange_least low is_top bound leaves object least tied in
    record {
      first = first;
      apart = λ o t.
          let parts = and_parts (is_candidate o) (not (object == o)) t in
          let n : object ≢ o = λ e. false≢true (sym (without_itself is_candidate object) ∙ ap (without is_candidate object) e ∙ t) in
          let before = keeps.apart o parts.0 in
          (before.0, with_other (without is_top leaves) object o n ∙ without_other is_top leaves o (differs is_top leaves o member before.1) ∙ before.1);
      given_up = λ inside outside t c f g.
          let top = not_in_exchanged is_top leaves object outside f in
          let from = then.least inside t in
          elim top.1 [
            | inl e ↦ subst (λ o. high o ≤ low inside) e (omega arith)
            | inr out ↦ (
                let reached = least.reached in
                let before = keeps.given_up reached.0 outside reached.1 c out (sym (without_other is_candidate object outside top.0) ∙ g) in
                let e = reached.2 in
                omega arith)
          ];
    }

-- ---- the end of the walk
open_parts : (low high : ℕ → ℕ) (bound object : ℕ) → is_open low high bound object ≡ true → (low object ≡ bound) × (bound < high object)
open_parts low high bound object t =
    let parts = and_parts (low object == bound) (nat_lt bound (high object)) t in
    (eqb-true (low object) bound parts.0, ltb-true bound (high object) parts.1)

-- where no candidate has a high above the bound the others are within it
pub within_candidates : (k : ℕ) (low high : ℕ → ℕ) (seen : List ℕ) (is_top is_candidate : ℕ → Bool) (bound : ℕ)
    → KeepsCandidates k low high seen is_top is_candidate → IsLeastLow low is_top bound → ((object : ℕ) → is_candidate object ≡ true → high object ≤ bound)
    → AreOthersWithin low high seen is_top bound
within_candidates k low high seen is_top is_candidate bound keeps least none =
    let reached = least.reached in
    let up : (object : ℕ) → Contains seen object → is_top object ≡ false → high object ≤ bound = λ object c f.
    elim (cases_Bool (is_candidate object)) [
      | inl t ↦ none object t
      | inr g ↦ (
          let before = keeps.given_up reached.0 object reached.1 c f g in
          let e = reached.2 in
          omega arith)
    ] in
    record {
      below = λ object c less. elim (cases_Bool (is_top object)) [
        | inl t ↦ absurd (let from = least.least object t in let h : ⊥ = omega arith in h)
        | inr f ↦ up object c f
      ];
      tied = count_le (is_open low high bound) (λ o. is_top o && is_tied low bound o) seen (λ object c t.
          let parts = open_parts low high bound object t in
          elim (cases_Bool (is_top object)) [
            | inl top ↦ and_from (is_top object) (is_tied low bound object) top (eq-eqb (low object) bound parts.0)
            | inr f ↦ absurd (let upto = up object c f in let above = parts.1 in let h : ⊥ = omega arith in h)
          ]);
    }

-- with a witness they aren't
pub not_within_with_witness : (low high : ℕ → ℕ) (seen : List ℕ) (is_top : ℕ → Bool) (bound object : ℕ) → Contains seen object → is_top object ≡ false
    → IsWitness low high is_top bound object → AreOthersWithin low high seen is_top bound → ⊥
not_within_with_witness low high seen is_top bound object c f witness within =
    let above = witness.above in
    elim witness.no_place [
      | inl less ↦ (let upto = within.below object c less in omega arith)
      | inr tie ↦ (
          let more : count_by (λ o. is_top o && is_tied low bound o) seen < count_by (is_open low high bound) seen =
          count_less (λ o. is_top o && is_tied low bound o) (is_open low high bound) seen object
          (λ o d t.
          let parts = and_parts (is_top o) (low o == bound) t in
          and_from (low o == bound) (nat_lt bound (high o)) parts.1 (lt-ltb bound (high o) (tie.1 o parts.0 (eqb-true (low o) bound parts.1))))
          c (ap (λ b. b && is_tied low bound object) f)
          (and_from (low object == bound) (nat_lt bound (high object)) (eq-eqb (low object) bound tie.0) (lt-ltb bound (high object) above)) in
          let upto = within.tied in
          omega arith)
    ]

-- ---- before any access, and the same sets told otherwise
pub keeps_none : (k : ℕ) (low high : ℕ → ℕ) (is_top is_candidate : ℕ → Bool) → ((object : ℕ) → is_top object ≡ false)
    → ((object : ℕ) → is_candidate object ≡ false) → KeepsCandidates k low high [] is_top is_candidate
keeps_none k low high is_top is_candidate none_top none_candidate = record {
  first = record {
    sized = (let e : 0 ≡ min k 0 = omega arith in e);
    held = λ object t. absurd (false≢true (sym (none_top object) ∙ t));
    greatest = λ inside outside t c f. absurd (contains_nil outside c);
  };
  apart = λ object t. absurd (false≢true (sym (none_candidate object) ∙ t));
  given_up = λ inside outside t c f g. absurd (contains_nil outside c);
}

pub first_same : (k : ℕ) (low : ℕ → ℕ) (seen : List ℕ) (is_top then : ℕ → Bool) → ((object : ℕ) → then object ≡ is_top object)
    → AreFirstByLow k low seen is_top → AreFirstByLow k low seen then
first_same k low seen is_top then same first = record {
  sized = count_same then is_top seen (λ o c. same o) ∙ first.sized;
  held = λ object t. first.held object (sym (same object) ∙ t);
  greatest = λ inside outside t c f. first.greatest inside outside (sym (same inside) ∙ t) c (sym (same outside) ∙ f);
}

pub least_same : (low : ℕ → ℕ) (is_top then : ℕ → Bool) (bound : ℕ) → ((object : ℕ) → then object ≡ is_top object) → IsLeastLow low is_top bound
    → IsLeastLow low then bound
least_same low is_top then bound same least = record {
  reached = (let r = least.reached in (r.0, same r.0 ∙ r.1, r.2));
  least = λ object t. least.least object (sym (same object) ∙ t);
}

pub keeps_same : (k : ℕ) (low high : ℕ → ℕ) (seen : List ℕ) (is_top then is_candidate candidate_then : ℕ → Bool)
    → ((object : ℕ) → then object ≡ is_top object) → ((object : ℕ) → candidate_then object ≡ is_candidate object)
    → KeepsCandidates k low high seen is_top is_candidate → KeepsCandidates k low high seen then candidate_then
keeps_same k low high seen is_top then is_candidate candidate_then same_top same_candidate keeps = record {
  first = first_same k low seen is_top then same_top keeps.first;
  apart = λ object t. let was = keeps.apart object (sym (same_candidate object) ∙ t) in (was.0, same_top object ∙ was.1);
  given_up = λ inside outside t c f g. keeps.given_up inside outside (sym (same_top inside) ∙ t) c (sym (same_top outside) ∙ f) (sym (same_candidate outside) ∙ g);
}

-- the set decides the others: it may be told by any sets of the first that have the same bound
pub within_same : (low high : ℕ → ℕ) (seen : List ℕ) (is_top then : ℕ → Bool) (k bound : ℕ) → k ≤ length seen → AreFirstByLow k low seen is_top
    → AreFirstByLow k low seen then → IsLeastLow low is_top bound → IsLeastLow low then bound → AreOthersWithin low high seen is_top bound
    → AreOthersWithin low high seen then bound
within_same low high seen is_top then k bound enough first other least also within = record {
  below = within.below;
  tied = (
      let one = counted_top k low seen is_top bound first least in
      let two = counted_top k low seen then bound other also in
      let a = first.sized in
      let b = other.sized in
      let tied = within.tied in
      omega arith);
}
