-- The verdict by the bounds: where no high outside is more than the factor times the least low, the answer is fixed to be so near; else a table beats it.
use Rattle.std.proofs.Common.{◌≡◌, ◌≢◌, ℕ, ◌*◌, ◌<◌, ◌≤◌, inl, inr, nat_le, List, length, take, All, Contains, Option, Some, None, Result, Ok, Err, sym, ap, subst, subst₂, ◌-◌, arith}
use Rattle.std.proofs.Math.Nat.{mul-le-mul_left}
use Rattle.std.proofs.lemmas.Bool.{cases_Bool, cond-true, cond-false, leb-true, leb-false}
use Rattle.std.proofs.lemmas.List.Elements.{Contains-append_left}
use Rattle.monotone_fn.specs.Value.{IsMonotone}
use Rattle.topk_theory.specs.Aggregate.{aggregate}
use Rattle.topk_theory.specs.Transcript.{IsTame, named_objects, seen_objects}
use Rattle.topk_theory.specs.Bounds.{low, high}
use Rattle.topk_theory.specs.Fixes.{IsObjectSet}
use Rattle.topk_theory.specs.Adversary.{MayBeObjects, object_set, counter_table, unnamed}
use Rattle.topk_theory.proofs.AgreementLists.{all_from_members, member_of_all}
use Rattle.topk_theory.proofs.AgreementNames.{has, has_contains, has_not}
use Rattle.topk_theory.proofs.Agreement.{named_distinct, named_count, seen_is_named, seen_distinct}
use Rattle.topk_theory.proofs.Adversary.{holds_against}
use Rattle.topk_theory.proofs.Consistent.{object_set_is}
use Rattle.algorithm_theory.specs.Within.{Factor, FixesWithin, BoundsPartWithin}
use Rattle.algorithm_theory.specs.Guarantee.{exact_factor}
use Rattle.algorithm_theory.proofs.Parting.{fixes_parts_within, parts_fix_within, top_is_exact, exact_fixes, fixes_exact}
use Rattle.access_log.specs.Log.{Log, IsConsistent}
use Rattle.cert_judge.specs.declared.bound.Bound.{Bound}
use Rattle.cert_judge.specs.declared.verdict.Verdict.{Verdict}
use Rattle.cert_judge.specs.declared.verdict.Verdict.TheVariants.{Fixes as IsFixed, Beaten}
use Rattle.cert_judge.specs.Extremes.{FindsLeast, FindsGreatest}
use Rattle.cert_judge.specs.Deciding.{IsFair, IsOutside, IsBeaten, Judges, judged_objects}
use Rattle.cert_judge.specs.JudgingWithin.{IsCounterWithin, IsBeatenWithin, JudgesWithin}
use Rattle.cert_judge.specs.declared.verdict.JudgeFault.{JudgeFault}
use Rattle.cert_judge.specs.declared.verdict.JudgeFault.TheVariants.{WildGuess, WrongSize, UnseenAnswer, Memory}
use Rattle.cert_judge.specs.Question.{HasSize}
use Rattle.cert_judge.specs.Verdicts.{verdict_within}
use Rattle.cert_judge.proofs.Tame.{named_is_seen}
use Rattle.cert_judge.proofs.Unseen.{same_high, unseen_there}

-- what is known of a question that is judged
pub record IsPosed (V : List ℕ → ℕ) (k : ℕ) (log : Log) (Y : List ℕ) : Type 0 where
  pub monotone : IsMonotone V
  pub lists : 0 < log.lists
  pub consistent : IsConsistent log
  pub fair : IsFair k log.accesses Y

-- the objects of the counter table may be a table's
pub judged_may_be : (log : Log) → 0 < log.lists → IsConsistent log → MayBeObjects log.count log.accesses (judged_objects log)
judged_may_be log lists some = record {
  is_set = object_set_is log.count (named_objects log.accesses) (named_distinct log.accesses) (named_count log.lists log.count some.0 log.accesses lists some.1);
  named = all_from_members (Contains (judged_objects log)) (named_objects log.accesses) (λ o c. Contains-append_left (named_objects log.accesses) _ o c);
}

-- no object outside, on the smallest ids, has a high of more than the factor times a low inside: then so over every set of objects
parts_over : (V : List ℕ → ℕ) (k : ℕ) (factor : Factor) (log : Log) (Y O : List ℕ) → IsPosed V k log Y → IsObjectSet log.count O → All (Contains O) (named_objects log.accesses)
    → ((y o : ℕ) → Contains Y y → IsOutside log Y o → factor.q * high V log.lists log.accesses o ≤ factor.p * low V log.lists log.accesses y)
    → BoundsPartWithin V k factor log.lists O log.accesses Y
parts_over V k factor log Y O posed set named parts =
    let A = log.accesses in
    let names = named_is_seen A posed.fair.tame in
    let seen_in : (o : ℕ) → Contains (seen_objects A) o → Contains O o = λ o c. member_of_all (Contains O) (named_objects A) o named (seen_is_named A o c) in
    let in_set : (o : ℕ) → Contains (object_set log.count (seen_objects A)) o → Contains (judged_objects log) o = λ o c. subst (λ s. Contains (object_set log.count s) o) (sym names) c in
    let answer_seen : (y : ℕ) → Contains Y y → Contains (seen_objects A) y = λ y c. member_of_all (Contains (seen_objects A)) Y y posed.fair.seen c in
    record {
      sized = posed.fair.size.sized;
      distinct = posed.fair.size.distinct;
      members = all_from_members (Contains O) Y (λ y c. seen_in y (answer_seen y c));
      part = λ inside outside c there out. elim (cases_Bool (has outside (seen_objects A))) [
        | inl t ↦ parts inside outside c (record { there = in_set outside (Contains-append_left (seen_objects A) (take (log.count - length (seen_objects A)) (unnamed log.count (seen_objects A))) outside (has_contains outside (seen_objects A) t)); outside = out })
        | inr f ↦
            let new = has_not outside (seen_objects A) f in
            let u = unseen_there log.count (seen_objects A) O outside (seen_distinct A) set.sized seen_in there new in
            let low_enough = parts inside u.0 c (record { there = in_set u.0 u.1; outside = λ d. u.2 (answer_seen u.0 d) }) in
            subst (λ z. factor.q * z ≤ factor.p * low V log.lists A inside) (same_high V log.lists A u.0 outside posed.fair.tame u.2 new) low_enough
      ];
    }

fixed : (V : List ℕ → ℕ) (k : ℕ) (factor : Factor) (log : Log) (Y : List ℕ) → IsPosed V k log Y
    → ((y o : ℕ) → Contains Y y → IsOutside log Y o → factor.q * high V log.lists log.accesses o ≤ factor.p * low V log.lists log.accesses y)
    → FixesWithin V k factor log.lists log.count log.accesses Y
fixed V k factor log Y posed parts = λ O set named.
    parts_fix_within V k factor log.lists log.count O log.accesses Y posed.monotone (parts_over V k factor log Y O posed set named parts)

-- the table against the object inside
counters : (V : List ℕ → ℕ) (k : ℕ) (factor : Factor) (log : Log) (Y : List ℕ) (inside outside : ℕ) → IsPosed V k log Y → Contains Y inside → IsOutside log Y outside
    → factor.p * low V log.lists log.accesses inside < factor.q * high V log.lists log.accesses outside
    → IsCounterWithin V k factor log Y inside outside (low V log.lists log.accesses inside) (high V log.lists log.accesses outside) (counter_table log.lists log.count log.accesses inside)
counters V k factor log Y inside outside posed in_answer out less =
    let A = log.accesses in
    let D = counter_table log.lists log.count A inside in
    let holds = holds_against V log.lists log.count A (judged_objects log) inside posed.lists posed.consistent (judged_may_be log posed.lists posed.consistent) in
    let seen = member_of_all (Contains (seen_objects A)) Y inside posed.fair.seen in_answer in
    let there : Contains (judged_objects log) inside = Contains-append_left (named_objects A) _ inside (seen_is_named A inside seen) in
    let apart : outside ≢ inside = λ e. out.outside (subst (Contains Y) (sym e) in_answer) in
    let least : aggregate V D inside ≡ low V log.lists A inside = holds.lowest there in
    let most : aggregate V D outside ≡ high V log.lists A outside = holds.highest outside out.there apart in
    let least_times : factor.p * aggregate V D inside ≡ factor.p * low V log.lists A inside = ap (λ v. factor.p * v) least in
    let most_times : factor.q * aggregate V D outside ≡ factor.q * high V log.lists A outside = ap (λ v. factor.q * v) most in
    record {
      agrees = holds.agrees;
      over = holds.over;
      inside_has = least;
      outside_has = most;
      not_within = λ near.
          let fits : factor.q * aggregate V D outside ≤ factor.p * aggregate V D inside = near.near inside outside in_answer ((holds.over outside).1 out.there) out.outside in omega arith;
    }

not_fixed : (V : List ℕ → ℕ) (k : ℕ) (factor : Factor) (log : Log) (Y : List ℕ) (inside outside : ℕ) → IsPosed V k log Y → Contains Y inside → IsOutside log Y outside
    → factor.p * low V log.lists log.accesses inside < factor.q * high V log.lists log.accesses outside → ¬ FixesWithin V k factor log.lists log.count log.accesses Y
not_fixed V k factor log Y inside outside posed in_answer out less = λ fixes.
    let may = judged_may_be log posed.lists posed.consistent in
    let parts = fixes_parts_within V k factor log.lists log.count (judged_objects log) log.accesses Y posed.lists posed.consistent may (fixes (judged_objects log) may.is_set may.named) in
    let low_enough : factor.q * high V log.lists log.accesses outside ≤ factor.p * low V log.lists log.accesses inside = parts.part inside outside in_answer out.there out.outside in
    omega arith

-- the verdict
no_more : (factor : Factor) (greatest least high_there low_there : ℕ) → factor.q * greatest ≤ factor.p * least → high_there ≤ greatest → least ≤ low_there
    → factor.q * high_there ≤ factor.p * low_there
no_more factor greatest least high_there low_there le up down =
    let higher : factor.q * high_there ≤ factor.q * greatest = mul-le-mul_left factor.q up in
    let lower : factor.p * least ≤ factor.p * low_there = mul-le-mul_left factor.p down in
    omega arith

pub tells : (V : List ℕ → ℕ) (k : ℕ) (factor : Factor) (log : Log) (Y : List ℕ) (inside outside : Option Bound) → IsPosed V k log Y
    → FindsLeast (λ object. low V log.lists log.accesses object) (Contains Y) inside
    → FindsGreatest (λ object. high V log.lists log.accesses object) (IsOutside log Y) outside
    → JudgesWithin V k factor log Y (Ok (verdict_within factor inside outside))
tells V k factor log Y None outside posed none found = (posed.fair, fixed V k factor log Y posed (λ y o c out. absurd (none y c)))
tells V k factor log Y (Some inside) None posed least none = (posed.fair, fixed V k factor log Y posed (λ y o c out. absurd (none o out)))
tells V k factor log Y (Some inside) (Some outside) posed least greatest =
    let most : ℕ = high V log.lists log.accesses outside.object in
    let fewest : ℕ = low V log.lists log.accesses inside.object in
    let most_is : factor.q * outside.value ≡ factor.q * most = ap (λ v. factor.q * v) greatest.1 in
    let fewest_is : factor.p * inside.value ≡ factor.p * fewest = ap (λ v. factor.p * v) least.1 in
    elim (cases_Bool (nat_le (factor.q * outside.value) (factor.p * inside.value))) [
      | inl t ↦ subst (λ v. JudgesWithin V k factor log Y (Ok v)) (sym (cond-true (nat_le (factor.q * outside.value) (factor.p * inside.value)) IsFixed (Beaten inside.object outside.object inside.value outside.value) t)) (
        posed.fair,
        fixed V k factor log Y posed (λ y o c out.
            let below : factor.q * outside.value ≤ factor.p * inside.value = leb-true (factor.q * outside.value) (factor.p * inside.value) t in
            no_more factor most fewest (high V log.lists log.accesses o) (low V log.lists log.accesses y) (omega arith) (greatest.0.greatest o out) (least.0.least y c)),
      )
      | inr f ↦ subst (λ v. JudgesWithin V k factor log Y (Ok v)) (sym (cond-false (nat_le (factor.q * outside.value) (factor.p * inside.value)) IsFixed (Beaten inside.object outside.object inside.value outside.value) f)) (
        posed.fair,
        let above : factor.p * inside.value < factor.q * outside.value = leb-false (factor.q * outside.value) (factor.p * inside.value) f in
            let less : factor.p * fewest < factor.q * most = omega arith in
            record {
              least = least.0;
              greatest = greatest.0;
              lowest_is = least.1;
              highest_is = greatest.1;
              less = above;
              counter = subst₂ (λ l h. IsCounterWithin V k factor log Y inside.object outside.object l h (counter_table log.lists log.count log.accesses inside.object)) (sym least.1) (sym greatest.1)
                  (counters V k factor log Y inside.object outside.object posed least.0.is_one greatest.0.is_one less);
              unfixed = not_fixed V k factor log Y inside.object outside.object posed least.0.is_one greatest.0.is_one less;
            },
      )
    ]

-- within the factor 1 it is the verdict on a top k
exact_beaten : (V : List ℕ → ℕ) (k : ℕ) (log : Log) (Y : List ℕ) (inside outside lowest highest : ℕ)
    → IsBeatenWithin V k exact_factor log Y inside outside lowest highest → IsBeaten V k log Y inside outside lowest highest
exact_beaten V k log Y inside outside lowest highest h = record {
  least = h.least;
  greatest = h.greatest;
  lowest_is = h.lowest_is;
  highest_is = h.highest_is;
  less = (let times : 1 * lowest < 1 * highest = h.less in omega arith);
  counter = record {
    agrees = h.counter.agrees;
    over = h.counter.over;
    inside_has = h.counter.inside_has;
    outside_has = h.counter.outside_has;
    no_top = λ top. h.counter.not_within (top_is_exact V k (counter_table log.lists log.count log.accesses inside) Y top);
  };
  unfixed = λ fixes. h.unfixed (fixes_exact V k log.lists log.count log.accesses Y fixes);
}

pub exact_judges : (V : List ℕ → ℕ) (k : ℕ) (log : Log) (Y : List ℕ) (verdict : Result Verdict JudgeFault) → JudgesWithin V k exact_factor log Y verdict
    → Judges V k log Y verdict
exact_judges V k log Y (Ok IsFixed) h = (h.0, exact_fixes V k log.lists log.count log.accesses Y h.1)
exact_judges V k log Y (Ok (Beaten inside outside lowest highest)) h = (h.0, exact_beaten V k log Y inside outside lowest highest h.1)
exact_judges V k log Y (Err fault) h = h

-- the fault of an answer's size, of a tame transcript
pub size_fault : (V : List ℕ → ℕ) (k : ℕ) (log : Log) (Y : List ℕ) (fault : JudgeFault) → IsTame log.accesses → HasSize k Y (Err fault)
    → Judges V k log Y (Err fault)
size_fault V k log Y (WildGuess at) tame h = absurd h
size_fault V k log Y (WrongSize given asked) tame h = (tame, h.0, h.1, h.2)
size_fault V k log Y (UnseenAnswer object) tame h = absurd h
size_fault V k log Y Memory tame h = tt
