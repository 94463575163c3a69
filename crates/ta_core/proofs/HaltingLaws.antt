-- Where a machine halts: no deeper than the threshold algorithm, so within the table.
use Rattle.std.proofs.Common.{◌≡◌, ℕ, ◌+◌, ◌-◌, ◌*◌, ◌||◌, ◌<◌, ◌≤◌, Bool, true, false, List, length, filter, count_by, nat_le, leb-true, refl, ap, ◌∙◌, arith}
use Rattle.std.proofs.lemmas.Bool.{le-leb}
use Rattle.std.proofs.Math.Bool.{or-true}
use Rattle.std.proofs.Math.Nat.{mul-le-mul}
use Rattle.std.proofs.lemmas.List.Sums.{length-filter}
use Rattle.ranked_list.specs.declared.row.Row.{Row}
use Rattle.ranked_list.specs.Table.{IsTable}
use Rattle.monotone_fn.specs.Value.{IsMonotone}
use Rattle.topk_theory.specs.Aggregate.{objects_of, aggregate}
use Rattle.topk_theory.specs.Threshold.{IsAsked, objects_to, threshold_at, ta_stop}
use Rattle.topk_theory.proofs.ThresholdDepth.{least_from-start, least_from-passes, least_from-end, least_from-before, stops_at_last}
use Rattle.topk_theory.proofs.Agreement.{objects_of_count}
use Rattle.machine_base.proofs.Depths.{IsOwn}
use Rattle.machine_base.proofs.BoardCounts.{count_more}
use Rattle.ta_core.specs.declared.halting.Halting.{Halting}
use Rattle.ta_core.specs.declared.halting.Halting.TheVariants.{Exact, Within, Early}
use Rattle.ta_core.specs.Halting.{IsFit, Halt, halts_at, halting_depth, passes_by, IsFair}

-- what a machine is asked of a table of n objects, with a rule that is fit
pub record IsHalting (halt : Halt) (n : ℕ) (D : List (List Row)) : Type 0 where
  pub table : IsTable n D
  pub lists : 0 < length D
  pub positive : 1 ≤ halt.k
  pub fits : halt.k ≤ n
  pub fit : IsFit halt.passes

pub halting_of : (halt : Halt) (n : ℕ) (D : List (List Row)) → IsFit halt.passes → IsAsked halt.k n D → IsHalting halt n D
halting_of halt n D fit asked = record { table = asked.table; lists = asked.lists; positive = asked.positive; fits = asked.fits; fit = fit }

-- where the threshold algorithm stops, the machine halts
stops_halts : (V : List ℕ → ℕ) (halt : Halt) (D : List (List Row)) (depth : ℕ) → IsFit halt.passes → ta_stop V halt.k D depth ≡ true → halts_at V halt D depth ≡ true
stops_halts V halt D depth fit stops =
    let bound : ℕ = threshold_at V D depth in
    let reach : ℕ → Bool = λ object. nat_le bound (aggregate V D object) in
    let pass : ℕ → Bool = λ object. halt.passes depth bound (aggregate V D object) in
    let more : length (filter reach (objects_to D depth)) ≤ length (filter pass (objects_to D depth)) =
    count_more reach pass (objects_to D depth) (λ o t. fit.reached depth bound (aggregate V D o) (leb-true bound (aggregate V D o) t)) in
    let one : length (filter reach (objects_to D depth)) ≡ count_by reach (objects_to D depth) = length-filter reach (objects_to D depth) in
    let two : length (filter pass (objects_to D depth)) ≡ count_by pass (objects_to D depth) = length-filter pass (objects_to D depth) in
    let enough : halt.k ≤ count_by reach (objects_to D depth) = leb-true halt.k (count_by reach (objects_to D depth)) stops in
    le-leb halt.k (count_by pass (objects_to D depth)) (omega arith)

-- the depth at which a machine halts is its own
pub own : (V : List ℕ → ℕ) (halt : Halt) (n : ℕ) (D : List (List Row)) → IsMonotone V → IsHalting halt n D → IsOwn (halts_at V halt D) n (halting_depth V halt D)
own V halt n D monotone asked =
    let more : ℕ = length (objects_of D) - 1 in
    let count : length (objects_of D) ≡ n = objects_of_count n D asked.table asked.lists in
    let last : 1 + more ≡ n = omega (arith, asked.positive, asked.fits) in
    record {
      from_one = least_from-start (halts_at V halt D) more 1;
      within = omega (arith, least_from-end (halts_at V halt D) more 1);
      ends = least_from-passes (halts_at V halt D) more 1 (ap (halts_at V halt D) last ∙ stops_halts V halt D n asked.fit (stops_at_last V halt.k n D monotone asked.table asked.lists asked.fits));
      least = λ other from below. least_from-before (halts_at V halt D) more 1 other from below;
    }

-- the rules are fit
exact_fit : IsFit (passes_by Exact)
exact_fit = record {
  reached = λ d t a l. le-leb t a l;
  upward = λ d t one other l p. let up = leb-true t one p in le-leb t other (omega arith);
}

within_fit : (p q : ℕ) → q ≤ p → IsFit (passes_by (Within p q))
within_fit p q fair = record {
  reached = λ d t a l. le-leb (q * t) (p * a) (mul-le-mul fair l);
  upward = λ d t one other l h.
      let up : q * t ≤ p * one = leb-true (q * t) (p * one) h in
      let same : p ≤ p = omega arith in
      let more : p * one ≤ p * other = mul-le-mul same l in
      le-leb (q * t) (p * other) (omega arith);
}

early_fit : (from : ℕ) → IsFit (passes_by (Early from))
early_fit from = record {
  reached = λ d t a l. ap (λ b. nat_le from d || b) (le-leb t a l) ∙ or-true (nat_le from d);
  upward = λ d t one other l h. by_depth d t one other l (nat_le from d) h;
}
  where
    by_depth : (d t one other : ℕ) → one ≤ other → (b : Bool) → (b || nat_le t one) ≡ true → (b || nat_le t other) ≡ true
    by_depth d t one other l true h = refl
    by_depth d t one other l false h = let up : t ≤ one = leb-true t one h in le-leb t other (omega arith)

pub rule_fit : (rule : Halting) → IsFair rule → IsFit (passes_by rule)
rule_fit Exact fair = exact_fit
rule_fit (Within p q) fair = within_fit p q fair
rule_fit (Early from) fair = early_fit from
