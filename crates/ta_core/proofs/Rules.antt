-- A machine that halts by a rule makes the run of the algorithm that halts so.
use Rattle.std.proofs.Common.{◌≡◌, inl, inr, ℕ, zero, suc, ◌+◌, ◌-◌, ◌≤◌, ◌||◌, ◌&&◌, Bool, true, false, cond, List, length, count_by, nat_le, leb-true, refl, sym, ap, ap₂, subst, ◌∙◌, arith}
use Rattle.std.proofs.lemmas.Bool.{cases_Bool, le-leb}
use Rattle.std.proofs.lemmas.List.Sums.{count_by-le-length}
use Rattle.std.proofs.Math.Bool.{or-false}
use Rattle.ranked_list.specs.declared.row.Row.{Row}
use Rattle.ranked_list.specs.declared.need.Need.{Need}
use Rattle.topk_theory.specs.Aggregate.{objects_of, aggregate}
use Rattle.topk_theory.specs.Threshold.{objects_to, threshold_at, ta_stop, ta_run_to, least_from}
use Rattle.topk_theory.specs.Asked.{Asked, Run, Answering}
use Rattle.topk_theory.specs.Machine.{IsAt}
use Rattle.topk_theory.proofs.ThresholdLists.{count_all}
use Rattle.algorithm_theory.specs.Nearby.{first_at, has_enough, early_stop, early_depth, early_stopped_run, early_stopped_answer}
use Rattle.machine_base.specs.Machine.{MachineState, MakesRun, asked_of}
use Rattle.machine_base.specs.Certain.{Meets, Foresees}
use Rattle.ta_core.specs.declared.halting.Halting.{Halting}
use Rattle.ta_core.specs.declared.halting.Halting.TheVariants.{Exact, Within, Early}
use Rattle.ta_core.specs.Halting.{halts_at, halting_depth, halting_run, halting_answer, passes_by}
use Rattle.ta_core.specs.Machine.{run_halting}

-- the run and the answer by a rule alone
abbrev pub rule_run : Halting → Run
rule_run rule asked D = halting_run asked.value (record { k = asked.k; passes = passes_by rule }) D

abbrev pub rule_answer : Halting → Answering
rule_answer rule asked D = halting_answer asked.value (record { k = asked.k; passes = passes_by rule }) D

-- ---- early, an object passes where the depth is reached or its aggregate is; so at least k do where the algorithm stops early
early_test : (V : List ℕ → ℕ) (k : ℕ) (D : List (List Row)) (depth : ℕ) (late : Bool)
    → nat_le k (count_by (λ object. late || nat_le (threshold_at V D depth) (aggregate V D object)) (objects_to D depth))
    ≡ (ta_stop V k D depth || (late && has_enough k D depth))
early_test V k D depth false = sym (or-false (ta_stop V k D depth))
early_test V k D depth true =
    let os : List ℕ = objects_to D depth in
    let reaches : ℕ → Bool = λ object. nat_le (threshold_at V D depth) (aggregate V D object) in
    let all : nat_le k (count_by (λ object. true || reaches object) os) ≡ has_enough k D depth = ap (nat_le k) (count_all (λ object. true || reaches object) os (λ o c. refl)) in
    all ∙ sym (elim (cases_Bool (ta_stop V k D depth)) [
      | inl stops ↦
          let enough : k ≤ count_by reaches os = leb-true k (count_by reaches os) stops in
          let few : count_by reaches os ≤ length os = count_by-le-length reaches os in
          ap (λ b. b || has_enough k D depth) stops ∙ sym (le-leb k (length os) (omega arith))
      | inr goes ↦ ap (λ b. b || has_enough k D depth) goes
    ])

early_halts : (V : List ℕ → ℕ) (k from : ℕ) (D : List (List Row)) (depth : ℕ)
    → halts_at V (record { k = k; passes = passes_by (Early from) }) D depth ≡ early_stop V k from D depth
early_halts V k from D depth = early_test V k D depth (nat_le from depth)

-- tests that pass at the same numbers have the same least one
least_from_same : (one other : ℕ → Bool) (more start : ℕ) → ((n : ℕ) → one n ≡ other n) → least_from one more start ≡ least_from other more start
least_from_same one other zero start same = refl
least_from_same one other (suc more) start same =
    ap₂ (λ (b : Bool) (later : ℕ). cond b start later) (same start) (least_from_same one other more (start + 1) same)

early_depths : (V : List ℕ → ℕ) (k from : ℕ) (D : List (List Row))
    → halting_depth V (record { k = k; passes = passes_by (Early from) }) D ≡ early_depth V k from D
early_depths V k from D =
    least_from_same (halts_at V (record { k = k; passes = passes_by (Early from) }) D) (early_stop V k from D) (length (objects_of D) - 1) 1 (λ depth. early_halts V k from D depth)

early_run_is : (asked : Asked) (from : ℕ) (D : List (List Row)) → rule_run (Early from) asked D ≡ early_stopped_run from asked D
early_run_is asked from D = ap (ta_run_to D) (early_depths asked.value asked.k from D)

pub early_answer_is : (asked : Asked) (from : ℕ) (D : List (List Row)) → rule_answer (Early from) asked D ≡ early_stopped_answer from asked D
early_answer_is asked from D = ap (first_at asked.value asked.k D) (early_depths asked.value asked.k from D)

-- ---- each rule's run is that of its algorithm
run_is : (rule : Halting) (asked : Asked) (D : List (List Row)) → rule_run rule asked D ≡ run_halting rule asked D
run_is Exact asked D = refl
run_is (Within p q) asked D = refl
run_is (Early from) asked D = early_run_is asked from D

pub rule_makes : (rule : Halting) (t : MachineState) → MakesRun (rule_run rule) t → MakesRun (run_halting rule) t
rule_makes rule t own = record {
  posed = own.posed;
  consistent = own.consistent;
  on_run = λ D agrees. subst (λ run. IsAt run t.log.accesses t.need) (run_is rule (asked_of t) D) (own.on_run D agrees);
  served = own.served;
  tame = own.tame;
}

pub rule_foresees : (rule : Halting) (t : MachineState) (list : ℕ) (need : Need) → Foresees (rule_run rule) t list need → Foresees (run_halting rule) t list need
rule_foresees rule t list need own = record {
  certain = record { met = λ D agrees. subst (λ run. Meets run need) (run_is rule (asked_of t) D) (own.certain.met D agrees) };
  of = own.of;
}
