-- Whether a transcript fixes that an answer is within a factor of the best, and what is told of a fair question.
use Rattle.std.specs.Prelude.{◌≡◌, ◌<◌, ◌*◌, ℕ, List, Contains, Result, Ok, Err}
use Rattle.ranked_list.specs.declared.row.Row.{Row}
use Rattle.topk_theory.specs.Aggregate.{aggregate}
use Rattle.topk_theory.specs.Bounds.{low, high}
use Rattle.topk_theory.specs.Fixes.{IsOver}
use Rattle.topk_theory.specs.Adversary.{counter_table}
use Rattle.algorithm_theory.specs.Within.{Factor, IsWithin, FixesWithin}
use Rattle.access_log.specs.Log.{Log, AgreesWith}
use Rattle.cert_judge.specs.Extremes.{IsLeast, IsGreatest}
use Rattle.cert_judge.specs.Deciding.{IsFair, IsOutside, Judges, judged_objects}
use Rattle.cert_judge.specs.declared.verdict.Verdict.{Verdict}
use Rattle.cert_judge.specs.declared.verdict.Verdict.TheVariants.{Fixes as IsFixed, Beaten}
use Rattle.cert_judge.specs.declared.verdict.JudgeFault.{JudgeFault}

-- the table agrees with the transcript, the objects have these aggregates in it, and so the answer isn't within the factor there
pub record IsCounterWithin (V : List ℕ → ℕ) (k : ℕ) (factor : Factor) (log : Log) (Y : List ℕ) (inside outside lowest highest : ℕ)
    (D : List (List Row)) : Type 0 where
  pub agrees : AgreesWith D log
  pub over : IsOver (judged_objects log) D
  pub inside_has : aggregate V D inside ≡ lowest
  pub outside_has : aggregate V D outside ≡ highest
  pub not_within : ¬ IsWithin V k factor D Y

-- the answer is beaten by more than the factor: the object of it with the least low, by the one outside with the greatest high
pub record IsBeatenWithin (V : List ℕ → ℕ) (k : ℕ) (factor : Factor) (log : Log) (Y : List ℕ) (inside outside lowest highest : ℕ)
    : Type 0 where
  pub least : IsLeast (λ object. low V log.lists log.accesses object) (Contains Y) inside
  pub greatest : IsGreatest (λ object. high V log.lists log.accesses object) (IsOutside log Y) outside
  pub lowest_is : lowest ≡ low V log.lists log.accesses inside
  pub highest_is : highest ≡ high V log.lists log.accesses outside
  pub less : factor.p * lowest < factor.q * highest
  pub counter : IsCounterWithin V k factor log Y inside outside lowest highest (counter_table log.lists log.count log.accesses inside)
  pub unfixed : ¬ FixesWithin V k factor log.lists log.count log.accesses Y

-- what is told of the answer Y to the question for k objects within a factor: the first fault of the question, as without one, else
-- whether the transcript fixes that the answer is so near
abbrev pub JudgesWithin : (List ℕ → ℕ) → ℕ → Factor → Log → List ℕ → Result Verdict JudgeFault → Type 0
JudgesWithin V k factor log Y (Ok IsFixed) = IsFair k log.accesses Y × FixesWithin V k factor log.lists log.count log.accesses Y
JudgesWithin V k factor log Y (Ok (Beaten inside outside lowest highest)) =
    IsFair k log.accesses Y × IsBeatenWithin V k factor log Y inside outside lowest highest
JudgesWithin V k factor log Y (Err fault) = Judges V k log Y (Err fault)
