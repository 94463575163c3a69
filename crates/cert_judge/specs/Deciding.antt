-- Whether a transcript fixes an answer: what is told of a fair question, and why another one is refused.
use Rattle.std.specs.Prelude.{◌≡◌, ◌≢◌, ◌<◌, ◌≤◌, ◌-◌, ℕ, false, List, ◌∷◌, ◌++◌, length, take, All, AllPairs, Contains, Some, slice_get, Result, Ok, Err}
use Rattle.ranked_list.specs.declared.row.Row.{Row}
use Rattle.topk_theory.specs.declared.access.Access.{Access}
use Rattle.topk_theory.specs.Aggregate.{IsTop, aggregate}
use Rattle.topk_theory.specs.Transcript.{IsTame, is_sorted, object_of, named_objects, seen_objects}
use Rattle.topk_theory.specs.Bounds.{low, high}
use Rattle.topk_theory.specs.Fixes.{Fixes, IsOver}
use Rattle.topk_theory.specs.Adversary.{object_set, counter_table}
use Rattle.access_log.specs.Log.{Log, AgreesWith}
use Rattle.cert_judge.specs.Extremes.{IsLeast, IsGreatest}
use Rattle.cert_judge.specs.declared.verdict.Verdict.{Verdict}
use Rattle.cert_judge.specs.declared.verdict.Verdict.TheVariants.{Fixes as IsFixed, Beaten}
use Rattle.cert_judge.specs.declared.verdict.JudgeFault.{JudgeFault}
use Rattle.cert_judge.specs.declared.verdict.JudgeFault.TheVariants.{WildGuess, WrongSize, UnseenAnswer, Memory}

-- an access that may follow those of A in no tame transcript: it is random, and no sorted access of A gave its object
pub record IsWildAfter (A : List Access) (access : Access) : Type 0 where
  pub random : is_sorted access ≡ false
  pub unseen : ¬ Contains (seen_objects A) (object_of access)

-- the access of this number, from 1, is the first wild guess: the accesses before it are tame
pub record IsFirstWildGuess (A : List Access) (at : ℕ) : Type 0 where
  pub numbered : 1 ≤ at
  pub tame_before : IsTame (take (at - 1) A)
  pub guess : (access : Access) × (slice_get A (at - 1) ≡ Some access) × IsWildAfter (take (at - 1) A) access

-- Y is k objects, and none comes twice
pub record IsSized (k : ℕ) (Y : List ℕ) : Type 0 where
  pub sized : length Y ≡ k
  pub distinct : AllPairs (λ (y : ℕ) (z : ℕ). y ≢ z) Y

-- the first object of Y that no sorted access of A gave
abbrev pub IsFirstUnseen : List Access → List ℕ → ℕ → Type 0
IsFirstUnseen A Y object =
    (before : List ℕ) × (after : List ℕ) × (Y ≡ before ++ object ∷ after)
    × All (Contains (seen_objects A)) before × (¬ Contains (seen_objects A) object)

-- the question is fair: the transcript is tame, and the answer is k distinct objects, all of them seen
pub record IsFair (k : ℕ) (A : List Access) (Y : List ℕ) : Type 0 where
  pub tame : IsTame A
  pub size : IsSized k Y
  pub seen : All (Contains (seen_objects A)) Y

-- the objects of the table that beats an answer: those that the transcript names, and the smallest other ids
abbrev pub judged_objects : Log → List ℕ
judged_objects log = object_set log.count (named_objects log.accesses)

-- an object of that table which isn't in the answer
pub record IsOutside (log : Log) (Y : List ℕ) (object : ℕ) : Type 0 where
  pub there : Contains (judged_objects log) object
  pub outside : ¬ Contains Y object

-- the table agrees with the transcript, the objects have these aggregates in it, and so the answer is no top k of it
pub record IsCounter (V : List ℕ → ℕ) (k : ℕ) (log : Log) (Y : List ℕ) (inside outside lowest highest : ℕ) (D : List (List Row)) : Type 0 where
  pub agrees : AgreesWith D log
  pub over : IsOver (judged_objects log) D
  pub inside_has : aggregate V D inside ≡ lowest
  pub outside_has : aggregate V D outside ≡ highest
  pub no_top : ¬ IsTop V k D Y

-- the answer is beaten: the object of it with the least low, by the one outside with the greatest high, in the table against the first
pub record IsBeaten (V : List ℕ → ℕ) (k : ℕ) (log : Log) (Y : List ℕ) (inside outside lowest highest : ℕ) : Type 0 where
  pub least : IsLeast (λ object. low V log.lists log.accesses object) (Contains Y) inside
  pub greatest : IsGreatest (λ object. high V log.lists log.accesses object) (IsOutside log Y) outside
  pub lowest_is : lowest ≡ low V log.lists log.accesses inside
  pub highest_is : highest ≡ high V log.lists log.accesses outside
  pub less : lowest < highest
  pub counter : IsCounter V k log Y inside outside lowest highest (counter_table log.lists log.count log.accesses inside)
  pub unfixed : ¬ Fixes V k log.lists log.count log.accesses Y

-- what is told of the answer Y to the question for k objects: the first fault of the question, else whether the transcript fixes the answer
abbrev pub Judges : (List ℕ → ℕ) → ℕ → Log → List ℕ → Result Verdict JudgeFault → Type 0
Judges V k log Y (Ok IsFixed) = IsFair k log.accesses Y × Fixes V k log.lists log.count log.accesses Y
Judges V k log Y (Ok (Beaten inside outside lowest highest)) = IsFair k log.accesses Y × IsBeaten V k log Y inside outside lowest highest
Judges V k log Y (Err (WildGuess at)) = IsFirstWildGuess log.accesses at
Judges V k log Y (Err (WrongSize given asked)) = IsTame log.accesses × (given ≡ length Y) × (asked ≡ k) × (¬ IsSized k Y)
Judges V k log Y (Err (UnseenAnswer object)) = IsTame log.accesses × IsSized k Y × IsFirstUnseen log.accesses Y object
Judges V k log Y (Err Memory) = Unit {0}
