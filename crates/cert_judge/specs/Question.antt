-- What the tests of a question keep and find.
use Rattle.std.specs.Prelude.{◌≡◌, ◌≤◌, ℕ, ◌+◌, Bool, nat_lt, List, length, take, Option, Some, None, Result, Ok, Err, if◌then◌else◌}
use Rattle.topk_theory.specs.declared.access.Access.{Access}
use Rattle.topk_theory.specs.Transcript.{IsTame, seen_objects}
use Rattle.cert_judge.specs.Deciding.{IsSized}
use Rattle.cert_judge.specs.declared.verdict.JudgeFault.{JudgeFault}
use Rattle.cert_judge.specs.declared.verdict.JudgeFault.TheVariants.{WrongSize, Memory}

-- how many objects are seen after an access, by its object's place in the order of first sight; None where it is a wild guess
abbrev pub seen_after : Option ℕ → ℕ → Bool → Option ℕ
seen_after None seen sorted = None
seen_after (Some place) seen sorted = if nat_lt place seen then Some seen else (if sorted then Some (seen + 1) else None)

-- the accesses before this place are tame, and so many objects are seen after them
pub record HasWalked (A : List Access) (place seen : ℕ) : Type 0 where
  pub tame : IsTame (take place A)
  pub count : seen ≡ length (seen_objects (take place A))
  pub few : seen ≤ place

-- the objects of an answer of k distinct ones, or its fault
abbrev pub HasSize : ℕ → List ℕ → Result (List ℕ) JudgeFault → Type 0
HasSize k Y (Ok objects) = (objects ≡ Y) × IsSized k Y
HasSize k Y (Err (WrongSize given asked)) = (given ≡ length Y) × (asked ≡ k) × (¬ IsSized k Y)
HasSize k Y (Err Memory) = Unit {0}
HasSize _ _ _ = ⊥
