-- The depth at which a run ends, and the depths that it goes through.
use Rattle.std.proofs.Common.{◌≡◌, ℕ, zero, suc, ◌+◌, ◌-◌, ◌<◌, ◌≤◌, inl, inr, Bool, true, false, List, [], ◌∷◌, ◌++◌, Some, sym, ap, subst, ◌∙◌, arith, append_assoc, append-nil}
use Rattle.std.proofs.lemmas.Bool.{cases_lt, true≢false}
use Rattle.topk_theory.specs.declared.access.Access.{Access}
use Rattle.topk_theory.specs.Machine.{need_of, IsAt}
use Rattle.machine_base.specs.Depths.{IsReached}
use Rattle.machine_base.proofs.Makes.{at_access}

-- the depth is the algorithm's own: the least at which it stops
pub record IsOwn (stops : ℕ → Bool) (n own : ℕ) : Type 0 where
  pub from_one : 1 ≤ own
  pub within : own ≤ n
  pub ends : stops own ≡ true
  pub least : (other : ℕ) → 1 ≤ other → other < own → stops other ≡ false

-- a depth above which the algorithm doesn't stop is no greater than its own
not_past : (stops : ℕ → Bool) (n own depth : ℕ) → IsOwn stops n own → ((above : ℕ) → 1 ≤ above → above < depth → stops above ≡ false) → depth ≤ own
not_past stops n own depth least unstopped =
    elim (cases_lt own depth) [
      | inl above ↦ absurd (true≢false (sym least.ends ∙ unstopped own least.from_one above))
      | inr le ↦ le
    ]

-- one that is reached and stops is its own
pub is_own : (stops : ℕ → Bool) (n own depth : ℕ) → IsOwn stops n own → IsReached stops n depth → stops depth ≡ true → depth ≡ own
is_own stops n own depth least at here =
    let up : depth ≤ own = not_past stops n own depth least at.unstopped in
    elim (cases_lt depth own) [
      | inl below ↦ absurd (true≢false (sym here ∙ least.least depth at.positive below))
      | inr ge ↦ omega arith
    ]

-- the first depth is reached, and after one at which the algorithm doesn't stop the next one is
pub first_reached : (stops : ℕ → Bool) (n : ℕ) → 1 ≤ n → IsReached stops n 1
first_reached stops n some = record { positive = omega arith; within = some; unstopped = λ above positive below. absurd (omega arith) }

pub next_reached : (stops : ℕ → Bool) (n own depth : ℕ) → IsOwn stops n own → IsReached stops n depth → stops depth ≡ false → IsReached stops n (depth + 1)
next_reached stops n own depth least at goes =
    let none : (above : ℕ) → 1 ≤ above → above < depth + 1 → stops above ≡ false = λ above positive below.
    elim (cases_lt above depth) [
      | inl less ↦ at.unstopped above positive less
      | inr ge ↦ (let same : depth ≡ above = omega arith in subst (λ d. stops d ≡ false) same goes)
    ] in
    let up : depth + 1 ≤ own = not_past stops n own (depth + 1) least none in
    record { positive = omega arith; within = omega (arith, up, least.within); unstopped = none }

-- a run that goes on by blocks begins with what it reads down to each depth
run_begins : (run_to block : ℕ → List Access) → ((d : ℕ) → run_to (suc d) ≡ run_to d ++ block d) → (depth more : ℕ)
    → (rest : List Access) × (run_to (depth + more) ≡ run_to depth ++ rest)
run_begins run_to block grows depth zero = let e : depth + 0 ≡ depth = omega arith in ([], ap run_to e ∙ sym (append-nil (run_to depth)))
run_begins run_to block grows depth (suc more) =
    let before = run_begins run_to block grows depth more in
    let e : depth + suc more ≡ suc (depth + more) = omega arith in
    (before.0 ++ block (depth + more), ap run_to e ∙ grows (depth + more) ∙ ap (λ A. A ++ block (depth + more)) before.1 ∙ append_assoc (run_to depth) before.0 (block (depth + more)))

-- the run goes on after a depth that is reached
pub run_goes_on : (run_to block : ℕ → List Access) (stops : ℕ → Bool) (n own depth : ℕ) → ((d : ℕ) → run_to (suc d) ≡ run_to d ++ block d)
    → IsOwn stops n own → IsReached stops n depth → (rest : List Access) × (run_to own ≡ run_to depth ++ rest)
run_goes_on run_to block stops n own depth grows least at =
    let up : depth ≤ own = not_past stops n own depth least at.unstopped in
    let more = run_begins run_to block grows depth (own - depth) in
    let whole : depth + (own - depth) ≡ own = omega arith in
    (more.0, ap run_to (sym whole) ∙ more.1)

-- accesses that go on to the end of a depth that is reached are on the run
pub at_on_path : (run_to block : ℕ → List Access) (stops : ℕ → Bool) (n own depth : ℕ) (A : List Access) (next : Access) (later : List Access)
    → ((d : ℕ) → run_to (suc d) ≡ run_to d ++ block d) → IsOwn stops n own → IsReached stops n depth → A ++ next ∷ later ≡ run_to depth
    → IsAt (run_to own) A (need_of A (Some next))
at_on_path run_to block stops n own depth A next later grows least at path =
    let up : depth ≤ own = not_past stops n own depth least at.unstopped in
    let more = run_begins run_to block grows depth (own - depth) in
    let whole : depth + (own - depth) ≡ own = omega arith in
    let run : run_to own ≡ A ++ (next ∷ (later ++ more.0)) =
    ap run_to (sym whole) ∙ more.1 ∙ ap (λ B. B ++ more.0) (sym path) ∙ append_assoc A (next ∷ later) more.0 in
    at_access (run_to own) A next (later ++ more.0) run
