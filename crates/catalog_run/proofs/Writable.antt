-- The outcomes of a run can be written.
use Rattle.std.proofs.Common.{ℕ, ◌+◌, List, [], ◌∷◌, All, Contains, inl, inr, Some, sym, subst}
use Rattle.std.specs.List.{AllByRecursion}
use Rattle.std.proofs.lemmas.List.Elements.{All-from_recursion}
use Rattle.topk_theory.proofs.AgreementLists.{member_of_all, contains_here, contains_there}
use Rattle.cert_text.specs.Outcome.{IsOutcome}
use Rattle.source_state.specs.State.{State}
use Rattle.query_admission.specs.View.{View}
use Rattle.query_run.specs.declared.running_query.RunningQuery.{RunningQuery}
use Rattle.query_run.specs.Kept.{IsServed}
use Rattle.query_admission.specs.declared.line_outcome.LineOutcome.{LineOutcome}
use Rattle.catalog_run.specs.Runs.{AreOutcomes, IsLineRun}
use Rattle.line_outcome.specs.LineOutcomes.{CanBeWritten}
use Rattle.line_outcome.proofs.Writable.{ended_written, line_refused_written}

line_run : (view : View) (states : List State) (q : RunningQuery) (number : ℕ) (bytes : List ℕ) (o : LineOutcome) → IsServed states q
    → IsLineRun view q number bytes o → CanBeWritten o
line_run view states q number bytes o served is =
    subst (λ query. IsOutcome query o.versions o.outcome) (sym is.outcome.query)
    (subst (λ versions. IsOutcome (Some is.ready.query) versions o.outcome) (sym is.outcome.versions)
    (ended_written states is.ready q is.ended o.outcome served is.of is.ends is.right is.outcome.outcome))

all_written : (view : View) (states : List State) (queries : List RunningQuery) (number : ℕ) (lines : List (List ℕ)) (outcomes : List LineOutcome)
    → ((q : RunningQuery) → Contains queries q → IsServed states q) → AreOutcomes view queries number lines outcomes → AllByRecursion CanBeWritten outcomes
all_written view states queries number [] [] served are = tt
all_written view states queries number [] (o ∷ outcomes) served are = absurd are
all_written view states queries number (bytes ∷ lines) [] served are = absurd are
all_written view states queries number (bytes ∷ lines) (o ∷ outcomes) served are = elim are [
  | inl refused ↦ (line_refused_written view number bytes o refused.0, all_written view states queries (number + 1) lines outcomes served refused.1)
  | inr run ↦
      let q = run.0 in
      let others = run.1 in
      let all : (r : RunningQuery) → Contains (q ∷ others) r → IsServed states r = λ r c. served r (subst (λ qs. Contains qs r) (sym run.2) c) in (
        line_run view states q number bytes o (all q (contains_here q others)) run.3,
        all_written view states others (number + 1) lines outcomes (λ r c. all r (contains_there q others r c)) run.4,
      )
]

pub can_be_written : (view : View) (states : List State) (queries : List RunningQuery) (number : ℕ) (lines : List (List ℕ)) (outcomes : List LineOutcome)
    → All (IsServed states) queries → AreOutcomes view queries number lines outcomes → All CanBeWritten outcomes
can_be_written view states queries number lines outcomes served are =
    All-from_recursion CanBeWritten outcomes
    (all_written view states queries number lines outcomes (λ q c. member_of_all (IsServed states) queries q served c) are)
