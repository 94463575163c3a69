-- The answers of a run are right.
use Rattle.std.proofs.Common.{◌≡◌, ℕ, ◌+◌, List, [], ◌∷◌, All, inl, inr, Option, None, Some, sym, ap, ◌∙◌, subst}
use Rattle.std.specs.Prelude.{option_map}
use Rattle.std.specs.List.{AllByRecursion}
use Rattle.std.proofs.lemmas.Option.{same_Some}
use Rattle.std.proofs.lemmas.List.Elements.{All-from_recursion}
use Rattle.ranked_list.specs.declared.row.Row.{Row}
use Rattle.monotone_fn.specs.Value.{value}
use Rattle.topk_theory.specs.Threshold.{item_objects}
use Rattle.access_log.specs.Log.{AgreesWith}
use Rattle.machine_base.specs.declared.answer.Answer.{Answer}
use Rattle.query_text.specs.declared.query.Query.{Query}
use Rattle.cert_text.specs.declared.outcome.Outcome.TheVariants.{Answered, Refused}
use Rattle.cert_text.specs.declared.refusal.Refusal.{Refusal}
use Rattle.cert_text.specs.Outcome.{certificate_of, factor_for}
use Rattle.cert_text.specs.Guarantee.{guarantee_by}
use Rattle.query_core.specs.declared.ready.Ready.{Ready as ReadyQuery}
use Rattle.query_core.specs.Methods.{IsGoodBy}
use Rattle.query_core.specs.Ready.{method_of_ready}
use Rattle.query_core.specs.OneAnswer.{asked_by, IsAnsweredWith}
use Rattle.query_admission.specs.View.{View}
use Rattle.query_run.specs.declared.ended.Ended.{Ended}
use Rattle.query_run.specs.declared.ended.Ended.TheVariants as ended
use Rattle.query_run.specs.declared.running_query.RunningQuery.{RunningQuery}
use Rattle.query_run.specs.Endings.{IsRight}
use Rattle.query_admission.specs.declared.line_outcome.LineOutcome.{LineOutcome}
use Rattle.catalog_text.specs.Catalog.{Listed as Entry}
use Rattle.catalog_open.specs.Views.{view_over, nothing_told}
use Rattle.topk_top.specs.Answers.{method_in, IsGoodAsPrinted, IsRightLine}
use Rattle.query_core.proofs.ClaimLaws.{written_back}
use Rattle.topk_top.proofs.InOrder.{ready_method}
use Rattle.line_outcome.specs.Outcomes.{ended_outcome, look_refusal}
use Rattle.catalog_run.specs.Runs.{CatalogRun, IsRun, IsLineRun, AreOutcomes}
use Rattle.line_outcome.specs.LineOutcomes.{IsLineRefused}

pub refused_answered : (refusal : Refusal) (answer : Answer) → Refused refusal ≡ Answered answer → ⊥
refused_answered refusal answer e = cc

pub never_answered : (o : Option Refusal) (answer : Answer) → option_map Refused o ≡ Some (Answered answer) → ⊥
never_answered None answer e = cc
never_answered (Some refusal) answer e = refused_answered refusal answer (same_Some (Refused refusal) (Answered answer) e)

pub same_answer : {one other : Answer} → Answered one ≡ Answered other → one ≡ other
same_answer e = cc

-- the answer that a query ended rightly with
pub ended_right : (ready : ReadyQuery) (e : Ended) (answer : Answer) → IsRight ready e → ended_outcome e ≡ Some (Answered answer)
    → IsAnsweredWith (method_of_ready ready) ready.query ready.count answer
ended_right ready (ended.Answered other) answer right is =
    subst (IsAnsweredWith (method_of_ready ready) ready.query ready.count) (same_answer (same_Some (Answered other) (Answered answer) is)) right
ended_right ready (ended.Core fault) answer right is = absurd (refused_answered _ answer (same_Some _ (Answered answer) is))
ended_right ready (ended.Look list fault) answer right is = absurd (never_answered (look_refusal list fault) answer is)

-- a right answer is as good as its certificate says
as_printed : (catalog : List Entry) (q : Query) (count : ℕ) (versions : List ℕ) (answer : Answer) → IsAnsweredWith (method_in catalog q) q count answer
    → (line : ℕ) (D : List (List Row)) → AgreesWith D answer.transcript → IsGoodAsPrinted (certificate_of line q count versions answer) D
as_printed catalog q count versions answer right line D agrees =
    let Y = item_objects answer.items in
    subst (λ factor. IsGoodBy factor (asked_by q) D Y) (sym (written_back (factor_for q answer)))
    (subst (λ m. IsGoodBy (guarantee_by q.algorithm (value q.expr) m answer.transcript.accesses Y) (asked_by q) D Y) agrees.lists (right.every D agrees).top)

module _ (r : CatalogRun) (outcomes : List LineOutcome) (run : IsRun r outcomes) where
  abbrev Z : View
  Z = view_over r.catalog run.openings nothing_told

  refused_right : (number : ℕ) (bytes : List ℕ) (o : LineOutcome) → IsLineRefused Z number bytes o → IsRightLine r o
  refused_right number bytes o is = λ answer e. absurd (refused_answered is.refusal answer (sym is.outcome ∙ e))

  run_right : (q : RunningQuery) (number : ℕ) (bytes : List ℕ) (o : LineOutcome) → IsLineRun Z q number bytes o → IsRightLine r o
  run_right q number bytes o is = λ answer e.
      let query = is.ready.query in
      let right = subst (λ method. IsAnsweredWith method query is.ready.count answer) (ready_method r.catalog run.openings number bytes is.ready is.admitted)
      (ended_right is.ready is.ended answer is.right (is.outcome.outcome ∙ ap Some e)) in
      let counted = subst (λ count. IsAnsweredWith (method_in r.catalog query) query count answer) (sym is.outcome.count) right in
      (query, is.outcome.query, record { answered = counted; printed = as_printed r.catalog query o.count o.versions answer counted })

  all_right : (queries : List RunningQuery) (number : ℕ) (lines : List (List ℕ)) (others : List LineOutcome) → AreOutcomes Z queries number lines others
      → AllByRecursion (IsRightLine r) others
  all_right queries number [] [] are = tt
  all_right queries number [] (o ∷ others) are = absurd are
  all_right queries number (bytes ∷ lines) [] are = absurd are
  all_right queries number (bytes ∷ lines) (o ∷ others) are = elim are [
    | inl refused ↦ (refused_right number bytes o refused.0, all_right queries (number + 1) lines others refused.1)
    | inr ran ↦ (run_right ran.0 number bytes o ran.3, all_right ran.1 (number + 1) lines others ran.4)
  ]

  pub lines_right : All (IsRightLine r) outcomes
  lines_right = All-from_recursion (IsRightLine r) outcomes (all_right run.ran.ran.queries 1 r.lines outcomes run.ran.outcomes_are)
