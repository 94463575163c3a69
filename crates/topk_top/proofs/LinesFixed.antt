-- What is written of answered lines is fixed, of a run and of a server.
use Rattle.std.proofs.Common.{◌≡◌, ℕ, zero, suc, ◌+◌, ◌≤◌, List, [], ◌∷◌, inl, inr, Some, slice_get, sym, ap, ◌∙◌, subst, arith}
use Rattle.std.proofs.lemmas.Option.{same_Some}
use Rattle.source_pool.specs.declared.hold.Hold.{Hold}
use Rattle.cert_text.specs.Outcome.{outcome_text}
use Rattle.query_core.specs.declared.ready.Ready.{Ready as ReadyQuery}
use Rattle.query_admission.specs.View.{View}
use Rattle.query_admission.specs.Causes.{line_over}
use Rattle.query_admission.specs.Admission.{IsAdmitted}
use Rattle.query_admission.specs.declared.line_outcome.LineOutcome.{LineOutcome}
use Rattle.query_run.specs.declared.ended.Ended.{Ended}
use Rattle.query_run.specs.declared.running_query.RunningQuery.{RunningQuery}
use Rattle.query_run.specs.Endings.{IsRight}
use Rattle.line_outcome.specs.LineOutcomes.{IsEndedAs, IsLineRefused}
use Rattle.catalog_run.specs.Runs.{AreOutcomes}
use Rattle.catalog_run.specs.Running.{line_text}
use Rattle.catalog_run.proofs.Readies.{admitted_few}
use Rattle.server_conn.specs.Becoming.{LineSaid, IsLineTold, IsRunHere, BecomesHere}
use Rattle.server_conn.specs.Answers.{LineAnswer, IsAnswered}
use Rattle.topk_top.specs.Laws.{FitsItsTypes, IsFixedIfAnswered}
use Rattle.topk_top.proofs.Right.{refused_answered, ended_right}
use Rattle.topk_top.proofs.AnswersFixed.{answer_fixed}

-- a line that is refused before it runs isn't answered
refused_fixed : (view : View) (number : ℕ) (bytes : List ℕ) (o : LineOutcome) (text : List ℕ) → IsLineRefused view number bytes o → IsFixedIfAnswered o text
refused_fixed view number bytes o text is = λ answer e. absurd (refused_answered is.refusal answer (sym is.outcome ∙ e))

-- the text of a line whose query ended
ended_fixed : (view : View) (number : ℕ) (bytes : List ℕ) (ready : ReadyQuery) (ended : Ended) (o : LineOutcome) → 1 ≤ number
    → IsAdmitted (line_over view number bytes) ready → IsRight ready ended → IsEndedAs ready ended o → IsFixedIfAnswered o (line_text number o)
ended_fixed view number bytes ready ended o from admitted right is = λ answer e fits.
    let few = admitted_few view number bytes admitted.unrefused in
    let sound = admitted.sound in
    answer_fixed ready.sorted.items number ready.query ready.count ready.versions.items answer (line_text number o) from (omega (arith, few))
    (record {
      lawful = sound.lawful;
      expr = sound.expr;
      fits = sound.fits;
      few = sound.counted;
      versioned = sound.versions;
      right = ended_right ready ended answer right (is.outcome ∙ ap Some e);
      typed = subst (λ versions. FitsItsTypes versions answer) is.versions fits;
    })
    (λ i. outcome_text number (is.query i) (is.count i) (is.versions i) (e i))

-- the texts of the lines of a run
pub lines_fixed : (view : View) (queries : List RunningQuery) (number : ℕ) (lines : List (List ℕ)) (outcomes : List LineOutcome) (at : ℕ) (o : LineOutcome)
    → 1 ≤ number → AreOutcomes view queries number lines outcomes → slice_get outcomes at ≡ Some o → IsFixedIfAnswered o (line_text (number + at) o)
lines_fixed view queries number [] [] at o from are e = absurd cc
lines_fixed view queries number [] (first ∷ others) at o from are e = absurd are
lines_fixed view queries number (bytes ∷ lines) [] at o from are e = absurd are
lines_fixed view queries number (bytes ∷ lines) (first ∷ others) zero o from are e =
    let here : first ≡ o = same_Some first o e in
    let own : number ≡ number + zero = omega arith in
    subst (λ n. IsFixedIfAnswered o (line_text n o)) own (subst (λ p. IsFixedIfAnswered p (line_text number p)) here (elim are [
      | inl refused ↦ refused_fixed view number bytes first (line_text number first) refused.0
      | inr ran ↦ let run = ran.3 in ended_fixed view number bytes run.ready run.ended first from run.admitted run.right run.outcome
    ]))
lines_fixed view queries number (bytes ∷ lines) (first ∷ others) (suc at) o from are e =
    let next : number + 1 + at ≡ number + suc at = omega arith in
    let later : 1 ≤ number + 1 = omega arith in
    subst (λ n. IsFixedIfAnswered o (line_text n o)) next (elim are [
      | inl refused ↦ lines_fixed view queries (number + 1) lines others at o later refused.1 e
      | inr ran ↦ lines_fixed view ran.1 (number + 1) lines others at o later ran.4 e
    ])

-- the text of a line of a request
run_fixed : (view : View) (bytes : List ℕ) (before now : List Hold) (o : LineOutcome) → IsRunHere view 1 bytes before now o
    → IsFixedIfAnswered o (line_text 1 o)
run_fixed view bytes before now o is =
    ended_fixed view 1 bytes is.ready is.runs.ended o (omega arith) is.admitted is.runs.right is.runs.outcome

becomes_fixed : (view : View) (bytes : List ℕ) (before now : List Hold) (o : LineOutcome) → BecomesHere view 1 bytes before now o
    → IsFixedIfAnswered o (line_text 1 o)
becomes_fixed view bytes before now o (inl refused) = refused_fixed view 1 bytes o (line_text 1 o) refused.0
becomes_fixed view bytes before now o (inr run) = run_fixed view bytes before now o run

pub told_fixed : (view : View) (line : List ℕ) (before now : List Hold) (told : LineSaid) (is : IsLineTold view line before now told)
    → IsFixedIfAnswered is.outcome told.text
told_fixed view line before now told is =
    subst (IsFixedIfAnswered is.outcome) (sym is.text) (becomes_fixed view line before now is.outcome is.becomes)

pub again_fixed : (view : View) (holds : List Hold) (answer : LineAnswer) (is : IsAnswered view holds answer) → IsFixedIfAnswered is.outcome answer.text
again_fixed view holds answer is =
    subst (IsFixedIfAnswered is.outcome) (sym is.text) (run_fixed view answer.line is.before is.after is.outcome is.run)
