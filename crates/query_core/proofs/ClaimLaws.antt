-- A right answer is proved by its certificate.
use Rattle.std.proofs.Common.{◌≡◌, ℕ, Bool, List, [], Option, Some, None, inl, inr, refl, sym, subst, option_map}
use Rattle.ranked_list.specs.declared.row.Row.{Row}
use Rattle.monotone_fn.specs.Shape.{list_count}
use Rattle.monotone_fn.specs.Value.{value}
use Rattle.topk_theory.specs.declared.access.Access.{Access}
use Rattle.topk_theory.specs.Transcript.{Agrees}
use Rattle.topk_theory.specs.Threshold.{item_objects}
use Rattle.algorithm_theory.specs.Within.{Factor}
use Rattle.access_log.specs.Log.{AgreesWith as AgreesLog}
use Rattle.machine_base.specs.declared.answer.Answer.{Answer}
use Rattle.query_text.specs.declared.query.Query.{Query}
use Rattle.cert_text.specs.Guarantee.{factor_of, guarantee_of, guarantee_by}
use Rattle.cert_text.specs.declared.refusal.Refusal.{Refusal}
use Rattle.cert_text.specs.declared.outcome.Outcome.TheVariants.{Answered, Refused}
use Rattle.cert_text.specs.Outcome.{certificate_of, factor_for, outcome_text}
use Rattle.query_core.specs.Methods.{method_with, IsGoodBy, FixesBy}
use Rattle.query_core.specs.OneAnswer.{asked_by, IsAnsweredWith}
use Rattle.query_core.specs.Claim.{IsProved, IsProvedText}

-- a factor that is written as a guarantee is read as itself
pub written_back : (factor : Option Factor) → option_map factor_of (option_map guarantee_of factor) ≡ factor
written_back None = refl
written_back (Some factor) = refl

-- a table agrees with as many lists of as many objects
pub agrees_as : (m n k l : ℕ) (D : List (List Row)) (A : List Access) → m ≡ k → n ≡ l → Agrees m n D A → Agrees k l D A
agrees_as m n k l D A e f h = subst (λ z. Agrees z l D A) e (subst (λ z. Agrees m z D A) f h)

-- a right answer is proved by the certificate that is made of it
pub right_proved : (sorted : List Bool) (line : ℕ) (q : Query) (n : ℕ) (versions : List ℕ) (answer : Answer)
    → IsAnsweredWith (method_with q.algorithm sorted) q n answer → IsProved sorted (certificate_of line q n versions answer)
right_proved sorted line q n versions answer right =
    let m = list_count q.expr in
    let A = answer.transcript.accesses in
    let Y = item_objects answer.items in
    let back : (D : List (List Row)) → Agrees m n D A → AgreesLog D answer.transcript = λ D agrees.
    agrees_as m n answer.transcript.lists answer.transcript.count D A (sym right.lists) (sym right.count) agrees in
    record {
      some = (right.some.0, agrees_as answer.transcript.lists answer.transcript.count m n right.some.0 A right.lists right.count right.some.1);
      run = λ D agrees. (right.every D (back D agrees)).run;
      top = λ D agrees.
          subst (λ factor. IsGoodBy factor (asked_by q) D Y) (sym (written_back (factor_for q answer)))
          (subst (λ k. IsGoodBy (guarantee_by q.algorithm (value q.expr) k A Y) (asked_by q) D Y) (back D agrees).lists (right.every D (back D agrees)).top);
      bounds = λ D agrees. (right.every D (back D agrees)).bounds;
      fixed =
          subst (λ factor. FixesBy factor (asked_by q) m n A Y) (sym (written_back (factor_for q answer)))
          (subst (λ k. FixesBy (factor_for q answer) (asked_by q) m k A Y) right.count
          (subst (λ k. FixesBy (factor_for q answer) (asked_by q) k answer.transcript.count A Y) right.lists right.fixed));
    }

-- the text of a refusal, and that of a right answer, are proved
pub refusal_proved : (line : ℕ) (query : Option Query) (count : ℕ) (versions : List ℕ) (refusal : Refusal)
    → IsProvedText (outcome_text line query count versions (Refused refusal))
unfolding outcome_text
refusal_proved line None count versions refusal = inl (line, [], refusal, refl)
refusal_proved line (Some query) count versions refusal = inl (line, query.names, refusal, refl)

pub answer_proved : (sorted : List Bool) (line : ℕ) (q : Query) (n : ℕ) (versions : List ℕ) (answer : Answer)
    → IsAnsweredWith (method_with q.algorithm sorted) q n answer → IsProvedText (outcome_text line (Some q) n versions (Answered answer))
unfolding outcome_text
answer_proved sorted line q n versions answer right =
    inr (sorted, certificate_of line q n versions answer, refl, right_proved sorted line q n versions answer right)
