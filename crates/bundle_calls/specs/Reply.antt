-- What is replied to an input.
use Rattle.std.specs.Prelude.{◌≡◌, ◌⊎◌, ℕ, List, [], ◌∷◌, codes, Option}
use Rattle.std.specs.List.{concat}
use Rattle.std.specs.Fmt.{decimal}
use Rattle.topk_base.specs.Lines.{lines}
use Rattle.bundle_text.specs.Bundle.{Content, Spells, IsFirstFault}
use Rattle.query_text.specs.declared.query.Query.{Query}
use Rattle.cert_text.specs.declared.outcome.Outcome.{Outcome}
use Rattle.cert_text.specs.declared.outcome.Outcome.TheVariants.{Answered, Refused}
use Rattle.cert_text.specs.Outcome.{outcome_text}
use Rattle.command_line.specs.declared.status.Status.{Status}
use Rattle.command_line.specs.declared.status.Status.TheVariants.{Done, Partial, BadInput}
use Rattle.query_admission.specs.Becomes.{Becomes}
use Rattle.bundle_calls.specs.Bundled.{bundle_line}

-- `refused bundle LINE`
abbrev pub bundle_refused_text : ℕ → List ℕ
bundle_refused_text line = concat (codes "refused bundle " ∷ decimal line ∷ codes "\n" ∷ [])

-- the status of an outcome: done exactly where the query is answered
abbrev pub outcome_status : Outcome → Status
outcome_status (Answered answer) = Done
outcome_status (Refused refusal) = Partial

-- the lines are no bundle's, and the text names the first of them with which no bundle begins
pub record RefusesBundle (ls : List (List ℕ)) (status : Status) (text : List ℕ) : Type 0 where
  pub no_bundle : (content : Content) → ¬ Spells ls content
  pub line : ℕ
  pub fault : IsFirstFault ls line
  pub status_is : status ≡ BadInput
  pub text_is : text ≡ bundle_refused_text line

-- the lines are a bundle's, and the text is that of what becomes of its query line, as line 1
pub record RepliesToBundle (ls : List (List ℕ)) (status : Status) (text : List ℕ) : Type 0 where
  pub content : Content
  pub spelled : Spells ls content
  pub query : Option Query
  pub count : ℕ
  pub versions : List ℕ
  pub outcome : Outcome
  pub becomes : Becomes (bundle_line content) query count versions outcome
  pub status_is : status ≡ outcome_status outcome
  pub text_is : text ≡ outcome_text 1 query count versions outcome

-- the status and the text that these lines are replied to with
abbrev pub RepliesToLines : List (List ℕ) → Status → List ℕ → Type 0
RepliesToLines ls status text = RefusesBundle ls status text ⊎ RepliesToBundle ls status text

-- the status and the text that an input of these bytes is replied to with: those of its lines
abbrev pub Replies : List ℕ → Status → List ℕ → Type 0
Replies bytes status text = RepliesToLines (lines bytes) status text
