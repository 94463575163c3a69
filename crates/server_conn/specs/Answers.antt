-- The answers that a worker remembers.
use Rattle.std.specs.Prelude.{◌≡◌, ◌≤◌, ◌-◌, ◌++◌, ◌∷◌, ◌&&◌, ℕ, Bool, true, List, [], All, Option, Some, None, length, drop, nat_le, if◌then◌else◌}
use Rattle.std.specs.Str.{bytes_eq}
use Rattle.source_pool.specs.declared.hold.Hold.{Hold}
use Rattle.query_run.specs.Advancing.{KnowsAll}
use Rattle.query_admission.specs.View.{View}
use Rattle.query_admission.specs.declared.line_outcome.LineOutcome.{LineOutcome}
use Rattle.server_conn.specs.declared.answers.Answer.{Answer}
use Rattle.server_conn.specs.declared.answers.TheConstants.{MAX_ANSWERS, MAX_ANSWER}
use Rattle.server_conn.specs.Becoming.{LineSaid, IsRunHere, is_answer, line_text}

-- a query line, and the text of its answer
pub record LineAnswer : Type 0 where
  pub line : List ℕ
  pub text : List ℕ

-- the same of what is kept
abbrev pub line_answer : Answer → LineAnswer
line_answer answer = record { line = answer.line.items; text = answer.text.items }

-- few answers, none of which is long
pub record AreFew (answers : List LineAnswer) : Type 0 where
  pub count : length answers ≤ MAX_ANSWERS
  pub texts : All (λ answer. length answer.text ≤ MAX_ANSWER) answers

-- the text that is remembered of a line
abbrev pub text_of : List ℕ → List LineAnswer → Option (List ℕ)
text_of line [] = None
text_of line (answer ∷ answers) = if bytes_eq answer.line line then Some answer.text else text_of line answers

-- the last of them, as many as may be
abbrev pub newest : {A : Type 0} → List A → List A
newest answers = drop (length answers - MAX_ANSWERS) answers

-- what is told of a line is to be remembered: it is an answer, and isn't too long
abbrev pub is_kept : LineSaid → Bool
is_kept told = told.answered && nat_le (length told.text) MAX_ANSWER

-- what is remembered once this was told of a line: such an answer comes last, and the oldest goes where there are too many
abbrev pub remembering : List LineAnswer → List ℕ → LineSaid → List LineAnswer
remembering answers line told = if is_kept told then newest (answers ++ record { line = line; text = told.text } ∷ []) else answers

-- the text is that of an answer which a run of the line's query got through the pass at some time, since when the pass knows no less
pub record IsAnswered (view : View) (holds : List Hold) (answer : LineAnswer) : Type 0 where
  pub outcome : LineOutcome
  pub before : List Hold
  pub after : List Hold
  pub run : IsRunHere view 1 answer.line before after outcome
  pub since : KnowsAll after holds
  pub answered : is_answer outcome.outcome ≡ true
  pub text : answer.text ≡ line_text outcome

-- all are answers over these lists that were got through the pass
abbrev pub Remembers : View → List Hold → List LineAnswer → Type 0
Remembers view holds answers = All (IsAnswered view holds) answers
