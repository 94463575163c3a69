-- What a worker remembers of the lines that it answered.
use Rattle.std.proofs.Common.{◌≡◌, ◌++◌, ◌∷◌, [], ℕ, ◌≤◌, ◌+◌, ◌-◌, nat_le, Bool, true, false, cond, List, inl, inr, length, map, drop, Option, None, Some, Result, Ok, refl, sym, ap, subst, ◌∙◌, arith}
use Rattle.std.proofs.lemmas.Bool.{and_parts, leb-true}
use Rattle.std.proofs.lemmas.Option.{same_Some}
use Rattle.std.proofs.lemmas.List.{drop-append-le, drop-map, length-append, length-drop, length-map, map-append}
use Rattle.std.proofs.lemmas.List.Elements.{All-head, All-tail, All-push, All-drop, All-weaker}
use Rattle.std.proofs.lemmas.Slice.Eq.{bytes_eq-Decides}
use Rattle.std.specs.Str.{bytes_eq}
use Rattle.source_pool.specs.declared.hold.Hold.{Hold}
use Rattle.cert_text.specs.declared.outcome.Outcome.{Outcome}
use Rattle.cert_text.specs.declared.outcome.Outcome.TheVariants.{Refused}
use Rattle.cert_text.specs.declared.refusal.Refusal.{Refusal}
use Rattle.wire.specs.declared.refusal.Refusal.{Refusal as Why}
use Rattle.query_admission.specs.View.{View}
use Rattle.query_admission.specs.declared.line_outcome.LineOutcome.{LineOutcome}
use Rattle.query_run.specs.Advancing.{KnowsAll}
use Rattle.query_run.proofs.KnowsLaws.{knows_same, knows_on}
use Rattle.server_conn.specs.declared.answers.Answer.{Answer}
use Rattle.server_conn.specs.declared.answers.TheConstants.{MAX_ANSWERS, MAX_ANSWER}
use Rattle.server_conn.specs.Answers.{LineAnswer, line_answer, AreFew, text_of, newest, is_kept, remembering, IsAnswered, Remembers}
use Rattle.server_conn.specs.Becoming.{LineSaid, IsLineTold, is_answer}
use Rattle.server_conn.specs.Connections.{WorkerState, Tells, AnswersBy, AnswersLine, remembered, told_again}

-- what was answered stays so while the pass comes to know more
pub remembers_still : (view : View) (before now : List Hold) (answers : List LineAnswer) → KnowsAll before now → Remembers view before answers
    → Remembers view now answers
remembers_still view before now answers knows remembers =
    All-weaker (IsAnswered view before) (IsAnswered view now) (λ answer is. record {
      outcome = is.outcome;
      before = is.before;
      after = is.after;
      run = is.run;
      since = knows_on is.after before now is.since knows;
      answered = is.answered;
      text = is.text;
    }) answers remembers

-- a refusal is no answer
refuses : (o : LineOutcome) (refusal : Refusal) → o.outcome ≡ Refused refusal → is_answer o.outcome ≡ true → ⊥
refuses o refusal is answer =
    let no : is_answer (Refused refusal) ≡ true = subst (λ (x : Outcome). is_answer x ≡ true) is answer in
    absurd cc

-- what a line was told, if it is an answer, is that of a run of its query
told_answered : (view : View) (bytes : List ℕ) (before now : List Hold) (told : LineSaid) → IsLineTold view bytes before now told → told.answered ≡ true
    → IsAnswered view now (record { line = bytes; text = told.text })
told_answered view bytes before now told is answered =
    let answer : is_answer is.outcome.outcome ≡ true = sym is.answered ∙ answered in
    elim is.becomes [
      | inl refused ↦ absurd (refuses is.outcome refused.0.refusal refused.0.outcome answer)
      | inr run ↦ record {
        outcome = is.outcome;
        before = before;
        after = now;
        run = run;
        since = knows_same now;
        answered = answer;
        text = is.text;
      }
    ]

-- what is remembered once a line was told are answers
kept_by : (view : View) (line : List ℕ) (before now : List Hold) (told : LineSaid) (answers : List LineAnswer) → IsLineTold view line before now told
    → Remembers view now answers → (t : Bool) → is_kept told ≡ t
    → Remembers view now (cond {A = List LineAnswer} t (newest (answers ++ record { line = line; text = told.text } ∷ [])) answers)
kept_by view line before now told answers is still true keeps =
    let answer : LineAnswer = record { line = line; text = told.text } in
    let more : List LineAnswer = answers ++ answer ∷ [] in
    All-drop (IsAnswered view now) (length more - MAX_ANSWERS) more
    (All-push (IsAnswered view now) answers answer still
    (told_answered view line before now told is (and_parts told.answered (nat_le (length told.text) MAX_ANSWER) keeps).0))
kept_by view line before now told answers is still false keeps = still

pub remembers_told : (view : View) (line : List ℕ) (before now : List Hold) (told : LineSaid) (answers later : List LineAnswer) → KnowsAll before now
    → IsLineTold view line before now told → later ≡ remembering answers line told → Remembers view before answers → Remembers view now later
remembers_told view line before now told answers later knows is became remembers =
    subst (Remembers view now) (sym became)
    (kept_by view line before now told answers is (remembers_still view before now answers knows remembers) (is_kept told) refl)

-- the text that is remembered of a line is that of an answer to it
found_here : (view : View) (line text : List ℕ) (holds : List Hold) (answer : LineAnswer) (rest : List LineAnswer) → IsAnswered view holds answer
    → (text_of line rest ≡ Some text → IsAnswered view holds (record { line = line; text = text })) → (t : Bool) → bytes_eq answer.line line ≡ t
    → cond t (Some answer.text) (text_of line rest) ≡ Some text → IsAnswered view holds (record { line = line; text = text })
found_here view line text holds answer rest is later true same found =
    subst (λ (l : List ℕ). IsAnswered view holds (record { line = l; text = text })) ((bytes_eq-Decides answer.line line).0 same)
    (subst (λ (t : List ℕ). IsAnswered view holds (record { line = answer.line; text = t })) (same_Some answer.text text found) is)
found_here view line text holds answer rest is later false other found = later found

pub found_answered : (view : View) (line text : List ℕ) (holds : List Hold) (answers : List LineAnswer) → Remembers view holds answers
    → text_of line answers ≡ Some text → IsAnswered view holds (record { line = line; text = text })
found_answered view line text holds [] remembers found = absurd cc
found_answered view line text holds (answer ∷ answers) remembers found =
    found_here view line text holds answer answers (All-head (IsAnswered view holds) answer answers remembers)
    (found_answered view line text holds answers (All-tail (IsAnswered view holds) answer answers remembers)) (bytes_eq answer.line line) refl found

-- a line whose answer is remembered is answered by that
pub answered_again : (view : View) (line text : List ℕ) (state : WorkerState) → text_of line state.answers ≡ Some text
    → AnswersLine view line state state (Ok (told_again text))
answered_again view line text state found =
    subst (λ (f : Option (List ℕ)). AnswersBy f view line state state (Ok (told_again text))) (sym found) (refl, refl)

-- another is told now
pub answered_now : (view : View) (line : List ℕ) (before now : WorkerState) (answer : Result LineSaid Why) → text_of line before.answers ≡ None
    → Tells view line before.holds now.holds answer → now.answers ≡ remembered before.answers line answer → AnswersLine view line before now answer
answered_now view line before now answer none tells became =
    subst (λ (f : Option (List ℕ)). AnswersBy f view line before now answer) (sym none) (tells, became)

abbrev line_answer_of : List ℕ → List ℕ → LineAnswer
line_answer_of line text = record { line = line; text = text }

-- the newest are told as those that are kept
newest_told : (answers : List Answer) (answer : Answer) → map line_answer (newest (answers ++ answer ∷ [])) ≡ newest (map line_answer answers ++ line_answer answer ∷ [])
newest_told answers answer =
    let more : List Answer = answers ++ answer ∷ [] in
    sym (drop-map line_answer (length more - MAX_ANSWERS) more)
    ∙ (ap (λ (xs : List LineAnswer). drop (length more - MAX_ANSWERS) xs) (map-append line_answer answers (answer ∷ []))
    ∙ ap (λ n. drop (n - MAX_ANSWERS) (map line_answer answers ++ line_answer answer ∷ [])) (sym (length-map more line_answer) ∙ ap length (map-append line_answer answers (answer ∷ []))))

pub kept_told : (answers later : List Answer) (answer : Answer) (line : List ℕ) (told : LineSaid) → answer.line.items ≡ line → answer.text.items ≡ told.text
    → is_kept told ≡ true → later ≡ newest (answers ++ answer ∷ []) → map line_answer later ≡ remembering (map line_answer answers) line told
kept_told answers later answer line told at text kept became =
    let same : line_answer answer ≡ record { line = line; text = told.text } =
    ap (λ (l : List ℕ). line_answer_of l answer.text.items) at ∙ ap (line_answer_of line) text in
    ap (map line_answer) became ∙ (newest_told answers answer
    ∙ (ap (λ (a : LineAnswer). newest (map line_answer answers ++ a ∷ [])) same
    ∙ sym (ap (λ t. cond {A = List LineAnswer} t (newest (map line_answer answers ++ record { line = line; text = told.text } ∷ [])) (map line_answer answers)) kept)))

-- they are few
few_newest : (answers : List LineAnswer) (answer : LineAnswer) → AreFew answers → length answer.text ≤ MAX_ANSWER → AreFew (newest (answers ++ answer ∷ []))
few_newest answers answer few short =
    let more : List LineAnswer = answers ++ answer ∷ [] in
    let long : length (newest more) ≡ length more - (length more - MAX_ANSWERS) = length-drop (length more - MAX_ANSWERS) more in
    record {
      count = omega (arith, long);
      texts = All-drop (λ (a : LineAnswer). length a.text ≤ MAX_ANSWER) (length more - MAX_ANSWERS) more
          (All-push (λ (a : LineAnswer). length a.text ≤ MAX_ANSWER) answers answer few.texts short);
    }

pub few_kept : (answers later : List Answer) (answer : Answer) (told : LineSaid) → answer.text.items ≡ told.text → is_kept told ≡ true
    → later ≡ newest (answers ++ answer ∷ []) → AreFew (map line_answer answers) → AreFew (map line_answer later)
few_kept answers later answer told text kept became few =
    let within : length told.text ≤ MAX_ANSWER =
    leb-true (length told.text) MAX_ANSWER (and_parts told.answered (nat_le (length told.text) MAX_ANSWER) kept).1 in
    let short : length answer.text.items ≤ MAX_ANSWER = subst (λ (t : List ℕ). length t ≤ MAX_ANSWER) (sym text) within in
    subst AreFew (sym (ap (map line_answer) became ∙ newest_told answers answer)) (few_newest (map line_answer answers) (line_answer answer) few short)

-- room is made before one more comes
pub pushed_newest : (answers mid later : List Answer) (answer : Answer) → mid ≡ drop (length answers + 1 - MAX_ANSWERS) answers → later ≡ mid ++ answer ∷ []
    → later ≡ newest (answers ++ answer ∷ [])
pushed_newest answers mid later answer made pushed =
    let many : length (answers ++ answer ∷ []) ≡ length answers + 1 = length-append answers (answer ∷ []) in
    let within : length answers + 1 - MAX_ANSWERS ≤ length answers = omega arith in
    pushed ∙ (ap (λ (xs : List Answer). xs ++ answer ∷ []) made
    ∙ (sym (drop-append-le (length answers + 1 - MAX_ANSWERS) answers (answer ∷ []) within)
    ∙ ap (λ n. drop (n - MAX_ANSWERS) (answers ++ answer ∷ [])) (sym many)))
