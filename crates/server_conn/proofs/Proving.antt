-- What a query server writes is proved.
use Rattle.std.proofs.Common.{◌≡◌, ℕ, Bool, List, [], Option, None, Some, Result, Ok, Err, inl, inr, refl, sym, subst, append-nil}
use Rattle.tk_io.specs.Whole.{TookFront}
use Rattle.wire.specs.declared.fault.WireFault.{WireFault}
use Rattle.wire.specs.declared.request.Head.{Head}
use Rattle.wire.specs.declared.refusal.Refusal.{Refusal}
use Rattle.wire.specs.declared.replying.ConnEnd.{ConnEnd}
use Rattle.wire.specs.declared.replying.ConnEnd.TheVariants.{Replied, LinkFault}
use Rattle.wire.specs.Refusals.{refusal_of, IsRefusedAs}
use Rattle.wire.specs.Replies.{asks_head, Sends}
use Rattle.source_pool.specs.declared.hold.Hold.{Hold}
use Rattle.query_admission.specs.View.{View}
use Rattle.query_admission.specs.declared.line_outcome.LineOutcome.{LineOutcome}
use Rattle.query_core.specs.Claim.{IsProvedText}
use Rattle.line_outcome.proofs.Proved.{ended_proved, line_refused_proved}
use Rattle.server_conn.specs.Becoming.{LineSaid, IsLineTold, IsRunHere, BecomesHere, line_text}
use Rattle.server_conn.specs.Answers.{LineAnswer, text_of, IsAnswered, Remembers}
use Rattle.server_conn.specs.Connections.{WorkerState, Visit, AnswersBy, Serves, ServesHeard, EndsBy, Ends, reply_of, status_in, told_again}
use Rattle.server_conn.specs.Proving.{IsProvedReply, TookProved}
use Rattle.server_conn.specs.declared.conn.Turn.{Turn}
use Rattle.server_conn.proofs.AnswerLaws.{found_answered}

run_proved : (view : View) (number : ℕ) (bytes : List ℕ) (before now : List Hold) (o : LineOutcome) → IsRunHere view number bytes before now o
    → IsProvedText (line_text o)
run_proved view number bytes before now o is = ended_proved is.ready is.runs.ended 1 o is.runs.right is.runs.outcome

becomes_proved : (view : View) (bytes : List ℕ) (before now : List Hold) (o : LineOutcome) → BecomesHere view 1 bytes before now o → IsProvedText (line_text o)
becomes_proved view bytes before now o (inl refused) = line_refused_proved view 1 bytes 1 o refused.0
becomes_proved view bytes before now o (inr run) = run_proved view 1 bytes before now o run

told_proved : (view : View) (bytes : List ℕ) (before now : List Hold) (told : LineSaid) → IsLineTold view bytes before now told → IsProvedText told.text
told_proved view bytes before now told is =
    subst IsProvedText (sym is.text) (becomes_proved view bytes before now is.outcome is.becomes)

again_proved : (view : View) (holds : List Hold) (answer : LineAnswer) → IsAnswered view holds answer → IsProvedText answer.text
again_proved view holds answer is = subst IsProvedText (sym is.text) (run_proved view 1 answer.line is.before is.after is.outcome is.run)

-- what a line is answered is proved, as what is remembered is
line_proved : (view : View) (line : List ℕ) (before now : WorkerState) (told : LineSaid) → Remembers view before.holds before.answers
    → (found : Option (List ℕ)) → text_of line before.answers ≡ found → AnswersBy found view line before now (Ok told) → IsProvedText told.text
line_proved view line before now told remembers None found is = told_proved view line before.holds now.holds told is.0
line_proved view line before now told remembers (Some text) found is =
    let same : told ≡ told_again text = let e = is.0 in cc in
    subst (λ (t : LineSaid). IsProvedText t.text) (sym same)
    (again_proved view before.holds (record { line = line; text = text }) (found_answered view line text before.holds before.answers remembers found))

asked_proved : (view : View) (method target : List ℕ) (before now : WorkerState) (told : LineSaid) → Remembers view before.holds before.answers
    → Serves view method target before now (Ok told) → IsProvedText told.text
asked_proved view method target before now told remembers (inl (line, asks, is)) =
    line_proved view line before now told remembers (text_of line before.answers) refl is
asked_proved view method target before now told remembers (inr (why, asks, e, stays)) = absurd cc

refused_none : (why : Option Refusal) (before now : WorkerState) (told : LineSaid) → IsRefusedAs why before now (Ok told) → IsProvedText told.text
refused_none None before now told is = absurd is
refused_none (Some why) before now told is = absurd (let e = is.0 in cc)

heard_proved : (view : View) (heard : Result Head WireFault) (before now : WorkerState) (told : LineSaid) → Remembers view before.holds before.answers
    → ServesHeard view heard before now (Ok told) → IsProvedText told.text
heard_proved view (Ok head) before now told remembers is = asked_proved view head.method head.target.items before now told remembers is
heard_proved view (Err fault) before now told remembers is = refused_none (refusal_of fault) before now told is

reply_proved : (view : View) (heard : Result Head WireFault) (before now : WorkerState) (is_head : Bool) (answer : Result LineSaid Refusal)
    → Remembers view before.holds before.answers → ServesHeard view heard before now answer → IsProvedReply (reply_of is_head answer)
reply_proved view heard before now is_head (Ok told) remembers is = inl (told.text, refl, heard_proved view heard before now told remembers is)
reply_proved view heard before now is_head (Err why) remembers is = inr (why, is_head, refl)

-- what was sent was taken, whole or a front of it
sent_front : (held now : Option (List ℕ)) (faults faults_now status : ℕ) (text : List ℕ) (end : ConnEnd) → Sends held now faults faults_now status text end
    → TookFront held now text
sent_front held now faults faults_now status text (Replied said) sends = (text, [], sym (append-nil text), sends.1)
sent_front held now faults faults_now status text LinkFault sends = sends.0

-- a connection that ends so took what is proved
turn_proves : (view : View) (visit : Visit) (turn : Turn) → Remembers view visit.before.holds visit.before.answers → EndsBy view visit turn
    → TookProved visit.held visit.held_now
turn_proves view visit turn remembers (inl served) =
    let is_head = asks_head served.0.heard in
    inr (
      reply_of is_head served.0.answer,
      reply_proved view served.0.heard visit.before visit.now is_head served.0.answer remembers served.0.serves,
      sent_front visit.held visit.held_now visit.write_faults visit.write_faults_now (status_in served.0.answer) (reply_of is_head served.0.answer) turn.end served.1.sends,
    )
turn_proves view visit turn remembers (inr unread) = inl unread.held

pub ends_proved : (view : View) (visit : Visit) (turn : Turn) → Remembers view visit.before.holds visit.before.answers → EndsBy view visit turn
    → Ends view visit turn
ends_proved view visit turn remembers ends = record { ends = ends; proves = turn_proves view visit turn remembers ends }
