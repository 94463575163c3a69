-- How a connection of a query server ends.
use Rattle.std.specs.Prelude.{◌≡◌, ◌⊎◌, ℕ, Bool, true, false, List, codes, Option, None, Some, IfSome, Result, Ok, Err}
use Rattle.std.specs.Str.{bytes_eq}
use Rattle.tk_io.specs.Faults.{Rose}
use Rattle.wire.specs.Heads.{AnswersRequest}
use Rattle.wire.specs.Writing.{reply_text}
use Rattle.wire.specs.declared.fault.WireFault.{WireFault}
use Rattle.wire.specs.declared.request.Head.{Head}
use Rattle.wire.specs.declared.writing.Kind.TheVariants.{Text}
use Rattle.source_pool.specs.declared.hold.Hold.{Hold}
use Rattle.wire.specs.Refusals.{status_of, body_of, refusal_of, IsRefusedAs}
use Rattle.wire.specs.Replies.{asks_head, Sends}
use Rattle.wire.specs.declared.refusal.Refusal.{Refusal}
use Rattle.wire.specs.declared.refusal.Refusal.TheVariants.{NoMemory}
use Rattle.query_admission.specs.View.{View}
use Rattle.server_conn.specs.Asking.{AsksFor}
use Rattle.server_conn.specs.Becoming.{LineSaid, IsLineTold, RunsShort}
use Rattle.server_conn.specs.Answers.{LineAnswer, text_of, remembering}
use Rattle.server_conn.specs.Proving.{TookProved}
use Rattle.wire.specs.declared.replying.ConnEnd.TheVariants.{LinkFault}
use Rattle.server_conn.specs.declared.conn.Turn.{Turn}

-- what a worker keeps from one connection to the next: what its pass holds, and the answers that it remembers
pub record WorkerState : Type 0 where
  pub holds : List Hold
  pub answers : List LineAnswer

-- what stands before and after a connection: the bytes that the link had to give and those that it took, where it tells them, its counts of
-- faults, and what the worker keeps
pub record Visit : Type 0 where
  pub came : Option (List ℕ)
  pub held : Option (List ℕ)
  pub held_now : Option (List ℕ)
  pub read_faults : ℕ
  pub read_faults_now : ℕ
  pub write_faults : ℕ
  pub write_faults_now : ℕ
  pub before : WorkerState
  pub now : WorkerState

-- a query line is told what becomes of it; or no memory was left, and its query ran some way or not at all
abbrev pub Tells : View → List ℕ → List Hold → List Hold → Result LineSaid Refusal → Type 0
Tells view line before now (Ok told) = IsLineTold view line before now told
Tells view line before now (Err NoMemory) = RunsShort view 1 line before now
Tells view line before now (Err _) = ⊥

-- what is remembered once a line was answered so
abbrev pub remembered : List LineAnswer → List ℕ → Result LineSaid Refusal → List LineAnswer
remembered answers line (Ok told) = remembering answers line told
remembered answers line (Err why) = answers

-- what is told of a line whose answer is remembered
abbrev pub told_again : List ℕ → LineSaid
told_again text = record { text = text; answered = true; moved = false }

-- a line is answered by the text that is remembered of it, and what the worker keeps stays; or it is told now, and its answer is remembered
abbrev pub AnswersBy : Option (List ℕ) → View → List ℕ → WorkerState → WorkerState → Result LineSaid Refusal → Type 0
AnswersBy (Some text) view line before now answer = (answer ≡ Ok (told_again text)) × (now ≡ before)
AnswersBy None view line before now answer = Tells view line before.holds now.holds answer × (now.answers ≡ remembered before.answers line answer)

abbrev pub AnswersLine : View → List ℕ → WorkerState → WorkerState → Result LineSaid Refusal → Type 0
AnswersLine view line before now answer = AnswersBy (text_of line before.answers) view line before now answer

-- how a request with this method and this target is answered: by its line; or it is refused, as it asks or since no memory was left, and what the worker
-- keeps stays
abbrev pub Serves : View → List ℕ → List ℕ → WorkerState → WorkerState → Result LineSaid Refusal → Type 0
Serves view method target before now answer =
    ((line : List ℕ) × AsksFor method target (Ok line) × AnswersLine view line before now answer)
    ⊎ ((why : Refusal) × AsksFor method target (Err why) × (answer ≡ Err why) × (now ≡ before))

-- how what was heard is answered: a head, or what kept it from being read, which is refused, and what the worker keeps stays
abbrev pub ServesHeard : View → Result Head WireFault → WorkerState → WorkerState → Result LineSaid Refusal → Type 0
ServesHeard view (Ok head) before now answer = Serves view head.method head.target.items before now answer
ServesHeard view (Err fault) before now answer = IsRefusedAs (refusal_of fault) before now answer

-- the status of an answer
abbrev pub status_in : Result LineSaid Refusal → ℕ
status_in (Ok told) = 200
status_in (Err why) = status_of why

-- the reply in plain text: what is told, or the reason of a refusal, which has no body in a reply to the method HEAD
abbrev pub reply_of : Bool → Result LineSaid Refusal → List ℕ
reply_of is_head (Ok told) = reply_text 200 Text (Some told.text)
reply_of is_head (Err why) = reply_text (status_of why) Text (body_of is_head why)

-- whether an answer tells that a source moved
abbrev pub moved_in : Result LineSaid Refusal → Bool
moved_in (Ok told) = told.moved
moved_in (Err why) = false

-- a request was read to the end of its head, or as far as it was none or no memory was left, and answered
pub record IsVisitServed (view : View) (visit : Visit) : Type 0 where
  pub heard : Result Head WireFault
  pub answer : Result LineSaid Refusal
  pub reads : IfSome visit.came (λ bytes. AnswersRequest bytes heard)
  pub quiet : visit.read_faults_now ≡ visit.read_faults
  pub serves : ServesHeard view heard visit.before visit.now answer

-- a reply was sent of this answer, and it is told whether a source moved
pub record SendsAnswer (is_head : Bool) (answer : Result LineSaid Refusal) (held held_now : Option (List ℕ)) (faults faults_now : ℕ) (turn : Turn) : Type 0 where
  pub sends : Sends held held_now faults faults_now (status_in answer) (reply_of is_head answer) turn.end
  pub moved : turn.moved ≡ moved_in answer

-- the reply to a request that was answered
abbrev pub SendsReply : (view : View) (visit : Visit) → IsVisitServed view visit → Turn → Type 0
SendsReply view visit served turn =
    SendsAnswer (asks_head served.heard) served.answer visit.held visit.held_now visit.write_faults visit.write_faults_now turn

-- the link failed while the request was read: nothing was written, and what the worker keeps stays
pub record FailsToRead (visit : Visit) (turn : Turn) : Type 0 where
  pub end : turn.end ≡ LinkFault
  pub moved : turn.moved ≡ false
  pub rose : Rose visit.read_faults visit.read_faults_now
  pub held : visit.held_now ≡ visit.held
  pub writes : visit.write_faults_now ≡ visit.write_faults
  pub stays : visit.now ≡ visit.before

-- the request was answered, and the reply written or a front of it; or the link failed while the request was read
abbrev pub EndsBy : View → Visit → Turn → Type 0
EndsBy view visit turn = ((served : IsVisitServed view visit) × SendsReply view visit served turn) ⊎ FailsToRead visit turn

-- how a connection ends, and that what was written of the query line is proved
pub record Ends (view : View) (visit : Visit) (turn : Turn) : Type 0 where
  pub ends : EndsBy view visit turn
  pub proves : TookProved visit.held visit.held_now

-- a head was answered and the reply written, or a front of it
abbrev pub IsRepliedTo : View → List ℕ → List ℕ → WorkerState → WorkerState → Option (List ℕ) → Option (List ℕ) → ℕ → ℕ → Turn → Type 0
IsRepliedTo view method target before now held held_now faults faults_now turn =
    (answer : Result LineSaid Refusal) × Serves view method target before now answer
    × SendsAnswer (bytes_eq method (codes "HEAD")) answer held held_now faults faults_now turn

-- a query line was answered and the reply written, or a front of it
abbrev pub IsLineReplied : View → List ℕ → Bool → WorkerState → WorkerState → Option (List ℕ) → Option (List ℕ) → ℕ → ℕ → Turn → Type 0
IsLineReplied view line is_head before now held held_now faults faults_now turn =
    (answer : Result LineSaid Refusal) × AnswersLine view line before now answer × SendsAnswer is_head answer held held_now faults faults_now turn
