-- How a connection of a node ends.
use Rattle.std.specs.Prelude.{◌≡◌, ℕ, Bool, ◌⊎◌, List, codes, Option, Some, IfSome, Result, Ok, Err, IsOk}
use Rattle.std.specs.Option.{unwrap_or}
use Rattle.std.specs.Str.{bytes_eq}
use Rattle.tk_io.specs.Faults.{Rose}
use Rattle.wire.specs.Heads.{AnswersRequest}
use Rattle.wire.specs.Writing.{reply_text}
use Rattle.wire.specs.declared.fault.WireFault.{WireFault}
use Rattle.wire.specs.declared.request.Head.{Head}
use Rattle.wire.specs.declared.writing.Kind.TheVariants.{Text, Json}
use Rattle.source_api.specs.declared.counts.Counts.{Counts}
use Rattle.source_api.specs.declared.source.Trouble.{Trouble}
use Rattle.source_api.specs.declared.source.FailKind.TheVariants as kind
use Rattle.source_api.specs.declared.source.Trouble.TheVariants.{Fail}
use Rattle.wire.specs.Refusals.{status_of, body_of, refusal_of, IsRefusedAs}
use Rattle.wire.specs.Replies.{asks_head, Sends}
use Rattle.source_node.specs.Asking.{routed, asked_of, HasCount}
use Rattle.source_node.specs.Serving.{Seen, Answers, Fails, IsQuiet, text_of}
use Rattle.source_node.specs.declared.asked.Asked.{Asked}
use Rattle.source_node.specs.declared.answer.Answer.{Answer}
use Rattle.wire.specs.declared.replying.ConnEnd.{ConnEnd}
use Rattle.wire.specs.declared.replying.ConnEnd.TheVariants.{Replied, LinkFault}
use Rattle.wire.specs.declared.refusal.Refusal.{Refusal}
use Rattle.wire.specs.declared.refusal.Refusal.TheVariants.{SourceFailed, NoMemory}

-- what stands before and after a connection: the bytes that the link had to give and those that it took, where it tells them, its
-- counts of faults, and the source
pub record Visit : Type 0 where
  pub came : Option (List ℕ)
  pub held : Option (List ℕ)
  pub held_now : Option (List ℕ)
  pub read_faults : ℕ
  pub read_faults_now : ℕ
  pub write_faults : ℕ
  pub write_faults_now : ℕ
  pub source : Seen
  pub source_now : Seen

-- an answer in JSON at the version that is told or else at hand, which states what the source answered
pub record IsAnswered (version : Option ℕ) (asked : Asked) (before now : Seen) (body : List ℕ) : Type 0 where
  pub answer : Answer
  pub answers : Answers asked before now answer
  pub text : body ≡ text_of (unwrap_or version now.at_hand) answer

-- a count of failed calls, of garbled ones or of moves rose
abbrev pub IsTroubled : Counts → Counts → Type 0
IsTroubled before now = Rose before.faults now.faults ⊎ (Rose before.garbles now.garbles ⊎ Rose before.moves now.moves)

-- a source gave no answer to what is asked, for another reason than memory, and a count of it rose
pub record IsFailed (asked : Asked) (before now : Seen) : Type 0 where
  pub why : Trouble
  pub fails : Fails asked before now why
  pub troubled : IsTroubled before.counts now.counts

-- no memory was left while the answer was made: the source was asked for nothing else, and it counted no trouble
pub record IsStarved (asked : Asked) (before now : Seen) : Type 0 where
  pub asks : Fails asked before now (Fail kind.Memory) ⊎ ((answer : Answer) × Answers asked before now answer)
  pub quiet : IsQuiet before.counts now.counts

-- what is asked is answered, or the source gave no answer, or no memory was left
abbrev pub Serving : Option ℕ → Asked → Seen → Seen → Result (List ℕ) Refusal → Type 0
Serving version asked before now (Ok body) = IsAnswered version asked before now body
Serving version asked before now (Err SourceFailed) = IsFailed asked before now
Serving version asked before now (Err NoMemory) = IsStarved asked before now
Serving version asked before now (Err _) = ⊥

-- a head is served as it asks; the source isn't asked where the head is refused
abbrev pub ServesAsked : Option ℕ → Result Asked Refusal → Seen → Seen → Result (List ℕ) Refusal → Type 0
ServesAsked version (Ok asked) before now answer = HasCount asked × Serving version asked before now answer
ServesAsked version (Err why) before now answer = (answer ≡ Err why) × (now ≡ before)

-- no memory was left while what is asked was read, or while it was answered
abbrev pub StarvesAt : Result Asked Refusal → Seen → Seen → Type 0
StarvesAt (Ok asked) before now = (now ≡ before) ⊎ (HasCount asked × IsStarved asked before now)
StarvesAt (Err why) before now = now ≡ before

-- how a request with this method and this target is served; lack of memory is free where it is on a route
abbrev pub Serves : List ℕ → Option ℕ → List ℕ → List ℕ → Seen → Seen → Result (List ℕ) Refusal → Type 0
Serves name version method target before now (Err NoMemory) = IsOk (routed name method target) × StarvesAt (asked_of name method target) before now
Serves name version method target before now answer = ServesAsked version (asked_of name method target) before now answer

-- how what was heard is served: a head, or what kept it from being read, which is refused without asking the source
abbrev pub ServesHeard : List ℕ → Option ℕ → Result Head WireFault → Seen → Seen → Result (List ℕ) Refusal → Type 0
ServesHeard name version (Ok head) before now answer = Serves name version head.method head.target.items before now answer
ServesHeard name version (Err fault) before now answer = IsRefusedAs (refusal_of fault) before now answer

-- the status of an answer
abbrev pub status_in : Result (List ℕ) Refusal → ℕ
status_in (Ok body) = 200
status_in (Err why) = status_of why

-- the reply: the answer in JSON, or the reason of a refusal in plain text, which has no body in a reply to HEAD
abbrev pub reply_of : Bool → Result (List ℕ) Refusal → List ℕ
reply_of is_head (Ok body) = reply_text 200 Json (Some body)
reply_of is_head (Err why) = reply_text (status_of why) Text (body_of is_head why)

-- a request was read to the end of its head, or as far as it was none or no memory was left, and served
pub record IsServed (name : List ℕ) (version : Option ℕ) (visit : Visit) : Type 0 where
  pub heard : Result Head WireFault
  pub answer : Result (List ℕ) Refusal
  pub reads : IfSome visit.came (λ bytes. AnswersRequest bytes heard)
  pub quiet : visit.read_faults_now ≡ visit.read_faults
  pub serves : ServesHeard name version heard visit.source visit.source_now answer

-- nothing was written, and the source wasn't asked
pub record IsUntouched (visit : Visit) : Type 0 where
  pub held : visit.held_now ≡ visit.held
  pub writes : visit.write_faults_now ≡ visit.write_faults
  pub source : visit.source_now ≡ visit.source

-- the reply to a request that was served
abbrev pub SendsReply : (name : List ℕ) (version : Option ℕ) (visit : Visit) → IsServed name version visit → ConnEnd → Type 0
SendsReply name version visit served end =
    Sends visit.held visit.held_now visit.write_faults visit.write_faults_now (status_in served.answer) (reply_of (asks_head served.heard) served.answer) end

-- how a connection ends: a request was served, and its reply written or a front of it; or the link failed while it was read
abbrev pub Ends : List ℕ → Option ℕ → Visit → ConnEnd → Type 0
Ends name version visit (Replied status) = (served : IsServed name version visit) × SendsReply name version visit served (Replied status)
Ends name version visit LinkFault =
    (Rose visit.read_faults visit.read_faults_now × IsUntouched visit)
    ⊎ ((served : IsServed name version visit) × SendsReply name version visit served LinkFault)

-- a head was served and its reply written, or a front of it
abbrev pub IsRepliedTo : List ℕ → Option ℕ → List ℕ → List ℕ → Seen → Seen → Option (List ℕ) → Option (List ℕ) → ℕ → ℕ → ConnEnd → Type 0
IsRepliedTo name version method target before now held held_now faults faults_now end =
    (answer : Result (List ℕ) Refusal) × Serves name version method target before now answer
    × Sends held held_now faults faults_now (status_in answer) (reply_of (bytes_eq method (codes "HEAD")) answer) end
