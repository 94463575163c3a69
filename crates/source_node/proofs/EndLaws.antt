-- How a connection ends, by how its parts did.
use Rattle.std.proofs.Common.{◌≡◌, ℕ, Bool, true, false, cond, ap, inl, inr, List, [], ◌∷◌, length, codes, Option, Some, None, IfSome, Result, Ok, Err, refl, sym, subst, ◌∙◌}
use Rattle.std.specs.Result.{IsOk}
use Rattle.std.specs.Str.{bytes_eq}
use Rattle.wire.specs.Heads.{AnswersRequest}
use Rattle.wire.specs.declared.fault.WireFault.{WireFault}
use Rattle.wire.specs.declared.request.Head.{Head}
use Rattle.wire.specs.LinkTold.{Counts as Counted}
use Rattle.wire.specs.Refusals.{status_of, body_of, refusal_of, IsRefusedAs}
use Rattle.source_api.specs.declared.counts.Counts.{Counts}
use Rattle.source_api.specs.declared.source.Trouble.{Trouble}
use Rattle.source_api.specs.declared.source.FailKind.TheVariants as kind
use Rattle.source_api.specs.declared.source.Trouble.TheVariants as trouble
use Rattle.source_api.specs.Calls.{Call}
use Rattle.source_api.specs.Counting.{TroubleHasCause, gave_rows, gave_grade}
use Rattle.source_node.specs.Asking.{OnRoute, on_route, by_parts, route_of, routed, asked_at, asked_of, AsksAt, AsksFor, HasCount}
use Rattle.source_node.specs.Serving.{Seen, Answers, Fails, IsQuiet, given_by}
use Rattle.source_node.specs.Connections.{Visit, IsTroubled, IsFailed, IsStarved, StarvesAt, Serving, ServesAsked, Serves, ServesHeard, status_in, reply_of, IsServed, Ends}
use Rattle.wire.specs.Replies.{asks_head, Sends}
use Rattle.wire.proofs.RefusalLaws.{refused_quiet}
use Rattle.wire.specs.Targets.{Parts, parts_of}
use Rattle.wire.specs.Writing.{reply_text}
use Rattle.wire.specs.declared.writing.Kind.TheVariants.{Text, Json}
use Rattle.source_node.specs.declared.answer.Answer.{Answer}
use Rattle.source_node.specs.declared.asked.Asked.{Asked}
use Rattle.source_node.specs.declared.asked.Route.{Route}
use Rattle.wire.specs.declared.replying.ConnEnd.{ConnEnd}
use Rattle.wire.specs.declared.replying.ConnEnd.TheVariants.{Replied, LinkFault}
use Rattle.wire.specs.declared.refusal.Refusal.{Refusal}
use Rattle.wire.specs.declared.refusal.Refusal.TheVariants.{TooLarge, BadRequest, NotFound, MethodNotAllowed, SourceFailed, NoMemory}
use Rattle.source_node.proofs.PageLaws.{quiet_same, quiet_then, quiet_rows}

-- calls that were answered count no trouble
pub quiet_given : (calls : List Call) (counts : Counts) → IsQuiet counts (given_by calls counts)
quiet_given [] counts = quiet_same counts counts refl
quiet_given (Call.Size answer ∷ calls) counts = quiet_given calls counts
quiet_given (Call.Page from count (Ok page) ∷ calls) counts =
    quiet_then counts (gave_rows (length page) counts) (given_by calls (gave_rows (length page) counts))
    (quiet_rows counts (gave_rows (length page) counts) (length page) refl) (quiet_given calls (gave_rows (length page) counts))
quiet_given (Call.Page from count (Err why) ∷ calls) counts = quiet_given calls counts
quiet_given (Call.Grade object (Ok grade) ∷ calls) counts =
    quiet_then counts (gave_grade counts) (given_by calls (gave_grade counts)) record { faults = refl; garbles = refl; moves = refl } (quiet_given calls (gave_grade counts))
quiet_given (Call.Grade object (Err why) ∷ calls) counts = quiet_given calls counts

-- a source that gave no answer, and not for lack of memory, raised a count
pub troubled : (asked : Asked) (before now : Seen) (why : Trouble) → Fails asked before now why → (why ≡ trouble.Fail kind.Memory → ⊥) → IsFailed asked before now
troubled asked before now why fails other = record { why = why; fails = fails; troubled = by why fails.cause other }
  where
    by : (why : Trouble) → TroubleHasCause before.counts now.counts why → (why ≡ trouble.Fail kind.Memory → ⊥) → IsTroubled before.counts now.counts
    by (trouble.Fail kind.Failed) cause other = inl cause
    by (trouble.Fail kind.Garbled) cause other = inr (inl cause)
    by (trouble.Fail kind.Memory) cause other = absurd (other refl)
    by (trouble.Moved had then) cause other = inr (inr cause)

-- no memory was left while a source was asked
pub starved_asking : (asked : Asked) (before now : Seen) (why : Trouble) → Fails asked before now why → why ≡ trouble.Fail kind.Memory → IsStarved asked before now
starved_asking asked before now why fails is =
    let wants : Fails asked before now (trouble.Fail kind.Memory) = subst (Fails asked before now) is fails in
    record { asks = inl wants; quiet = subst (λ (c : Counts). IsQuiet before.counts c) (sym wants.alone) (quiet_given wants.calls before.counts) }

-- no memory was left for the text of an answer
pub starved_writing : (asked : Asked) (before now : Seen) (answer : Answer) → Answers asked before now answer → IsStarved asked before now
starved_writing asked before now answer answers =
    record { asks = inr (answer, answers); quiet = subst (λ (c : Counts). IsQuiet before.counts c) (sym answers.counted) (quiet_given answers.calls before.counts) }

-- a source that wasn't asked
unasked : (at : Result Asked Refusal) (before : Seen) → StarvesAt at before before
unasked (Ok asked) before = inl refl
unasked (Err why) before = refl

-- what is asked stands on a route
stands : (at : Result OnRoute Refusal) (asked : Asked) → Ok asked ≡ asked_at at → IsOk at
stands (Ok at) asked is = refl
stands (Err why) asked is = absurd cc

-- a head that is refused for another reason than memory is refused as it asks
pub asks_refused : (at : Result OnRoute Refusal) (why : Refusal) → at ≡ Err why → (at ≡ Err NoMemory → ⊥) → AsksAt at (Err why)
asks_refused at NoMemory is other = absurd (other is)
asks_refused at TooLarge is other = sym (ap asked_at is)
asks_refused at BadRequest is other = sym (ap asked_at is)
asks_refused at NotFound is other = sym (ap asked_at is)
asks_refused at MethodNotAllowed is other = sym (ap asked_at is)
asks_refused at SourceFailed is other = sym (ap asked_at is)

-- a route is found without memory
pub no_memory : (name method target : List ℕ) → routed name method target ≡ Err NoMemory → ⊥
no_memory name method target is = by_method (bytes_eq method (codes "GET")) is
  where
    by_route : (query : List ℕ) (call : Option Route) → on_route query call ≡ Err NoMemory → ⊥
    by_route query None e = absurd cc
    by_route query (Some call) e = absurd cc

    by_target : (parts : Option Parts) → by_parts name parts ≡ Err NoMemory → ⊥
    by_target None e = absurd cc
    by_target (Some parts) e = by_route parts.query (route_of name parts.path) e

    by_method : (t : Bool) → cond t (by_parts name (parts_of target)) (Err MethodNotAllowed) ≡ Err NoMemory → ⊥
    by_method true e = by_target (parts_of target) e
    by_method false e = absurd cc

-- what a head asks is served
pub serves_asked : (name method target : List ℕ) (version : Option ℕ) (before now : Seen) (asked : Asked) (answer : Result (List ℕ) Refusal)
    → Ok asked ≡ asked_of name method target → HasCount asked → Serving version asked before now answer → Serves name version method target before now answer
serves_asked name method target version before now asked (Ok body) is count serving =
    subst (λ (a : Result Asked Refusal). ServesAsked version a before now (Ok body)) is (count, serving)
serves_asked name method target version before now asked (Err SourceFailed) is count serving =
    subst (λ (a : Result Asked Refusal). ServesAsked version a before now (Err SourceFailed)) is (count, serving)
serves_asked name method target version before now asked (Err NoMemory) is count serving =
    (stands (routed name method target) asked is, subst (λ (a : Result Asked Refusal). StarvesAt a before now) is (inr (count, serving)))
serves_asked name method target version before now asked (Err TooLarge) is count serving = absurd serving
serves_asked name method target version before now asked (Err BadRequest) is count serving = absurd serving
serves_asked name method target version before now asked (Err NotFound) is count serving = absurd serving
serves_asked name method target version before now asked (Err MethodNotAllowed) is count serving = absurd serving

-- a head that is refused is served without a call of the source
pub serves_refused : (name method target : List ℕ) (version : Option ℕ) (before : Seen) (why : Refusal) → AsksFor name method target (Err why)
    → Serves name version method target before before (Err why)
serves_refused name method target version before NoMemory asks = (asks, unasked (asked_of name method target) before)
serves_refused name method target version before TooLarge asks = subst (λ (a : Result Asked Refusal). ServesAsked version a before before (Err TooLarge)) asks (refl, refl)
serves_refused name method target version before BadRequest asks = subst (λ (a : Result Asked Refusal). ServesAsked version a before before (Err BadRequest)) asks (refl, refl)
serves_refused name method target version before NotFound asks = subst (λ (a : Result Asked Refusal). ServesAsked version a before before (Err NotFound)) asks (refl, refl)
serves_refused name method target version before MethodNotAllowed asks = subst (λ (a : Result Asked Refusal). ServesAsked version a before before (Err MethodNotAllowed)) asks (refl, refl)
serves_refused name method target version before SourceFailed asks = subst (λ (a : Result Asked Refusal). ServesAsked version a before before (Err SourceFailed)) asks (refl, refl)

-- a request that was served, and its reply
served_ends : (name : List ℕ) (version : Option ℕ) (visit : Visit) (end : ConnEnd) (served : IsServed name version visit)
    → Sends visit.held visit.held_now visit.write_faults visit.write_faults_now (status_in served.answer) (reply_of (asks_head served.heard) served.answer) end
    → Ends name version visit end
served_ends name version visit (Replied status) served sends = (served, sends)
served_ends name version visit LinkFault served sends = inr (served, sends)

-- the same by what was heard and what was answered, where the link took nothing while it was read
pub replied : (name : List ℕ) (version : Option ℕ) (visit : Visit) (held : Option (List ℕ)) (faults : ℕ) (heard : Result Head WireFault) (answer : Result (List ℕ) Refusal) (end : ConnEnd)
    → IfSome visit.came (λ bytes. AnswersRequest bytes heard) → visit.read_faults_now ≡ visit.read_faults → held ≡ visit.held → faults ≡ visit.write_faults
    → ServesHeard name version heard visit.source visit.source_now answer
    → Sends held visit.held_now faults visit.write_faults_now (status_in answer) (reply_of (asks_head heard) answer) end → Ends name version visit end
replied name version visit held faults heard answer end reads quiet same_held same_faults serves sends =
    served_ends name version visit end record { heard = heard; answer = answer; reads = reads; quiet = quiet; serves = serves }
    (subst (λ (h : Option (List ℕ)). Sends h visit.held_now visit.write_faults visit.write_faults_now (status_in answer) (reply_of (asks_head heard) answer) end) same_held
    (subst (λ n. Sends held visit.held_now n visit.write_faults_now (status_in answer) (reply_of (asks_head heard) answer) end) same_faults sends))

-- a request that was refused, since its head wasn't read
pub unheard : (name : List ℕ) (version : Option ℕ) (visit : Visit) (held : Option (List ℕ)) (faults mid : ℕ) (fault : WireFault) (why : Refusal) (end : ConnEnd)
    → refusal_of fault ≡ Some why → IfSome visit.came (λ bytes. AnswersRequest bytes (Err fault)) → Counted {T = Head} visit.read_faults mid (Err fault)
    → visit.read_faults_now ≡ mid → held ≡ visit.held → faults ≡ visit.write_faults → visit.source_now ≡ visit.source
    → Sends held visit.held_now faults visit.write_faults_now (status_of why) (reply_text (status_of why) Text (body_of false why)) end
    → Ends name version visit end
unheard name version visit held faults mid fault why end is reads counts later same_held same_faults same sends =
    replied name version visit held faults (Err fault) (Err why) end reads (later ∙ refused_quiet visit.read_faults mid fault why is counts) same_held same_faults
    (subst (λ (o : Option Refusal). IsRefusedAs {A = List ℕ} o visit.source visit.source_now (Err why)) (sym is) (refl, same)) sends

-- a reply with an answer that is sent, by an equal body
pub answer_sent : (held held_now : Option (List ℕ)) (faults faults_now : ℕ) (body text : List ℕ) (end : ConnEnd) → body ≡ text
    → Sends held held_now faults faults_now 200 (reply_text 200 Json (Some body)) end → Sends held held_now faults faults_now 200 (reply_text 200 Json (Some text)) end
answer_sent held held_now faults faults_now body text end is sends =
    subst (λ (b : List ℕ). Sends held held_now faults faults_now 200 (reply_text 200 Json (Some b)) end) is sends

-- a reply with a refusal that is sent, by an equal test
pub refusal_sent : (held held_now : Option (List ℕ)) (faults faults_now : ℕ) (why : Refusal) (is_head test : Bool) (end : ConnEnd) → is_head ≡ test
    → Sends held held_now faults faults_now (status_of why) (reply_text (status_of why) Text (body_of is_head why)) end
    → Sends held held_now faults faults_now (status_of why) (reply_text (status_of why) Text (body_of test why)) end
refusal_sent held held_now faults faults_now why is_head test end is sends =
    subst (λ t. Sends held held_now faults faults_now (status_of why) (reply_text (status_of why) Text (body_of t why)) end) is sends
