-- How a connection ends, by how its parts did.
use Rattle.std.proofs.Common.{◌≡◌, ℕ, Bool, true, false, cond, List, codes, inl, inr, Option, Some, None, IfSome, Result, Ok, Err, refl, sym, ap, subst, ◌∙◌}
use Rattle.std.specs.Str.{bytes_eq}
use Rattle.wire.specs.Targets.{Parts, parts_of}
use Rattle.wire.specs.Heads.{AnswersRequest}
use Rattle.wire.specs.LinkTold.{Counts}
use Rattle.wire.specs.declared.fault.WireFault.{WireFault}
use Rattle.wire.specs.declared.request.Head.{Head}
use Rattle.wire.specs.Writing.{reply_text}
use Rattle.wire.specs.declared.writing.Kind.TheVariants.{Text}
use Rattle.tk_io.specs.Faults.{Rose}
use Rattle.wire.specs.Refusals.{status_of, body_of, refusal_of, IsRefusedAs}
use Rattle.wire.proofs.RefusalLaws.{refused_quiet}
use Rattle.wire.specs.Replies.{asks_head, Sends}
use Rattle.wire.specs.declared.refusal.Refusal.{Refusal}
use Rattle.wire.specs.declared.refusal.Refusal.TheVariants.{TooLarge, BadRequest, NotFound, MethodNotAllowed, SourceFailed, NoMemory}
use Rattle.query_admission.specs.View.{View}
use Rattle.server_conn.specs.Answers.{Remembers}
use Rattle.server_conn.specs.Asking.{by_parts, routed, line_at, AsksAt, AsksFor}
use Rattle.server_conn.specs.Becoming.{LineSaid}
use Rattle.server_conn.specs.Connections.{WorkerState, Visit, AnswersLine, Serves, ServesHeard, SendsAnswer, Ends}
use Rattle.server_conn.proofs.Proving.{ends_proved}
use Rattle.wire.specs.declared.replying.ConnEnd.{ConnEnd}
use Rattle.wire.specs.declared.replying.ConnEnd.TheVariants.{LinkFault}
use Rattle.server_conn.specs.declared.conn.Turn.{Turn}

-- a head that is refused for another reason than memory is refused as it asks
pub asks_refused : (at : Result (List ℕ) Refusal) (why : Refusal) → at ≡ Err why → (at ≡ Err NoMemory → ⊥) → AsksAt at (Err why)
asks_refused at NoMemory is other = absurd (other is)
asks_refused at TooLarge is other = sym (ap line_at is)
asks_refused at BadRequest is other = sym (ap line_at is)
asks_refused at NotFound is other = sym (ap line_at is)
asks_refused at MethodNotAllowed is other = sym (ap line_at is)
asks_refused at SourceFailed is other = sym (ap line_at is)

-- the route is found without memory
pub no_memory : (method target : List ℕ) → routed method target ≡ Err NoMemory → ⊥
no_memory method target is = by_method (bytes_eq method (codes "GET")) is
  where
    by_path : (t : Bool) (query : List ℕ) → cond t (Ok query) (Err NotFound) ≡ Err NoMemory → ⊥
    by_path true query e = absurd cc
    by_path false query e = absurd cc

    by_target : (parts : Option Parts) → by_parts parts ≡ Err NoMemory → ⊥
    by_target None e = absurd cc
    by_target (Some parts) e = by_path (bytes_eq parts.path (codes "/top")) parts.query e

    by_method : (t : Bool) → cond t (by_parts (parts_of target)) (Err MethodNotAllowed) ≡ Err NoMemory → ⊥
    by_method true e = by_target (parts_of target) e
    by_method false e = absurd cc

-- the line that a head asks about is answered
pub serves_line : (view : View) (method target : List ℕ) (before now : WorkerState) (line bytes : List ℕ) (answer : Result LineSaid Refusal)
    → AsksFor method target (Ok line) → bytes ≡ line → AnswersLine view bytes before now answer → Serves view method target before now answer
serves_line view method target before now line bytes answer asks same answers =
    inl (line, asks, subst (λ (b : List ℕ). AnswersLine view b before now answer) same answers)

-- a head that is refused is answered so
pub serves_refused : (view : View) (method target : List ℕ) (state : WorkerState) (why : Refusal) → AsksFor method target (Err why)
    → Serves view method target state state (Err why)
serves_refused view method target state why asks = inr (why, asks, refl, refl)

-- a request that was answered, where the link took nothing while it was read
pub replied : (view : View) (visit : Visit) (held : Option (List ℕ)) (faults : ℕ) (heard : Result Head WireFault) (answer : Result LineSaid Refusal) (turn : Turn)
    → Remembers view visit.before.holds visit.before.answers → IfSome visit.came (λ bytes. AnswersRequest bytes heard) → visit.read_faults_now ≡ visit.read_faults → held ≡ visit.held → faults ≡ visit.write_faults
    → ServesHeard view heard visit.before visit.now answer
    → SendsAnswer (asks_head heard) answer held visit.held_now faults visit.write_faults_now turn → Ends view visit turn
replied view visit held faults heard answer turn remembers reads quiet same_held same_faults serves sends =
    ends_proved view visit turn remembers (inl (
      record { heard = heard; answer = answer; reads = reads; quiet = quiet; serves = serves },
      subst (λ (h : Option (List ℕ)). SendsAnswer (asks_head heard) answer h visit.held_now visit.write_faults visit.write_faults_now turn) same_held
          (subst (λ n. SendsAnswer (asks_head heard) answer held visit.held_now n visit.write_faults_now turn) same_faults sends),
    ))

-- a request that was refused, since its head wasn't read
pub unheard : (view : View) (visit : Visit) (held : Option (List ℕ)) (faults mid : ℕ) (fault : WireFault) (why : Refusal) (turn : Turn)
    → Remembers view visit.before.holds visit.before.answers → refusal_of fault ≡ Some why → IfSome visit.came (λ bytes. AnswersRequest bytes (Err fault)) → Counts {T = Head} visit.read_faults mid (Err fault)
    → visit.read_faults_now ≡ mid → held ≡ visit.held → faults ≡ visit.write_faults → visit.now ≡ visit.before
    → SendsAnswer false (Err why) held visit.held_now faults visit.write_faults_now turn → Ends view visit turn
unheard view visit held faults mid fault why turn remembers is reads counts later same_held same_faults same sends =
    replied view visit held faults (Err fault) (Err why) turn remembers reads (later ∙ refused_quiet visit.read_faults mid fault why is counts) same_held same_faults
    (subst (λ (o : Option Refusal). IsRefusedAs {A = LineSaid} o visit.before visit.now (Err why)) (sym is) (refl, same)) sends

-- a reply that is sent is that of its answer
pub refusal_sent : (held held_now : Option (List ℕ)) (faults faults_now : ℕ) (is_head : Bool) (why : Refusal) (end : ConnEnd) (turn : Turn)
    → turn ≡ record { end = end; moved = false }
    → Sends held held_now faults faults_now (status_of why) (reply_text (status_of why) Text (body_of is_head why)) end
    → SendsAnswer is_head (Err why) held held_now faults faults_now turn
refusal_sent held held_now faults faults_now is_head why end turn is sends =
    subst (λ (t : Turn). SendsAnswer is_head (Err why) held held_now faults faults_now t) (sym is) (record { sends = sends; moved = refl })

pub told_sent : (held held_now : Option (List ℕ)) (faults faults_now : ℕ) (body : List ℕ) (is_head : Bool) (told : LineSaid) (end : ConnEnd) (turn : Turn)
    → turn ≡ record { end = end; moved = told.moved } → body ≡ told.text → Sends held held_now faults faults_now 200 (reply_text 200 Text (Some body)) end
    → SendsAnswer is_head (Ok told) held held_now faults faults_now turn
told_sent held held_now faults faults_now body is_head told end turn is same sends =
    subst (λ (t : Turn). SendsAnswer is_head (Ok told) held held_now faults faults_now t) (sym is) (record {
      sends = subst (λ (b : List ℕ). Sends held held_now faults faults_now 200 (reply_text 200 Text (Some b)) end) same sends;
      moved = refl;
    })

-- the same by an equal test
pub by_test : (held held_now : Option (List ℕ)) (faults faults_now : ℕ) (is_head test : Bool) (answer : Result LineSaid Refusal) (turn : Turn) → is_head ≡ test
    → SendsAnswer is_head answer held held_now faults faults_now turn → SendsAnswer test answer held held_now faults faults_now turn
by_test held held_now faults faults_now is_head test answer turn is sends = subst (λ t. SendsAnswer t answer held held_now faults faults_now turn) is sends

-- a link that failed while the request was read
pub unread : (view : View) (visit : Visit) (turn : Turn) → Remembers view visit.before.holds visit.before.answers → turn ≡ record { end = LinkFault; moved = false } → Rose visit.read_faults visit.read_faults_now
    → visit.held_now ≡ visit.held → visit.write_faults_now ≡ visit.write_faults → visit.now ≡ visit.before → Ends view visit turn
unread view visit turn remembers is rose held writes stays = ends_proved view visit turn remembers (inr (record {
  end = ap (λ (t : Turn). t.end) is;
  moved = ap (λ (t : Turn). t.moved) is;
  rose = rose;
  held = held;
  writes = writes;
  stays = stays;
}))
