-- What the steps through a message answer.
use Rattle.std.proofs.Common.{◌≡◌, ℕ, true, false, List, [], Option, Some, None, IfSome, IfOk, IfErr, Result, Ok, Err, inl, inr, option_map, refl, sym, ap, subst, ◌∙◌}
use Rattle.std.proofs.lemmas.Bool.{false≢true}
use Rattle.httparse.specs.Grammar.{IsRequestHead, print_request, ResponseHead, IsResponseHead, print_response, status_code}
use Rattle.httparse.proofs.GrammarLemmas.{request_unique, response_unique}
use Rattle.wire.specs.Asking.{SaysRequest}
use Rattle.wire.specs.Bodies.{absent, Frames, PassesBody}
use Rattle.wire.specs.Heads.{AnswersRequest, PassesRequest, has_host}
use Rattle.wire.specs.Parts.{Takes}
use Rattle.wire.specs.Responses.{is_interim, framing_in, PassesHead, AnswersResponse}
use Rattle.wire.specs.Steps.{SaysResponse, AnswersBody}
use Rattle.wire.specs.LinkTold.{told}
use Rattle.wire.specs.declared.fault.WireFault.{WireFault}
use Rattle.wire.specs.declared.fault.WireFault.TheVariants.{LinkFault, BadMessage, TooLong, Memory}
use Rattle.wire.specs.declared.framing.Framing.{Framing}
use Rattle.wire.specs.declared.request.Asked.{Asked}
use Rattle.wire.specs.declared.request.Head.{Head}
use Rattle.wire.specs.declared.response.Reply.{Reply}
use Rattle.wire.specs.declared.response.Start.{Start}

-- whether a head that was taken keeps the rule on Host lines decides what the bytes answer
pub host_tried : (left now : Option (List ℕ)) (asked : Asked) (result : Result Head WireFault)
    → Takes IsRequestHead print_request SaysRequest PassesRequest (told [] left) now (Ok asked)
    → IfOk result (λ head. (asked.has_host ≡ true) × (head ≡ asked.head)) → IfErr result (λ fault. (asked.has_host ≡ false) × (fault ≡ BadMessage))
    → IfSome left (λ bytes. AnswersRequest bytes result)
host_tried None now asked result took kept broken = tt
host_tried (Some bytes) None asked result took kept broken = absurd took.3
host_tried (Some bytes) (Some rest) asked (Ok head) took kept broken = record {
  text = took.0;
  rest = rest;
  reads = (took.2, took.3);
  short = took.1.short;
  host = sym took.1.host ∙ kept.0;
  method = ap (λ (h : Head). h.method) kept.1 ∙ took.1.method;
  target = ap (λ (h : Head). h.target.items) kept.1 ∙ took.1.target;
}
host_tried (Some bytes) (Some rest) asked (Err LinkFault) took kept broken = tt
host_tried (Some bytes) (Some rest) asked (Err BadMessage) took kept broken = λ text behind reads.
    ap has_host (request_unique bytes text took.0 behind rest reads (took.2, took.3)).0 ∙ sym took.1.host ∙ broken.0
host_tried (Some bytes) (Some rest) asked (Err (TooLong limit)) took kept broken = let is = broken.1 in absurd cc
host_tried (Some bytes) (Some rest) asked (Err Memory) took kept broken = tt

-- the same where nothing had come
pub host_from : (came : List ℕ) (left now : Option (List ℕ)) (asked : Asked) (result : Result Head WireFault) → came ≡ []
    → Takes IsRequestHead print_request SaysRequest PassesRequest (told came left) now (Ok asked)
    → IfOk result (λ head. (asked.has_host ≡ true) × (head ≡ asked.head)) → IfErr result (λ fault. (asked.has_host ≡ false) × (fault ≡ BadMessage))
    → IfSome left (λ bytes. AnswersRequest bytes result)
host_from came left now asked result none took =
    host_tried left now asked result (subst (λ (xs : List ℕ). Takes IsRequestHead print_request SaysRequest PassesRequest (told xs left) now (Ok asked)) none took)

-- the head of a response wasn't taken
pub start_cut : (before now : Option (List ℕ)) (fault : WireFault)
    → Takes {A = ResponseHead} {T = Start} IsResponseHead print_response SaysResponse PassesHead before now (Err fault) → IfSome before (λ bytes. AnswersResponse bytes (Err fault))
start_cut None now fault cut = tt
start_cut (Some bytes) now LinkFault cut = tt
start_cut (Some bytes) now BadMessage cut = λ head body is. cut head is.rest is.reads
start_cut (Some bytes) now (TooLong limit) cut = inl cut
start_cut (Some bytes) now Memory cut = tt

-- an interim response is none
pub start_interim : (before now : Option (List ℕ)) (start : Start) → Takes IsResponseHead print_response SaysResponse PassesHead before now (Ok start)
    → is_interim start.status ≡ true → IfSome before (λ bytes. AnswersResponse bytes (Err BadMessage))
start_interim None now start took interim = tt
start_interim (Some bytes) None start took interim = absurd took.3
start_interim (Some bytes) (Some rest) start took interim = λ head body is.
    let same : status_code head ≡ start.status = ap status_code (response_unique bytes head took.0 is.rest rest is.reads (took.2, took.3)).0 ∙ sym took.1.status in
    false≢true (sym is.final ∙ ap is_interim same ∙ interim)

-- a response of another status than 200 has no body
pub start_other : (before now : Option (List ℕ)) (start : Start) (reply : Reply) → Takes IsResponseHead print_response SaysResponse PassesHead before now (Ok start)
    → is_interim start.status ≡ false → (start.status ≡ 200 → ⊥) → reply.status ≡ start.status → reply.body ≡ None
    → IfSome before (λ bytes. AnswersResponse bytes (Ok reply))
start_other None now start reply took final other status body = tt
start_other (Some bytes) None start reply took final other status body = absurd took.3
start_other (Some bytes) (Some rest) start reply took final other status body = (
  took.0,
  absent,
  record {
    rest = rest;
    reads = (took.2, took.3);
    final = ap is_interim (sym took.1.status) ∙ final;
    framed = record { framed = λ is. absurd (other (took.1.status ∙ is)); none = λ _. refl };
  },
  took.1.short,
  tt,
  record { status = status ∙ took.1.status; content = ap (option_map (λ content. content.items)) body },
)

-- a head with no framing begins no response
pub start_unframed : (before now : Option (List ℕ)) (start : Start) → Takes IsResponseHead print_response SaysResponse PassesHead before now (Ok start)
    → start.status ≡ 200 → start.framing ≡ None → IfSome before (λ bytes. AnswersResponse bytes (Err BadMessage))
start_unframed None now start took status none = tt
start_unframed (Some bytes) None start took status none = absurd took.3
start_unframed (Some bytes) (Some rest) start took status none = λ head body is.
    let same = response_unique bytes head took.0 is.rest rest is.reads (took.2, took.3) in
    let ok : status_code head ≡ 200 = ap status_code same.0 ∙ sym took.1.status ∙ status in
    let framing : framing_in head ≡ None = ap framing_in same.0 ∙ sym took.1.framing ∙ none in
    subst (λ f. Frames f is.rest body) framing (is.framed.framed ok)

-- the body wasn't taken
pub body_cut : (before mid : Option (List ℕ)) (start : Start) (framing : Framing) (content : List ℕ) (fault : WireFault)
    → Takes IsResponseHead print_response SaysResponse PassesHead before mid (Ok start) → start.status ≡ 200 → start.framing ≡ Some framing
    → IfSome mid (λ rest. AnswersBody framing rest content (Err fault)) → IfSome before (λ bytes. AnswersResponse bytes (Err fault))
body_cut None mid start framing content fault took status framed cut = tt
body_cut (Some bytes) None start framing content fault took status framed cut = absurd took.3
body_cut (Some bytes) (Some rest) start framing content LinkFault took status framed cut = tt
body_cut (Some bytes) (Some rest) start framing content BadMessage took status framed cut = λ head body is.
    let same = response_unique bytes head took.0 is.rest rest is.reads (took.2, took.3) in
    let ok : status_code head ≡ 200 = ap status_code same.0 ∙ sym took.1.status ∙ status in
    let by : framing_in head ≡ Some framing = ap framing_in same.0 ∙ sym took.1.framing ∙ framed in
    let frames : Frames (Some framing) is.rest body = subst (λ f. Frames f is.rest body) by (is.framed.framed ok) in
    cut body (subst (λ (xs : List ℕ). Frames (Some framing) xs body) same.1 frames)
body_cut (Some bytes) (Some rest) start framing content (TooLong limit) took status framed cut =
    inr (took.0, rest, (took.2, took.3), sym took.1.status ∙ status, subst (λ f. PassesBody f limit rest) (sym framed ∙ took.1.framing) cut)
body_cut (Some bytes) (Some rest) start framing content Memory took status framed cut = tt

-- a whole response was taken
pub body_taken : (before mid : Option (List ℕ)) (start : Start) (framing : Framing) (content : List ℕ) (reply : Reply)
    → Takes IsResponseHead print_response SaysResponse PassesHead before mid (Ok start) → is_interim start.status ≡ false → start.status ≡ 200 → start.framing ≡ Some framing
    → IfSome mid (λ rest. AnswersBody framing rest content (Ok tt)) → reply.status ≡ start.status → option_map (λ body. body.items) reply.body ≡ Some content
    → IfSome before (λ bytes. AnswersResponse bytes (Ok reply))
body_taken None mid start framing content reply took final status framed cut same is = tt
body_taken (Some bytes) None start framing content reply took final status framed cut same is = absurd took.3
body_taken (Some bytes) (Some rest) start framing content reply took final status framed cut same is = (
  took.0,
  cut.0,
  record {
    rest = rest;
    reads = (took.2, took.3);
    final = ap is_interim (sym took.1.status) ∙ final;
    framed = record {
      framed = λ _. subst (λ f. Frames f rest cut.0) (sym framed ∙ took.1.framing) cut.1;
      none = λ other. absurd (other (sym took.1.status ∙ status));
    };
  },
  took.1.short,
  cut.2,
  record { status = same ∙ took.1.status; content = is ∙ sym cut.3 },
)
