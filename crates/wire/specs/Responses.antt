-- Responses, by the grammar of HTTP/1.1: a head and, with status 200, a body.
use Rattle.std.specs.Prelude.{◌≡◌, ℕ, ◌≤◌, ◌⊎◌, Bool, false, ◌&&◌, List, length, map, nat_le, Option, option_map, Result, Ok, Err, ⊤}
use Rattle.httparse.specs.Grammar.{ResponseHead, IsResponseHead, print_response, ReadsResponse, status_code}
use Rattle.httparse.specs.Spans.{name_and_value}
use Rattle.topk_base.specs.declared.TheConstants.{MAX_HEAD, MAX_HEADERS}
use Rattle.wire.specs.Bodies.{framing_of, Body, absent, content_of, Frames, IsShortBody, PassesBody}
use Rattle.wire.specs.Parts.{PassesHeadLimits}
use Rattle.wire.specs.declared.fault.WireFault.{WireFault}
use Rattle.wire.specs.declared.fault.WireFault.TheVariants.{LinkFault, BadMessage, TooLong, Memory}
use Rattle.wire.specs.declared.framing.Framing.{Framing}
use Rattle.wire.specs.declared.response.Reply.{Reply}

-- a response before the one that is asked for, which isn't read
abbrev pub is_interim : ℕ → Bool
is_interim status = nat_le 100 status && nat_le status 199

-- how the end of a response's body is found
abbrev pub framing_in : ResponseHead → Option Framing
framing_in head = framing_of (map name_and_value head.fields)

-- the head is within its limits
pub record IsShortResponse (head : ResponseHead) : Type 0 where
  pub bytes : length (print_response head) ≤ MAX_HEAD
  pub lines : length head.fields ≤ MAX_HEADERS

-- with status 200 the bytes behind the head begin with the body, and else it has none
pub record HasBody (head : ResponseHead) (bytes : List ℕ) (body : Body) : Type 0 where
  pub framed : status_code head ≡ 200 → Frames (framing_in head) bytes body
  pub none : (status_code head ≡ 200 → ⊥) → body ≡ absent

-- the bytes begin with a whole response, of this head and this body
pub record IsResponse (bytes : List ℕ) (head : ResponseHead) (body : Body) : Type 0 where
  pub rest : List ℕ
  pub reads : ReadsResponse bytes head rest
  pub final : is_interim (status_code head) ≡ false
  pub framed : HasBody head rest body

-- a reply has the status of a head and the content of a body
pub record Replies (head : ResponseHead) (body : Body) (reply : Reply) : Type 0 where
  pub status : reply.status ≡ status_code head
  pub content : option_map (λ content. content.items) reply.body ≡ content_of body

-- the bytes begin with a whole response within the limits, and this is its reply
abbrev pub IsReply : List ℕ → Reply → Type 0
IsReply bytes reply =
    (head : ResponseHead) × (body : Body) × IsResponse bytes head body × IsShortResponse head × IsShortBody body × Replies head body reply

-- the bytes begin with no whole response
abbrev pub IsNoResponse : List ℕ → Type 0
IsNoResponse bytes = (head : ResponseHead) (body : Body) → IsResponse bytes head body → ⊥

-- more came than a limit on the head of a response allows
abbrev pub PassesHead : ℕ → List ℕ → Type 0
PassesHead limit bytes = PassesHeadLimits IsResponseHead print_response (λ head. length head.fields) limit bytes

-- more came than a limit allows, or was stated: of the head, or of the body of a response with status 200
abbrev pub PassesResponse : ℕ → List ℕ → Type 0
PassesResponse limit bytes =
    PassesHead limit bytes
    ⊎ ((head : ResponseHead) × (rest : List ℕ) × ReadsResponse bytes head rest × (status_code head ≡ 200) × PassesBody (framing_in head) limit rest)

-- what the bytes answer as a response
abbrev pub AnswersResponse : List ℕ → Result Reply WireFault → Type 0
AnswersResponse bytes (Ok reply) = IsReply bytes reply
AnswersResponse bytes (Err LinkFault) = ⊤
AnswersResponse bytes (Err BadMessage) = IsNoResponse bytes
AnswersResponse bytes (Err (TooLong limit)) = PassesResponse limit bytes
AnswersResponse bytes (Err Memory) = ⊤
