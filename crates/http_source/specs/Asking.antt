-- What one request comes to, before its body is read.
use Rattle.std.specs.Prelude.{ℕ, List, Option, Some, None, Result, Ok, Err, if◌then◌else◌, ◌==◌, ⊤}
use Rattle.std.specs.Global.{Vec}
use Rattle.std.specs.Io.KnownBytes.{Appends}
use Rattle.tk_io.specs.Whole.{TookFront}
use Rattle.source_api.specs.declared.source.Trouble.{Trouble}
use Rattle.source_api.specs.declared.source.FailKind.TheVariants.{Failed, Garbled, Memory}
use Rattle.source_api.specs.declared.source.Trouble.TheVariants.{Fail, Moved}
use Rattle.wire.specs.declared.fault.WireFault.{WireFault}
use Rattle.wire.specs.declared.fault.WireFault.TheVariants as wire
use Rattle.wire.specs.declared.response.Reply.{Reply}
use Rattle.page_json.specs.declared.fault.JsonFault.{JsonFault}
use Rattle.page_json.specs.declared.fault.JsonFault.TheVariants as json
use Rattle.http_source.specs.Replies.{Brings}

-- of a request a link took all, or a front where the link failed or memory was refused
abbrev pub TakesRequest : Option (List ℕ) → Option (List ℕ) → List ℕ → Result Reply WireFault → Type 0
TakesRequest held held_now request (Err wire.LinkFault) = TookFront held held_now request
TakesRequest held held_now request (Err wire.Memory) = TookFront held held_now request
TakesRequest held held_now request _ = Appends held held_now request

-- the body of a reply with status 200
abbrev pub ok_body : Reply → Option (Vec ℕ)
ok_body reply = if reply.status == 200 then reply.body else None

-- a body that is there
abbrev pub or_garbled : Option (Vec ℕ) → Result (Vec ℕ) Trouble
or_garbled None = Err (Fail Garbled)
or_garbled (Some body) = Ok body

-- the trouble that a fault is
abbrev pub trouble_of : WireFault → Trouble
trouble_of wire.LinkFault = Fail Failed
trouble_of wire.Memory = Fail Memory
trouble_of _ = Fail Garbled

-- the body of a reply, or why there is none
abbrev pub body_in : Result Reply WireFault → Result (Vec ℕ) Trouble
body_in (Ok reply) = or_garbled (ok_body reply)
body_in (Err fault) = Err (trouble_of fault)

-- what a request answers by the bytes of its link: the body that they bring, or that they bring none
abbrev pub AnswersBody : List ℕ → Result (Vec ℕ) Trouble → Type 0
AnswersBody bytes (Ok body) = Brings bytes body.items
AnswersBody bytes (Err (Fail Failed)) = ⊤
AnswersBody bytes (Err (Fail Garbled)) = (content : List ℕ) → ¬ Brings bytes content
AnswersBody bytes (Err (Fail Memory)) = ⊤
AnswersBody bytes (Err (Moved had now)) = ⊥

-- a call doesn't fail for what a body says
abbrev pub IsNoFault : {T : Type 0} → Result T Trouble → Type 0
IsNoFault (Err (Fail Failed)) = ⊥
IsNoFault _ = ⊤

-- the trouble that a fault of a body is
abbrev pub trouble_in : JsonFault → Trouble
trouble_in json.NotABody = Fail Garbled
trouble_in json.Memory = Fail Memory
