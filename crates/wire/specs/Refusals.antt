-- The statuses of refusals, and the bodies of their replies.
use Rattle.std.specs.Prelude.{◌≡◌, ℕ, Bool, List, [], ◌∷◌, ◌++◌, if◌then◌else◌, Option, Some, None, Result, Err}
use Rattle.wire.specs.Writing.{reason_of}
use Rattle.wire.specs.declared.fault.WireFault.{WireFault}
use Rattle.wire.specs.declared.fault.WireFault.TheVariants as heard
use Rattle.wire.specs.declared.refusal.Refusal.{Refusal}
use Rattle.wire.specs.declared.refusal.Refusal.TheVariants.{TooLarge, BadRequest, NotFound, MethodNotAllowed, SourceFailed, NoMemory}

-- the status of a refusal
abbrev pub status_of : Refusal → ℕ
status_of TooLarge = 431
status_of BadRequest = 400
status_of NotFound = 404
status_of MethodNotAllowed = 405
status_of SourceFailed = 500
status_of NoMemory = 503

-- the body that says the reason of a status: the reason and LF, and none in a reply to the method HEAD
abbrev pub body_as : Bool → ℕ → Option (List ℕ)
body_as is_head status = if is_head then None else Some (reason_of status ++ 10 ∷ [])

-- the body of a refusal
abbrev pub body_of : Bool → Refusal → Option (List ℕ)
body_of is_head why = body_as is_head (status_of why)

-- why a request is refused whose head wasn't read: the bytes are none, or pass a limit, or no memory was left. One whose link failed isn't refused
abbrev pub refusal_of : WireFault → Option Refusal
refusal_of heard.LinkFault = None
refusal_of heard.BadMessage = Some BadRequest
refusal_of (heard.TooLong limit) = Some TooLarge
refusal_of heard.Memory = Some NoMemory

-- a request is refused so, and what would answer it stays as it was
abbrev pub IsRefusedAs : {A S : Type 0} → Option Refusal → S → S → Result A Refusal → Type 0
IsRefusedAs None before now answer = ⊥
IsRefusedAs (Some why) before now answer = (answer ≡ Err why) × (now ≡ before)
