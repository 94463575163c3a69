-- Requests that are refused.
use Rattle.std.proofs.Common.{◌≡◌, ℕ, Bool, List, Option, Some, None, Err, subst}
use Rattle.tk_io.specs.Faults.{Rose}
use Rattle.wire.specs.LinkTold.{Counts}
use Rattle.wire.specs.Refusals.{body_as, refusal_of}
use Rattle.wire.specs.Replies.{Sends}
use Rattle.wire.specs.Writing.{reply_text}
use Rattle.wire.specs.declared.replying.ConnEnd.{ConnEnd}
use Rattle.wire.specs.declared.writing.Kind.TheVariants.{Text}
use Rattle.wire.specs.declared.fault.WireFault.{WireFault}
use Rattle.wire.specs.declared.fault.WireFault.TheVariants as heard
use Rattle.wire.specs.declared.refusal.Refusal.{Refusal}
use Rattle.wire.specs.declared.request.Head.{Head}

-- a request whose head wasn't read is refused where no read failed, and else one failed
pub refused_quiet : (before mid : ℕ) (fault : WireFault) (why : Refusal) → refusal_of fault ≡ Some why → Counts {T = Head} before mid (Err fault) → mid ≡ before
refused_quiet before mid heard.LinkFault why is counts = absurd cc
refused_quiet before mid heard.BadMessage why is counts = counts
refused_quiet before mid (heard.TooLong limit) why is counts = counts
refused_quiet before mid heard.Memory why is counts = counts

pub unrefused_rose : (before mid : ℕ) (fault : WireFault) → refusal_of fault ≡ None → Counts {T = Head} before mid (Err fault) → Rose before mid
unrefused_rose before mid heard.LinkFault is counts = counts
unrefused_rose before mid heard.BadMessage is counts = absurd cc
unrefused_rose before mid (heard.TooLong limit) is counts = absurd cc
unrefused_rose before mid heard.Memory is counts = absurd cc

-- the reason of a status that is sent, by an equal status
pub sends_as : (held held_now : Option (List ℕ)) (faults faults_now status said : ℕ) (is_head : Bool) (end : ConnEnd) → status ≡ said
    → Sends held held_now faults faults_now status (reply_text status Text (body_as is_head status)) end
    → Sends held held_now faults faults_now said (reply_text said Text (body_as is_head said)) end
sends_as held held_now faults faults_now status said is_head end same sends =
    subst (λ n. Sends held held_now faults faults_now n (reply_text n Text (body_as is_head n)) end) same sends
