-- What one request comes to, from what its dial and its link promise.
use Rattle.std.proofs.Common.{◌≡◌, ◌<◌, ℕ, Bool, true, false, cond, eqb, List, [], ◌∷◌, Option, Some, None, option_map, Result, Ok, Err, refl, sym, ap, subst, ◌∙◌, inr, arith}
use Rattle.std.specs.Prelude.{IfSome}
use Rattle.std.specs.Global.{Vec}
use Rattle.std.specs.Io.KnownBytes.{Appends}
use Rattle.std.proofs.lemmas.Bool.{eqb-true, true≢false}
use Rattle.tk_io.specs.Faults.{Rose}
use Rattle.tk_io.specs.Links.{Closed, ClosesOne, GivesFirst, AddsFaults}
use Rattle.tk_io.specs.Whole.{TookFront}
use Rattle.source_api.specs.declared.source.FailKind.TheVariants.{Memory}
use Rattle.source_api.specs.declared.source.Trouble.TheVariants.{Fail}
use Rattle.source_api.specs.Counting.{IsNoMove}
use Rattle.std.specs.Prelude.{IfErr}
use Rattle.wire.specs.Responses.{AnswersResponse, IsReply}
use Rattle.wire.specs.LinkTold.{Counts}
use Rattle.wire.specs.declared.fault.WireFault.{WireFault}
use Rattle.wire.specs.declared.fault.WireFault.TheVariants as wire
use Rattle.wire.specs.declared.response.Reply.{Reply}
use Rattle.http_source.specs.Replies.{Brings}
use Rattle.wire.specs.Sparing.{HoldsResponse, WasReadSparingly}
use Rattle.http_source.specs.Exchanges.{next_bytes, TakesFirst, OneLink, OneLinkInPart, UsesLink, FailsWith}
use Rattle.http_source.specs.Asking.{TakesRequest, ok_body, or_garbled, body_in, AnswersBody}
use Rattle.http_source.proofs.OnlyLaws.{OneReply, WholeReply, ShortReply}

-- ---- what the bytes answer

-- a reply whose body isn't this one brings no such body
no_other : OneReply → (bytes : List ℕ) (reply : Reply) → IsReply bytes reply → reply.body ≡ None → (content : List ℕ) → Brings bytes content → ⊥
no_other law bytes reply is none content brings =
    let same : option_map (λ (body : Vec ℕ). body.items) reply.body ≡ Some content = (law bytes reply brings.reply is brings.whole).1 ∙ brings.body in
    let nothing : None ≡ Some content = ap (option_map (λ (body : Vec ℕ). body.items)) (sym none) ∙ same in
    cc

-- nor does one of another status
no_status : OneReply → (bytes : List ℕ) (reply : Reply) → IsReply bytes reply → eqb reply.status 200 ≡ false → (content : List ℕ) → Brings bytes content → ⊥
no_status law bytes reply is other content brings =
    let ok : reply.status ≡ 200 = (law bytes reply brings.reply is brings.whole).0 ∙ brings.status in
    true≢false (sym (ap (λ n. eqb n 200) ok) ∙ other)

reply_answers : OneReply → (bytes : List ℕ) (reply : Reply) (ok : Bool) (body : Option (Vec ℕ)) → IsReply bytes reply → eqb reply.status 200 ≡ ok → reply.body ≡ body
    → AnswersBody bytes (or_garbled (cond ok body None))
reply_answers law bytes reply true None is ok there = no_other law bytes reply is there
reply_answers law bytes reply true (Some body) is ok there = record {
  reply = reply;
  whole = is;
  status = eqb-true reply.status 200 ok;
  body = ap (option_map (λ (b : Vec ℕ). b.items)) there;
}
reply_answers law bytes reply false body is ok there = no_status law bytes reply is ok

body_answers : OneReply → WholeReply → ShortReply → (bytes : List ℕ) (reply : Result Reply WireFault) → AnswersResponse bytes reply → AnswersBody bytes (body_in reply)
body_answers one whole short bytes (Ok reply) is = reply_answers one bytes reply (eqb reply.status 200) reply.body is refl refl
body_answers one whole short bytes (Err wire.LinkFault) is = tt
body_answers one whole short bytes (Err wire.BadMessage) is = λ content brings. whole bytes brings.reply brings.whole is
body_answers one whole short bytes (Err (wire.TooLong limit)) is = λ content brings. short bytes brings.reply limit brings.whole is
body_answers one whole short bytes (Err wire.Memory) is = tt

pub asked : OneReply → WholeReply → ShortReply → (links mid : Option (List (List ℕ))) (left held : Option (List ℕ)) (reply : Result Reply WireFault) → GivesFirst links mid left held
    → IfSome left (λ bytes. AnswersResponse bytes reply) → IfSome (next_bytes links) (λ bytes. AnswersBody bytes (body_in reply))
asked one whole short None mid left held reply gives answers = tt
asked one whole short (Some []) mid left held reply gives answers = tt
asked one whole short (Some (bytes ∷ links)) None left held reply gives answers = absurd gives
asked one whole short (Some (bytes ∷ links)) (Some mid) None held reply gives answers = absurd gives
asked one whole short (Some (bytes ∷ links)) (Some mid) (Some left) None reply gives answers = absurd gives
asked one whole short (Some (bytes ∷ links)) (Some mid) (Some left) (Some held) reply gives answers =
    let first : bytes ∷ links ≡ left ∷ mid = gives.0 in
    let same : bytes ≡ left = cc in
    body_answers one whole short bytes reply (subst (λ (b : List ℕ). AnswersResponse b reply) (sym same) answers)

-- a link is given only where one is to come
pub not_none : (links mid : Option (List (List ℕ))) (left held : Option (List ℕ)) → GivesFirst links mid left held → links ≡ Some [] → ⊥
not_none None mid left held gives none = absurd (cc)
not_none (Some links) None left held gives none = gives
not_none (Some links) (Some mid) None held gives none = gives
not_none (Some links) (Some mid) (Some left) None gives none = gives
not_none (Some links) (Some mid) (Some left) (Some held) gives none =
    let first : links ≡ left ∷ mid = gives.0 in
    let empty : links ≡ [] = cc in
    absurd (cc)

pub body_unmoved : (reply : Result Reply WireFault) → IfErr (body_in reply) IsNoMove
body_unmoved (Ok reply) = by (ok_body reply)
  where
    by : (body : Option (Vec ℕ)) → IfErr (or_garbled body) IsNoMove
    by None = tt
    by (Some body) = tt
body_unmoved (Err wire.LinkFault) = tt
body_unmoved (Err wire.BadMessage) = tt
body_unmoved (Err (wire.TooLong limit)) = tt
body_unmoved (Err wire.Memory) = tt

-- ---- the link

first_taken : (links mid : Option (List (List ℕ))) (left held : Option (List ℕ)) → GivesFirst links mid left held → TakesFirst links mid
first_taken None mid left held gives = tt
first_taken (Some links) None left held gives = absurd gives
first_taken (Some links) (Some mid) None held gives = absurd gives
first_taken (Some links) (Some mid) (Some left) None gives = absurd gives
first_taken (Some links) (Some mid) (Some left) (Some held) gives = (left, gives.0)

-- what a link took that tells that it had taken nothing
of_fresh : (links mid : Option (List (List ℕ))) (left held : Option (List ℕ)) (Took : Option (List ℕ) → Type 0) → GivesFirst links mid left held → Took held
    → IfSome links (λ told. Took (Some []))
of_fresh None mid left held Took gives took = tt
of_fresh (Some links) None left held Took gives took = absurd gives
of_fresh (Some links) (Some mid) None held Took gives took = absurd gives
of_fresh (Some links) (Some mid) (Some left) None Took gives took = absurd gives
of_fresh (Some links) (Some mid) (Some left) (Some held) Took gives took = subst (λ (bytes : List ℕ). Took (Some bytes)) gives.1 took

pub link_of : (request : List ℕ) (links mid now : Option (List (List ℕ))) (closed closed_now : Option (List Closed)) (left held : Option (List ℕ)) (one : Closed) (reply : Result Reply WireFault)
    → GivesFirst links mid left held → TakesRequest held one.taken request reply → now ≡ mid → ClosesOne closed closed_now one
    → WasReadSparingly HoldsResponse one.pieces → UsesLink request links now closed closed_now (body_in reply)
link_of request links mid now closed closed_now left held one reply gives took same closes sparing = by reply took
  where
    first : TakesFirst links now
    first = subst (λ (later : Option (List (List ℕ))). TakesFirst links later) (sym same) (first_taken links mid left held gives)

    all : Appends held one.taken request → OneLink request links now closed closed_now
    all took = record { one = one; first = first; given_back = closes; took = of_fresh links mid left held (λ before. Appends before one.taken request) gives took; sparing = sparing }

    part : TookFront held one.taken request → OneLinkInPart request links now closed closed_now
    part took = record { one = one; first = first; given_back = closes; took = of_fresh links mid left held (λ before. TookFront before one.taken request) gives took; sparing = sparing }

    read : (body : Option (Vec ℕ)) → OneLink request links now closed closed_now → UsesLink request links now closed closed_now (or_garbled body)
    read None used = used
    read (Some body) used = used

    by : (r : Result Reply WireFault) → TakesRequest held one.taken request r → UsesLink request links now closed closed_now (body_in r)
    by (Ok r) took = read (ok_body r) (all took)
    by (Err wire.LinkFault) took = inr (part took)
    by (Err wire.BadMessage) took = all took
    by (Err (wire.TooLong limit)) took = all took
    by (Err wire.Memory) took = inr (part took)

-- ---- the count

pub fails_of : (before mid now by : ℕ) (reply : Result Reply WireFault) → mid ≡ before → AddsFaults mid now by → Counts 0 by reply → FailsWith before now (body_in reply)
fails_of before mid now by (Ok reply) same adds counts = read (ok_body reply)
  where
    read : (body : Option (Vec ℕ)) → FailsWith before now (or_garbled body)
    read None = adds.none counts ∙ same
    read (Some body) = adds.none counts ∙ same
fails_of before mid now by (Err wire.LinkFault) same adds counts =
    let some : 0 < by = omega (arith, counts) in
    subst (λ n. Rose n now) same (adds.some some)
fails_of before mid now by (Err wire.BadMessage) same adds counts = adds.none counts ∙ same
fails_of before mid now by (Err (wire.TooLong limit)) same adds counts = adds.none counts ∙ same
fails_of before mid now by (Err wire.Memory) same adds counts = adds.none counts ∙ same

-- ---- memory was refused before a link was asked for

pub memory_answers : (told : Option (List ℕ)) → IfSome told (λ bytes. AnswersBody bytes (Err (Fail Memory)))
memory_answers None = tt
memory_answers (Some bytes) = tt
