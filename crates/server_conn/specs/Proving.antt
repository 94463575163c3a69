-- What a query server writes is proved.
use Rattle.std.specs.Prelude.{◌≡◌, ◌⊎◌, ℕ, Bool, List, Option, Some}
use Rattle.tk_io.specs.Whole.{TookFront}
use Rattle.wire.specs.Writing.{reply_text}
use Rattle.wire.specs.Refusals.{status_of, body_of}
use Rattle.wire.specs.declared.refusal.Refusal.{Refusal}
use Rattle.wire.specs.declared.writing.Kind.TheVariants.{Text}
use Rattle.query_core.specs.Claim.{IsProvedText}

-- a reply tells of a query line what is proved, with status 200, or says why a request is refused
abbrev pub IsProvedReply : List ℕ → Type 0
IsProvedReply reply =
    ((text : List ℕ) × (reply ≡ reply_text 200 Text (Some text)) × IsProvedText text)
    ⊎ ((why : Refusal) × (is_head : Bool) × (reply ≡ reply_text (status_of why) Text (body_of is_head why)))

-- what a link took is such a reply, or a front of one, or nothing
abbrev pub TookProved : Option (List ℕ) → Option (List ℕ) → Type 0
TookProved held now = (now ≡ held) ⊎ ((reply : List ℕ) × IsProvedReply reply × TookFront held now reply)
