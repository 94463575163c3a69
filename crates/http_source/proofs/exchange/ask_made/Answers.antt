use Rattle.std.proofs.Common.{◌≡◌, List, ℕ, refl, subst, ◌∙◌, inl}
use Rattle.std.specs.Prelude.{string_bytes}
use Rattle.wire.specs.Writing.{request_text}
use Rattle.http_source.specs.Exchanges.{UsesLink}
use Rattle.http_source.proofs.AskLaws.{memory_answers}
use Rattle.http_source.proofs.exchange.ask_made.Goals as goal

pub returns-in-Ok-clause-link : goal.returns-in-Ok-clause-link
returns-in-Ok-clause-link g c = λ text made.
    let same : string_bytes c.in-Ok.tail ≡ text = rw c.in-Ok.is at made in
    subst (λ (t : List ℕ). UsesLink (request_text c.args.place.now t) (g.D.Dial.links c.args.dial.now) (g.D.Dial.links c.ask.new.dial) (g.D.Dial.closed c.args.dial.now) (g.D.Dial.closed c.ask.new.dial) c.ask.result) (c.as_bytes.ensures.value ∙ same) c.ask.ensures.link

pub returns-in-Err-clause-answers : goal.returns-in-Err-clause-answers
returns-in-Err-clause-answers g c = memory_answers _

pub returns-in-Err-clause-dialled : goal.returns-in-Err-clause-dialled
returns-in-Err-clause-dialled g c = inl refl

pub returns-in-Err-clause-link : goal.returns-in-Err-clause-link
returns-in-Err-clause-link g c = λ text made. inl (record { stay = refl; kept = refl })
