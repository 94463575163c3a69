use Rattle.std.proofs.Common.{List, ℕ, subst}
use Rattle.std.specs.Global.{Vec}
use Rattle.page_json.specs.Bodies.{IsSizeBody}
use Rattle.http_source.specs.Answers.{SizeBy}
use Rattle.http_source.proofs.SaidLaws.{size_said_by, size_refused, size_unmoved}
use Rattle.http_source.proofs.LinkLaws.{link_used, stays_calm, link_handed, fails_handed, unanswered_handed, dials_once, dials_handed}
use Rattle.http_source.proofs.asking.ask_size.Goals as goal

pub returns-in-Ok-clause-answers : goal.returns-in-Ok-clause-answers
returns-in-Ok-clause-answers g c =
    size_said_by c.replies_say_one_thing.ensures.body _ c.in-Ok.body.items _ c.size_said.result c.in-Ok.ensures.answers
    (subst (λ (b : List ℕ). SizeBy (IsSizeBody b) c.size_said.new.at_hand c.size_said.result) c.deref.ensures.value c.size_said.ensures.says)

pub returns-in-Ok-clause-unlinked : goal.returns-in-Ok-clause-unlinked
returns-in-Ok-clause-unlinked g c = λ none. absurd (c.in-Ok.ensures.unlinked none)

pub returns-in-Ok-clause-unmoved : goal.returns-in-Ok-clause-unmoved
returns-in-Ok-clause-unmoved g c = size_unmoved (IsSizeBody c.deref.result.now) c.size_said.new.at_hand c.size_said.result c.size_said.ensures.says

pub returns-in-Ok-clause-cause : goal.returns-in-Ok-clause-cause
returns-in-Ok-clause-cause g c = stays_calm _ _ c.size_said.result c.in-Ok.ensures.cause c.size_said.ensures.calm

pub returns-in-Ok-clause-dialled : goal.returns-in-Ok-clause-dialled
returns-in-Ok-clause-dialled g c = dials_once _ _ _ c.size_said.result c.in-Ok.ensures.dialled

pub returns-in-Ok-clause-link : goal.returns-in-Ok-clause-link
returns-in-Ok-clause-link g c = link_used _ _ _ _ _ c.size_said.result c.in-Ok.ensures.link c.size_said.ensures.calm

pub returns-in-Err-clause-answers : goal.returns-in-Err-clause-answers
returns-in-Err-clause-answers g c = size_refused _ c.args.at_hand.now c.in-Err.trouble c.in-Err.ensures.answers

pub returns-in-Err-clause-unlinked : goal.returns-in-Err-clause-unlinked
returns-in-Err-clause-unlinked g c = λ none. unanswered_handed (Vec ℕ) ℕ c.in-Err.trouble (c.in-Err.ensures.unlinked none)

pub returns-in-Err-clause-cause : goal.returns-in-Err-clause-cause
returns-in-Err-clause-cause g c = fails_handed (Vec ℕ) ℕ _ _ c.in-Err.trouble c.in-Err.ensures.cause

pub returns-in-Err-clause-dialled : goal.returns-in-Err-clause-dialled
returns-in-Err-clause-dialled g c = dials_handed (Vec ℕ) ℕ _ _ _ c.in-Err.trouble c.in-Err.ensures.dialled

pub returns-in-Err-clause-link : goal.returns-in-Err-clause-link
returns-in-Err-clause-link g c = link_handed (Vec ℕ) ℕ _ _ _ _ _ c.in-Err.trouble c.in-Err.ensures.link
