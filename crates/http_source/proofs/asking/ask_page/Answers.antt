use Rattle.std.proofs.Common.{List, ℕ, subst}
use Rattle.std.specs.Global.{Vec}
use Rattle.ranked_list.specs.declared.row.Row.{Row}
use Rattle.page_json.specs.Bodies.{IsPageBody}
use Rattle.http_source.specs.Requests.{page_tail}
use Rattle.http_source.specs.Answers.{PageBy}
use Rattle.http_source.proofs.SaidLaws.{page_said_by, page_refused, page_moved, page_bound, unmoved_cause}
use Rattle.http_source.proofs.LinkLaws.{link_used, stays_calm, link_handed, fails_handed, unanswered_handed, dials_once, dials_handed}
use Rattle.http_source.proofs.asking.ask_page.Goals as goal

pub returns-in-Ok-clause-answers : goal.returns-in-Ok-clause-answers
returns-in-Ok-clause-answers g c =
    page_said_by c.replies_say_one_thing.ensures.body _ c.in-Ok.body.items c.args.at_hand c.args.count c.page_said.result c.in-Ok.ensures.answers
    (subst (λ (b : List ℕ). PageBy (IsPageBody b) c.args.at_hand c.args.count c.page_said.result) c.deref.ensures.value c.page_said.ensures.says)

pub returns-in-Ok-clause-unlinked : goal.returns-in-Ok-clause-unlinked
returns-in-Ok-clause-unlinked g c = λ none. absurd (c.in-Ok.ensures.unlinked none)

pub returns-in-Ok-clause-bound : goal.returns-in-Ok-clause-bound
returns-in-Ok-clause-bound g c = page_bound (IsPageBody c.deref.result.now) c.args.at_hand c.args.count c.page_said.result c.page_said.ensures.says

pub returns-in-Ok-clause-moved : goal.returns-in-Ok-clause-moved
returns-in-Ok-clause-moved g c = page_moved (IsPageBody c.deref.result.now) c.args.at_hand c.args.count c.page_said.result c.page_said.ensures.says

pub returns-in-Ok-clause-cause : goal.returns-in-Ok-clause-cause
returns-in-Ok-clause-cause g c = stays_calm _ _ c.page_said.result c.in-Ok.ensures.cause c.page_said.ensures.calm

pub returns-in-Ok-clause-dialled : goal.returns-in-Ok-clause-dialled
returns-in-Ok-clause-dialled g c = dials_once _ _ _ c.page_said.result c.in-Ok.ensures.dialled

pub returns-in-Ok-clause-link : goal.returns-in-Ok-clause-link
returns-in-Ok-clause-link g c = link_used _ _ _ _ _ c.page_said.result (c.in-Ok.ensures.link (page_tail c.args.from c.args.count) c.page_tail.ensures) c.page_said.ensures.calm

pub returns-in-Err-clause-answers : goal.returns-in-Err-clause-answers
returns-in-Err-clause-answers g c = page_refused _ c.args.at_hand c.args.count c.in-Err.trouble c.in-Err.ensures.answers

pub returns-in-Err-clause-unlinked : goal.returns-in-Err-clause-unlinked
returns-in-Err-clause-unlinked g c = λ none. unanswered_handed (Vec ℕ) (Vec Row) c.in-Err.trouble (c.in-Err.ensures.unlinked none)

pub returns-in-Err-clause-moved : goal.returns-in-Err-clause-moved
returns-in-Err-clause-moved g c = unmoved_cause c.args.at_hand c.in-Err.trouble c.in-Err.ensures.unmoved

pub returns-in-Err-clause-cause : goal.returns-in-Err-clause-cause
returns-in-Err-clause-cause g c = fails_handed (Vec ℕ) (Vec Row) _ _ c.in-Err.trouble c.in-Err.ensures.cause

pub returns-in-Err-clause-dialled : goal.returns-in-Err-clause-dialled
returns-in-Err-clause-dialled g c = dials_handed (Vec ℕ) (Vec Row) _ _ _ c.in-Err.trouble c.in-Err.ensures.dialled

pub returns-in-Err-clause-link : goal.returns-in-Err-clause-link
returns-in-Err-clause-link g c = link_handed (Vec ℕ) (Vec Row) _ _ _ _ _ c.in-Err.trouble (c.in-Err.ensures.link (page_tail c.args.from c.args.count) c.page_tail.ensures)
