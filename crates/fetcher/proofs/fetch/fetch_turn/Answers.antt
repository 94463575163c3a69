use Rattle.std.proofs.Common.{refl}
use Rattle.source_state.specs.declared.plan.Plan.TheVariants as plan
use Rattle.source_api.proofs.CountLaws.{none_fell_same}
use Rattle.fetcher.proofs.BringLaws.{idle_brings, brings_from}
use Rattle.fetcher.proofs.MeterLaws.{feeds_on}
use Rattle.fetcher.proofs.fetch.fetch_turn.Goals as goal

pub returns-in-Idle-clause-later : goal.returns-in-Idle-clause-later
returns-in-Idle-clause-later g c = none_fell_same (g.S.Source.counts c.args.source.now)

pub returns-in-Idle-clause-brings : goal.returns-in-Idle-clause-brings
returns-in-Idle-clause-brings g c =
    idle_brings c.args.page c.args.ahead (g.S.Source.list c.args.source.now) (g.S.Source.counts c.args.source.now) c.args.feeder.now.pass.1 c.read_plan.new.feeder.pass.1
    c.in-Idle.ensures.plan c.in-Idle.ensures.feeds c.in-Idle.ensures.turns

pub returns-in-Page-clause-feeds : goal.returns-in-Page-clause-feeds
returns-in-Page-clause-feeds g c = feeds_on c.args.feeder.now.pass.1 c.read_plan.new.feeder.pass.1 c.fetch_page.new.feeder.pass.1 c.in-Page.ensures.feeds c.fetch_page.ensures.feeds

pub returns-in-Page-clause-brings : goal.returns-in-Page-clause-brings
returns-in-Page-clause-brings g c =
    brings_from c.args.page c.args.ahead _ _ _ c.args.feeder.now.pass.1 c.read_plan.new.feeder.pass.1 c.fetch_page.new.feeder.pass.1 _ c.fetch_page.result c.in-Page.ensures.plan c.in-Page.ensures.feeds
    c.fetch_page.ensures.busy (c.fetch_page.ensures.brings c.args.page c.args.ahead c.requires.page.0
    c.in-Page.ensures.next.1)

pub returns-in-Grade-clause-feeds : goal.returns-in-Grade-clause-feeds
returns-in-Grade-clause-feeds g c = feeds_on c.args.feeder.now.pass.1 c.read_plan.new.feeder.pass.1 c.fetch_grade.new.feeder.pass.1 c.in-Grade.ensures.feeds c.fetch_grade.ensures.feeds

pub returns-in-Grade-clause-brings : goal.returns-in-Grade-clause-brings
returns-in-Grade-clause-brings g c =
    brings_from c.args.page c.args.ahead _ _ _ c.args.feeder.now.pass.1 c.read_plan.new.feeder.pass.1 c.fetch_grade.new.feeder.pass.1 _ c.fetch_grade.result c.in-Grade.ensures.plan c.in-Grade.ensures.feeds
    c.fetch_grade.ensures.busy (c.fetch_grade.ensures.brings c.args.page c.args.ahead)

pub returns-in-Idle-clause-calls : goal.returns-in-Idle-clause-calls
returns-in-Idle-clause-calls g c = record {
  next = plan.Idle;
  looked = c.read_plan.new.feeder.pass.1;
  looks = c.in-Idle.ensures.looked;
  carries = record { uncalled = refl; rests = refl; is = refl };
}

pub returns-in-Page-clause-calls : goal.returns-in-Page-clause-calls
returns-in-Page-clause-calls g c = record {
  next = plan.Page c.in-Page.from c.in-Page.count;
  looked = c.read_plan.new.feeder.pass.1;
  looks = c.in-Page.ensures.looked;
  carries = c.fetch_page.ensures.called;
}

pub returns-in-Grade-clause-calls : goal.returns-in-Grade-clause-calls
returns-in-Grade-clause-calls g c = record {
  next = plan.Grade c.in-Grade.object;
  looked = c.read_plan.new.feeder.pass.1;
  looks = c.in-Grade.ensures.looked;
  carries = c.fetch_grade.ensures.called;
}
