use Rattle.turn_lock.proofs.Growth.{grows_same}
use Rattle.source_state.specs.State.{facts_of}
use Rattle.fetcher.proofs.FeedLaws.{own_in_turn, may_give, given_turn, own_after, plan_turn}
use Rattle.fetcher.proofs.BringLaws.{may_fetch}
use Rattle.fetcher.proofs.fetch.read_plan.Goals as goal

pub give-requires-clause-own : goal.give-requires-clause-own
give-requires-clause-own g c = own_in_turn c.args.pool.now c.args.feeder.now c.take-state.new.feeder (facts_of c.take-state.result) c.take-state.ensures.feeder c.requires.own

pub give-requires-clause-turn : goal.give-requires-clause-turn
give-requires-clause-turn g c =
    may_give c.args.feeder.now c.take-state.new.feeder (facts_of c.take-state.result) (facts_of c.take-state.result) c.take-state.ensures.feeder (grows_same (facts_of c.take-state.result))

pub returns-clause-own : goal.returns-clause-own
returns-clause-own g c =
    let e = given_turn c.args.feeder.now c.take-state.new.feeder c.give.new.feeder (facts_of c.take-state.result) (facts_of c.take-state.result) c.take-state.ensures.feeder c.give.ensures in
    own_after c.args.pool.now c.args.feeder.now c.give.new.feeder (facts_of c.take-state.result) (facts_of c.take-state.result) e c.requires.own

pub returns-clause-source : goal.returns-clause-source
returns-clause-source g c =
    let e = given_turn c.args.feeder.now c.take-state.new.feeder c.give.new.feeder (facts_of c.take-state.result) (facts_of c.take-state.result) c.take-state.ensures.feeder c.give.ensures in
    (plan_turn c.args.page c.args.ahead c.args.feeder.now c.give.new.feeder c.take-state.result c.plan-next.result e c.take-state.ensures.state c.take-state.ensures.all
    c.plan-next.ensures.sound c.plan-next.ensures.plan c.plan-next.ensures.serves).source

pub returns-clause-feeds : goal.returns-clause-feeds
returns-clause-feeds g c =
    let e = given_turn c.args.feeder.now c.take-state.new.feeder c.give.new.feeder (facts_of c.take-state.result) (facts_of c.take-state.result) c.take-state.ensures.feeder c.give.ensures in
    (plan_turn c.args.page c.args.ahead c.args.feeder.now c.give.new.feeder c.take-state.result c.plan-next.result e c.take-state.ensures.state c.take-state.ensures.all
    c.plan-next.ensures.sound c.plan-next.ensures.plan c.plan-next.ensures.serves).feeds

pub returns-clause-turns : goal.returns-clause-turns
returns-clause-turns g c =
    let e = given_turn c.args.feeder.now c.take-state.new.feeder c.give.new.feeder (facts_of c.take-state.result) (facts_of c.take-state.result) c.take-state.ensures.feeder c.give.ensures in
    (plan_turn c.args.page c.args.ahead c.args.feeder.now c.give.new.feeder c.take-state.result c.plan-next.result e c.take-state.ensures.state c.take-state.ensures.all
    c.plan-next.ensures.sound c.plan-next.ensures.plan c.plan-next.ensures.serves).turns

pub returns-clause-plan : goal.returns-clause-plan
returns-clause-plan g c =
    let e = given_turn c.args.feeder.now c.take-state.new.feeder c.give.new.feeder (facts_of c.take-state.result) (facts_of c.take-state.result) c.take-state.ensures.feeder c.give.ensures in
    (plan_turn c.args.page c.args.ahead c.args.feeder.now c.give.new.feeder c.take-state.result c.plan-next.result e c.take-state.ensures.state c.take-state.ensures.all
    c.plan-next.ensures.sound c.plan-next.ensures.plan c.plan-next.ensures.serves).plan

pub returns-clause-next : goal.returns-clause-next
returns-clause-next g c =
    let e = given_turn c.args.feeder.now c.take-state.new.feeder c.give.new.feeder (facts_of c.take-state.result) (facts_of c.take-state.result) c.take-state.ensures.feeder c.give.ensures in
    let t = plan_turn c.args.page c.args.ahead c.args.feeder.now c.give.new.feeder c.take-state.result c.plan-next.result e c.take-state.ensures.state c.take-state.ensures.all
    c.plan-next.ensures.sound c.plan-next.ensures.plan c.plan-next.ensures.serves in
    may_fetch c.args.page c.args.ahead c.args.feeder.now.pass.1 c.give.new.feeder.pass.1 c.plan-next.result t.plan t.feeds

pub returns-clause-looked : goal.returns-clause-looked
returns-clause-looked g c =
    let e = given_turn c.args.feeder.now c.take-state.new.feeder c.give.new.feeder (facts_of c.take-state.result) (facts_of c.take-state.result) c.take-state.ensures.feeder c.give.ensures in
    (plan_turn c.args.page c.args.ahead c.args.feeder.now c.give.new.feeder c.take-state.result c.plan-next.result e c.take-state.ensures.state c.take-state.ensures.all
    c.plan-next.ensures.sound c.plan-next.ensures.plan c.plan-next.ensures.serves).looked
