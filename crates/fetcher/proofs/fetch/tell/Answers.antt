use Rattle.source_state.specs.State.{facts_of}
use Rattle.fetcher.proofs.FeedLaws.{found_by, own_in_turn, may_give, given_turn, own_after, event_turn}
use Rattle.fetcher.proofs.fetch.tell.Goals as goal

pub apply-requires : goal.apply-requires
apply-requires g c = c.requires.may c.take-state.result (found_by c.take-state.result c.args.feeder.now.pass.1 c.take-state.ensures.state c.take-state.ensures.all c.count.ensures.sound)

pub give-requires-clause-own : goal.give-requires-clause-own
give-requires-clause-own g c = own_in_turn c.args.pool.now c.args.feeder.now c.take-state.new.feeder (facts_of c.take-state.result) c.take-state.ensures.feeder c.requires.own

pub give-requires-clause-turn : goal.give-requires-clause-turn
give-requires-clause-turn g c =
    may_give c.args.feeder.now c.take-state.new.feeder (facts_of c.take-state.result) (facts_of c.apply.new.self) c.take-state.ensures.feeder c.apply.ensures.grows

pub returns-clause-own : goal.returns-clause-own
returns-clause-own g c =
    let e = given_turn c.args.feeder.now c.take-state.new.feeder c.give.new.feeder (facts_of c.take-state.result) (facts_of c.apply.new.self) c.take-state.ensures.feeder c.give.ensures in
    own_after c.args.pool.now c.args.feeder.now c.give.new.feeder (facts_of c.take-state.result) (facts_of c.apply.new.self) e c.requires.own

pub returns-clause-source : goal.returns-clause-source
returns-clause-source g c =
    let e = given_turn c.args.feeder.now c.take-state.new.feeder c.give.new.feeder (facts_of c.take-state.result) (facts_of c.apply.new.self) c.take-state.ensures.feeder c.give.ensures in
    (event_turn c.args.event c.args.feeder.now c.give.new.feeder c.take-state.result c.apply.new.self c.requires.source c.requires.may e c.take-state.ensures.state c.take-state.ensures.all
    c.count.ensures.sound c.apply.ensures.state c.apply.ensures.grows c.apply.ensures.sound).source

pub returns-clause-feeds : goal.returns-clause-feeds
returns-clause-feeds g c =
    let e = given_turn c.args.feeder.now c.take-state.new.feeder c.give.new.feeder (facts_of c.take-state.result) (facts_of c.apply.new.self) c.take-state.ensures.feeder c.give.ensures in
    (event_turn c.args.event c.args.feeder.now c.give.new.feeder c.take-state.result c.apply.new.self c.requires.source c.requires.may e c.take-state.ensures.state c.take-state.ensures.all
    c.count.ensures.sound c.apply.ensures.state c.apply.ensures.grows c.apply.ensures.sound).feeds

pub returns-clause-fed : goal.returns-clause-fed
returns-clause-fed g c =
    let e = given_turn c.args.feeder.now c.take-state.new.feeder c.give.new.feeder (facts_of c.take-state.result) (facts_of c.apply.new.self) c.take-state.ensures.feeder c.give.ensures in
    (event_turn c.args.event c.args.feeder.now c.give.new.feeder c.take-state.result c.apply.new.self c.requires.source c.requires.may e c.take-state.ensures.state c.take-state.ensures.all
    c.count.ensures.sound c.apply.ensures.state c.apply.ensures.grows c.apply.ensures.sound).fed

pub returns-clause-told : goal.returns-clause-told
returns-clause-told g c =
    let e = given_turn c.args.feeder.now c.take-state.new.feeder c.give.new.feeder (facts_of c.take-state.result) (facts_of c.apply.new.self) c.take-state.ensures.feeder c.give.ensures in
    (event_turn c.args.event c.args.feeder.now c.give.new.feeder c.take-state.result c.apply.new.self c.requires.source c.requires.may e c.take-state.ensures.state c.take-state.ensures.all
    c.count.ensures.sound c.apply.ensures.state c.apply.ensures.grows c.apply.ensures.sound).told
