use Rattle.std.proofs.Common.{rules, ◌≡◌, ◌+◌, true, arith}
use Rattle.turn_lock.specs.Known.{all_parts, KnowsOf, Follows, joined}
use Rattle.source_state.specs.State.{facts_of, IsSound}
use Rattle.source_pool.proofs.CloseLaws.{closed_one}
use Rattle.source_pool.proofs.closing.close_one.Goals as goal

pub returns : goal.returns
returns c =
    let is : c.join.new.pass.1 ≡ joined c.args.feeder.pass.1 c.args.hold.pass.1 = search rules in
    let writer : c.args.feeder.pass.1.writer ≡ true = search rules in
    let whole : c.args.feeder.pass.1.parts + c.args.hold.pass.1.parts ≡ all_parts = let parts = c.requires.whole in omega (arith, parts) in
    let mine : Follows c.args.feeder.pass.1 c.join.new.pass.1 = search rules in
    let theirs : Follows c.args.hold.pass.1 c.join.new.pass.1 = search rules in
    let agrees : KnowsOf (facts_of c.close-state.result) c.join.new.pass.1 = search rules in
    let sound : IsSound c.close-state.result = search rules in
    closed_one c.args.feeder.pass.1 c.args.hold.pass.1 c.join.new.pass.1 c.close-state.result is writer whole mine theirs agrees sound
