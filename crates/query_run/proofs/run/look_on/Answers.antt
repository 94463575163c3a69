use Rattle.std.proofs.Common.{refl, sym, ◌∙◌}
use Rattle.query_run.proofs.Stops.{looked_none, stopped}
use Rattle.query_run.proofs.Ahead.{stepped_on}
use Rattle.query_run.proofs.run.look_on.Goals as goal

pub loop-init : goal.loop-init
loop-init g c = record {
  own = c.requires.own;
  by = refl;
  looked = looked_none c.args.pass.now c.args.query.now c.requires.rests c.requires.reading c.requires.unrefused;
}

pub returns-then-is_ended-clause-stopped : goal.returns-then-is_ended-clause-stopped
returns-then-is_ended-clause-stopped g c =
    stopped c.args.pass.now c.loop.pass c.args.query.now c.loop.query c.loop.invariant.looked (sym c.is_ended.ensures ∙ c.if-is_ended.true)

pub loop-preserved : goal.loop-preserved
loop-preserved g c = record {
  own = c.look_and_wait.ensures.own;
  by = c.look_and_wait.ensures.served ∙ c.loop.invariant.by;
  looked = stepped_on c.args.pass.now c.loop.pass c.look_and_wait.new.pass c.args.query.now c.loop.query c.look_and_wait.new.query
      (c.look_and_wait.ensures.own.size ∙ sym c.loop.invariant.own.size) c.loop.invariant.looked (sym c.is_ended.ensures ∙ c.if-is_ended.false) c.look_and_wait.ensures.step;
}
