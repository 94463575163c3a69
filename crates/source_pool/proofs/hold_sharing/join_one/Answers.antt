use Rattle.std.proofs.Common.{◌∙◌, None, sym}
use Rattle.turn_lock.specs.Known.{joined}
use Rattle.source_pool.proofs.hold_sharing.join_one.Goals as goal

pub returns-clause-joined : goal.returns-clause-joined
returns-clause-joined c = λ i. record {
  pass = (c.join.ensures.pass ∙ (λ j. (sym c.requires.own.own j, joined c.args.hold.now.pass.1 c.args.other.pass.1))) i;
  waiting = record c.args.hold.now.waiting { need = None };
  shown = c.all_shown-hold.ensures i;
  remembered = c.clear.ensures i;
}
