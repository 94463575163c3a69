use Rattle.std.proofs.Common.{◌∙◌, sym}
use Rattle.turn_lock.specs.Known.{split_off}
use Rattle.source_pool.specs.Holds.{no_fails, no_waiting}
use Rattle.source_pool.proofs.hold_sharing.split_one.Goals as goal

pub returns-clause-given : goal.returns-clause-given
returns-clause-given c = λ i. record {
  pass = (c.split.ensures.given ∙ (λ j. (sym c.requires.own.own j, split_off 1 c.args.hold.now.pass.1))) i;
  waiting = no_waiting;
  shown = no_fails;
  remembered = c.requires.empty i;
}
