use Rattle.std.proofs.Common.{sym}
use Rattle.test_mem_source.proofs.DueLaws.{among, not_among}
use Rattle.test_mem_source.proofs.source_in_memory.due.Goals as goal

pub returns-then-contains : goal.returns-then-contains
returns-then-contains c = among c.args.fails.now c.args.call (sym c.if-contains.ensures.value)

pub returns-then-contains-2 : goal.returns-then-contains-2
returns-then-contains-2 c = (
  not_among c.args.fails.now c.args.call (sym c.if-contains.ensures.value),
  among c.args.garbles.now c.args.call (sym c.if-contains-2.ensures.value),
)
