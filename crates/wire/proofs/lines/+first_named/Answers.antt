use Rattle.std.proofs.Common.{arith, length}
use Rattle.std.proofs.lemmas.List.Elements.{All-rest}
use Rattle.httparse.specs.Spans.{IsHeaderWithin}
use Rattle.wire.proofs.lines.+first_named.Goals as goal

pub first_named-requires : goal.first_named-requires
first_named-requires t c = (
  omega (arith, c.decreases, c.in_ok-line.ensures.cases.1),
  All-rest (IsHeaderWithin (length c.args.came.now)) c.in_ok-line.line.now c.in_ok-line.rest.now c.args.lines.now c.in_ok-line.ensures.cases.0 c.requires,
)
