use Rattle.std.specs.Prelude.{All}
use Rattle.tk_io.specs.LinksInMemory.{IsUnused}
use Rattle.test_port_calls.proofs.links.links.Given as goal

abbrev pub invariant-loop-visit : goal.invariant-loop-visit
invariant-loop-visit l = All IsUnused l.links.items
