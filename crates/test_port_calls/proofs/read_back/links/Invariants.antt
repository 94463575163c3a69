use Rattle.std.specs.Prelude.{All}
use Rattle.tk_io.specs.LinksInMemory.{IsUnused}
use Rattle.test_port_calls.proofs.read_back.links.Given as goal

abbrev pub invariant-loop-one : goal.invariant-loop-one
invariant-loop-one l = All IsUnused l.links.items

abbrev pub invariant-loop-other : goal.invariant-loop-other
invariant-loop-other l = All IsUnused l.links.items
