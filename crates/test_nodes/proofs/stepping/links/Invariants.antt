use Rattle.std.specs.Prelude.{All}
use Rattle.tk_io.specs.LinksInMemory.{IsUnused}
use Rattle.test_nodes.proofs.stepping.links.Given as goal

abbrev pub invariant-loop-parts : goal.invariant-loop-parts
invariant-loop-parts l = All IsUnused l.links.items
