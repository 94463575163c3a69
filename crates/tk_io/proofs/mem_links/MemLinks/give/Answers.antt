use Rattle.std.proofs.Common.{Some, arith}
use Rattle.std.proofs.lemmas.List.Elements.{All-pop}
use Rattle.tk_io.specs.LinksInMemory.{IsUnused}
use Rattle.tk_io.proofs.mem_links.MemLinks.give.Goals as goal

pub invariant_of-self-2 : goal.invariant_of-self-2
invariant_of-self-2 c = (
  omega (arith, c.in_ok-link.ensures.len, c.self.invariant.0),
  (All-pop IsUnused c.self.inside.links.items c.pop.new.self.items (Some c.in_ok-link.link) c.in_ok-link.ensures.items c.self.invariant.1).0,
)

pub returns-clause-unused : goal.returns-clause-unused
returns-clause-unused c =
    (All-pop IsUnused c.self.inside.links.items c.pop.new.self.items (Some c.in_ok-link.link) c.in_ok-link.ensures.items c.self.invariant.1).1
