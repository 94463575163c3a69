use Rattle.std.proofs.Common.{All, arith, subst, sym}
use Rattle.std.proofs.lemmas.List.Elements.{All-push}
use Rattle.tk_io.specs.LinksInMemory.{IsUnused}
use Rattle.test_server.proofs.asked.ask_all.Goals as goal

pub loop-place-preserved : goal.loop-place-preserved
loop-place-preserved c =
    let i = c.loop-place.invariant in record {
      unused = subst (All IsUnused) (sym c.push_reserved.ensures.items) (All-push IsUnused c.loop-place.links.items c.in_ok-link.link i.unused c.in_ok-link.ensures);
      links = omega (arith, c.push_reserved.ensures.len, i.links);
      shares = omega (arith, c.push_reserved-in-loop-place.ensures.len, i.shares);
      links_room = omega (arith, c.push_reserved.ensures.capacity, i.links_room);
      shares_room = omega (arith, c.push_reserved-in-loop-place.ensures.capacity, i.shares_room);
    }
