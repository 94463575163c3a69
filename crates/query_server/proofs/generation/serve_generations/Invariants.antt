use Rattle.std.proofs.Common.{All}
use Rattle.query_server.specs.Reopening.{IsAtHand}
use Rattle.query_server.specs.Serving.{Leaves}
use Rattle.query_server.proofs.generation.serve_generations.Given as goal

abbrev pub invariant-loop : goal.invariant-loop
invariant-loop g l = record {
  left : Leaves g.S.Source.list g.S.Source.counts g.S.Source.calls g.S.Source.at_hand l.fn.slots.items l.slots.items l.fn.catalog l.catalog;
  at_hand : All (IsAtHand g.S.Source.at_hand l.slots.items) l.catalog.entries;
}
