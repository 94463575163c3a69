use Rattle.std.proofs.Common.{◌≡◌, ◌-◌, All}
use Rattle.query_server.specs.Reopening.{IsAtHand}
use Rattle.query_server.specs.Serving.{Leaves}
use Rattle.query_server.proofs.TakingLaws.{TookInRounds}
use Rattle.query_server.proofs.server.serve_all.Given as goal

-- the links of the rounds so far were taken, and the sources are as a server leaves them
abbrev pub invariant-loop-taken : goal.invariant-loop-taken
invariant-loop-taken g l = record {
  taken : TookInRounds l.conns (g.P.Port.links l.fn.port) (g.P.Port.links l.port) (g.P.Port.faults l.fn.port) (g.P.Port.faults l.port)
      (g.P.Port.calls l.fn.port) (g.P.Port.calls l.port) l.taken;
  closed : g.P.Port.closed l.port ≡ g.P.Port.closed l.fn.port;
  left : Leaves g.S.Source.list g.S.Source.counts g.S.Source.calls g.S.Source.at_hand l.fn.sources.items l.sources.items l.fn.catalog l.catalog;
  at_hand : All (IsAtHand g.S.Source.at_hand l.sources.items) l.catalog.entries;
}

abbrev pub decreases-loop-taken : goal.decreases-loop-taken
decreases-loop-taken g l = l.conns - l.taken
