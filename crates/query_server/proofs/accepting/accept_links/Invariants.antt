use Rattle.std.proofs.Common.{◌≡◌, ◌-◌, ◌≤◌}
use Rattle.std.specs.Prelude.{replicate}
use Rattle.tk_io.specs.Calls.{PortCall, with_more}
use Rattle.query_server.specs.Accepting.{Took}
use Rattle.query_server.proofs.accepting.accept_links.Given as goal

-- so many links were taken, the port was asked for nothing else, and none of its calls failed
abbrev pub invariant-loop-taken : goal.invariant-loop-taken
invariant-loop-taken g l =
    Took (g.P.Port.links l.fn.port) (g.P.Port.links l.port) l.taken × (l.taken ≤ l.conns)
    × (g.P.Port.faults l.port ≡ g.P.Port.faults l.fn.port) × (g.P.Port.closed l.port ≡ g.P.Port.closed l.fn.port)
    × (g.P.Port.calls l.port ≡ with_more (replicate l.taken PortCall.Gave) (g.P.Port.calls l.fn.port))

abbrev pub decreases-loop-taken : goal.decreases-loop-taken
decreases-loop-taken g l = l.conns - l.taken
