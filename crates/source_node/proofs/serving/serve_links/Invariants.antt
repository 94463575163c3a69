use Rattle.std.proofs.Common.{◌≡◌, ◌-◌, ◌≤◌, []}
use Rattle.source_api.specs.Counting.{NoneFell}
use Rattle.source_node.specs.Serving.{seen}
use Rattle.source_node.specs.ServingLinks.{port_as, ServesLinks}
use Rattle.source_node.proofs.serving.serve_links.Given as goal

-- so many links were served, and no call of the port failed
abbrev pub invariant-loop-served : goal.invariant-loop-served
invariant-loop-served g l =
    (g.S.Source.list l.source ≡ g.S.Source.list l.fn.source) × (g.S.Source.states l.source ≡ g.S.Source.states l.fn.source)
    × NoneFell (g.S.Source.counts l.fn.source) (g.S.Source.counts l.source)
    × (l.served ≤ l.conns) × (g.P.Port.faults l.port ≡ g.P.Port.faults l.fn.port)
    × ServesLinks l.routes l.version (port_as g.P.Port.links g.P.Port.closed g.P.Port.faults g.P.Port.calls l.fn.port) (port_as g.P.Port.links g.P.Port.closed g.P.Port.faults g.P.Port.calls l.port)
    (seen (g.S.Source.list l.fn.source) (g.S.Source.counts l.fn.source) (g.S.Source.calls l.fn.source) (g.S.Source.at_hand l.fn.source) (g.S.Source.states l.fn.source))
    (seen (g.S.Source.list l.source) (g.S.Source.counts l.source) (g.S.Source.calls l.source) (g.S.Source.at_hand l.source) (g.S.Source.states l.source))
    l.served []

abbrev pub decreases-loop-served : goal.decreases-loop-served
decreases-loop-served g l = l.conns - l.served
