use Rattle.std.proofs.Common.{◌≡◌, drop}
use Rattle.machine_base.specs.Certain.{first_unknown}
use Rattle.machine_base.proofs.asking.first_unknown.Given as goal

abbrev pub invariant-loop-at : goal.invariant-loop-at
invariant-loop-at g l =
    first_unknown l.transcript.accesses (drop l.place (g.L.ObjectList.objects l.objects)) l.list
    ≡ first_unknown l.transcript.accesses (drop l.at (g.L.ObjectList.objects l.objects)) l.list
