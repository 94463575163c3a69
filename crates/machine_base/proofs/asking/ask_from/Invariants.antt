use Rattle.std.proofs.Common.{◌≡◌, drop}
use Rattle.machine_base.specs.Asking.{ask_from}
use Rattle.machine_base.proofs.asking.ask_from.Given as goal

abbrev pub invariant-loop-at : goal.invariant-loop-at
invariant-loop-at g l =
    ask_from l.transcript.lists l.transcript.accesses (drop l.place (g.L.ObjectList.objects l.objects)) l.place
    ≡ ask_from l.transcript.lists l.transcript.accesses (drop l.at (g.L.ObjectList.objects l.objects)) l.at
