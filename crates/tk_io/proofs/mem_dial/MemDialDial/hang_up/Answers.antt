use Rattle.std.proofs.Common.{ap}
use Rattle.tk_io.specs.LinksInMemory.{Giving}
use Rattle.tk_io.proofs.Giving.{adds_links}
use Rattle.tk_io.proofs.mem_dial.MemDialDial.hang_up.Goals as goal

pub returns-clause-faults : goal.returns-clause-faults
returns-clause-faults c =
    rw (← c.self.view_is)
    (adds_links c.self.inside.links.faults c.add_faults.new.self.faults c.add_faults-2.new.self.faults _ c.read_faults.result c.write_faults.result _ _ c.add_faults.ensures.faults
    c.add_faults-2.ensures.faults (ap (λ (g : Giving). g.faults) c.take_back.ensures) c.read_faults.ensures c.write_faults.ensures)
