use Rattle.tk_io.proofs.Putting.{puts_then}
use Rattle.bundle_calls.proofs.comparing.put_compared.Goals as goal

pub returns : goal.returns
returns g c =
    puts_then _ _ _ _ _ c.put_figures.ensures (puts_then _ _ _ _ _ c.put_figures-2.ensures (puts_then _ _ _ _ _ c.put_figures-3.ensures c.put_figures-4.ensures))
