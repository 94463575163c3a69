use Rattle.std.proofs.Common.{◌≡◌, ◌/◌, max, arith}
use Rattle.ca_core.proofs.ca.phase_length.Goals as goal

pub returns : goal.returns
returns c = (let longer : c.max.result ≡ max 1 (c.args.costs.random / c.args.costs.sorted) = omega (arith, c.max.ensures) in longer)
