use Rattle.std.proofs.Common.{sym, ap}
use Rattle.query_core.specs.Algorithms.{asks_grades}
use Rattle.query_core.proofs.algorithms.asks_grades.Goals as goal

pub returns-in-Ta : goal.returns-in-Ta
returns-in-Ta c = ap asks_grades (sym c.in-Ta.is)

pub returns-in-Nra : goal.returns-in-Nra
returns-in-Nra c = ap asks_grades (sym c.in-Nra.is)

pub returns-in-Ca : goal.returns-in-Ca
returns-in-Ca c = ap asks_grades (sym c.in-Ca.is)
