use Rattle.containers.proofs.map.ObjectMap.reserve.Goals as goal

pub returns-clause-ok : goal.returns-clause-ok
returns-clause-ok g c = c.in_ok-reserve.ensures.ok
