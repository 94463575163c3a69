use Rattle.containers.proofs.Fitting.{keys_fit}
use Rattle.containers.proofs.room_map.RoomMap.len.Goals as goal

pub returns-clause-fits : goal.returns-clause-fits
returns-clause-fits c = keys_fit c.args.self.now c.self.inside.room c.self.inside.keys.items _ c.self.inside.places c.self.view_is c.self.invariant
