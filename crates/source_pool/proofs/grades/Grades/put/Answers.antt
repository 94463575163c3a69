use Rattle.source_pool.proofs.RememberLaws.{settled_set}
use Rattle.source_pool.proofs.grades.Grades.put.Goals as goal

pub returns : goal.returns
returns c = λ log settled h. settled_set log c.self.inside.places.items c.args.self.now _ c.args.row c.self.view_is settled h
