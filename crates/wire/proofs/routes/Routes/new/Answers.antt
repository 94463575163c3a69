use Rattle.wire.proofs.PathLaws.{none_at}
use Rattle.wire.proofs.routes.Routes.new.Goals as goal

pub returns : goal.returns
returns g c = λ path. none_at c.new.result path c.new.ensures
