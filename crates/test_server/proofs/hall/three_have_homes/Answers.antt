use Rattle.test_server.proofs.HomeLaws.{three_homes}
use Rattle.test_server.proofs.hall.three_have_homes.Goals as goal

pub returns : goal.returns
returns c = three_homes
