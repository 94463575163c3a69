use Rattle.test_worlds.proofs.Stepping.{ran_after}
use Rattle.test_worlds.proofs.laws.what_was_read_stays.Goals as goal

pub returns : goal.returns
returns c = λ first steps last world runs. ran_after steps first last world runs
