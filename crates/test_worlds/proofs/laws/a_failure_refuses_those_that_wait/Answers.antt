use Rattle.test_worlds.proofs.Stepping.{made_world}
use Rattle.test_worlds.proofs.FailsBy.{fails_told}
use Rattle.test_worlds.proofs.laws.a_failure_refuses_those_that_wait.Goals as goal

pub returns : goal.returns
returns c =
    λ counts readies first steps last small ready made runs query q list what is refused.
    fails_told counts readies first steps last (made_world counts readies first small ready made) made runs query q list what is refused
