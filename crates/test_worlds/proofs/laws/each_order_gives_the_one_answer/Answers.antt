use Rattle.test_worlds.proofs.Stepping.{made_world, made_of, ran}
use Rattle.test_worlds.proofs.Honest.{made_true, ran_honestly}
use Rattle.test_worlds.proofs.laws.each_order_gives_the_one_answer.Goals as goal

pub returns-clause-any : goal.returns-clause-any
returns-clause-any c =
    λ counts readies first steps last small ready made runs.
    let all = ran steps first last (made_world counts readies first small ready made) runs in
    (all.0, all.1 readies (made_of counts readies first made))

pub returns-clause-honest : goal.returns-clause-honest
returns-clause-honest c =
    λ lists counts readies first steps last small ready made tables runs.
    let world = made_world counts readies first small ready made in
    ran_honestly lists steps first last world (made_true lists counts readies first world made tables) runs
