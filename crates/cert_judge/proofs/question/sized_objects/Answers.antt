use Rattle.std.proofs.Common.{refl, arith}
use Rattle.cert_judge.proofs.question.sized_objects.Goals as goal

pub returns-in-Ok-Some : goal.returns-in-Ok-Some
returns-in-Ok-Some c =
    let told = rw c.in-Ok-Some.field-0-is at c.in-Ok-Some.ensures in
    (told.0, record { sized = omega arith; distinct = told.1 })

pub returns-in-Ok-None : goal.returns-in-Ok-None
returns-in-Ok-None c =
    let told = rw c.in-Ok-None.field-0-is at c.in-Ok-None.ensures in
    (omega arith, refl, λ s. told s.distinct)
