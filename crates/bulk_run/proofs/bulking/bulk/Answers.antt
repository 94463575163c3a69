use Rattle.std.proofs.Common.{ap, refl}
use Rattle.std.proofs.KnownBytes.{Keeps-refl}
use Rattle.bulk_run.specs.Text.{sums_text}
use Rattle.command_line.specs.declared.status.Status.TheVariants.{Done}
use Rattle.command_line.proofs.Ending.{said, said_as, ends_written}
use Rattle.bulk_run.proofs.bulking.bulk.Goals as goal

pub returns-clause-ends : goal.returns-clause-ends
returns-clause-ends g c = λ words input shelf.
    ends_written _ _ c.ended.result (record { left = Keeps-refl input.left; faults = refl })
    (said_as _ _ _ _ _ _ Done Done c.ended.result (ap sums_text c.in-Ok.ensures) refl
    (said _ _ _ _ _ Done c.ended.result c.write_sums-written.result c.write_sums-written.ensures.whole c.write_sums-written.ensures.front c.write_sums-written.ensures.cause c.ended.ensures))
