use Rattle.std.proofs.Common.{refl, ◌∙◌}
use Rattle.std.proofs.KnownBytes.{Keeps-refl}
use Rattle.command_line.specs.declared.status.Status.TheVariants.{Done}
use Rattle.command_line.proofs.Ending.{said, said_as, ends_written}
use Rattle.bundle_calls.proofs.MadeLaws.{text_is}
use Rattle.bundle_calls.proofs.made.make.Goals as goal

pub returns-clause-ends : goal.returns-clause-ends
returns-clause-ends g c = λ words input shelf.
    ends_written _ _ c.ended.result (record { left = Keeps-refl input.left; faults = refl })
    (said_as _ _ _ _ _ _ Done Done c.ended.result (text_is c.args.start c.args.count c.args.lists c.deref.result.now (c.deref.ensures.value ∙ c.in-Ok.ensures.made)) refl
    (said _ _ _ _ _ Done c.ended.result c.write_table-written.result c.write_table-written.ensures.whole c.write_table-written.ensures.front c.write_table-written.ensures.cause c.ended.ensures))
