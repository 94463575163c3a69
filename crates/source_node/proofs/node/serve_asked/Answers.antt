use Rattle.std.proofs.Common.{ap, ◌∙◌}
use Rattle.source_api.specs.declared.source.Trouble.TheVariants.{Fail}
use Rattle.source_node.proofs.EndLaws.{starved_asking, starved_writing}
use Rattle.source_node.proofs.node.serve_asked.Goals as goal

pub returns-in-Err-text-clause-serves : goal.returns-in-Err-text-clause-serves
returns-in-Err-text-clause-serves g c = starved_writing _ _ _ _ c.in-Ok.ensures.asks

pub returns-in-Err-Fail-Memory-clause-serves : goal.returns-in-Err-Fail-Memory-clause-serves
returns-in-Err-Fail-Memory-clause-serves g c =
    starved_asking _ _ _ c.in-Err-Fail-Memory.field-0 c.in-Err-Fail-Memory.ensures.asks (c.in-Err-Fail-Memory.field-0-is ∙ ap Fail (rw c.in-Err-Fail-Memory.field-0-is at c.in-Err-Fail-Memory.field-0-0-is))
