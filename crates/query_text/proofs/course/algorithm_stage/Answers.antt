use Rattle.std.proofs.Common.{sym, ◌∙◌}
use Rattle.query_text.proofs.NamedLaws.{depth_next}
use Rattle.query_text.proofs.course.algorithm_stage.Goals as goal

pub returns-then-is_text-2 : goal.returns-then-is_text-2
returns-then-is_text-2 c = sym (depth_next c.args.word.now (sym c.is_text-2.ensures ∙ c.if-is_text-2.true))
