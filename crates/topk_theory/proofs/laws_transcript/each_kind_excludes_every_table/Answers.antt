use Rattle.topk_theory.proofs.Consistent.{kind_excludes}
use Rattle.topk_theory.proofs.laws_transcript.each_kind_excludes_every_table.Goals as goal

pub returns : goal.returns
returns c = kind_excludes
