use Rattle.topk_theory.proofs.Consistent.{no_kind_agrees_below}
use Rattle.topk_theory.proofs.laws_transcript.no_kind_leaves_a_table.Goals as goal

pub returns : goal.returns
returns c = no_kind_agrees_below
