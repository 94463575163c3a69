use Rattle.topk_theory.proofs.Consistent.{no_fault_agrees, agrees_no_fault}
use Rattle.topk_theory.proofs.laws_transcript.some_table_agrees_where_no_access_is_at_fault.Goals as goal

pub returns : goal.returns
returns c = λ m n A. (agrees_no_fault m n A, no_fault_agrees m n A)
