use Rattle.topk_theory.proofs.Agreement.{named_in_table, known_grade_is}
use Rattle.topk_theory.proofs.laws_transcript.what_is_known_is_true.Goals as goal

pub returns : goal.returns
returns c = λ m n D A h.
    ((λ object named. named_in_table m n D A object h named), (λ object list grade l e. known_grade_is m n D A object list grade h l e))
