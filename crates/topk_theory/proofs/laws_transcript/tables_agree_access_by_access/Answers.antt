use Rattle.topk_theory.proofs.Agreement.{agrees_front, agrees_gives, agrees_push}
use Rattle.topk_theory.proofs.laws_transcript.tables_agree_access_by_access.Goals as goal

pub returns : goal.returns
returns c = λ m n D A access.
    ((λ h. (agrees_front m n D A _ h, agrees_gives m n D A access _ h)), (λ h. agrees_push m n D A access h.0 h.1))
