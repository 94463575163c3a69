use Rattle.std.proofs.Common.{refl}
use Rattle.topk_theory.proofs.Agreement.{drawn_more}
use Rattle.topk_theory.proofs.laws_transcript.what_is_drawn_stays_drawn.Goals as goal

pub returns-clause-more : goal.returns-clause-more
returns-clause-more c = drawn_more

pub returns-clause-whole : goal.returns-clause-whole
returns-clause-whole c = λ n D A table. (λ agrees. agrees.drawn, λ drawn. record { lists = refl; table = table; drawn = drawn })
