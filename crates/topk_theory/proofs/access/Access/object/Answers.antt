use Rattle.std.proofs.Common.{⊎_elim, sym, ap}
use Rattle.topk_theory.specs.Transcript.{object_of}
use Rattle.topk_theory.proofs.access.Access.object.Goals as goal

pub returns : goal.returns
returns c = ⊎_elim (λ h. sym (ap object_of h.2)) (λ h. sym (ap object_of h.2)) c.in-Sorted.is
