-- The text of a refusal is its line, and a judged text is told to be fixed or beaten.
use Rattle.std.proofs.Common.{◌≡◌, ℕ, [], ◌∷◌, ◌++◌, Some, refl, ap, ◌∙◌, append-nil}
use Rattle.topk_base.specs.Lines.{unlines}
use Rattle.bundle_text.specs.declared.bundle.Bundle.{Bundle}
use Rattle.cert_judge.specs.declared.judgement.Judgement.{Judgement}
use Rattle.cert_judge.specs.declared.judgement.Judgement.TheVariants.{Fixes, Beaten}
use Rattle.cert_judge.specs.declared.refusal.RefusalLine.{RefusalLine}
use Rattle.cert_judge.specs.Text.{told_text}
use Rattle.cert_judge.specs.Refusing.{shown_refusal, IsVerdict, RefusesBy}

pub refused_text : (told : Judgement) (line : RefusalLine) → RefusesBy told (Some line) → told_text told ≡ shown_refusal line ++ 10 ∷ []
unfolding told_text
refused_text told line is = ap unlines is ∙ append-nil (shown_refusal line ++ 10 ∷ [])

-- a judged text whose answer isn't beaten is told to be fixed
pub not_beaten : (told : Judgement) → IsVerdict told
    → ((inside outside low high : ℕ) (counter : Bundle) → told ≡ Beaten inside outside low high counter → ⊥) → told ≡ Fixes
not_beaten Fixes judged other = refl
not_beaten (Beaten inside outside low high counter) judged other = absurd (other inside outside low high counter refl)
not_beaten _ judged other = absurd judged
