-- The line by which a text is refused, as the code keeps it.
use Rattle.std.specs.Prelude.{◌≡◌, ℕ, List, [], ◌∷◌, Option, None, Some}
use Rattle.cert_judge.specs.declared.judgement.Judgement.{Judgement}
use Rattle.cert_judge.specs.declared.judgement.Judgement.TheVariants.{Fixes, Beaten}
use Rattle.cert_judge.specs.declared.refusal.RefusalLine.{RefusalLine}
use Rattle.cert_judge.specs.declared.refusal.RefusalLine.TheVariants.{One, Two}
use Rattle.cert_judge.specs.Text.{refused_line, told_lines}

-- the line
abbrev pub shown_refusal : RefusalLine → List ℕ
shown_refusal (One name fields) = refused_line name.now fields
shown_refusal (Two name fields) = refused_line name.now fields

-- the text is judged: its answer is fixed, or beaten
abbrev pub IsVerdict : Judgement → Type 0
IsVerdict Fixes = Unit {0}
IsVerdict (Beaten inside outside low high counter) = Unit {0}
IsVerdict told = ⊥

-- the line of the refusal is all that is told, or the text is judged
abbrev pub RefusesBy : Judgement → Option RefusalLine → Type 0
RefusesBy told (Some line) = told_lines told ≡ shown_refusal line ∷ []
RefusesBy told None = IsVerdict told
