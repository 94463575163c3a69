-- The text of what is told.
use Rattle.std.specs.Prelude.{ℕ, List, [], ◌∷◌, ◌++◌, codes}
use Rattle.std.specs.List.{flat_map, concat}
use Rattle.std.specs.Fmt.{decimal}
use Rattle.topk_base.specs.Lines.{unlines}
use Rattle.bundle_text.specs.Bundle.{content, bundle_lines}
use Rattle.cert_judge.specs.declared.judgement.Judgement.{Judgement}
use Rattle.cert_judge.specs.declared.judgement.Judgement.TheVariants.{BadLine, Inconsistent, WildGuess, WrongSize, UnseenAnswer, Figure, Fixes, Beaten}

-- `refused NAME` and the fields, each after one space
abbrev pub refused_line : List ℕ → List ℕ → List ℕ
refused_line name fields = codes "refused " ++ name ++ flat_map (λ field. 32 ∷ decimal field) fields

-- a word and its number
abbrev pub named : List ℕ → ℕ → List ℕ
named word number = word ++ decimal number

-- `beaten inside I low L outside O high H`
abbrev pub beaten_line : ℕ → ℕ → ℕ → ℕ → List ℕ
beaten_line inside low outside high =
    concat (named (codes "beaten inside ") inside ∷ named (codes " low ") low ∷ named (codes " outside ") outside ∷ named (codes " high ") high ∷ [])

-- the lines of what is told: one, and below that of a beaten answer the lines of the counter
abbrev pub told_lines : Judgement → List (List ℕ)
told_lines (BadLine line) = refused_line (codes "BadLine") (line ∷ []) ∷ []
told_lines (Inconsistent at kind) = refused_line (codes "Inconsistent") (at ∷ kind ∷ []) ∷ []
told_lines (WildGuess at) = refused_line (codes "WildGuess") (at ∷ []) ∷ []
told_lines (WrongSize given k) = refused_line (codes "WrongSize") (given ∷ k ∷ []) ∷ []
told_lines (UnseenAnswer object) = refused_line (codes "UnseenAnswer") (object ∷ []) ∷ []
told_lines (Figure line) = refused_line (codes "Figure") (line ∷ []) ∷ []
told_lines Fixes = codes "fixes" ∷ []
told_lines (Beaten inside outside low high counter) = beaten_line inside low outside high ∷ bundle_lines (content counter)

-- the text of what is told
unfoldable pub told_text : Judgement → List ℕ
told_text told = unlines (told_lines told)
