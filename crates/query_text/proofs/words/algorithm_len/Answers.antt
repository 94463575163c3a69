use Rattle.std.proofs.Common.{[], ◌∷◌, List, ℕ, codes, subst}
use Rattle.query_text.specs.Words.{Class, IsLongest}
use Rattle.query_text.proofs.LongestLaws.{longest_either}
use Rattle.query_text.proofs.words.algorithm_len.Goals as goal

pub returns : goal.returns
returns c =
    let text = c.args.text.now in
    let one : (word : List ℕ) (n : ℕ) → Type 0 = λ word n. IsLongest (Class.words (word ∷ [])) text n in
    let rated : IsLongest (Class.words (codes "theta " ∷ codes "early " ∷ [])) text c.max-rated.result = rw c.max-rated.ensures (longest_either text (codes "theta ") (codes "early " ∷ []) _ _ c.common.ensures c.common-2.ensures) in
    let ordered = longest_either text (codes "taz") (codes "theta " ∷ codes "early " ∷ []) _ _
    (subst (λ word. one word c.common-ordered.result) c.word-5.ensures c.common-ordered.ensures) rated in
    let fagin = longest_either text (codes "fa") (codes "taz" ∷ codes "theta " ∷ codes "early " ∷ []) _ _
    (subst (λ word. one word c.common-fagin.result) c.word-4.ensures c.common-fagin.ensures) ordered in
    let combined = longest_either text (codes "ca") (codes "fa" ∷ codes "taz" ∷ codes "theta " ∷ codes "early " ∷ []) _ _
    (subst (λ word. one word c.common-combined.result) c.word-3.ensures c.common-combined.ensures) fagin in
    let random = longest_either text (codes "nra") (codes "ca" ∷ codes "fa" ∷ codes "taz" ∷ codes "theta " ∷ codes "early " ∷ []) _ _
    (subst (λ word. one word c.common-without_random.result) c.word-2.ensures c.common-without_random.ensures) combined in
    rw (c.max-5.ensures, c.max-4.ensures, c.max-3.ensures, c.max-2.ensures, c.max.ensures) (longest_either text (codes "ta") (codes "nra" ∷ codes "ca" ∷ codes "fa" ∷ codes "taz" ∷ codes "theta " ∷ codes "early " ∷ []) _ _
    (subst (λ word. one word c.common-threshold.result) c.word.ensures c.common-threshold.ensures) random)
