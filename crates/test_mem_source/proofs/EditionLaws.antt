-- The list that stands at a call, by a walk.
use Rattle.std.proofs.Common.{◌≡◌, ◌<◌, ◌+◌, ℕ, zero, suc, List, [], ◌∷◌, ◌++◌, length, take, drop, get_or, Option, Some, refl, sym, ap, ◌∙◌, arith}
use Rattle.std.specs.Prelude.{if◌then◌else◌}
use Rattle.std.proofs.lemmas.List.{take_more, map-append}
use Rattle.test_mem_source.specs.declared.edition.Later.{Later}
use Rattle.test_mem_source.specs.Editions.{Edition, as_edition, editions_of, comes, standing}

-- one more of those that are left
pub standing_drop : (later : List Later) (i : ℕ) (d : Later) (call : ℕ) (held : Option Edition) → i < length later
    → standing call held (editions_of (drop i later))
    ≡ standing call (if comes call held (as_edition (get_or later i d)) then Some (as_edition (get_or later i d)) else held) (editions_of (drop (i + 1) later))
standing_drop [] i d call held l = absurd (omega arith)
standing_drop (next ∷ later) zero d call held l = refl
standing_drop (next ∷ later) (suc i) d call held l =
    let e : suc i + 1 ≡ suc (i + 1) = omega arith in
    standing_drop later i d call held (omega arith)
    ∙ ap (λ n. standing call (if comes call held (as_edition (get_or later i d)) then Some (as_edition (get_or later i d)) else held) (editions_of (drop n (next ∷ later)))) (sym e)

-- one more of those that are copied
pub copied_more : (later copied now : List Later) (i : ℕ) (d one : Later) → i < length later → now ≡ copied ++ one ∷ [] → as_edition one ≡ as_edition (get_or later i d)
    → editions_of copied ≡ editions_of (take i later) → editions_of now ≡ editions_of (take (i + 1) later)
copied_more later copied now i d one l push same so_far =
    ap editions_of push ∙ map-append as_edition copied (one ∷ [])
    ∙ ap (λ (es : List Edition). es ++ as_edition one ∷ []) so_far ∙ ap (λ (e : Edition). editions_of (take i later) ++ e ∷ []) same
    ∙ sym (map-append as_edition (take i later) (get_or later i d ∷ [])) ∙ ap editions_of (sym (take_more later i d l))
