-- What writes of a text's pieces take.
use Rattle.std.proofs.Common.{◌≡◌, ℕ, ◌+◌, ◌-◌, List, ◌++◌, Option, None, Some, length, take, drop, sym, ap, subst, ◌∙◌}
use Rattle.std.proofs.Math.Seq.{take-add, take-length}
use Rattle.std.proofs.lemmas.List.{take-append-drop, length-drop}
use Rattle.std.specs.Io.KnownBytes.{Appends, Keeps}
use Rattle.std.proofs.KnownBytes.{Appends-trans, Appends-kept}
use Rattle.tk_io.specs.Whole.{TookFront}

-- a front and then a piece of the rest are a longer front
pub took_more : (before mid now : Option (List ℕ)) (text : List ℕ) (done count : ℕ)
    → Appends before mid (take done text) → Appends mid now (take count (take (length text - done) (drop done text)))
    → Appends before now (take (done + count) text)
took_more before mid now text done count first second =
    let rest : take (length text - done) (drop done text) ≡ drop done text =
    ap (λ n. take n (drop done text)) (sym (length-drop done text)) ∙ take-length (drop done text) in
    let next : Appends mid now (take count (drop done text)) = subst (λ xs. Appends mid now (take count xs)) rest second in
    rw (take-add done count text) (Appends-trans before mid now (take done text) (take count (drop done text)) first next)

-- what was taken stays so where a call took nothing
pub took_front : (before mid now : Option (List ℕ)) (text : List ℕ) (done : ℕ)
    → Appends before mid (take done text) → Keeps mid now → TookFront before now text
took_front before mid now text done first kept = (take done text, drop done text, sym (take-append-drop done text), Appends-kept before mid now (take done text) first kept)

-- what is taken after a call that took nothing
pub took_after : (before mid now : Option (List ℕ)) (bytes : List ℕ) → Keeps before mid → Appends mid now bytes → Appends before now bytes
took_after None mid now bytes kept taken = tt
took_after (Some xs) None now bytes kept taken = absurd kept
took_after (Some xs) (Some ys) None bytes kept taken = absurd taken
took_after (Some xs) (Some ys) (Some zs) bytes kept taken = taken ∙ ap (λ (front : List ℕ). front ++ bytes) kept
