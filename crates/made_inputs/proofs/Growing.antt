-- A list that grows by what stands next.
use Rattle.std.proofs.Common.{◌≡◌, ◌+◌, ℕ, List, [], ◌∷◌, ◌++◌, length, map, sym, ap, ◌∙◌}
use Rattle.std.specs.List.{range_with_len}
use Rattle.std.proofs.lemmas.List.{map-append, length-map}
use Rattle.std.proofs.lemmas.List.FromFn.{map-range_with_len_more, length-map-range_with_len}

pub grown : {X Y : Type 0} (f : X → Y) (g : ℕ → Y) (a n j : ℕ) (items now : List X) (x : X) → a + n ≡ j → map f items ≡ map g (range_with_len a n)
    → now ≡ items ++ x ∷ [] → f x ≡ g j
    → map f now ≡ map g (range_with_len a (n + 1))
grown f g a n j items now x at are push is =
    ap (map f) push
    ∙ map-append f items (x ∷ [])
    ∙ ap (λ ys. ys ++ f x ∷ []) are
    ∙ ap (λ y. map g (range_with_len a n) ++ y ∷ []) is
    ∙ sym (map-range_with_len_more g a n j at)

-- how many there are then
pub grown_length : {X Y : Type 0} (f : X → Y) (g : ℕ → Y) (a n : ℕ) (items : List X) → map f items ≡ map g (range_with_len a n) → length items ≡ n
grown_length f g a n items are = sym (length-map items f) ∙ ap length are ∙ length-map-range_with_len g a n
