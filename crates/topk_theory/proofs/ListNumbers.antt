-- The numbers below a number: which there are.
use Rattle.std.proofs.Common.{◌≡◌, ℕ, ◌+◌, ◌<◌, List, [], ◌∷◌, ◌++◌, length, Contains, sym, ap, ◌∙◌, arith}
use Rattle.std.specs.List.{range_with_len}
use Rattle.std.proofs.lemmas.List.{map-id}
use Rattle.std.proofs.lemmas.List.FromFn.{length-range_with_len, get_or-range_with_len, map-range_with_len_more}

pub number_below : (n x : ℕ) → Contains (range_with_len 0 n) x → x < n
number_below n x c =
    let size : length (range_with_len 0 n) ≡ n = length-range_with_len 0 n in
    let at : c.0 < length (range_with_len 0 n) = c.1 in
    let e : x ≡ 0 + c.0 = sym c.2 ∙ get_or-range_with_len 0 n c.0 x (omega arith) in
    omega arith

pub number_in : (n x : ℕ) → x < n → Contains (range_with_len 0 n) x
number_in n x l =
    let size : length (range_with_len 0 n) ≡ n = length-range_with_len 0 n in
    let same : 0 + x ≡ x = omega arith in
    (x, omega arith, get_or-range_with_len 0 n x x l ∙ same)

pub range_more : (n : ℕ) → range_with_len 0 (n + 1) ≡ range_with_len 0 n ++ n ∷ []
range_more n =
    sym (map-id (range_with_len 0 (n + 1))) ∙ map-range_with_len_more (λ k. k) 0 n n (omega arith) ∙ ap (λ (ns : List ℕ). ns ++ n ∷ []) (map-id (range_with_len 0 n))
