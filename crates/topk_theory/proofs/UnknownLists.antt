-- The lists that keep a grade of an object unknown, list by list.
use Rattle.std.proofs.Common.{◌≡◌, ℕ, zero, suc, ◌+◌, false, cond, List, [], ◌∷◌, ◌++◌, filter, is_none, ap, ◌∙◌, arith}
use Rattle.std.specs.List.{range_with_len}
use Rattle.std.proofs.lemmas.Bool.{cond-false}
use Rattle.std.proofs.lemmas.List.Elements.{filter-append}
use Rattle.topk_theory.specs.declared.access.Access.{Access}
use Rattle.topk_theory.specs.Bounds.{known_grade}
use Rattle.topk_theory.specs.Combined.{unknown_lists}

numbers_split : (n a k : ℕ) → range_with_len a (n + k) ≡ range_with_len a n ++ range_with_len (a + n) k
numbers_split zero a k =
    let none : 0 + k ≡ k = omega arith in
    let here : a ≡ a + 0 = omega arith in
    ap (range_with_len a) none ∙ ap (λ b. range_with_len b k) here
numbers_split (suc n) a k =
    let one : suc n + k ≡ suc (n + k) = omega arith in
    let next : (a + 1) + n ≡ a + suc n = omega arith in
    ap (range_with_len a) one ∙ ap (λ xs. a ∷ xs) (numbers_split n (a + 1) k ∙ ap (λ b. range_with_len (a + 1) n ++ range_with_len b k) next)

-- the first lists, and those behind them
pub unknown_split : (n k : ℕ) (A : List Access) (object : ℕ)
    → unknown_lists (n + k) A object ≡ unknown_lists n A object ++ filter (λ list. is_none (known_grade A object list)) (range_with_len n k)
unknown_split n k A object =
    let here : 0 + n ≡ n = omega arith in
    ap (filter (λ list. is_none (known_grade A object list))) (numbers_split n 0 k ∙ ap (λ b. range_with_len 0 n ++ range_with_len b k) here)
    ∙ filter-append (λ list. is_none (known_grade A object list)) (range_with_len 0 n) (range_with_len n k)

-- up to a list all grades are known, and there too
pub none_unknown_more : (n : ℕ) (A : List Access) (object : ℕ) → is_none (known_grade A object n) ≡ false → unknown_lists n A object ≡ []
    → unknown_lists (n + 1) A object ≡ []
none_unknown_more n A object known none =
    unknown_split n 1 A object ∙ ap (λ xs. xs ++ cond {A = List ℕ} (is_none (known_grade A object n)) (n ∷ []) []) none ∙ cond-false (is_none (known_grade A object n)) (n ∷ []) [] known
