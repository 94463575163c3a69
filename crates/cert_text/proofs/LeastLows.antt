-- The least of numbers that are told one after another.
use Rattle.std.proofs.Common.{◌≡◌, ℕ, min, List, [], ◌∷◌, ◌++◌, length, map, Some, unwrap_or, refl, ap, ◌∙◌, arith}
use Rattle.std.proofs.lemmas.List.{length-map}
use Rattle.std.proofs.lemmas.List.FromFn.{length-range_with_len}
use Rattle.monotone_fn.specs.Value.{least}
use Rattle.topk_theory.specs.Transcript.{list_numbers}
use Rattle.cert_text.specs.Lows.{least_so_far, lesser}

least_more : (n : ℕ) (ns : List ℕ) (number : ℕ) → least (n ∷ (ns ++ number ∷ [])) ≡ min (least (n ∷ ns)) number
least_more n [] number = refl
least_more n (m ∷ ns) number = let more : least (m ∷ (ns ++ number ∷ [])) ≡ min (least (m ∷ ns)) number = least_more m ns number in omega arith

-- one more number
pub one_more : (ns : List ℕ) (number : ℕ) → least_so_far (ns ++ number ∷ []) ≡ Some (lesser (least_so_far ns) number)
one_more [] number = refl
one_more (n ∷ ns) number = ap Some (least_more n ns number)

-- all numbers
pub all_told : (ns : List ℕ) → unwrap_or (least_so_far ns) 0 ≡ least ns
all_told [] = refl
all_told (n ∷ ns) = refl

-- numbers by the lists are as many as the lists
pub one_for_each : (f : ℕ → ℕ) (m : ℕ) → length (map f (list_numbers m)) ≡ m
one_for_each f m = length-map (list_numbers m) f ∙ length-range_with_len 0 m
