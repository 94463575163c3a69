-- The lists' bottoms.
use Rattle.std.proofs.Common.{◌≡◌, ℕ, List, length, map, ap, ◌∙◌}
use Rattle.std.proofs.lemmas.List.FromFn.{length-range_with_len}
use Rattle.topk_theory.specs.Transcript.{list_numbers}
use Rattle.topk_theory.proofs.ThresholdLists.{length-map}

pub one_each : (f : ℕ → ℕ) (xs : List ℕ) (m : ℕ) → xs ≡ map f (list_numbers m) → length xs ≡ m
one_each f xs m is = ap length is ∙ length-map f (list_numbers m) ∙ length-range_with_len 0 m
