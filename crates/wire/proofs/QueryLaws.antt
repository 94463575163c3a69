-- The bounds of a number that is read.
use Rattle.std.proofs.Common.{◌≡◌, ◌≤◌, ℕ, Bool, true, false, cond, List, Option, Some, None, nat_le, refl, subst}
use Rattle.std.specs.Option.{option_and_then}
use Rattle.std.proofs.lemmas.Bool.{leb-true}
use Rattle.std.proofs.lemmas.Option.{same_Some}
use Rattle.topk_base.specs.Numbers.{number_of, number_up_to}

-- a number that is at most `most`
pub number_within : (most n : ℕ) (text : List ℕ) → number_up_to most text ≡ Some n → n ≤ most
number_within most n text h = by (number_of text) h
  where
    test : (m : ℕ) (t : Bool) → nat_le m most ≡ t → cond t (Some m) None ≡ Some n → n ≤ most
    test m true is h = subst (λ x. x ≤ most) (same_Some _ _ h) (leb-true m most is)
    test m false is h = absurd cc

    by : (o : Option ℕ) → option_and_then (λ m. cond (nat_le m most) (Some m) None) o ≡ Some n → n ≤ most
    by None h = absurd cc
    by (Some m) h = test m (nat_le m most) refl h
