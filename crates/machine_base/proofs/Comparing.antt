-- Two comparisons in a row: the first decides, unless it is a tie.
use Rattle.std.proofs.Common.{◌≡◌, ◌≢◌, ℕ, refl, ap}
use Rattle.std.specs.declared.cmp.Ordering.{Ordering}
use Rattle.std.specs.declared.cmp.Ordering.TheVariants.{Less, Equal, Greater}
use Rattle.std.specs.Ordering.{ordering_then, nat_cmp}
use Rattle.std.specs.Cmp.{nat_cmp_is}
use Rattle.std.proofs.lemmas.Map.Lookups.{exact_unsigned}

no_tie : (one other : Ordering) → one ≢ Equal → one ≡ ordering_then one other
no_tie Less other not = refl
no_tie Equal other not = absurd (not refl)
no_tie Greater other not = refl

pub first_decides : (x y : ℕ) (other : Ordering) → x ≢ y → nat_cmp x y ≡ ordering_then (nat_cmp x y) other
first_decides x y other not = no_tie (nat_cmp x y) other (λ tie. not (exact_unsigned x y tie))

pub second_decides : (x y : ℕ) (other : Ordering) → x ≡ y → other ≡ ordering_then (nat_cmp x y) other
second_decides x y other same = ap (λ o. ordering_then o other) (nat_cmp_is x y Equal same)
