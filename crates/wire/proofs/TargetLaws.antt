-- Where an authority ends.
use Rattle.std.proofs.Common.{◌≡◌, ◌+◌, ◌-◌, ◌≤◌, ℕ, Bool, true, false, not, cond, List, [], ◌∷◌, length, drop, take, Some, None, nat_lt, refl, sym, subst, one-add, arith}
use Rattle.std.specs.List.{position_or_len}
use Rattle.std.proofs.lemmas.Bool.Decides.{nat_tests}
use Rattle.std.proofs.lemmas.List.{take_rest}
use Rattle.std.proofs.lemmas.Option.{same_Some}
use Rattle.wire.specs.Targets.{ends_authority, IsBehind}

-- the place that is found is the number of bytes before it
pub found_at : (n m k : ℕ) → cond (nat_lt n m) (Some n) None ≡ Some k → k ≡ n
found_at n m k h = by (nat_lt n m) h
  where
    by : (t : Bool) → cond t (Some n) None ≡ Some k → k ≡ n
    by true h = sym (same_Some _ _ h)
    by false h = absurd cc

-- where none is found it is all of them
pub found_nowhere : (n m : ℕ) → n ≤ m → cond (nat_lt n m) (Some n) None ≡ None → m ≡ n
found_nowhere n m within h =
    let past : m ≤ n = grind (arith, nat_tests) in
    omega arith

-- what stands behind an authority is nothing, or begins with what ends it
pub behind : (bytes : List ℕ) → IsBehind (Some (drop (position_or_len ends_authority bytes) bytes))
behind [] = tt
behind (byte ∷ bytes) = by (ends_authority byte) refl (behind bytes)
  where
    by : (t : Bool) → ends_authority byte ≡ t → IsBehind (Some (drop (position_or_len ends_authority bytes) bytes))
        → IsBehind (Some (drop (cond (not t) (1 + position_or_len ends_authority bytes) 0) (byte ∷ bytes)))
    by true is below = is
    by false is below = rw one-add below

-- the same of the part that is taken
pub behind_part : (bytes : List ℕ) (len : ℕ) → len ≡ position_or_len ends_authority bytes → IsBehind (Some (take (length bytes - len) (drop len bytes)))
behind_part bytes len is =
    subst (λ (xs : List ℕ). IsBehind (Some xs)) (sym (take_rest bytes len))
    (subst (λ n. IsBehind (Some (drop n bytes))) (sym is) (behind bytes))
