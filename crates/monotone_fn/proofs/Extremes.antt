-- `least` and `greatest` give the number among a list that none is smaller, or greater, than.
use Rattle.std.proofs.Common.{◌≡◌, ℕ, zero, suc, ◌<◌, ◌≤◌, List, [], ◌∷◌, length, get_or, All, Option, Some, None, sym, ap, arith}
use Rattle.std.specs.Prelude.{unwrap_or, MatchOption}
use Rattle.std.proofs.lemmas.List.Elements.{All-head, All-tail}
use Rattle.monotone_fn.specs.Shape.{greatest, IsGreatest}
use Rattle.monotone_fn.specs.Value.{least, IsLeast}

least-le : (ns : List ℕ) (i : ℕ) → i < length ns → least ns ≤ get_or ns i 0
least-le [] i h = absurd (omega arith)
least-le (n ∷ []) zero h = omega arith
least-le (n ∷ []) (suc i) h = absurd (omega arith)
least-le (n ∷ m ∷ ns) zero h = omega arith
least-le (n ∷ m ∷ ns) (suc i) h = omega (arith, least-le (m ∷ ns) i (omega arith))

le-least : (ns : List ℕ) (v : ℕ) → 0 < length ns → All (λ n. v ≤ n) ns → v ≤ least ns
le-least [] v h a = absurd (omega arith)
le-least (n ∷ []) v h a = All-head (λ k. v ≤ k) n [] a
le-least (n ∷ m ∷ ns) v h a =
    omega (arith, All-head (λ k. v ≤ k) n (m ∷ ns) a, le-least (m ∷ ns) v (omega arith) (All-tail (λ k. v ≤ k) n (m ∷ ns) a))

pub least-IsLeast : (ns : List ℕ) (v : ℕ) → IsLeast ns v → v ≡ least ns
least-IsLeast ns v h =
    let k = h.among.0 in
    let at : get_or ns k 0 ≡ v = at_any ns k v h.among.1 h.among.2 in
    omega (arith, at, least-le ns k h.among.1, le-least ns v (omega (arith, h.among.1)) h.bounds)
  where
    at_any : (ns : List ℕ) (k v : ℕ) → k < length ns → get_or ns k v ≡ v → get_or ns k 0 ≡ v
    at_any [] k v l e = absurd (omega arith)
    at_any (n ∷ ns) zero v l e = e
    at_any (n ∷ ns) (suc k) v l e = at_any ns k v (omega arith) e

le-greatest : (ns : List ℕ) (i : ℕ) → i < length ns → get_or ns i 0 ≤ greatest ns
le-greatest [] i h = absurd (omega arith)
le-greatest (n ∷ ns) zero h = omega arith
le-greatest (n ∷ ns) (suc i) h = omega (arith, le-greatest ns i (omega arith))

greatest-le : (ns : List ℕ) (v : ℕ) → All (λ n. n ≤ v) ns → greatest ns ≤ v
greatest-le [] v a = omega arith
greatest-le (n ∷ ns) v a =
    omega (arith, All-head (λ k. k ≤ v) n ns a, greatest-le ns v (All-tail (λ k. k ≤ v) n ns a))

pub greatest-IsGreatest : (ns : List ℕ) (v : ℕ) → IsGreatest ns v → v ≡ greatest ns
greatest-IsGreatest ns v h =
    let k = h.among.0 in
    let at : get_or ns k 0 ≡ v = at_any ns k v h.among.1 h.among.2 in
    omega (arith, at, le-greatest ns k h.among.1, greatest-le ns v h.bounds)
  where
    at_any : (ns : List ℕ) (k v : ℕ) → k < length ns → get_or ns k v ≡ v → get_or ns k 0 ≡ v
    at_any [] k v l e = absurd (omega arith)
    at_any (n ∷ ns) zero v l e = e
    at_any (n ∷ ns) (suc k) v l e = at_any ns k v (omega arith) e

-- the same of a least or a greatest that was kept, if there is one
pub least_kept : (o : Option ℕ) (ns : List ℕ) → MatchOption o (ns ≡ []) (IsLeast ns) → unwrap_or o 0 ≡ least ns
least_kept None ns none = ap least (sym none)
least_kept (Some v) ns is = least-IsLeast ns v is

pub greatest_kept : (o : Option ℕ) (ns : List ℕ) → MatchOption o (ns ≡ []) (IsGreatest ns) → unwrap_or o 0 ≡ greatest ns
greatest_kept None ns none = ap greatest (sym none)
greatest_kept (Some v) ns is = greatest-IsGreatest ns v is
