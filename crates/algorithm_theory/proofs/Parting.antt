-- A transcript fixes that an answer is within a factor exactly where no high outside is more than the factor times a low inside.
use Rattle.std.proofs.Common.{◌≡◌, ◌≢◌, ℕ, ◌<◌, ◌≤◌, ◌*◌, List, Contains, sym, ap, subst, arith}
use Rattle.std.proofs.Math.Nat.{mul-le-mul, mul-le-mul_left}
use Rattle.ranked_list.specs.declared.row.Row.{Row}
use Rattle.topk_theory.specs.declared.access.Access.{Access}
use Rattle.monotone_fn.specs.Value.{IsMonotone}
use Rattle.topk_theory.specs.Aggregate.{objects_of, aggregate, IsTop}
use Rattle.topk_theory.specs.Bounds.{low, high}
use Rattle.topk_theory.specs.Fixes.{Fixes}
use Rattle.topk_theory.specs.Consistent.{SomeAgrees}
use Rattle.topk_theory.specs.Adversary.{completed, MayBeObjects, against}
use Rattle.topk_theory.proofs.AgreementLists.{all_from_members, member_of_all}
use Rattle.topk_theory.proofs.BoundsLaws.{low_holds, high_holds}
use Rattle.topk_theory.proofs.Adversary.{holds_against}
use Rattle.algorithm_theory.specs.Within.{Factor, IsWithin, FixesWithinOver, FixesWithin, BoundsPartWithin}
use Rattle.algorithm_theory.specs.Guarantee.{exact_factor}

-- in the table of an adversary one object has its low and another its high
fixed_part : (V : List ℕ → ℕ) (k : ℕ) (factor : Factor) (m n : ℕ) (O : List ℕ) (A : List Access) (Y : List ℕ) → 0 < m → SomeAgrees m n A → MayBeObjects n A O
    → FixesWithinOver V k factor m n O A Y → (inside outside : ℕ) → Contains Y inside → Contains O outside → (¬ Contains Y outside)
    → factor.q * high V m A outside ≤ factor.p * low V m A inside
fixed_part V k factor m n O A Y lists some may fixes inside outside c o out =
    let D = completed (against inside A) O m A in
    let holds = holds_against V m n A O inside lists some may in
    let near = fixes.always D holds.agrees holds.over in
    let apart : outside ≢ inside = λ e. out (subst (λ y. Contains Y y) (sym e) c) in
    let here : Contains O inside = member_of_all (Contains O) Y inside fixes.members c in
    let le : factor.q * aggregate V D outside ≤ factor.p * aggregate V D inside = near.near inside outside c ((holds.over outside).1 o) out in
    let least : factor.p * aggregate V D inside ≡ factor.p * low V m A inside = ap (λ v. factor.p * v) (holds.lowest here) in
    let most : factor.q * aggregate V D outside ≡ factor.q * high V m A outside = ap (λ v. factor.q * v) (holds.highest outside o apart) in
    omega arith

pub fixes_parts_within : (V : List ℕ → ℕ) (k : ℕ) (factor : Factor) (m n : ℕ) (O : List ℕ) (A : List Access) (Y : List ℕ) → 0 < m → SomeAgrees m n A
    → MayBeObjects n A O → FixesWithinOver V k factor m n O A Y → BoundsPartWithin V k factor m O A Y
fixes_parts_within V k factor m n O A Y lists some may fixes = record {
  sized = fixes.sized;
  distinct = fixes.distinct;
  members = fixes.members;
  part = fixed_part V k factor m n O A Y lists some may fixes;
}

pub parts_fix_within : (V : List ℕ → ℕ) (k : ℕ) (factor : Factor) (m n : ℕ) (O : List ℕ) (A : List Access) (Y : List ℕ) → IsMonotone V
    → BoundsPartWithin V k factor m O A Y → FixesWithinOver V k factor m n O A Y
parts_fix_within V k factor m n O A Y monotone h = record {
  sized = h.sized;
  distinct = h.distinct;
  members = h.members;
  always = λ D agrees over. record {
    sized = h.sized;
    distinct = h.distinct;
    members = all_from_members (Contains (objects_of D)) Y (λ y c. (over y).1 (member_of_all (Contains O) Y y h.members c));
    near = λ inside outside c here out.
        let up : factor.q * aggregate V D outside ≤ factor.q * high V m A outside = mul-le-mul_left factor.q (high_holds V m n D A outside monotone agrees) in
        let down : factor.p * low V m A inside ≤ factor.p * aggregate V D inside = mul-le-mul_left factor.p (low_holds V m n D A inside monotone agrees) in
        let part : factor.q * high V m A outside ≤ factor.p * low V m A inside = h.part inside outside c ((over outside).0 here) out in
        omega arith;
  };
}

-- within the factor 1 an answer is a top k
pub exact_is_top : (V : List ℕ → ℕ) (k : ℕ) (D : List (List Row)) (Y : List ℕ) → IsWithin V k exact_factor D Y → IsTop V k D Y
exact_is_top V k D Y h = record {
  sized = h.sized;
  distinct = h.distinct;
  members = h.members;
  unbeaten = λ inside outside c o out. let le : 1 * aggregate V D outside ≤ 1 * aggregate V D inside = h.near inside outside c o out in omega arith;
}

-- and a top k is within each factor of at least 1
pub top_is_within : (V : List ℕ → ℕ) (k : ℕ) (factor : Factor) (D : List (List Row)) (Y : List ℕ) → factor.q ≤ factor.p → IsTop V k D Y → IsWithin V k factor D Y
top_is_within V k factor D Y fair h = record {
  sized = h.sized;
  distinct = h.distinct;
  members = h.members;
  near = λ inside outside c o out. times_both factor.q factor.p (aggregate V D outside) (aggregate V D inside) fair (h.unbeaten inside outside c o out);
}
  where
    times_both : (q p a b : ℕ) → q ≤ p → a ≤ b → q * a ≤ p * b
    times_both q p a b f l = mul-le-mul f l

pub top_is_exact : (V : List ℕ → ℕ) (k : ℕ) (D : List (List Row)) (Y : List ℕ) → IsTop V k D Y → IsWithin V k exact_factor D Y
top_is_exact V k D Y h = let fair : exact_factor.q ≤ exact_factor.p = omega arith in top_is_within V k exact_factor D Y fair h

-- so what is fixed within the factor 1 is fixed
pub exact_fixes : (V : List ℕ → ℕ) (k m n : ℕ) (A : List Access) (Y : List ℕ) → FixesWithin V k exact_factor m n A Y → Fixes V k m n A Y
exact_fixes V k m n A Y fixes O set holds =
    let over = fixes O set holds in
    record { sized = over.sized; distinct = over.distinct; members = over.members; always = λ D agrees is_over. exact_is_top V k D Y (over.always D agrees is_over) }

pub fixes_exact : (V : List ℕ → ℕ) (k m n : ℕ) (A : List Access) (Y : List ℕ) → Fixes V k m n A Y → FixesWithin V k exact_factor m n A Y
fixes_exact V k m n A Y fixes O set holds =
    let over = fixes O set holds in
    record { sized = over.sized; distinct = over.distinct; members = over.members; always = λ D agrees is_over. top_is_exact V k D Y (over.always D agrees is_over) }
