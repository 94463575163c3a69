-- Grades with a stand-in for each unknown one.
use Rattle.std.proofs.Common.{◌≡◌, ℕ, zero, suc, ◌<◌, ◌≤◌, List, [], ◌∷◌, length, get_or, Option, Some, None, refl, ap, arith}
use Rattle.std.specs.Prelude.{unwrap_or}
use Rattle.std.proofs.lemmas.List.Elements.{All-nil, All-cons, All-head, All-tail, All-map}
use Rattle.monotone_fn.specs.Value.{with_zeros, with_bottoms}
use Rattle.monotone_fn.specs.Limits.{AreGrades, AreGradesWhereKnown}
use Rattle.topk_base.specs.declared.TheConstants.{TOP_GRADE}

pub length-with_bottoms : (known : List (Option ℕ)) (bottoms : List ℕ) → length bottoms ≡ length known → length (with_bottoms known bottoms) ≡ length known
length-with_bottoms [] bottoms h = refl
length-with_bottoms (k ∷ known) [] h = absurd (omega arith)
length-with_bottoms (k ∷ known) (b ∷ bottoms) h = ap suc (length-with_bottoms known bottoms (omega arith))

pub get_or-with_bottoms : (known : List (Option ℕ)) (bottoms : List ℕ) (i : ℕ) → length bottoms ≡ length known → i < length known
    → get_or (with_bottoms known bottoms) i 0 ≡ unwrap_or (get_or known i None) (get_or bottoms i 0)
get_or-with_bottoms [] bottoms i h l = absurd (omega arith)
get_or-with_bottoms (k ∷ known) [] i h l = absurd (omega arith)
get_or-with_bottoms (k ∷ known) (b ∷ bottoms) zero h l = refl
get_or-with_bottoms (k ∷ known) (b ∷ bottoms) (suc i) h l = get_or-with_bottoms known bottoms i (omega arith) (omega arith)

pub AreGrades-with_zeros : (known : List (Option ℕ)) → AreGradesWhereKnown known → AreGrades (with_zeros known)
AreGrades-with_zeros known h = All-map (λ g. g ≤ TOP_GRADE) (λ g. unwrap_or g 0) known h

stand_in : (k : Option ℕ) (b : ℕ) → unwrap_or k 0 ≤ TOP_GRADE → b ≤ TOP_GRADE → unwrap_or k b ≤ TOP_GRADE
stand_in None b h l = l
stand_in (Some g) b h l = h

pub AreGrades-with_bottoms : (known : List (Option ℕ)) (bottoms : List ℕ) → AreGradesWhereKnown known → AreGrades bottoms
    → AreGrades (with_bottoms known bottoms)
AreGrades-with_bottoms [] bottoms h b = All-nil (λ g. g ≤ TOP_GRADE)
AreGrades-with_bottoms (k ∷ known) [] h b = All-nil (λ g. g ≤ TOP_GRADE)
AreGrades-with_bottoms (k ∷ known) (c ∷ bottoms) h b =
    All-cons (λ g. g ≤ TOP_GRADE) (unwrap_or k c) (with_bottoms known bottoms) (stand_in k c (All-head (λ g. unwrap_or g 0 ≤ TOP_GRADE) k known h) (All-head (λ g. g ≤ TOP_GRADE) c bottoms b)) (AreGrades-with_bottoms known bottoms (All-tail (λ g. unwrap_or g 0 ≤ TOP_GRADE) k known h) (All-tail (λ g. g ≤ TOP_GRADE) c bottoms b))
