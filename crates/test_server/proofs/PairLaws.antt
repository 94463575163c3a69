-- A fact of both items of a list of two.
use Rattle.std.proofs.Common.{◌≡◌, ◌<◌, ◌∷◌, [], ℕ, zero, suc, List, All, length, slice_index_or, sym, subst, arith}

both : {A : Type 0} (P : A → Type 0) (x y : A) → P x → P y → (k : ℕ) (d : A) → k < length (x ∷ y ∷ []) → P (slice_index_or (x ∷ y ∷ []) k d)
both P x y first second zero d l = first
both P x y first second (suc zero) d l = second
both P x y first second (suc (suc k)) d l = absurd (omega (arith, l))

pub all_two : {A : Type 0} (P : A → Type 0) (x y : A) (items : List A) → items ≡ x ∷ y ∷ [] → P x → P y → All P items
all_two P x y items is first second = subst (All P) (sym is) (both P x y first second)
