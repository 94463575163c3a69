-- The ends of the lists after one more access.
use Rattle.std.proofs.Common.{◌≡◌, ◌≢◌, ℕ, ◌+◌, ◌<◌, inl, inr, true, false, cond, List, [], ◌∷◌, ◌++◌, length, slice_index_or, slice_set, sym, ap, subst, ◌∙◌, arith, add-zero}
use Rattle.std.proofs.lemmas.Bool.{cases_eq, true≢false}
use Rattle.std.proofs.lemmas.List.{get_or-set_same, get_or-set_other, length-set}
use Rattle.std.proofs.lemmas.List.Sums.{sum_by-append, sum_by-cons}
use Rattle.topk_theory.specs.declared.access.Access.{Access}
use Rattle.topk_theory.specs.declared.access.Access.TheVariants.{Sorted, Random}
use Rattle.topk_theory.specs.Transcript.{list_of, grade_of, is_sorted, depth_of, bottom_of, sorted_count}
use Rattle.topk_theory.proofs.Agreement.{depth_of_sorted, depth_of_other, depth_of_random, bottom_of_sorted, bottom_of_other, bottom_of_random}
use Rattle.access_log.specs.RecordsKept.{AreEndsOf}
use Rattle.access_log.specs.declared.ends.Ends.{Ends}
use Rattle.topk_base.specs.declared.TheConstants.{MAX_LISTS}

sorted_count_push : (A : List Access) (a : Access) → sorted_count (A ++ a ∷ []) ≡ sorted_count A + cond (is_sorted a) 1 0
sorted_count_push A a = sum_by-append (λ (b : Access). cond (is_sorted b) 1 0) A (a ∷ []) ∙ ap (λ n. sorted_count A + n) (sum_by-cons (λ (b : Access). cond (is_sorted b) 1 0) a [] ∙ add-zero (cond (is_sorted a) 1 0))

-- a list's value is set where it is this list's, and stays in the others
set_place : (f g : ℕ → ℕ) (xs : List ℕ) (i v m : ℕ) → i < length xs → g i ≡ v → ((j : ℕ) → i ≢ j → g j ≡ f j) → ((j : ℕ) → j < m → slice_index_or xs j 0 ≡ f j)
    → (j : ℕ) → j < m → slice_index_or (slice_set xs i v) j 0 ≡ g j
set_place f g xs i v m l e others h j k =
    elim (cases_eq i j) [
      | inl same ↦ subst (λ at. slice_index_or (slice_set xs i v) at 0 ≡ g at) same (get_or-set_same xs i v 0 l ∙ sym e)
      | inr n ↦ get_or-set_other xs i j v 0 (λ q. n (sym q)) ∙ h j k ∙ sym (others j n)
    ]

depth_at : (m : ℕ) (A : List Access) (ends : Ends) (list object grade : ℕ) → list < length ends.depths → AreEndsOf m A ends → (at : ℕ) → at < m
    → slice_index_or (slice_set ends.depths list (slice_index_or ends.depths list 0 + 1)) at 0 ≡ depth_of at (A ++ Sorted list object grade ∷ [])
depth_at m A ends list object grade l h at k =
    elim (cases_eq list at) [
      | inl same ↦ subst (λ j. slice_index_or (slice_set ends.depths list (slice_index_or ends.depths list 0 + 1)) j 0 ≡ depth_of j (A ++ Sorted list object grade ∷ [])) same
          (get_or-set_same ends.depths list (slice_index_or ends.depths list 0 + 1) 0 l ∙ ap (λ n. n + 1) (h.depths list (subst (λ j. j < m) (sym same) k)) ∙ sym (depth_of_sorted list A object grade))
      | inr n ↦ get_or-set_other ends.depths list at (slice_index_or ends.depths list 0 + 1) 0 (λ q. n (sym q)) ∙ h.depths at k ∙ sym (depth_of_other at list A object grade n)
    ]

pub ends_sorted : (m : ℕ) (A : List Access) (ends : Ends) (list object grade : ℕ) → list < MAX_LISTS → AreEndsOf m A ends
    → AreEndsOf m (A ++ Sorted list object grade ∷ [])
    (record { depths = slice_set ends.depths list (slice_index_or ends.depths list 0 + 1); bottoms = slice_set ends.bottoms list grade; sorted = ends.sorted + 1 })
ends_sorted m A ends list object grade l h = record {
  sized = (length-set ends.depths list (slice_index_or ends.depths list 0 + 1) ∙ h.sized.0, length-set ends.bottoms list grade ∙ h.sized.1);
  depths = λ at k. depth_at m A ends list object grade (subst (λ n. list < n) (sym h.sized.0) l) h at k;
  bottoms = set_place (λ at. bottom_of at A) (λ at. bottom_of at (A ++ Sorted list object grade ∷ [])) ends.bottoms list grade m (subst (λ n. list < n) (sym h.sized.1) l) (bottom_of_sorted list A object grade) (λ at n. bottom_of_other at list A object grade n) h.bottoms;
  sorted = ap (λ n. n + 1) h.sorted ∙ sym (sorted_count_push A (Sorted list object grade));
}

pub ends_random : (m : ℕ) (A : List Access) (ends : Ends) (list object grade : ℕ) → AreEndsOf m A ends → AreEndsOf m (A ++ Random list object grade ∷ []) ends
ends_random m A ends list object grade h = record {
  sized = h.sized;
  depths = λ at k. h.depths at k ∙ sym (depth_of_random at list A object grade);
  bottoms = λ at k. h.bottoms at k ∙ sym (bottom_of_random at list A object grade);
  sorted = let e = sorted_count_push A (Random list object grade) in let f = h.sorted in omega arith;
}

-- by what the access is
pub ends_then : (m : ℕ) (A : List Access) (ends : Ends) (a : Access) (list grade : ℕ) → is_sorted a ≡ true → list ≡ list_of a → grade ≡ grade_of a
    → list_of a < MAX_LISTS → AreEndsOf m A ends
    → AreEndsOf m (A ++ a ∷ [])
    (record { depths = slice_set ends.depths list (slice_index_or ends.depths list 0 + 1); bottoms = slice_set ends.bottoms list grade; sorted = ends.sorted + 1 })
ends_then m A ends (Sorted at object g) list grade t e f l h =
    subst (λ k. AreEndsOf m (A ++ Sorted at object g ∷ []) (record { depths = slice_set ends.depths k (slice_index_or ends.depths k 0 + 1); bottoms = slice_set ends.bottoms k grade; sorted = ends.sorted + 1 })) (sym e)
    (subst (λ k. AreEndsOf m (A ++ Sorted at object g ∷ []) (record { depths = slice_set ends.depths at (slice_index_or ends.depths at 0 + 1); bottoms = slice_set ends.bottoms at k; sorted = ends.sorted + 1 })) (sym f)
    (ends_sorted m A ends at object g l h))
ends_then m A ends (Random at object g) list grade t e f l h = absurd (true≢false (sym t))

pub ends_else : (m : ℕ) (A : List Access) (ends : Ends) (a : Access) → is_sorted a ≡ false → AreEndsOf m A ends → AreEndsOf m (A ++ a ∷ []) ends
ends_else m A ends (Sorted at object g) t h = absurd (true≢false t)
ends_else m A ends (Random at object g) t h = ends_random m A ends at object g h
