-- What is certain for a query goes no further than a run that it is on.
use Rattle.std.proofs.Common.{◌≡◌, ◌≤◌, ◌<◌, ◌==◌, inl, inr, ℕ, true, max, List, [], ◌∷◌, length, map, Contains, slice_index_or, refl, sym, ap, subst, ◌∙◌, arith}
use Rattle.std.specs.List.{fold}
use Rattle.std.proofs.lemmas.Bool.Decides.{eqb_tells}
use Rattle.ranked_list.specs.declared.row.Row.{Row}
use Rattle.topk_theory.specs.declared.access.Access.{Access}
use Rattle.topk_theory.specs.declared.access.Access.TheVariants.{Random}
use Rattle.topk_theory.specs.Transcript.{depth_of, list_numbers, object_of}
use Rattle.topk_theory.proofs.AgreementLists.{contains_at, contains_cases, contains_map, contains_nil}
use Rattle.topk_theory.proofs.ListNumbers.{number_in}
use Rattle.topk_theory.proofs.ThresholdLists.{contains_filter}
use Rattle.query_run.specs.declared.running_query.RunningQuery.{RunningQuery}
use Rattle.query_run.specs.Asking.{run_on, IsAskedFor, AsksGradeOf}
use Rattle.batch_result.specs.Account.{Reading, depth_in, greatest, is_random_to, lists_of_source}
use Rattle.batch_result.specs.Using.{AgreesWithRead}

-- ---- the greatest of numbers
from_start : (start : ℕ) (xs : List ℕ) → start ≤ fold max start xs
from_start start [] = omega arith
from_start start (x ∷ xs) = let more : max start x ≤ fold max (max start x) xs = from_start (max start x) xs in omega (arith, more)

above_each : (start : ℕ) (xs : List ℕ) (x : ℕ) → Contains xs x → x ≤ fold max start xs
above_each start [] x c = absurd (contains_nil x c)
above_each start (y ∷ xs) x c =
    elim (contains_cases y xs x c) [
      | inl e ↦ let more : max start y ≤ fold max (max start y) xs = from_start (max start y) xs in omega (arith, more, e)
      | inr t ↦ above_each (max start y) xs x t
    ]

pub greatest_above : (xs : List ℕ) (x : ℕ) → Contains xs x → x ≤ greatest xs
greatest_above xs x c = above_each 0 xs x c

-- ---- queries and readings
-- what is certain of a source for a query is within a reading: no row is deeper, and each object is named by a random access
pub record AsksWithin (source : ℕ) (q : RunningQuery) (r : Reading) : Type 0 where
  pub deep : (depth : ℕ) → IsAskedFor q source depth → depth ≤ depth_in source r
  pub named : (object : ℕ) → AsksGradeOf q source object → (access : Access) × Contains r.accesses access × (is_random_to source r.sources access ≡ true) × (object_of access ≡ object)

is_source : (one other : ℕ) → one ≡ other → (one == other) ≡ true
is_source one other e = elim (eqb_tells one other) [ inl t ↦ t.0 | inr f ↦ absurd (f.1 e) ]

-- a reading that is the run of the query on a table that agrees with what it read
pub within_reading : (source : ℕ) (q : RunningQuery) (r : Reading) (D : List (List Row)) → r.sources ≡ q.sources.items → AgreesWithRead q D → run_on q D ≡ r.accesses
    → AsksWithin source q r
within_reading source q r D same agrees run = record {
  deep = λ depth asks.
      let list = asks.list in
      let listed : list < length r.sources = subst (λ (xs : List ℕ). list < length xs) (sym same) asks.listed in
      let of : slice_index_or r.sources list 0 ≡ source = ap (λ (xs : List ℕ). slice_index_or xs list 0) same ∙ asks.of in
      let among : Contains (lists_of_source source r.sources) list =
      contains_filter (λ (l : ℕ). slice_index_or r.sources l 0 == source) (list_numbers (length r.sources)) list (number_in (length r.sources) list listed)
      (is_source (slice_index_or r.sources list 0) source of) in
      let above = greatest_above (map (λ (l : ℕ). depth_of l r.accesses) (lists_of_source source r.sources)) (depth_of list r.accesses)
      (contains_map (λ (l : ℕ). depth_of l r.accesses) (lists_of_source source r.sources) list among) in
      let asked : depth ≤ depth_of list r.accesses = subst (λ A. depth ≤ depth_of list A) run (asks.deep.met D agrees) in
      omega (arith, asked, above);
  named = λ object asks.
      let met = asks.asks.met D agrees in
      let of : slice_index_or r.sources asks.list 0 ≡ source = ap (λ (xs : List ℕ). slice_index_or xs asks.list 0) same ∙ asks.of in
      (Random asks.list object met.0, subst (λ A. Contains A (Random asks.list object met.0)) run met.1, is_source (slice_index_or r.sources asks.list 0) source of, refl);
}

-- ---- a query that doesn't read a source
pub asks_nothing : (source : ℕ) (q : RunningQuery) (r : Reading) → ¬ Contains q.sources.items source → AsksWithin source q r
asks_nothing source q r none = record {
  deep = λ depth asks. absurd (none (subst (Contains q.sources.items) asks.of (contains_at q.sources.items asks.list 0 asks.listed)));
  named = λ object asks. absurd (none (subst (Contains q.sources.items) asks.of (contains_at q.sources.items asks.list 0 asks.listed)));
}
