-- Places at which answers are put, and from which they are moved, from the first one on.
use Rattle.std.proofs.Common.{◌≡◌, ◌&&◌, ℕ, zero, suc, true, false, Option, Some, None, List, [], ◌∷◌, ◌++◌, length, map, reverse, replicate, take, drop, slice_index_or, is_some, refl, sym, ap, ◌∙◌}
use Rattle.std.specs.List.{list_all}
use Rattle.std.proofs.lemmas.List.Folds.{list_all-append}
use Rattle.std.proofs.lemmas.List.{length-replicate, reverse-append}
use Rattle.tickets.specs.declared.placing.Done.{Done}
use Rattle.tickets.specs.Places.{standing}
use Rattle.batch_result.proofs.Places.{lent_back}

all_some : {A : Type 0} (xs : List A) → list_all is_some (map Some xs) ≡ true
all_some [] = refl
all_some (x ∷ xs) = all_some xs

-- whether something stands at each of these places is told by those that are left
all_left : {A : Type 0} (xs : List A) (left all : List (Option A)) → map Some xs ++ reverse left ≡ all → list_all is_some (reverse left) ≡ list_all is_some all
all_left xs left all e = sym (ap (list_all is_some) (sym e) ∙ (list_all-append is_some (map Some xs) (reverse left) ∙ ap (λ b. b && list_all is_some (reverse left)) (all_some xs)))

-- nothing stands at the next one
pub gathered_not : {A : Type 0} (xs : List A) (left rest all : List (Option A)) → map Some xs ++ reverse left ≡ all → left ≡ rest ++ None ∷ [] → false ≡ list_all is_some all
gathered_not xs left rest all e popped =
    sym (ap (λ l. list_all is_some (reverse l)) popped ∙ ap (list_all is_some) (reverse-append rest (None ∷ []))) ∙ all_left xs left all e

-- none is left
pub gathered_all : {A : Type 0} (xs : List A) (left all : List (Option A)) → map Some xs ++ reverse left ≡ all → left ≡ [] → true ≡ list_all is_some all
gathered_all xs left all e none = sym (ap (λ l. list_all is_some (reverse l)) none) ∙ all_left xs left all e

none_at : {A : Type 0} (n place : ℕ) → ◌≡◌ {A = Option A} (slice_index_or (replicate n None) place None) None
none_at zero place = refl
none_at (suc n) zero = refl
none_at (suc n) (suc place) = none_at n place

-- places at which nothing stood, once these were put there
pub record Placed {A : Type 0} (n : ℕ) (done : List (Done A)) (places : List (Option A)) : Type 0 where
  pub size : length places ≡ n
  pub each : (place : ℕ) → slice_index_or places place None ≡ standing place done None

-- a vector of places that was lent as a slice
pub placed_back : {A : Type 0} (n len : ℕ) (done : List (Done A)) (empty lent after : List (Option A)) → empty ≡ replicate n None → len ≡ length empty → lent ≡ empty
    → length after ≡ length lent → ((place : ℕ) → slice_index_or after place None ≡ standing place done (slice_index_or lent place None))
    → Placed n done (take len (after ++ drop (length after) empty))
placed_back n len done empty lent after none long same size each =
    let back : take len (after ++ drop (length after) empty) ≡ after =
    ap (λ m. take m (after ++ drop (length after) empty)) long ∙ lent_back empty after (size ∙ ap length same) in
    record {
      size = ap length back ∙ (size ∙ (ap length same ∙ (ap length none ∙ length-replicate n None)));
      each = λ place. ap (λ xs. slice_index_or xs place None) back
          ∙ (each place ∙ ap (standing place done) (ap (λ xs. slice_index_or xs place None) (same ∙ none) ∙ none_at n place));
    }
