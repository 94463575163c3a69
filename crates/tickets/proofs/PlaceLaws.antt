-- What came of numbers, put at their places from the last one on.
use Rattle.std.proofs.Common.{◌≡◌, ◌<◌, ◌==◌, ℕ, Option, Some, None, List, [], ◌∷◌, ◌++◌, All, length, slice_index_or, refl, sym, ap, subst, ◌∙◌, inl, inr, arith}
use Rattle.std.specs.List.{slice_set}
use Rattle.std.specs.Prelude.{if◌then◌else◌}
use Rattle.std.proofs.lemmas.Bool.Decides.{eqb_tells}
use Rattle.std.proofs.lemmas.List.{length-set, get_or-set_same, get_or-set_other}
use Rattle.tickets.specs.declared.placing.Done.{Done}
use Rattle.tickets.specs.Places.{standing}

module _ {A : Type 0} where
  -- what stands once the second list was put, and then the first
  pub standing_append : (place : ℕ) (first second : List (Done A)) (before : Option A)
      → standing place (first ++ second) before ≡ standing place first (standing place second before)
  standing_append place [] second before = refl
  standing_append place (one ∷ first) second before = ap (λ o. if one.place == place then Some one.answer else o) (standing_append place first second before)

  -- these are left, and once they are put as well all will stand
  pub record PlacedTo (before now : List (Option A)) (all left : List (Done A)) : Type 0 where
    pub size : length now ≡ length before
    pub within : All (λ (one : Done A). one.place < length before) left
    pub standing : (place : ℕ) → standing place left (slice_index_or now place None) ≡ standing place all (slice_index_or before place None)

  pub placed_none : (before : List (Option A)) (all : List (Done A)) → All (λ (one : Done A). one.place < length before) all → PlacedTo before before all all
  placed_none before all within = record { size = refl; within = within; standing = λ place. refl }

  put_one : (now : List (Option A)) (one : Done A) (place : ℕ) → one.place < length now
      → slice_index_or (slice_set now one.place (Some one.answer)) place None ≡ standing place (one ∷ []) (slice_index_or now place None)
  put_one now one place l = elim (eqb_tells one.place place) [
    | inl t ↦ subst (λ n. slice_index_or (slice_set now one.place (Some one.answer)) n None ≡ Some one.answer) t.1 (get_or-set_same now one.place (Some one.answer) None l)
        ∙ sym (ap (λ b. if b then Some one.answer else slice_index_or now place None) t.0)
    | inr t ↦ get_or-set_other now one.place place (Some one.answer) None (λ same. t.1 (sym same))
        ∙ sym (ap (λ b. if b then Some one.answer else slice_index_or now place None) t.0)
  ]

  pub placed_more : (before now : List (Option A)) (all left rest : List (Done A)) (one : Done A) → left ≡ rest ++ one ∷ []
      → All (λ (one : Done A). one.place < length before) rest → one.place < length before → PlacedTo before now all left
      → PlacedTo before (slice_set now one.place (Some one.answer)) all rest
  placed_more before now all left rest one popped within mine h =
      let size = h.size in
      record {
        size = length-set now one.place (Some one.answer) ∙ size;
        within = within;
        standing = λ place.
            ap (standing place rest) (put_one now one place (omega (arith, mine, size)))
            ∙ sym (standing_append place rest (one ∷ []) (slice_index_or now place None))
            ∙ sym (ap (λ l. standing place l (slice_index_or now place None)) popped) ∙ h.standing place;
      }
