-- What is printed of a transcript, computed.
use Rattle.std.proofs.Common.{◌≡◌, ℕ, ◌+◌, max, List, [], ◌∷◌, map, fold, get_or, Option, Some, None, Bor, option_map, unwrap_or, refl, ap, ◌∙◌, arith}
use Rattle.std.specs.List.{slice_get, range_with_len}
use Rattle.std.proofs.lemmas.Option.{unwrap_or-slice_get}
use Rattle.std.proofs.lemmas.List.Sums.{fold-append}
use Rattle.std.proofs.lemmas.List.FromFn.{map-range_with_len_more}
use Rattle.topk_theory.specs.declared.access.Access.{Access}
use Rattle.topk_theory.specs.Transcript.{depth, depth_of}

-- a borrowed member of a list, or a default that is empty
pub now_unwrap_or : (xs : List (List ℕ)) (i : ℕ) (o : Option (Bor (List ℕ))) (r : Bor (List ℕ))
    → option_map (λ x. x.now) o ≡ slice_get xs i → r.now ≡ [] → (unwrap_or o r).now ≡ get_or xs i []
now_unwrap_or xs i o r found empty =
    outside o ∙ ap (λ p. unwrap_or p r.now) found ∙ ap (unwrap_or (slice_get xs i)) empty ∙ unwrap_or-slice_get xs i []
  where
    outside : (o : Option (Bor (List ℕ))) → (unwrap_or o r).now ≡ unwrap_or (option_map (λ x. x.now) o) r.now
    outside None = refl
    outside (Some x) = refl

-- the greatest depth of one list more
pub depth_more : (m : ℕ) (A : List Access) → depth (m + 1) A ≡ max (depth m A) (depth_of m A)
depth_more m A =
    ap (fold max 0) (map-range_with_len_more (λ list. depth_of list A) 0 m m (omega arith))
    ∙ fold-append max 0 (map (λ list. depth_of list A) (range_with_len 0 m)) (depth_of m A ∷ [])
