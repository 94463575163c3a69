-- A list that is told has no object twice.
use Rattle.std.proofs.Common.{◌≡◌, ℕ, Bool, true, false, cond, not, ◌&&◌, List, [], ◌∷◌, Option, Some, None, refl, sym, subst, arith}
use Rattle.std.specs.Prelude.{nat_eq, IfSome}
use Rattle.std.specs.Set.{is_member}
use Rattle.std.proofs.lemmas.Bool.{and_parts}
use Rattle.std.proofs.lemmas.List.Kept.{AllPairs-cons}
use Rattle.ranked_list.specs.declared.row.Row.{Row}
use Rattle.ranked_list.specs.Table.{objects}
use Rattle.ranked_list.proofs.RankLaws.{has_object}
use Rattle.source_api.specs.Told.{HasEachOnce, each_once, told_of, is_empty}

not_true : (b : Bool) → not b ≡ true → b ≡ true → ⊥
not_true true h e = absurd (cc)
not_true false h e = absurd (cc)

-- rows that pass the test have no object twice
pub each_once_law : (rows : List Row) → each_once rows ≡ true → HasEachOnce rows
each_once_law [] h = λ i j d l m e. absurd (omega arith)
each_once_law (row ∷ rows) h =
    let parts = and_parts (not (is_member nat_eq (objects rows) row.object)) (each_once rows) h in
    AllPairs-cons (λ (above : Row) (below : Row). above.object ≡ below.object → ⊥) row rows
    (λ k d l e. not_true _ parts.0 (subst (λ o. is_member nat_eq (objects rows) o ≡ true) (sym e) (has_object rows k d l)))
    (each_once_law rows parts.1)

pub told_law : (stated : Option ℕ) (lies rows : List Row) → IfSome (told_of stated lies rows) HasEachOnce
told_law None lies rows = by (is_empty lies && each_once rows) refl
  where
    by : (b : Bool) → (is_empty lies && each_once rows) ≡ b → IfSome (cond b (Some rows) None) HasEachOnce
    by true e = let parts = and_parts (is_empty lies) (each_once rows) e in each_once_law rows parts.1
    by false e = tt
told_law (Some n) lies rows = tt
