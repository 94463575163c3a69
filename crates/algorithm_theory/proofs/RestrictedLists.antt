-- The lists that can be read in order, by their numbers, and what stands in their first places.
use Rattle.std.proofs.Common.{◌≡◌, ℕ, zero, suc, ◌+◌, ◌<◌, ◌≤◌, Bool, true, false, cond, List, [], ◌∷◌, ◌++◌, length, filter, Contains, sym, ap, subst, ◌∙◌, arith, append-nil, append_assoc, inl, inr}
use Rattle.std.specs.List.{range_with_len}
use Rattle.std.proofs.lemmas.Bool.{cases_lt}
use Rattle.std.proofs.lemmas.List.Elements.{filter-append}
use Rattle.ranked_list.specs.declared.row.Row.{Row}
use Rattle.ranked_list.specs.Table.{place_in}
use Rattle.topk_theory.specs.Transcript.{list_at, list_numbers}
use Rattle.topk_theory.specs.Threshold.{stands}
use Rattle.topk_theory.proofs.AgreementLists.{contains_map, contains_map_from}
use Rattle.topk_theory.proofs.ListNumbers.{number_below, number_in, range_more}
use Rattle.topk_theory.proofs.ThresholdDepth.{stands_within, stands_from}
use Rattle.topk_theory.proofs.ThresholdLists.{contains_filter, contains_from_filter}
use Rattle.algorithm_theory.specs.Restricted.{lists_in, part_in}

-- the lists up to one more
lists_step : (Z : ℕ → Bool) (list : ℕ) → lists_in Z (suc list) ≡ lists_in Z list ++ cond {A = List ℕ} (Z list) (list ∷ []) []
lists_step Z list =
    let one : suc list ≡ list + 1 = omega arith in
    ap (λ m. filter Z (range_with_len 0 m)) one ∙ ap (filter Z) (range_more list) ∙ filter-append Z (range_with_len 0 list) (list ∷ [])

pub lists_with : (Z : ℕ → Bool) (list : ℕ) → Z list ≡ true → lists_in Z (suc list) ≡ lists_in Z list ++ list ∷ []
lists_with Z list t = lists_step Z list ∙ ap (λ b. lists_in Z list ++ cond {A = List ℕ} b (list ∷ []) []) t

pub lists_without : (Z : ℕ → Bool) (list : ℕ) → Z list ≡ false → lists_in Z (suc list) ≡ lists_in Z list
lists_without Z list f = lists_step Z list ∙ ap (λ b. lists_in Z list ++ cond {A = List ℕ} b (list ∷ []) []) f ∙ append-nil (lists_in Z list)

-- an object stands in the first places of a list of Z
pub stands_by : (Z : ℕ → Bool) (D : List (List Row)) (depth object list : ℕ) → list < length D → Z list ≡ true → place_in (list_at D list) object < depth
    → stands (part_in Z D) depth object ≡ true
stands_by Z D depth object list l z placed =
    let listed : Contains (lists_in Z (length D)) list = contains_filter Z (list_numbers (length D)) list (number_in (length D) list l) z in
    stands_within (part_in Z D) (list_at D list) depth object (contains_map (list_at D) (lists_in Z (length D)) list listed) placed

-- where it does there is one
pub record StandsIn (Z : ℕ → Bool) (D : List (List Row)) (depth object : ℕ) : Type 0 where
  pub list : ℕ
  pub listed : list < length D
  pub sorted : Z list ≡ true
  pub placed : place_in (list_at D list) object < depth

pub stands_at : (Z : ℕ → Bool) (D : List (List Row)) (depth object : ℕ) → stands (part_in Z D) depth object ≡ true → StandsIn Z D depth object
stands_at Z D depth object s =
    let from = stands_from (part_in Z D) depth object s in
    let number = contains_map_from (list_at D) (lists_in Z (length D)) from.0 from.1 in
    let kept = contains_from_filter Z (list_numbers (length D)) number.0 number.1 in
    record {
      list = number.0;
      listed = number_below (length D) number.0 kept.0;
      sorted = kept.1;
      placed = subst (λ rows. place_in rows object < depth) (sym number.2) from.2;
    }

-- no list between two numbers is in Z
pub record PassesOver (Z : ℕ → Bool) (from to : ℕ) : Type 0 where
  pub onward : from ≤ to
  pub none : (list : ℕ) → from ≤ list → list < to → Z list ≡ false

pub lists_over : (Z : ℕ → Bool) (from to : ℕ) → PassesOver Z from to → lists_in Z to ≡ lists_in Z from
lists_over Z from zero over = (let onward = over.onward in let e : zero ≡ from = omega arith in ap (lists_in Z) e)
lists_over Z from (suc to) over =
    let onward = over.onward in
    elim (cases_lt to from) [
      | inl last ↦ let e : suc to ≡ from = omega arith in ap (lists_in Z) e
      | inr more ↦ lists_without Z to (over.none to more (omega arith)) ∙ lists_over Z from to (record { onward = more; none = λ list ge l. over.none list ge (omega arith) })
    ]

-- the lists go on from each of them
pub lists_go_on : (Z : ℕ → Bool) (from more : ℕ) → (rest : List ℕ) × (lists_in Z (from + more) ≡ lists_in Z from ++ rest)
lists_go_on Z from zero = let e : from + 0 ≡ from = omega arith in ([], ap (lists_in Z) e ∙ sym (append-nil (lists_in Z from)))
lists_go_on Z from (suc more) =
    let before = lists_go_on Z from more in
    let e : from + suc more ≡ suc (from + more) = omega arith in
    let last : List ℕ = cond {A = List ℕ} (Z (from + more)) ((from + more) ∷ []) [] in
    (before.0 ++ last, ap (lists_in Z) e ∙ lists_step Z (from + more) ∙ ap (λ ls. ls ++ last) before.1 ∙ append_assoc (lists_in Z from) before.0 last)
