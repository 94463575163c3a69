-- What is certain of a run that goes by rows, once a depth is reached.
use Rattle.std.proofs.Common.{◌≡◌, ℕ, suc, ◌+◌, ◌<◌, inl, inr, Bool, List, [], ◌∷◌, ◌++◌, length, Contains, sym, ap, subst, ◌∙◌, arith}
use Rattle.std.specs.List.{flat_map}
use Rattle.std.proofs.lemmas.List.{length-take-le, length-append}
use Rattle.std.proofs.lemmas.List.Elements.{Contains-append_left, Contains-append_right}
use Rattle.ranked_list.specs.declared.row.Row.{Row}
use Rattle.ranked_list.specs.declared.need.Need.{Need}
use Rattle.ranked_list.specs.declared.need.Need.TheVariants as needs
use Rattle.ranked_list.specs.Table.{IsTable}
use Rattle.topk_theory.specs.declared.access.Access.{Access}
use Rattle.topk_theory.specs.Transcript.{list_at, depth_of, sorted_rows}
use Rattle.topk_theory.proofs.AgreementLists.{contains_nil, contains_cases}
use Rattle.topk_theory.proofs.AgreementRows.{list_at_length}
use Rattle.topk_theory.proofs.Agreement.{sorted_rows_append}
use Rattle.machine_base.specs.Depths.{IsReached}
use Rattle.machine_base.specs.Certain.{Meets}
use Rattle.machine_base.proofs.Depths.{IsOwn, run_goes_on}
use Rattle.machine_base.proofs.Rows.{ReadsRows}

-- more accesses meet what fewer meet
pub met_more : (A B : List Access) (need : Need) → Meets A need → Meets (A ++ B) need
met_more A B (needs.Row list depth) h =
    let e : depth_of list (A ++ B) ≡ depth_of list A + depth_of list B
    = ap length (sorted_rows_append list A B) ∙ length-append (sorted_rows list A) (sorted_rows list B) in
    omega (arith, e, h)
met_more A B (needs.Grade list object) h = (h.0, Contains-append_left A B _ h.1)
met_more A B needs.Done h = tt

-- what is met down to a depth that is reached is met by the run
pub met_in_run : (run_to block : ℕ → List Access) (stops : ℕ → Bool) (n own depth : ℕ) (need : Need) → ((d : ℕ) → run_to (suc d) ≡ run_to d ++ block d)
    → IsOwn stops n own → IsReached stops n depth → Meets (run_to depth) need → Meets (run_to own) need
met_in_run run_to block stops n own depth need grows least at h =
    let more = run_goes_on run_to block stops n own depth grows least at in
    subst (λ A. Meets A need) (sym more.1) (met_more (run_to depth) more.0 need h)

-- the rows of all lists at that depth
pub row_met : (run_to block : ℕ → List Access) (stops : ℕ → Bool) (n own : ℕ) (D : List (List Row)) (depth list : ℕ) → ((d : ℕ) → run_to (suc d) ≡ run_to d ++ block d)
    → ReadsRows run_to n D → IsTable n D → IsOwn stops n own → IsReached stops n depth → list < length D → Meets (run_to own) (needs.Row list depth)
row_met run_to block stops n own D depth list grows reads t least at l =
    let long : length (list_at D list) ≡ n = list_at_length n D list t l in
    let read : depth_of list (run_to depth) ≡ depth
    = ap length (reads depth list at.within l) ∙ length-take-le depth (list_at D list) (omega (arith, long, at.within)) in
    met_in_run run_to block stops n own depth (needs.Row list depth) grows least at (omega (arith, read))

-- what the lists of some members have
pub flat_has : {X Y : Type 0} (f : X → List Y) (xs : List X) (x : X) (y : Y) → Contains xs x → Contains (f x) y → Contains (flat_map f xs) y
flat_has f [] x y h c = absurd (contains_nil x h)
flat_has f (first ∷ xs) x y h c =
    elim (contains_cases first xs x h) [
      | inl e ↦ Contains-append_left (f first) (flat_map f xs) y (subst (λ z. Contains (f z) y) (sym e) c)
      | inr there ↦ Contains-append_right (f first) (flat_map f xs) y (flat_has f xs x y there c)
    ]
