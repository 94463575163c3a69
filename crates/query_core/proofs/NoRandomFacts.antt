-- What is known of the algorithm without random access.
use Rattle.std.proofs.Common.{◌≡◌, ◌==◌, ℕ, Bool, List, length, Contains, Some, None, refl, sym, ap₂, subst, ◌∙◌, eq-eqb}
use Rattle.std.proofs.lemmas.Bool.{cond-true}
use Rattle.ranked_list.specs.declared.row.Row.{Row}
use Rattle.ranked_list.specs.declared.item.Item.{Item}
use Rattle.topk_theory.specs.declared.access.Access.{Access}
use Rattle.topk_theory.specs.declared.access.Access.TheVariants.{Random}
use Rattle.topk_theory.specs.Transcript.{IsTame, seen_objects, random_rows, random_row}
use Rattle.topk_theory.specs.Bounds.{bounded}
use Rattle.topk_theory.specs.Threshold.{item_objects}
use Rattle.topk_theory.specs.NoRandom.{nra_run, nra_run_to, nra_depth, nra_answer, seen_items, first_seen}
use Rattle.topk_theory.proofs.AgreementLists.{contains_nil, contains_map_from, all_from_members, member_of_all}
use Rattle.topk_theory.proofs.Agreement.{contains_middle}
use Rattle.topk_theory.proofs.FirstK.{first_k-is}
use Rattle.topk_theory.proofs.NoRandomRun.{run_random}
use Rattle.topk_theory.proofs.NoRandomLaws.{items_distinct, run_agrees, nra_depth_is_least}
use Rattle.topk_theory.proofs.NoRandomTop.{object_of_seen}
use Rattle.topk_theory.proofs.ThresholdRun.{contains_filter_map}
use Rattle.algorithm_theory.proofs.NearBestRuns.{nra_near_shallowest}
use Rattle.query_text.specs.declared.algorithm.Algorithm.TheVariants.{Nra}
use Rattle.query_core.proofs.Facts.{AreFacts}
use Rattle.query_core.proofs.Lengths.{nra_short}
use Rattle.query_core.proofs.TrueBounds.{given_bounds}

-- a run without random access is tame
nra_tame : (depth : ℕ) (D : List (List Row)) → IsTame (nra_run_to D depth)
nra_tame depth D = λ earlier later list object grade is.
    let a : Access = Random list object grade in
    let row : Row = record { object = object; grade = grade } in
    let here : random_row list a ≡ Some row = cond-true (list == list) (Some row) None (eq-eqb list list refl) in
    let held : Contains (random_rows list (nra_run_to D depth)) row = contains_filter_map (random_row list) (nra_run_to D depth) a row (subst (λ B. Contains B a) (sym is) (contains_middle earlier a later)) here in
    absurd (contains_nil row (subst (λ rows. Contains rows row) (run_random depth D list) held))

-- an item of the first k seen ones
pub of_seen : (V : List ℕ → ℕ) (k m : ℕ) (A : List Access) (item : Item) → Contains (first_seen V k m A) item
    → Contains (seen_objects A) item.object × (item ≡ bounded V m A item.object)
of_seen V k m A item c = object_of_seen V m A item (member_of_all (Contains (seen_items V m A)) (first_seen V k m A) item (first_k-is k (seen_items V m A) (items_distinct V m A)).held c)

pub no_random_facts : (sorted : List Bool) → AreFacts (record { algorithm = Nra; sorted = sorted })
no_random_facts sorted = record {
  agrees = λ asked n D monotone is. run_agrees n (nra_depth asked.value asked.k D) D is.table (nra_depth_is_least asked.value asked.k n D monotone is).within;
  short = λ asked n D monotone is few counted. nra_short asked.value asked.k n D monotone is few counted;
  tame = λ asked n D monotone is. nra_tame (nra_depth asked.value asked.k D) D;
  seen = λ asked n D monotone is.
      all_from_members (Contains (seen_objects (nra_run asked.value asked.k D))) (item_objects (nra_answer asked.value asked.k D)) (λ o c.
      let from = contains_map_from (λ (item : Item). item.object) (nra_answer asked.value asked.k D) o c in
      subst (Contains (seen_objects (nra_run asked.value asked.k D))) from.2 (of_seen asked.value asked.k (length D) (nra_run asked.value asked.k D) from.0 from.1).0);
  bounds = λ asked n D monotone is.
      let run = nra_run asked.value asked.k D in
      given_bounds asked.value asked.k n D run (seen_objects run) monotone (run_agrees n (nra_depth asked.value asked.k D) D is.table (nra_depth_is_least asked.value asked.k n D monotone is).within);
  given = λ asked m n A items item lists some named every c.
      let D = some.0 in
      let on = every D some.1 in
      let here = (of_seen asked.value asked.k (length D) (nra_run asked.value asked.k D) item (subst (λ xs. Contains xs item) on.exact c)).1 in
      here ∙ ap₂ (λ (k : ℕ) (B : List Access). bounded asked.value k B item.object) some.1.lists (sym on.run);
  near = λ asked m n A monotone always. nra_near_shallowest asked.value asked.k m n A monotone always;
}
