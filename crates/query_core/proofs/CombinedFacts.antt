-- What is known of the combined algorithm.
use Rattle.std.proofs.Common.{◌≡◌, ℕ, Bool, List, length, map, All, Contains, subst, ◌∙◌}
use Rattle.ranked_list.specs.declared.row.Row.{Row}
use Rattle.ranked_list.specs.declared.item.Item.{Item}
use Rattle.topk_theory.specs.Order.{first_k}
use Rattle.topk_theory.specs.Transcript.{seen_objects}
use Rattle.topk_theory.specs.Threshold.{item_objects, scored}
use Rattle.topk_theory.specs.NoRandom.{first_seen}
use Rattle.topk_theory.specs.Combined.{phase_length, ca_answer, ca_blocks, ca_run, finish}
use Rattle.topk_theory.proofs.AgreementLists.{contains_map_from, all_from_members, member_of_all}
use Rattle.topk_theory.proofs.FirstK.{first_k-is}
use Rattle.topk_theory.proofs.NoRandomLaws.{first_distinct}
use Rattle.topk_theory.proofs.CombinedLaws.{run_agrees, run_tame}
use Rattle.topk_theory.proofs.ThresholdRun.{seen_more}
use Rattle.topk_theory.proofs.ThresholdTop.{objects_from_distinct, scored_distinct, scored_member}
use Rattle.query_text.specs.declared.algorithm.Algorithm.TheVariants.{Ca}
use Rattle.query_core.proofs.Facts.{AreFacts}
use Rattle.query_core.proofs.Lengths.{ca_short}
use Rattle.query_core.proofs.TrueBounds.{scored_bounds}
use Rattle.query_core.proofs.GivenBounds.{always_bounded}
use Rattle.query_core.proofs.NoRandomFacts.{of_seen}

-- an item of the combined algorithm's answer is scored, and its object is seen
combined_item : (V : List ℕ → ℕ) (k phase : ℕ) (D : List (List Row)) (item : Item) → Contains (ca_answer V k phase D) item
    → Contains (item_objects (first_seen V k (length D) (ca_blocks V k phase D))) item.object × (scored V D item.object ≡ item)
combined_item V k phase D item c =
    let first = first_seen V k (length D) (ca_blocks V k phase D) in
    let os = item_objects first in
    let items = map (scored V D) os in
    let apart = scored_distinct V D os (objects_from_distinct first (first_distinct V k (length D) (ca_blocks V k phase D))) in
    scored_member V D os item (member_of_all (Contains items) (first_k k items) item (first_k-is k items apart).held c)

combined_scored : (V : List ℕ → ℕ) (k phase : ℕ) (D : List (List Row)) (item : Item) → Contains (ca_answer V k phase D) item → scored V D item.object ≡ item
combined_scored V k phase D item c = (combined_item V k phase D item c).1

combined_seen : (V : List ℕ → ℕ) (k phase : ℕ) (D : List (List Row))
    → All (Contains (seen_objects (ca_run V k phase D))) (item_objects (ca_answer V k phase D))
combined_seen V k phase D =
    let A = ca_blocks V k phase D in
    all_from_members (Contains (seen_objects (ca_run V k phase D))) (item_objects (ca_answer V k phase D)) (λ o c.
    let from = contains_map_from (λ (item : Item). item.object) (ca_answer V k phase D) o c in
    let named = contains_map_from (λ (item : Item). item.object) (first_seen V k (length D) A) from.0.object (combined_item V k phase D from.0 from.1).0 in
    let seen : Contains (seen_objects A) o = subst (Contains (seen_objects A)) (named.2 ∙ from.2) (of_seen V k (length D) A named.0 named.1).0 in
    seen_more A (finish V k D A) o seen)

pub combined_facts : (sorted : List Bool) → AreFacts (record { algorithm = Ca; sorted = sorted })
combined_facts sorted = record {
  agrees = λ asked n D monotone is. run_agrees asked.value asked.k (phase_length asked.costs.sorted asked.costs.random) n D monotone is;
  short = λ asked n D monotone is few counted. ca_short asked.value asked.k (phase_length asked.costs.sorted asked.costs.random) n D monotone is few counted;
  tame = λ asked n D monotone is. run_tame asked.value asked.k (phase_length asked.costs.sorted asked.costs.random) D;
  seen = λ asked n D monotone is. combined_seen asked.value asked.k (phase_length asked.costs.sorted asked.costs.random) D;
  bounds = λ asked n D monotone is.
      let blocks = ca_blocks asked.value asked.k (phase_length asked.costs.sorted asked.costs.random) D in
      scored_bounds asked.value asked.k D (item_objects (first_seen asked.value asked.k (length D) blocks));
  given = λ asked m n A items item lists some named every c.
      always_bounded asked.value m n A item lists some named (λ D agrees.
      let on = every D agrees in combined_scored asked.value asked.k (phase_length asked.costs.sorted asked.costs.random) D item (subst (λ xs. Contains xs item) on.exact c));
  near = λ asked m n A monotone always. tt;
}
