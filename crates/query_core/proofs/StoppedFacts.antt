-- What is known of the threshold algorithm stopped within a factor, and stopped early: of a run that goes down to some depth of the lists.
use Rattle.std.proofs.Common.{◌≡◌, ℕ, ◌+◌, ◌-◌, ◌≤◌, Bool, List, length, map, All, Contains, subst, arith}
use Rattle.ranked_list.specs.declared.row.Row.{Row}
use Rattle.ranked_list.specs.declared.item.Item.{Item}
use Rattle.ranked_list.specs.Table.{IsTable}
use Rattle.topk_theory.specs.Aggregate.{objects_of}
use Rattle.topk_theory.specs.Asked.{Asked}
use Rattle.topk_theory.specs.Transcript.{seen_objects}
use Rattle.topk_theory.specs.Threshold.{IsAsked, objects_to, least_from, scored, ta_run_to, item_objects}
use Rattle.topk_theory.proofs.Agreement.{objects_of_count}
use Rattle.topk_theory.proofs.AgreementLists.{all_from_members, member_of_all}
use Rattle.topk_theory.proofs.ThresholdDepth.{least_from-end}
use Rattle.topk_theory.proofs.ThresholdRun.{run_agrees, run_tame}
use Rattle.topk_theory.proofs.ThresholdTop.{scored_member}
use Rattle.algorithm_theory.specs.Within.{Factor}
use Rattle.algorithm_theory.specs.Nearby.{first_at, theta_stop, theta_depth, early_stop, early_depth}
use Rattle.algorithm_theory.proofs.WithinFirsts.{first_at_is, first_standing}
use Rattle.algorithm_theory.proofs.WithinReading.{standing_seen}
use Rattle.query_text.specs.declared.algorithm.Algorithm.TheVariants.{Theta, Early}
use Rattle.query_core.proofs.Facts.{AreFacts}
use Rattle.query_core.proofs.Lengths.{deep_short}
use Rattle.query_core.proofs.TrueBounds.{scored_bounds}
use Rattle.query_core.proofs.GivenBounds.{always_bounded}

-- the least depth that passes a test, or the last one, is one that the lists have
pub least_within : (stops : ℕ → Bool) (k n : ℕ) (D : List (List Row)) → IsAsked k n D → least_from stops (length (objects_of D) - 1) 1 ≤ n
least_within stops k n D is =
    let count : length (objects_of D) ≡ n = objects_of_count n D is.table is.lists in
    let end : least_from stops (length (objects_of D) - 1) 1 ≤ 1 + (length (objects_of D) - 1) = least_from-end stops (length (objects_of D) - 1) 1 in
    omega (arith, is.positive, is.fits)

-- an item of the first k of the objects down to a depth is scored, and its object was seen
first_scored : (V : List ℕ → ℕ) (k n deep : ℕ) (D : List (List Row)) (item : Item) → IsTable n D → Contains (first_at V k D deep) item
    → scored V D item.object ≡ item
first_scored V k n deep D item table c =
    let os = objects_to D deep in
    (scored_member V D os item (member_of_all (Contains (map (scored V D) os)) (first_at V k D deep) item (first_at_is V k n D deep table).held c)).1

first_seen : (V : List ℕ → ℕ) (k n deep : ℕ) (D : List (List Row)) → IsTable n D
    → All (Contains (seen_objects (ta_run_to D deep))) (item_objects (first_at V k D deep))
first_seen V k n deep D table =
    all_from_members (Contains (seen_objects (ta_run_to D deep))) (item_objects (first_at V k D deep)) (λ o c.
    standing_seen n deep D o table (first_standing V k n D deep o table c))

theta_within : (factor : Factor) (asked : Asked) (n : ℕ) (D : List (List Row)) → IsAsked asked.k n D → theta_depth asked.value asked.k factor D ≤ n
theta_within factor asked n D is = least_within (theta_stop asked.value asked.k factor D) asked.k n D is

early_within : (from : ℕ) (asked : Asked) (n : ℕ) (D : List (List Row)) → IsAsked asked.k n D → early_depth asked.value asked.k from D ≤ n
early_within from asked n D is = least_within (early_stop asked.value asked.k from D) asked.k n D is

pub theta_facts : (p q : ℕ) (sorted : List Bool) → AreFacts (record { algorithm = Theta p q; sorted = sorted })
theta_facts p q sorted =
    let factor : Factor = record { p = p; q = q } in
    record {
      agrees = λ asked n D monotone is. run_agrees n D (theta_depth asked.value asked.k factor D) is.table (theta_within factor asked n D is);
      short = λ asked n D monotone is few counted. deep_short (theta_depth asked.value asked.k factor D) n D (theta_within factor asked n D is) few counted;
      tame = λ asked n D monotone is. run_tame n D (theta_depth asked.value asked.k factor D) is.table (theta_within factor asked n D is);
      seen = λ asked n D monotone is. first_seen asked.value asked.k n (theta_depth asked.value asked.k factor D) D is.table;
      bounds = λ asked n D monotone is. scored_bounds asked.value asked.k D (objects_to D (theta_depth asked.value asked.k factor D));
      given = λ asked m n A items item lists some named every c.
          always_bounded asked.value m n A item lists some named (λ D agrees.
          let on = every D agrees in
          first_scored asked.value asked.k n (theta_depth asked.value asked.k factor D) D item on.is_asked.table (subst (λ xs. Contains xs item) on.exact c));
      near = λ asked m n A monotone always. tt;
    }

pub early_facts : (from : ℕ) (sorted : List Bool) → AreFacts (record { algorithm = Early from; sorted = sorted })
early_facts from sorted = record {
  agrees = λ asked n D monotone is. run_agrees n D (early_depth asked.value asked.k from D) is.table (early_within from asked n D is);
  short = λ asked n D monotone is few counted. deep_short (early_depth asked.value asked.k from D) n D (early_within from asked n D is) few counted;
  tame = λ asked n D monotone is. run_tame n D (early_depth asked.value asked.k from D) is.table (early_within from asked n D is);
  seen = λ asked n D monotone is. first_seen asked.value asked.k n (early_depth asked.value asked.k from D) D is.table;
  bounds = λ asked n D monotone is. scored_bounds asked.value asked.k D (objects_to D (early_depth asked.value asked.k from D));
  given = λ asked m n A items item lists some named every c.
      always_bounded asked.value m n A item lists some named (λ D agrees.
      let on = every D agrees in
      first_scored asked.value asked.k n (early_depth asked.value asked.k from D) D item on.is_asked.table (subst (λ xs. Contains xs item) on.exact c));
  near = λ asked m n A monotone always. tt;
}
