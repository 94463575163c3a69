-- What is known of the threshold algorithm.
use Rattle.std.proofs.Common.{◌≡◌, ℕ, Bool, List, map, Contains, subst}
use Rattle.ranked_list.specs.declared.row.Row.{Row}
use Rattle.ranked_list.specs.declared.item.Item.{Item}
use Rattle.topk_theory.specs.Asked.{Asked}
use Rattle.topk_theory.specs.Threshold.{IsAsked, scored, ta_answer, ta_depth, objects_to}
use Rattle.topk_theory.proofs.AgreementLists.{member_of_all}
use Rattle.topk_theory.proofs.ThresholdLaws.{agreeing_run, tame_run, seen_answer}
use Rattle.topk_theory.proofs.ThresholdTop.{answer_is_first, scored_member}
use Rattle.algorithm_theory.proofs.NearBestRuns.{ta_near_best}
use Rattle.query_text.specs.declared.algorithm.Algorithm.TheVariants.{Ta}
use Rattle.query_core.proofs.Facts.{AreFacts}
use Rattle.query_core.proofs.Lengths.{ta_short}
use Rattle.query_core.proofs.TrueBounds.{scored_bounds}
use Rattle.query_core.proofs.GivenBounds.{always_bounded}

ta_scored : (asked : Asked) (n : ℕ) (D : List (List Row)) (item : Item) → IsAsked asked.k n D → Contains (ta_answer asked.value asked.k D) item
    → scored asked.value D item.object ≡ item
ta_scored asked n D item is c =
    let os = objects_to D (ta_depth asked.value asked.k D) in
    (scored_member asked.value D os item (member_of_all (Contains (map (scored asked.value D) os)) (ta_answer asked.value asked.k D) item (answer_is_first asked.value asked.k n D is.table).held c)).1

pub threshold_facts : (sorted : List Bool) → AreFacts (record { algorithm = Ta; sorted = sorted })
threshold_facts sorted = record {
  agrees = λ asked n D monotone is. agreeing_run asked.value asked.k n D monotone is;
  short = λ asked n D monotone is few counted. ta_short asked.value asked.k n D monotone is few counted;
  tame = λ asked n D monotone is. tame_run asked.value asked.k n D monotone is;
  seen = λ asked n D monotone is. seen_answer asked.value asked.k n D monotone is;
  bounds = λ asked n D monotone is. scored_bounds asked.value asked.k D (objects_to D (ta_depth asked.value asked.k D));
  given = λ asked m n A items item lists some named every c.
      always_bounded asked.value m n A item lists some named (λ D agrees.
      let on = every D agrees in ta_scored asked n D item on.is_asked (subst (λ xs. Contains xs item) on.exact c));
  near = λ asked m n A monotone always. ta_near_best asked.value asked.k m n asked.costs.sorted asked.costs.random A monotone always;
}
