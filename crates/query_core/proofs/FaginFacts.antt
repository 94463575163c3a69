-- What is known of Fagin's algorithm.
use Rattle.std.proofs.Common.{◌≡◌, ℕ, Bool, List, map, Contains, subst}
use Rattle.ranked_list.specs.declared.row.Row.{Row}
use Rattle.ranked_list.specs.declared.item.Item.{Item}
use Rattle.topk_theory.specs.Threshold.{scored}
use Rattle.topk_theory.proofs.AgreementLists.{member_of_all}
use Rattle.topk_theory.proofs.ThresholdTop.{scored_member}
use Rattle.algorithm_theory.specs.Fagin.{fa_seen, fa_answer}
use Rattle.algorithm_theory.proofs.FaginRuns.{fa_run_agrees, fa_run_tame, always_no_shallower}
use Rattle.algorithm_theory.proofs.FaginTop.{fa_first, fa_sees_answer}
use Rattle.query_text.specs.declared.algorithm.Algorithm.TheVariants.{Fa}
use Rattle.query_core.proofs.Facts.{AreFacts}
use Rattle.query_core.proofs.Lengths.{fa_short}
use Rattle.query_core.proofs.TrueBounds.{scored_bounds}
use Rattle.query_core.proofs.GivenBounds.{always_bounded}

fagin_scored : (V : List ℕ → ℕ) (k : ℕ) (D : List (List Row)) (item : Item) → Contains (fa_answer V k D) item → scored V D item.object ≡ item
fagin_scored V k D item c =
    (scored_member V D (fa_seen k D) item (member_of_all (Contains (map (scored V D) (fa_seen k D))) (fa_answer V k D) item (fa_first V k D).held c)).1

pub fagin_facts : (sorted : List Bool) → AreFacts (record { algorithm = Fa; sorted = sorted })
fagin_facts sorted = record {
  agrees = λ asked n D monotone is. fa_run_agrees asked.k n D is;
  short = λ asked n D monotone is few counted. fa_short asked.k n D is few counted;
  tame = λ asked n D monotone is. fa_run_tame asked.k D;
  seen = λ asked n D monotone is. fa_sees_answer asked.value asked.k D;
  bounds = λ asked n D monotone is. scored_bounds asked.value asked.k D (fa_seen asked.k D);
  given = λ asked m n A items item lists some named every c.
      always_bounded asked.value m n A item lists some named (λ D agrees.
      fagin_scored asked.value asked.k D item (subst (λ xs. Contains xs item) (every D agrees).exact c));
  near = λ asked m n A monotone always. always_no_shallower asked.value asked.k m n A monotone always;
}
