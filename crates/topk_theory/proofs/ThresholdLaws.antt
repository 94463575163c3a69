-- The laws of the threshold algorithm.
use Rattle.std.proofs.Common.{ℕ, List, length, map, All, Contains, subst}
use Rattle.ranked_list.specs.declared.row.Row.{Row}
use Rattle.ranked_list.specs.declared.item.Item.{Item}
use Rattle.monotone_fn.specs.Value.{IsMonotone}
use Rattle.topk_theory.specs.Aggregate.{objects_of, IsTop}
use Rattle.topk_theory.specs.Transcript.{Agrees, IsTame, seen_objects}
use Rattle.topk_theory.specs.Threshold.{IsAsked, IsLeastDepth, stands, objects_to, scored, ta_depth, ta_run, ta_answer, item_objects}
use Rattle.topk_theory.proofs.AgreementLists.{contains_map_from, all_from_members, member_of_all}
use Rattle.topk_theory.proofs.ThresholdLists.{contains_from_filter}
use Rattle.topk_theory.proofs.ThresholdDepth.{ta_depth_is_least}
use Rattle.topk_theory.proofs.ThresholdTop.{answer_is_first, answer_is_top, scored_member}
use Rattle.topk_theory.proofs.ThresholdRun.{run_agrees, run_tame, run_sees}

pub least_depth : (V : List ℕ → ℕ) (k n : ℕ) (D : List (List Row)) → IsMonotone V → IsAsked k n D → IsLeastDepth V k n D (ta_depth V k D)
least_depth V k n D monotone asked = ta_depth_is_least V k n D monotone asked.table asked.lists asked.positive asked.fits

pub top_answer : (V : List ℕ → ℕ) (k n : ℕ) (D : List (List Row)) → IsMonotone V → IsAsked k n D → IsTop V k D (item_objects (ta_answer V k D))
top_answer V k n D monotone asked = answer_is_top V k n D monotone asked.table asked.lists asked.positive asked.fits

pub agreeing_run : (V : List ℕ → ℕ) (k n : ℕ) (D : List (List Row)) → IsMonotone V → IsAsked k n D → Agrees (length D) n D (ta_run V k D)
agreeing_run V k n D monotone asked = run_agrees n D (ta_depth V k D) asked.table (least_depth V k n D monotone asked).within

pub tame_run : (V : List ℕ → ℕ) (k n : ℕ) (D : List (List Row)) → IsMonotone V → IsAsked k n D → IsTame (ta_run V k D)
tame_run V k n D monotone asked = run_tame n D (ta_depth V k D) asked.table (least_depth V k n D monotone asked).within

pub seen_answer : (V : List ℕ → ℕ) (k n : ℕ) (D : List (List Row)) → IsMonotone V → IsAsked k n D
    → All (Contains (seen_objects (ta_run V k D))) (item_objects (ta_answer V k D))
seen_answer V k n D monotone asked =
    let depth : ℕ = ta_depth V k D in
    let items = map (scored V D) (objects_to D depth) in
    all_from_members (Contains (seen_objects (ta_run V k D))) (item_objects (ta_answer V k D)) (λ o h.
    let from = contains_map_from (λ (item : Item). item.object) (ta_answer V k D) o h in
    let held = scored_member V D (objects_to D depth) from.0 (member_of_all (Contains items) (ta_answer V k D) from.0 (answer_is_first V k n D asked.table).held from.1) in
    let stood = contains_from_filter (stands D depth) (objects_of D) from.0.object held.0 in
    subst (λ z. Contains (seen_objects (ta_run V k D)) z) from.2 (run_sees n D depth from.0.object asked.table stood.1 stood.0))
