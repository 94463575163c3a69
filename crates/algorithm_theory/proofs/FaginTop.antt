-- The answer of the algorithm is a top k of its table, and its objects are seen.
use Rattle.std.proofs.Common.{◌≡◌, ◌≢◌, ℕ, ◌≤◌, List, length, map, min, All, Contains, subst, arith}
use Rattle.std.proofs.lemmas.List.{length-map}
use Rattle.std.proofs.lemmas.List.Kept.{AllPairs-filter}
use Rattle.ranked_list.specs.declared.row.Row.{Row}
use Rattle.ranked_list.specs.declared.item.Item.{Item}
use Rattle.monotone_fn.specs.Value.{IsMonotone}
use Rattle.topk_theory.specs.Aggregate.{IsTop, objects_of}
use Rattle.topk_theory.specs.Order.{IsFirstK}
use Rattle.topk_theory.specs.Transcript.{seen_objects}
use Rattle.topk_theory.specs.Threshold.{IsAsked, stands, objects_to, scored, item_objects}
use Rattle.topk_theory.proofs.AgreementLists.{contains_map, contains_map_from, all_from_members, member_of_all, distinct_fits}
use Rattle.topk_theory.proofs.Agreement.{objects_of_distinct, seen_distinct}
use Rattle.topk_theory.proofs.FirstK.{first_k-is}
use Rattle.topk_theory.proofs.ThresholdTop.{scored_distinct, scored_member, first_is_top}
use Rattle.algorithm_theory.specs.Fagin.{fa_depth, fa_rows, fa_seen, fa_run, fa_answer}
use Rattle.algorithm_theory.proofs.FaginCommon.{seen_are_there}
use Rattle.algorithm_theory.proofs.FaginLeast.{fa_depth_is_least, stop_stops}
use Rattle.algorithm_theory.proofs.FaginRuns.{seen_of_rows}

-- the first k of items are the first k of the same items in any order
same_first : (k : ℕ) (items others first : List Item) → length items ≡ length others → ((item : Item) → Contains items item → Contains others item)
    → ((item : Item) → Contains others item → Contains items item) → IsFirstK k items first → IsFirstK k others first
same_first k items others first size there back is = record {
  ordered = is.ordered;
  size = (let s : length first ≡ min k (length items) = is.size in omega arith);
  held = all_from_members (Contains others) first (λ item c. there item (member_of_all (Contains items) first item is.held c));
  none_ahead = λ inside outside h o out. is.none_ahead inside outside h (back outside o) out;
}

map_there : (V : List ℕ → ℕ) (D : List (List Row)) (os ps : List ℕ) → ((o : ℕ) → Contains os o → Contains ps o) → (item : Item) → Contains (map (scored V D) os) item
    → Contains (map (scored V D) ps) item
map_there V D os ps there item c =
    let from = contains_map_from (scored V D) os item c in
    subst (λ i. Contains (map (scored V D) ps) i) from.2 (contains_map (scored V D) ps from.0 (there from.0 from.1))

pub fa_first : (V : List ℕ → ℕ) (k : ℕ) (D : List (List Row)) → IsFirstK k (map (scored V D) (fa_seen k D)) (fa_answer V k D)
fa_first V k D = first_k-is k (map (scored V D) (fa_seen k D)) (scored_distinct V D (fa_seen k D) (seen_distinct (fa_rows k D)))

pub fa_answer_top : (V : List ℕ → ℕ) (k n : ℕ) (D : List (List Row)) → IsMonotone V → IsAsked k n D → IsTop V k D (item_objects (fa_answer V k D))
fa_answer_top V k n D monotone asked =
    let own = fa_depth_is_least k n D asked in
    let deep : ℕ = fa_depth k D in
    let os : List ℕ = fa_seen k D in
    let ps : List ℕ = objects_to D deep in
    let there : (o : ℕ) → Contains os o → Contains ps o = λ o c. (seen_are_there n deep D asked.table own.within o).0 c in
    let back : (o : ℕ) → Contains ps o → Contains os o = λ o c. (seen_are_there n deep D asked.table own.within o).1 c in
    let up : length os ≤ length ps = distinct_fits os ps (seen_distinct (fa_rows k D)) there in
    let down : length ps ≤ length os = distinct_fits ps os (AllPairs-filter (λ (one other : ℕ). one ≢ other) (stands D deep) (objects_of D) (objects_of_distinct n D asked.table)) back in
    let size_os : length (map (scored V D) os) ≡ length os = length-map os (scored V D) in
    let size_ps : length (map (scored V D) ps) ≡ length ps = length-map ps (scored V D) in
    first_is_top V k n D deep (fa_answer V k D) monotone asked.table own.from_one (stop_stops V k n deep D monotone asked.table asked.lists own.within own.stops)
    (same_first k (map (scored V D) os) (map (scored V D) ps) (fa_answer V k D) (omega arith) (map_there V D os ps there) (map_there V D ps os back) (fa_first V k D))

-- an object of the answer is one of the seen ones
pub answer_seen : (V : List ℕ → ℕ) (k : ℕ) (D : List (List Row)) (object : ℕ) → Contains (item_objects (fa_answer V k D)) object → Contains (fa_seen k D) object
answer_seen V k D object c =
    let from = contains_map_from (λ (item : Item). item.object) (fa_answer V k D) object c in
    let held = scored_member V D (fa_seen k D) from.0 (member_of_all (Contains (map (scored V D) (fa_seen k D))) (fa_answer V k D) from.0 (fa_first V k D).held from.1) in
    subst (Contains (fa_seen k D)) from.2 held.0

pub fa_sees_answer : (V : List ℕ → ℕ) (k : ℕ) (D : List (List Row)) → All (Contains (seen_objects (fa_run k D))) (item_objects (fa_answer V k D))
fa_sees_answer V k D = all_from_members (Contains (seen_objects (fa_run k D))) (item_objects (fa_answer V k D)) (λ o c. seen_of_rows k D o (answer_seen V k D o c))
