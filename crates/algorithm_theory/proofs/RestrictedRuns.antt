-- The run of the algorithm: it makes no wild guess, knows all grades of what it has seen, and is as deep and as long as its depth says.
use Rattle.std.proofs.Common.{◌≡◌, ◌≢◌, ◌↔◌, inl, inr, ℕ, zero, suc, ◌+◌, ◌*◌, ◌≤◌, Bool, true, false, List, [], ◌∷◌, ◌++◌, length, map, All, Contains, Option, is_none, refl, sym, ap, subst, ◌∙◌, arith, length-append}
use Rattle.std.specs.List.{flat_map}
use Rattle.std.proofs.lemmas.Bool.{cases_Bool, true≢false}
use Rattle.std.proofs.lemmas.Grind.{flat_map-append}
use Rattle.std.proofs.lemmas.List.FromFn.{length-range_with_len}
use Rattle.std.proofs.Math.Nat.{mul-le-mul_left}
use Rattle.ranked_list.specs.declared.row.Row.{Row}
use Rattle.ranked_list.specs.Table.{IsTable, grade_in}
use Rattle.ranked_list.proofs.OptionLaws.{option_cases}
use Rattle.topk_theory.specs.declared.access.Access.{Access}
use Rattle.topk_theory.specs.declared.access.Access.TheVariants.{Sorted, Random}
use Rattle.topk_theory.specs.Transcript.{Agrees, IsTame, list_at, list_numbers, sorted_rows, seen_objects, depth, depth_of}
use Rattle.topk_theory.specs.Bounds.{known_grade}
use Rattle.topk_theory.specs.Threshold.{IsAsked, row_at, scored, item_objects}
use Rattle.topk_theory.specs.Combined.{unknown_lists, missing_grades}
use Rattle.topk_theory.proofs.AgreementLists.{contains_nil, contains_here, contains_there, contains_map_from, all_from_members, member_of_all}
use Rattle.topk_theory.proofs.AgreementNames.{each_once_within}
use Rattle.topk_theory.proofs.Agreement.{known_grade_kept, seen_count}
use Rattle.topk_theory.proofs.CombinedRun.{asks_tame}
use Rattle.topk_theory.proofs.ThresholdLists.{length-map, filter_fits}
use Rattle.topk_theory.proofs.ThresholdRun.{tame_append}
use Rattle.topk_theory.proofs.ThresholdRun.{run_tame as ta_tame}
use Rattle.topk_theory.proofs.ThresholdTop.{scored_member}
use Rattle.algorithm_theory.proofs.NearBestDepths.{depth_above, depth_below}
use Rattle.algorithm_theory.proofs.FaginCommon.{each_known, none_unknown}
use Rattle.algorithm_theory.proofs.FaginRuns.{asks_know, asks_see_none, asks_long}
use Rattle.algorithm_theory.specs.Restricted.{HasOne, lists_in, taz_objects, read_at, row_of_first, taz_run_to, taz_run, taz_depth, taz_answer, ReadsIn}
use Rattle.algorithm_theory.proofs.RestrictedLeast.{taz_depth_is_least}
use Rattle.algorithm_theory.proofs.RestrictedReading.{IsRead, no_rows, run_read, grades_ask}
use Rattle.algorithm_theory.proofs.RestrictedSeen.{seen_are_read, seen_grows}
use Rattle.algorithm_theory.proofs.RestrictedTop.{taz_first}

-- ---- what was read of the table
taz_run_read : (V : List ℕ → ℕ) (k n : ℕ) (Z : ℕ → Bool) (D : List (List Row)) → IsAsked k n D → HasOne Z (length D)
    → IsRead Z n D (taz_run V k Z D) (taz_depth V k Z D) 0
taz_run_read V k n Z D asked one = run_read Z n (taz_depth V k Z D) D asked.table (taz_depth_is_least V k n Z D asked one).within

pub taz_run_agrees : (V : List ℕ → ℕ) (k n : ℕ) (Z : ℕ → Bool) (D : List (List Row)) → IsAsked k n D → HasOne Z (length D)
    → Agrees (length D) n D (taz_run V k Z D)
taz_run_agrees V k n Z D asked one = (taz_run_read V k n Z D asked one).agrees

pub reads_in : (Z : ℕ → Bool) (n : ℕ) (D : List (List Row)) (A : List Access) (depth list : ℕ) → IsRead Z n D A depth list → ReadsIn Z A
reads_in Z n D A depth list h = λ other f. no_rows (sorted_rows other A) (h.none other f)

pub taz_reads_in : (V : List ℕ → ℕ) (k n : ℕ) (Z : ℕ → Bool) (D : List (List Row)) → IsAsked k n D → HasOne Z (length D) → ReadsIn Z (taz_run V k Z D)
taz_reads_in V k n Z D asked one = reads_in Z n D (taz_run V k Z D) (taz_depth V k Z D) 0 (taz_run_read V k n Z D asked one)

-- it is as deep as the depth of each list of Z
pub read_deep : (Z : ℕ → Bool) (n : ℕ) (D : List (List Row)) (A : List Access) (deep : ℕ) → HasOne Z (length D) → IsRead Z n D A deep 0
    → depth (length D) A ≡ deep
read_deep Z n D A deep one h =
    let own : depth_of one.list A ≡ deep = h.from one.list (omega arith) one.listed one.sorted in
    let up : depth_of one.list A ≤ depth (length D) A = depth_above (length D) A one.list one.listed in
    let down : depth (length D) A ≤ deep =
    depth_below (length D) A deep (λ list l. elim (cases_Bool (Z list)) [
      | inl z ↦ let e : depth_of list A ≡ deep = h.from list (omega arith) l z in omega arith
      | inr f ↦ let e : depth_of list A ≡ 0 = h.none list f in omega arith
    ]) in
    omega arith

pub taz_run_depth : (V : List ℕ → ℕ) (k n : ℕ) (Z : ℕ → Bool) (D : List (List Row)) → IsAsked k n D → HasOne Z (length D)
    → depth (length D) (taz_run V k Z D) ≡ taz_depth V k Z D
taz_run_depth V k n Z D asked one = read_deep Z n D (taz_run V k Z D) (taz_depth V k Z D) one (taz_run_read V k n Z D asked one)

-- what it sees, and its answer
pub taz_run_sees : (V : List ℕ → ℕ) (k n : ℕ) (Z : ℕ → Bool) (D : List (List Row)) → IsAsked k n D → HasOne Z (length D) → (object : ℕ)
    → Contains (seen_objects (taz_run V k Z D)) object ↔ Contains (taz_objects Z D (taz_depth V k Z D)) object
taz_run_sees V k n Z D asked one object = seen_are_read Z n D (taz_run V k Z D) (taz_depth V k Z D) (taz_run_read V k n Z D asked one) object

-- an object of the answer is one of those down to the depth
pub answer_there : (V : List ℕ → ℕ) (k n : ℕ) (Z : ℕ → Bool) (D : List (List Row)) (object : ℕ) → IsTable n D → Contains (item_objects (taz_answer V k Z D)) object
    → Contains (taz_objects Z D (taz_depth V k Z D)) object
answer_there V k n Z D object t c =
    let os : List ℕ = taz_objects Z D (taz_depth V k Z D) in
    let from = contains_map_from (λ (item : _). item.object) (taz_answer V k Z D) object c in
    let held = scored_member V D os from.0 (member_of_all (Contains (map (scored V D) os)) (taz_answer V k Z D) from.0 (taz_first V k n Z D (taz_depth V k Z D) t).held from.1) in
    subst (Contains os) from.2 held.0

pub taz_sees_answer : (V : List ℕ → ℕ) (k n : ℕ) (Z : ℕ → Bool) (D : List (List Row)) → IsAsked k n D → HasOne Z (length D)
    → All (Contains (seen_objects (taz_run V k Z D))) (item_objects (taz_answer V k Z D))
taz_sees_answer V k n Z D asked one =
    all_from_members (Contains (seen_objects (taz_run V k Z D))) (item_objects (taz_answer V k Z D)) (λ o c.
    (taz_run_sees V k n Z D asked one o).1 (answer_there V k n Z D o asked.table c))

-- ---- it makes no wild guess
pub row_sorted : (Z : ℕ → Bool) (D : List (List Row)) (at m list object grade : ℕ) → ¬ Contains (row_of_first Z D at m) (Random list object grade)
row_sorted Z D at m list object grade c =
    let from = contains_map_from (read_at D at) (lists_in Z m) (Random list object grade) c in
    not_both from.0 (row_at (list_at D from.0) at).object (row_at (list_at D from.0) at).grade list object grade from.2
  where
    not_both : (l o g l' o' g' : ℕ) → Sorted l o g ≡ Random l' o' g' → ⊥
    not_both l o g l' o' g' e = cc

pub run_tame : (Z : ℕ → Bool) (D : List (List Row)) (depth : ℕ) → IsTame (taz_run_to Z D depth)
run_tame Z D zero = ta_tame 0 [] 0 (record { sized = λ k d l. absurd (omega arith); ranked = λ k d l. absurd (omega arith); same = λ k d l. absurd (omega arith) }) (omega arith)
run_tame Z D (suc depth) =
    let A : List Access = taz_run_to Z D depth in
    let row : List Access = row_of_first Z D (suc depth) (length D) in
    asks_tame D (A ++ row) (flat_map (missing_grades D (A ++ row)) (seen_objects (A ++ row)))
    (tame_append A row (run_tame Z D depth) (λ list object grade c. absurd (row_sorted Z D (suc depth) (length D) list object grade c)))
    (grades_ask D (A ++ row))

-- ---- all grades of the seen objects are known at the end of each depth
pub run_knows : (Z : ℕ → Bool) (D : List (List Row)) (depth object : ℕ) → Contains (seen_objects (taz_run_to Z D depth)) object
    → unknown_lists (length D) (taz_run_to Z D depth) object ≡ []
run_knows Z D zero object c = absurd (contains_nil object (each_once_within [] object c))
run_knows Z D (suc depth) object c =
    let row : List Access = taz_run_to Z D depth ++ row_of_first Z D (suc depth) (length D) in
    asks_know D row (seen_objects row) object
    (subst (λ os. Contains os object) (asks_see_none D (Contains (seen_objects row)) row (flat_map (missing_grades D row) (seen_objects row)) (grades_ask D row)) c)

pub taz_run_knows : (V : List ℕ → ℕ) (k : ℕ) (Z : ℕ → Bool) (D : List (List Row))
    → All (λ object. unknown_lists (length D) (taz_run V k Z D) object ≡ []) (seen_objects (taz_run V k Z D))
taz_run_knows V k Z D =
    all_from_members (λ object. unknown_lists (length D) (taz_run V k Z D) object ≡ []) (seen_objects (taz_run V k Z D)) (λ o c. run_knows Z D (taz_depth V k Z D) o c)

-- what is known stays known
pub known_stays : (m : ℕ) (A B : List Access) (object : ℕ) → unknown_lists m A object ≡ [] → unknown_lists m (A ++ B) object ≡ []
known_stays m A B object none =
    none_unknown m (A ++ B) object (λ list l.
    elim (option_cases (known_grade A object list)) [
      | inl unknown ↦ absurd (true≢false (ap (λ (o : Option ℕ). is_none o) (sym unknown) ∙ each_known m A object list none l))
      | inr some ↦ ap (λ (o : Option ℕ). is_none o) (known_grade_kept A B object list some.0 some.1)
    ])

-- so objects that were known before are not asked
pub asks_nobody : (D : List (List Row)) (A : List Access) (objects : List ℕ) → ((object : ℕ) → Contains objects object → unknown_lists (length D) A object ≡ [])
    → flat_map (missing_grades D A) objects ≡ []
asks_nobody D A [] known = refl
asks_nobody D A (object ∷ objects) known =
    ap (λ ls. map (λ list. Random list object (grade_in (list_at D list) object)) ls ++ flat_map (missing_grades D A) objects) (known object (contains_here object objects))
    ∙ asks_nobody D A objects (λ o c. known o (contains_there object objects o c))

-- and the new ones alone are asked after a row
pub asks_new : (Z : ℕ → Bool) (D : List (List Row)) (depth : ℕ) (B : List Access) (new : List ℕ)
    → seen_objects (taz_run_to Z D depth ++ B) ≡ seen_objects (taz_run_to Z D depth) ++ new
    → flat_map (missing_grades D (taz_run_to Z D depth ++ B)) (seen_objects (taz_run_to Z D depth ++ B)) ≡ flat_map (missing_grades D (taz_run_to Z D depth ++ B)) new
asks_new Z D depth B new grown =
    let A : List Access = taz_run_to Z D depth in
    ap (flat_map (missing_grades D (A ++ B))) grown
    ∙ flat_map-append (missing_grades D (A ++ B)) (seen_objects A) new
    ∙ ap (λ asks. asks ++ flat_map (missing_grades D (A ++ B)) new)
    (asks_nobody D (A ++ B) (seen_objects A) (λ o c. known_stays (length D) A B o (run_knows Z D depth o c)))

-- ---- how much it reads: at each depth a row, and for each new object the grades of its lists
row_long : (Z : ℕ → Bool) (D : List (List Row)) (at : ℕ) → length (row_of_first Z D at (length D)) ≤ length D
row_long Z D at =
    let asks : length (row_of_first Z D at (length D)) ≡ length (lists_in Z (length D)) = length-map (read_at D at) (lists_in Z (length D)) in
    let few : length (lists_in Z (length D)) ≤ length (list_numbers (length D)) = filter_fits Z (list_numbers (length D)) in
    let all : length (list_numbers (length D)) ≡ length D = length-range_with_len 0 (length D) in
    omega arith

-- a product of sums
one_more : (m d s t : ℕ) → m * (suc d + (s + t)) ≡ m + m * (d + s) + m * t
one_more m d s t = grind arith

run_long : (Z : ℕ → Bool) (D : List (List Row)) (depth : ℕ) → length (taz_run_to Z D depth) ≤ length D * (depth + length (seen_objects (taz_run_to Z D depth)))
run_long Z D zero = omega arith
run_long Z D (suc depth) =
    let A : List Access = taz_run_to Z D depth in
    let row : List Access = row_of_first Z D (suc depth) (length D) in
    let asks : List Access = flat_map (missing_grades D (A ++ row)) (seen_objects (A ++ row)) in
    let grown = seen_grows A row in
    let before : length A ≤ length D * (depth + length (seen_objects A)) = run_long Z D depth in
    let here : length row ≤ length D = row_long Z D (suc depth) in
    let asked : length asks ≡ length (flat_map (missing_grades D (A ++ row)) grown.0) = ap length (asks_new Z D depth row grown.0 grown.1) in
    let few : length (flat_map (missing_grades D (A ++ row)) grown.0) ≤ length D * length grown.0 = asks_long D (A ++ row) grown.0 in
    let seen : length (seen_objects (taz_run_to Z D (suc depth))) ≡ length (seen_objects A) + length grown.0 =
    ap length (asks_see_none D (Contains (seen_objects (A ++ row))) (A ++ row) asks (grades_ask D (A ++ row)) ∙ grown.1) ∙ length-append (seen_objects A) grown.0 in
    let sum = one_more (length D) depth (length (seen_objects A)) (length grown.0) in
    let whole : length (taz_run_to Z D (suc depth)) ≤ length D * (suc depth + (length (seen_objects A) + length grown.0)) = omega (arith, length-append (A ++ row) asks, length-append A row) in
    subst (λ s. length (taz_run_to Z D (suc depth)) ≤ length D * (suc depth + s)) (sym seen) whole

-- a row and a grade of each list for each object at most
pub taz_run_long : (V : List ℕ → ℕ) (k n : ℕ) (Z : ℕ → Bool) (D : List (List Row)) → IsAsked k n D → HasOne Z (length D)
    → length (taz_run V k Z D) ≤ 2 * (length D * n)
taz_run_long V k n Z D asked one =
    let A : List Access = taz_run V k Z D in
    let deep : taz_depth V k Z D ≤ n = (taz_depth_is_least V k n Z D asked one).within in
    let few : length (seen_objects A) ≤ n = seen_count (length D) n D A asked.lists (taz_run_agrees V k n Z D asked one) in
    let long : length A ≤ length D * (taz_depth V k Z D + length (seen_objects A)) = run_long Z D (taz_depth V k Z D) in
    let most : length D * (taz_depth V k Z D + length (seen_objects A)) ≤ length D * (n + n) = mul-le-mul_left (length D) (let both : taz_depth V k Z D + length (seen_objects A) ≤ n + n = omega arith in both) in
    let twice = double (length D) n in
    omega arith
  where
    double : (m n : ℕ) → m * (n + n) ≡ 2 * (m * n)
    double m n = grind arith
