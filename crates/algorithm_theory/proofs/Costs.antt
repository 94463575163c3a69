-- What the threshold algorithm's run costs, against a transcript that sees as many objects as its depth less k.
use Rattle.std.proofs.Common.{◌≡◌, ℕ, zero, suc, ◌+◌, ◌-◌, ◌*◌, ◌<◌, ◌≤◌, inl, inr, true, not, cond, List, [], ◌∷◌, ◌++◌, length, map, filter, Contains, refl, ap, subst, ◌∙◌, arith}
use Rattle.std.specs.List.{flat_map}
use Rattle.std.proofs.Math.Nat.{mul-le-mul_left, mul-le-mul_right}
use Rattle.std.proofs.lemmas.Bool.{cases_lt}
use Rattle.std.proofs.lemmas.List.Sums.{sum_by-cons, sum_by-append, length-filter, count_by-le-length}
use Rattle.ranked_list.specs.declared.row.Row.{Row}
use Rattle.ranked_list.specs.Table.{IsTable, place_in, grade_in}
use Rattle.topk_theory.specs.declared.access.Access.{Access}
use Rattle.topk_theory.specs.declared.access.Access.TheVariants.{Sorted, Random}
use Rattle.monotone_fn.specs.Value.{IsMonotone}
use Rattle.topk_theory.specs.Transcript.{each_once, is_sorted, seen_objects, sorted_count, random_count, cost}
use Rattle.topk_theory.specs.Threshold.{IsAsked, row_at, stands, sorted_block, new_objects, random_block, ta_block, ta_run_to, ta_run, ta_depth}
use Rattle.topk_theory.specs.NoRandom.{nra_run_to}
use Rattle.topk_theory.proofs.AgreementLists.{contains_nil, contains_cases, contains_here, contains_there, distinct_fits}
use Rattle.topk_theory.proofs.AgreementNames.{each_once_within, each_once_distinct}
use Rattle.topk_theory.proofs.NoRandomRun.{block_asks}
use Rattle.topk_theory.proofs.ThresholdDepth.{stands_from}
use Rattle.topk_theory.proofs.ThresholdLaws.{least_depth}
use Rattle.topk_theory.proofs.ThresholdLists.{length-map}
use Rattle.topk_theory.proofs.ThresholdRun.{random_block_here, random_block_lower, new_is_object, object_stands}
use Rattle.algorithm_theory.specs.Optimal.{FixesTamely, depth_cost}
use Rattle.algorithm_theory.proofs.NearBestDepths.{seen_sorted}
use Rattle.algorithm_theory.proofs.Threshold.{ta_stops_in_time}

sorted_cons : (a : Access) (A : List Access) → sorted_count (a ∷ A) ≡ cond {A = ℕ} (is_sorted a) 1 0 + sorted_count A
sorted_cons a A = sum_by-cons (λ access. cond {A = ℕ} (is_sorted access) 1 0) a A

pub random_cons : (a : Access) (A : List Access) → random_count (a ∷ A) ≡ cond {A = ℕ} (not (is_sorted a)) 1 0 + random_count A
random_cons a A = sum_by-cons (λ access. cond {A = ℕ} (not (is_sorted access)) 1 0) a A

sorted_append : (A B : List Access) → sorted_count (A ++ B) ≡ sorted_count A + sorted_count B
sorted_append A B = sum_by-append (λ access. cond {A = ℕ} (is_sorted access) 1 0) A B

random_append : (A B : List Access) → random_count (A ++ B) ≡ random_count A + random_count B
random_append A B = sum_by-append (λ access. cond {A = ℕ} (not (is_sorted access)) 1 0) A B

-- a row of sorted accesses
row_sorted : (list at : ℕ) (D : List (List Row)) → sorted_count (sorted_block list at D) ≡ length D
row_sorted list at [] = refl
row_sorted list at (rows ∷ D) =
    let more : sorted_count (sorted_block (list + 1) at D) ≡ length D = row_sorted (list + 1) at D in
    let e = sorted_cons (Sorted list (row_at rows at).object (row_at rows at).grade) (sorted_block (list + 1) at D) in
    omega (arith, e, more)

-- the random accesses of one object: none is sorted, and they are at most as many as the lists, less one where it stands already
asked_sorted : (list at object : ℕ) (D : List (List Row)) → sorted_count (random_block list at object D) ≡ 0
asked_sorted list at object [] = refl
asked_sorted list at object (rows ∷ D) =
    let more : sorted_count (random_block (list + 1) at object D) ≡ 0 = asked_sorted (list + 1) at object D in
    elim (cases_lt (place_in rows object) at) [
      | inl l ↦ ap sorted_count (random_block_here list at object rows D l) ∙ more
      | inr l ↦ ap sorted_count (random_block_lower list at object rows D l)
          ∙ (let e = sorted_cons (Random list object (grade_in rows object)) (random_block (list + 1) at object D) in omega (arith, e, more))
    ]

asked_random : (list at object : ℕ) (D : List (List Row)) → random_count (random_block list at object D) ≤ length D
asked_random list at object [] = omega arith
asked_random list at object (rows ∷ D) =
    let more : random_count (random_block (list + 1) at object D) ≤ length D = asked_random (list + 1) at object D in
    elim (cases_lt (place_in rows object) at) [
      | inl l ↦ (let e : random_count (random_block list at object (rows ∷ D)) ≡ random_count (random_block (list + 1) at object D) = ap random_count (random_block_here list at object rows D l) in omega (arith, e, more))
      | inr l ↦ (
          let e : random_count (random_block list at object (rows ∷ D)) ≡ random_count (Random list object (grade_in rows object) ∷ random_block (list + 1) at object D) = ap random_count (random_block_lower list at object rows D l) in
          let one = random_cons (Random list object (grade_in rows object)) (random_block (list + 1) at object D) in
          omega (arith, e, one, more))
    ]

asked_others : (list at object : ℕ) (D : List (List Row)) (rows : List Row) → Contains D rows → place_in rows object < at
    → random_count (random_block list at object D) + 1 ≤ length D
asked_others list at object [] rows c l = absurd (contains_nil rows c)
asked_others list at object (first ∷ D) rows c l =
    elim (cases_lt (place_in first object) at) [
      | inl here ↦ (
          let more : random_count (random_block (list + 1) at object D) ≤ length D = asked_random (list + 1) at object D in
          let e : random_count (random_block list at object (first ∷ D)) ≡ random_count (random_block (list + 1) at object D) = ap random_count (random_block_here list at object first D here) in
          omega (arith, e, more))
      | inr lower ↦ elim (contains_cases first D rows c) [
        | inl same ↦ absurd (let e : place_in first object ≡ place_in rows object = ap (λ (z : List Row). place_in z object) same in omega arith)
        | inr t ↦ (
            let more : random_count (random_block (list + 1) at object D) + 1 ≤ length D = asked_others (list + 1) at object D rows t l in
            let e : random_count (random_block list at object (first ∷ D)) ≡ random_count (Random list object (grade_in first object) ∷ random_block (list + 1) at object D) = ap random_count (random_block_lower list at object first D lower) in
            let one = random_cons (Random list object (grade_in first object)) (random_block (list + 1) at object D) in
            omega (arith, e, one, more))
      ]
    ]

-- those of all new objects of a depth
all_sorted : (at : ℕ) (D : List (List Row)) (os : List ℕ) → sorted_count (flat_map (λ object. random_block 0 at object D) os) ≡ 0
all_sorted at D [] = refl
all_sorted at D (o ∷ os) =
    let more : sorted_count (flat_map (λ object. random_block 0 at object D) os) ≡ 0 = all_sorted at D os in
    let here : sorted_count (random_block 0 at o D) ≡ 0 = asked_sorted 0 at o D in
    let both = sorted_append (random_block 0 at o D) (flat_map (λ object. random_block 0 at object D) os) in
    omega (arith, both, here, more)

all_random : (at : ℕ) (D : List (List Row)) (os : List ℕ) → ((o : ℕ) → Contains os o → random_count (random_block 0 at o D) + 1 ≤ length D)
    → random_count (flat_map (λ object. random_block 0 at object D) os) ≤ length os * (length D - 1)
all_random at D [] h = omega arith
all_random at D (o ∷ os) h =
    let more : random_count (flat_map (λ object. random_block 0 at object D) os) ≤ length os * (length D - 1) = all_random at D os (λ p c. h p (contains_there o os p c)) in
    let here : random_count (random_block 0 at o D) + 1 ≤ length D = h o (contains_here o os) in
    let both = random_append (random_block 0 at o D) (flat_map (λ object. random_block 0 at object D) os) in
    let count : suc (length os) * (length D - 1) ≡ length os * (length D - 1) + (length D - 1) = suc_times (length os) (length D - 1) in
    omega (arith, both, here, more, count)
  where
    suc_times : (a b : ℕ) → suc a * b ≡ a * b + b
    suc_times a b = grind arith

pub new_few : (D : List (List Row)) (at : ℕ) → length (new_objects D at) ≤ length D
new_few D at =
    let tops : List ℕ = map (λ (rows : List Row). (row_at rows at).object) D in
    let kept : length (filter (λ object. not (stands D (at - 1) object)) (each_once tops)) ≤ length (each_once tops) = (let e = length-filter (λ object. not (stands D (at - 1) object)) (each_once tops) in let le = count_by-le-length (λ object. not (stands D (at - 1) object)) (each_once tops) in omega (arith, e, le)) in
    let fits : length (each_once tops) ≤ length tops = distinct_fits (each_once tops) tops (each_once_distinct tops) (λ x c. each_once_within tops x c) in
    omega (arith, length-map (λ (rows : List Row). (row_at rows at).object) D)

block_sorted : (D : List (List Row)) (at : ℕ) → sorted_count (ta_block D at) ≡ length D
block_sorted D at =
    let both = sorted_append (sorted_block 0 at D) (flat_map (λ object. random_block 0 at object D) (new_objects D at)) in
    omega (arith, both, row_sorted 0 at D, all_sorted at D (new_objects D at))

block_random : (n : ℕ) (D : List (List Row)) (at : ℕ) → IsTable n D → 1 ≤ at → at ≤ n → random_count (ta_block D at) ≤ length D * (length D - 1)
block_random n D at table one within =
    let both = random_append (sorted_block 0 at D) (flat_map (λ object. random_block 0 at object D) (new_objects D at)) in
    let asks : random_count (sorted_block 0 at D) ≡ 0 = block_asks 0 at D in
    let all = all_random at D (new_objects D at) (λ o c.
    let new = new_is_object n D o at table one within c in
    let standing = stands_from D at o (subst (λ p. stands D at p ≡ true) new.2 (object_stands n D new.0 at at table new.1 one (omega arith) within)) in
    asked_others 0 at o D standing.0 standing.1 standing.2) in
    let few : length (new_objects D at) * (length D - 1) ≤ length D * (length D - 1) = mul-le-mul_right (length D - 1) (new_few D at) in
    omega (arith, both, asks, all, few)

-- down to a depth
pub run_sorted : (D : List (List Row)) (at : ℕ) → sorted_count (ta_run_to D at) ≡ at * length D
run_sorted D zero = let e : 0 ≡ 0 * length D = omega arith in e
run_sorted D (suc at) =
    let more : sorted_count (ta_run_to D at) ≡ at * length D = run_sorted D at in
    let both = sorted_append (ta_run_to D at) (ta_block D (suc at)) in
    suc_times at (length D) (sorted_count (ta_run_to D (suc at))) (omega (arith, both, more, block_sorted D (suc at)))
  where
    suc_times : (a b c : ℕ) → c ≡ a * b + b → c ≡ suc a * b
    suc_times a b c e = grind arith

pub shallow_sorted : (D : List (List Row)) (at : ℕ) → sorted_count (nra_run_to D at) ≡ at * length D
shallow_sorted D zero = let e : 0 ≡ 0 * length D = omega arith in e
shallow_sorted D (suc at) =
    let more : sorted_count (nra_run_to D at) ≡ at * length D = shallow_sorted D at in
    let both = sorted_append (nra_run_to D at) (sorted_block 0 (suc at) D) in
    suc_times at (length D) (sorted_count (nra_run_to D (suc at))) (omega (arith, both, more, row_sorted 0 (suc at) D))
  where
    suc_times : (a b c : ℕ) → c ≡ a * b + b → c ≡ suc a * b
    suc_times a b c e = grind arith

run_random : (n : ℕ) (D : List (List Row)) (at : ℕ) → IsTable n D → at ≤ n → random_count (ta_run_to D at) ≤ at * (length D * (length D - 1))
run_random n D zero table within = omega arith
run_random n D (suc at) table within =
    let more : random_count (ta_run_to D at) ≤ at * (length D * (length D - 1)) = run_random n D at table (omega arith) in
    let both = random_append (ta_run_to D at) (ta_block D (suc at)) in
    suc_times at (length D * (length D - 1)) (random_count (ta_run_to D (suc at))) (omega (arith, both, more, block_random n D (suc at) table (omega arith) within))
  where
    suc_times : (a b c : ℕ) → c ≤ a * b + b → c ≤ suc a * b
    suc_times a b c e = grind arith

-- a depth costs at most so much
times_depth : (at m s r each_sorted each_random : ℕ) → s ≡ at * m → r ≤ at * (m * (m - 1))
    → s * each_sorted + r * each_random ≤ at * depth_cost m each_sorted each_random
times_depth at m s r each_sorted each_random es er =
    let some : r * each_random ≤ at * (m * (m - 1)) * each_random = mul-le-mul_right each_random er in
    let whole : at * (m * each_sorted + m * (m - 1) * each_random) ≡ at * m * each_sorted + at * (m * (m - 1)) * each_random = spread at m (m * (m - 1)) each_sorted each_random in
    let first : s * each_sorted ≡ at * m * each_sorted = ap (λ x. x * each_sorted) es in
    omega (arith, some, whole, first)
  where
    spread : (a b c x y : ℕ) → a * (b * x + c * y) ≡ a * b * x + a * c * y
    spread a b c x y = grind arith

-- what the depth is worth, against what the transcript costs
worth : (deep a k s r each_sorted each_random factor whole : ℕ) → deep ≤ a + k → a ≤ s → whole ≤ deep * factor
    → each_sorted * whole ≤ factor * (s * each_sorted + r * each_random + k * each_sorted)
worth deep a k s r each_sorted each_random factor whole within seen costs =
    let one : each_sorted * whole ≤ each_sorted * (deep * factor) = mul-le-mul_left each_sorted costs in
    let two : deep * each_sorted ≤ (s + k) * each_sorted = mul-le-mul_right each_sorted (let le : deep ≤ s + k = omega arith in le) in
    let three : factor * (deep * each_sorted) ≤ factor * ((s + k) * each_sorted) = mul-le-mul_left factor two in
    let four : (s + k) * each_sorted ≤ s * each_sorted + r * each_random + k * each_sorted = (let e : (s + k) * each_sorted ≡ s * each_sorted + k * each_sorted = spread s k each_sorted in omega arith) in
    let five : factor * ((s + k) * each_sorted) ≤ factor * (s * each_sorted + r * each_random + k * each_sorted) = mul-le-mul_left factor four in
    let turn : each_sorted * (deep * factor) ≡ factor * (deep * each_sorted) = turned each_sorted deep factor in
    omega (arith, one, three, five, turn)
  where
    spread : (a b c : ℕ) → (a + b) * c ≡ a * c + b * c
    spread a b c = grind arith

    turned : (a b c : ℕ) → a * (b * c) ≡ c * (b * a)
    turned a b c = grind arith

pub ta_cost_bounded : (V : List ℕ → ℕ) (k m n each_sorted each_random : ℕ) (D : List (List Row)) (A : List Access) (Y : List ℕ)
    → IsMonotone V → IsAsked k n D → FixesTamely V k m n D A Y
    → each_sorted * cost each_sorted each_random (ta_run V k D) ≤ depth_cost m each_sorted each_random * (cost each_sorted each_random A + k * each_sorted)
ta_cost_bounded V k m n each_sorted each_random D A Y monotone asked h =
    let deep : ℕ = ta_depth V k D in
    let run : List Access = ta_run V k D in
    let within : deep ≤ n = (least_depth V k n D monotone asked).within in
    let s : sorted_count run ≡ deep * m = subst (λ count. sorted_count run ≡ deep * count) h.agrees.lists (run_sorted D deep) in
    let r : random_count run ≤ deep * (m * (m - 1)) = subst (λ count. random_count run ≤ deep * (count * (count - 1))) h.agrees.lists (run_random n D deep asked.table within) in
    worth deep (length (seen_objects A)) k (sorted_count A) (random_count A) each_sorted each_random (depth_cost m each_sorted each_random) (cost each_sorted each_random run)
    (ta_stops_in_time V k m n D A Y monotone asked h)
    (seen_sorted A)
    (times_depth deep m (sorted_count run) (random_count run) each_sorted each_random s r)
