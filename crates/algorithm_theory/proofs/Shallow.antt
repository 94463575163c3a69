-- The algorithm without random access is quiet by the depth of a transcript without random access that fixes an answer, or by k.
use Rattle.std.proofs.Common.{◌≡◌, ◌≢◌, ℕ, ◌+◌, ◌<◌, ◌≤◌, ◌==◌, ◌||◌, inl, inr, Bool, true, false, not, max, List, [], ◌∷◌, ◌++◌, length, map, take, filter, All, AllPairs, Contains, Option, Some, None, unwrap_or, refl, sym, ap, subst, ◌∙◌, arith, count_by, nat_lt, leb}
use Rattle.std.specs.List.{list_any, list_all}
use Rattle.std.specs.Option.{MatchOption}
use Rattle.std.proofs.lemmas.Bool.{eq-eqb, cases_Bool, cases_lt, le-leb, le-ltb, lt-ltb, and_from, or_right, true≢false}
use Rattle.std.proofs.lemmas.List.{length-take-le, length-map, take-take}
use Rattle.std.proofs.lemmas.List.Kept.{AllPairs-cons}
use Rattle.std.proofs.lemmas.List.Sums.{length-filter, list_all-from_AllPass}
use Rattle.ranked_list.specs.declared.row.Row.{Row}
use Rattle.ranked_list.specs.declared.item.Item.{Item}
use Rattle.ranked_list.specs.Table.{IsTable, top_grade}
use Rattle.ranked_list.proofs.OptionLaws.{option_cases}
use Rattle.topk_theory.specs.Order.{IsBefore, IsFirstK, IsKthLargest, in_order, kth_low, lows}
use Rattle.topk_theory.proofs.FirstK.{first_k-is}
use Rattle.topk_theory.proofs.InOrder.{length-in_order}
use Rattle.topk_theory.proofs.KthLow.{kth_low-counts}
use Rattle.topk_theory.proofs.OrderLaws.{IsBefore-total}
use Rattle.topk_theory.specs.declared.access.Access.{Access}
use Rattle.topk_theory.specs.declared.access.Access.TheVariants.{Sorted, Random}
use Rattle.monotone_fn.specs.Value.{IsMonotone}
use Rattle.topk_theory.specs.Aggregate.{objects_of, aggregate}
use Rattle.topk_theory.specs.Transcript.{Agrees, Begins, IsTame, list_at, list_numbers, sorted_rows, random_rows, given_rows, random_count, seen_objects, bottom_of, depth, depth_of}
use Rattle.topk_theory.specs.Bounds.{known_grade, bounded, low, high, threshold}
use Rattle.topk_theory.specs.Fixes.{FixesOver}
use Rattle.topk_theory.specs.Adversary.{BoundsPart}
use Rattle.topk_theory.specs.Threshold.{IsAsked, item_objects}
use Rattle.topk_theory.specs.NoRandom.{seen_items, first_seen, exceeds, is_viable, is_quiet, nra_run_to, nra_depth}
use Rattle.topk_theory.proofs.AgreementLists.{contains_nil, contains_map, contains_map_from, all_from_members, member_of_all, distinct_fits, contains_cases}
use Rattle.topk_theory.proofs.AgreementNames.{has, has_contains, has_not}
use Rattle.topk_theory.proofs.AgreementRows.{list_at_length, grade_among_row}
use Rattle.topk_theory.proofs.Agreement.{seen_in_table, seen_distinct, depth_fits}
use Rattle.topk_theory.proofs.Adversary.{fixes_parts}
use Rattle.topk_theory.proofs.BoundsLaws.{zip_numbers, low_holds, high_holds}
use Rattle.topk_theory.proofs.ConsistentRows.{last_is_least}
use Rattle.topk_theory.proofs.ConsistentTable.{agrees_coherent, given_split}
use Rattle.topk_theory.proofs.NoRandomLaws.{run_agrees, nra_depth_is_least, items_distinct, first_distinct}
use Rattle.topk_theory.proofs.NoRandomRun.{run_rows, run_asks}
use Rattle.topk_theory.proofs.NoRandomTop.{object_of_seen}
use Rattle.topk_theory.proofs.NoRandomQuiet.{exceeds_less}
use Rattle.topk_theory.proofs.Unseen.{unseen_high, unseen_low}
use Rattle.topk_theory.proofs.ThresholdLists.{any_from_member, contains_filter, count_map, map_map}
use Rattle.topk_theory.proofs.ThresholdTop.{objects_from_distinct}
use Rattle.algorithm_theory.specs.Optimal.{FixesBySorted}
use Rattle.algorithm_theory.proofs.NearBestDepths.{depth_above, depth_below, depth_of_seen, zeros_least}
use Rattle.algorithm_theory.proofs.Threshold.{outside_or_within, table_objects}
use Rattle.algorithm_theory.proofs.Costs.{random_cons}

-- a transcript without random access
no_random_here : (list object grade : ℕ) (A : List Access) → random_count (Random list object grade ∷ A) ≡ 0 → ⊥
no_random_here list object grade A e = absurd (let h = random_cons (Random list object grade) A in omega (arith, h, e))

no_random_rest : (list object grade : ℕ) (A : List Access) → random_count (Sorted list object grade ∷ A) ≡ 0 → random_count A ≡ 0
no_random_rest list object grade A e = let h = random_cons (Sorted list object grade) A in omega (arith, h, e)

no_random_rows : (list : ℕ) (A : List Access) → random_count A ≡ 0 → random_rows list A ≡ []
no_random_rows list [] e = refl
no_random_rows list (Sorted other object grade ∷ A) e = no_random_rows list A (no_random_rest other object grade A e)
no_random_rows list (Random other object grade ∷ A) e = absurd (no_random_here other object grade A e)

no_random_behind : (earlier later : List Access) (list object grade : ℕ) → random_count (earlier ++ Random list object grade ∷ later) ≡ 0 → ⊥
no_random_behind [] later list object grade none = no_random_here list object grade later none
no_random_behind (Sorted l o g ∷ earlier) later list object grade none = no_random_behind earlier later list object grade (no_random_rest l o g (earlier ++ Random list object grade ∷ later) none)
no_random_behind (Random l o g ∷ earlier) later list object grade none = no_random_here l o g (earlier ++ Random list object grade ∷ later) none

no_random_tame : (A : List Access) → random_count A ≡ 0 → IsTame A
no_random_tame A e = λ earlier later list object grade is. absurd (no_random_behind earlier later list object grade (subst (λ B. random_count B ≡ 0) is e))

-- a transcript without random access that reads no deeper agrees with each table that agrees with the deeper run
shallower : {X : Type 0} (front back whole : List X) → Begins front whole → Begins back whole → length front ≤ length back
    → (other : List X) → Begins back other → Begins front other
shallower front back whole f b l other o =
    sym (take-take (length front) (length back) other l) ∙ ap (take (length front)) o ∙ ap (take (length front)) (sym b) ∙ take-take (length front) (length back) whole l ∙ f

-- fixing goes on to the deeper run
agrees_shallower : (n at : ℕ) (D other : List (List Row)) (A : List Access) → IsTable n D → at ≤ n → Agrees (length D) n D A
    → random_count A ≡ 0 → depth (length D) A ≤ at → Agrees (length D) n other (nra_run_to D at) → Agrees (length D) n other A
agrees_shallower n at D other A table within h none deep b = record {
  lists = b.lists;
  table = b.table;
  drawn = record {
    in_range = h.drawn.in_range;
    sorted = λ list l.
        let rows : sorted_rows list (nra_run_to D at) ≡ take at (list_at D list) = run_rows n at D list table within l in
        let size : length (take at (list_at D list)) ≡ at = length-take-le at (list_at D list) (let e = list_at_length n D list table l in omega arith) in
        let le : depth_of list A ≤ depth (length D) A = depth_above (length D) A list l in
        let long : length (sorted_rows list (nra_run_to D at)) ≡ at = ap length rows ∙ size in
        let whole : Begins (sorted_rows list (nra_run_to D at)) (list_at D list) = (run_agrees n at D table within).drawn.sorted list l in
        shallower (sorted_rows list A) (sorted_rows list (nra_run_to D at)) (list_at D list) (h.drawn.sorted list l) whole (omega arith)
        (list_at other list) (b.drawn.sorted list l);
    random = λ list l. subst (λ rows. All (Contains (list_at other list)) rows) (sym (no_random_rows list A none)) (λ k d i. absurd (omega arith));
  };
}

fixes_deeper : (V : List ℕ → ℕ) (k n at : ℕ) (D : List (List Row)) (A : List Access) (Y : List ℕ) → IsTable n D → at ≤ n
    → Agrees (length D) n D A → random_count A ≡ 0 → depth (length D) A ≤ at → FixesOver V k (length D) n (objects_of D) A Y
    → FixesOver V k (length D) n (objects_of D) (nra_run_to D at) Y
fixes_deeper V k n at D A Y table within h none deep fixes = record {
  sized = fixes.sized;
  distinct = fixes.distinct;
  members = fixes.members;
  always = λ other b over. fixes.always other (agrees_shallower n at D other A table within h none deep b) over;
}

-- each bottom is no more than the grades that a transcript without random access knows, so the threshold is no more than any high
bottom_least : (m n : ℕ) (D : List (List Row)) (B : List Access) (object list : ℕ) → Agrees m n D B → random_count B ≡ 0 → list < m
    → bottom_of list B ≤ unwrap_or (known_grade B object list) (bottom_of list B)
bottom_least m n D B object list h none l =
    elim (option_cases (known_grade B object list)) [
      | inl unknown ↦ subst (λ o. bottom_of list B ≤ unwrap_or o (bottom_of list B)) (sym unknown) (omega arith)
      | inr some ↦ subst (λ o. bottom_of list B ≤ unwrap_or o (bottom_of list B)) (sym some.1)
          (elim (given_split list B (record { object = object; grade = some.0 }) (grade_among_row (given_rows list B) object some.0 some.1)) [
            | inl read ↦ last_is_least top_grade (sorted_rows list B) (record { object = object; grade = some.0 }) ((agrees_coherent m n D B h).each list l).ranked read
            | inr asked ↦ absurd (contains_nil (record { object = object; grade = some.0 }) (subst (λ rows. Contains rows (record { object = object; grade = some.0 })) (no_random_rows list B none) asked))
          ])
    ]

threshold_least : (V : List ℕ → ℕ) (m n : ℕ) (D : List (List Row)) (B : List Access) (object : ℕ) → IsMonotone V → Agrees m n D B
    → random_count B ≡ 0 → threshold V m B ≤ high V m B object
threshold_least V m n D B object monotone h none =
    monotone _ _ (zip_numbers (λ list. bottom_of list B) (λ list. unwrap_or (known_grade B object list) (bottom_of list B)) m (λ list l. bottom_least m n D B object list h none l))

-- where k seen objects have lows of at least a number, the k-th largest low is no less
kth_reaches : (V : List ℕ → ℕ) (k m : ℕ) (B : List Access) (Z : List ℕ) (number : ℕ) → 1 ≤ k → AllPairs (λ (x : ℕ) (y : ℕ). x ≢ y) Z
    → k ≤ length Z → ((z : ℕ) → Contains Z z → Contains (seen_objects B) z × (number ≤ low V m B z))
    → exceeds (kth_low k (seen_items V m B)) number ≡ false
kth_reaches V k m B Z number one apart enough reach =
    let items = seen_items V m B in
    let made : length items ≡ length (seen_objects B) = length-map (seen_objects B) (bounded V m B) in
    let fits : length Z ≤ length (seen_objects B) = distinct_fits Z (seen_objects B) apart (λ z c. (reach z c).0) in
    counted (kth_low k items) (kth_low-counts k items one (items_distinct V m B)) (omega arith)
  where
    at_least : (bound : ℕ) → IsKthLargest k (lows (seen_items V m B)) bound → number ≤ bound
    at_least bound kth =
        elim (cases_lt bound number) [
          | inr le ↦ le
          | inl lt ↦ (
              let passes = λ (object : ℕ). nat_lt bound (low V m B object) in
              let above : length Z ≤ length (filter passes (seen_objects B)) = distinct_fits Z (filter passes (seen_objects B)) apart (λ z c.
              let r = reach z c in contains_filter passes (seen_objects B) z r.0 (lt-ltb bound (low V m B z) (let le : number ≤ low V m B z = r.1 in omega arith))) in
              let lows_are : lows (seen_items V m B) ≡ map (low V m B) (seen_objects B) = map_map (λ (item : Item). item.low) (bounded V m B) (seen_objects B) in
              let count : count_by (λ n. nat_lt bound n) (lows (seen_items V m B)) ≡ count_by passes (seen_objects B) = ap (count_by (λ n. nat_lt bound n)) lows_are ∙ count_map (λ n. nat_lt bound n) (low V m B) (seen_objects B) in
              let few : count_by (λ n. nat_lt bound n) (lows (seen_items V m B)) < k = kth.greater in
              absurd (omega (arith, length-filter passes (seen_objects B))))
        ]

    counted : (found : Option ℕ) → MatchOption found (length (seen_items V m B) < k) (IsKthLargest k (lows (seen_items V m B)))
        → k ≤ length (seen_items V m B) → exceeds found number ≡ false
    counted None few enough = absurd (omega arith)
    counted (Some bound) kth enough = le-ltb bound number (at_least bound kth)

-- the deeper run, and what its bounds say of the answer that it fixes
record IsDecided (V : List ℕ → ℕ) (k m n : ℕ) (D : List (List Row)) (B : List Access) (Y : List ℕ) : Type 0 where
  agrees : Agrees m n D B
  no_random : random_count B ≡ 0
  many : k ≤ length (seen_objects B)
  positive : 1 ≤ k
  parts : BoundsPart V k m (objects_of D) B Y

-- what is outside the answer isn't viable
outside_idle : (V : List ℕ → ℕ) (k m n : ℕ) (D : List (List Row)) (B : List Access) (Y : List ℕ) (outside : ℕ) → IsMonotone V
    → IsDecided V k m n D B Y → Contains (objects_of D) outside → (¬ Contains Y outside) → is_viable V k m B outside ≡ false
outside_idle V k m n D B Y outside monotone h here out =
    elim (outside_or_within Y (seen_objects B)) [
      | inr all ↦ kth_reaches V k m B Y (high V m B outside) h.positive h.parts.distinct (let e : length Y ≡ k = h.parts.sized in omega arith) (λ y c. (all y c, h.parts.part y outside c here out))
      | inl new ↦ kth_reaches V k m B (seen_objects B) (high V m B outside) h.positive (seen_distinct B) h.many (λ z c. (
        c,
        (let least : high V m B outside ≤ low V m B new.0 = h.parts.part new.0 outside new.1 here out in
            let zeros : low V m B new.0 ≡ V (map (λ list. 0) (list_numbers m)) = unseen_low V m B new.0 (no_random_tame B h.no_random) new.2 in
            let below : V (map (λ list. 0) (list_numbers m)) ≤ low V m B z = zeros_least V m (λ list. unwrap_or (known_grade B z list) 0) monotone in
            omega arith),
      ))
    ]

-- a seen member of the answer that stands behind an object outside it has no greater a high than that object
behind_outside : (inside outside : Item) → IsBefore outside inside → outside.high ≤ inside.low → outside.low ≤ outside.high
    → inside.high ≤ outside.high
behind_outside inside outside (inl lower) part own = absurd (omega arith)
behind_outside inside outside (inr (same, inl higher)) part own = omega arith
behind_outside inside outside (inr (same, inr equal)) part own = let e = equal.0 in omega arith

-- a member of the answer that isn't among the first k leaves one among them that is no member
other_first : (V : List ℕ → ℕ) (k m n : ℕ) (D : List (List Row)) (B : List Access) (Y : List ℕ) (inside : ℕ) → IsDecided V k m n D B Y
    → Contains Y inside → (¬ Contains (item_objects (first_seen V k m B)) inside)
    → (item : Item) × Contains (first_seen V k m B) item × (¬ Contains Y item.object)
other_first V k m n D B Y inside h c left =
    let T : List ℕ = item_objects (first_seen V k m B) in
    elim (outside_or_within T Y) [
      | inl new ↦ (
          let from = contains_map_from (λ (item : Item). item.object) (first_seen V k m B) new.0 new.1 in
          (from.0, from.1, (λ d. new.2 (subst (λ o. Contains Y o) from.2 d))))
      | inr all ↦ absurd (
          let enough : k ≤ length (seen_objects B) = h.many in
          let made : length (seen_items V m B) ≡ length (seen_objects B) = length-map (seen_objects B) (bounded V m B) in
          let whole : length (in_order (seen_items V m B)) ≡ length (seen_items V m B) = length-in_order (seen_items V m B) in
          let size : length (first_seen V k m B) ≡ k = length-take-le k (in_order (seen_items V m B)) (omega arith) in
          let count : length T ≡ length (first_seen V k m B) = length-map (first_seen V k m B) (λ (item : Item). item.object) in
          let apart : AllPairs (λ (x : ℕ) (y : ℕ). x ≢ y) T = objects_from_distinct (first_seen V k m B) (first_distinct V k m B) in
          let more : AllPairs (λ (x : ℕ) (y : ℕ). x ≢ y) (inside ∷ T) = AllPairs-cons (λ (x : ℕ) (y : ℕ). x ≢ y) inside T (all_from_members (λ y. inside ≢ y) T (λ y d same. left (subst (λ o. Contains T o) (sym same) d))) apart in
          let fits : length (inside ∷ T) ≤ length Y = distinct_fits (inside ∷ T) Y more (λ x d. elim (contains_cases inside T x d) [
            | inl e ↦ subst (λ o. Contains Y o) e c
            | inr t ↦ all x t
          ]) in
          let sized : length Y ≡ k = h.parts.sized in
          omega arith)
    ]

-- a member of the answer that isn't among the first k isn't viable either
inside_idle : (V : List ℕ → ℕ) (k m n : ℕ) (D : List (List Row)) (B : List Access) (Y : List ℕ) (inside : ℕ) → IsMonotone V
    → IsDecided V k m n D B Y → Contains Y inside → (¬ Contains (item_objects (first_seen V k m B)) inside)
    → is_viable V k m B inside ≡ false
inside_idle V k m n D B Y inside monotone h c left =
    let other = other_first V k m n D B Y inside h c left in
    let first : IsFirstK k (seen_items V m B) (first_seen V k m B) = first_k-is k (seen_items V m B) (items_distinct V m B) in
    let as_seen = object_of_seen V m B other.0 (member_of_all (Contains (seen_items V m B)) (first_seen V k m B) other.0 first.held other.1) in
    let outside : ℕ = other.0.object in
    let here : Contains (objects_of D) outside = seen_in_table m n D B outside h.agrees as_seen.0 in
    let idle : is_viable V k m B outside ≡ false = outside_idle V k m n D B Y outside monotone h here other.2 in
    exceeds_less (kth_low k (seen_items V m B)) (high V m B outside) (high V m B inside) (elim (cases_Bool (has inside (seen_objects B))) [
      | inr unseen ↦ subst (λ bound. bound ≤ high V m B outside) (sym (unseen_high V m B inside (no_random_tame B h.no_random) (has_not inside (seen_objects B) unseen))) (threshold_least V m n D B outside monotone h.agrees h.no_random)
      | inl seen ↦ (
          let item : Item = bounded V m B inside in
          let held : Contains (seen_items V m B) item = contains_map (bounded V m B) (seen_objects B) inside (has_contains inside (seen_objects B) seen) in
          let out : Contains (first_seen V k m B) item → ⊥ = λ d. left (contains_map (λ (i : Item). i.object) (first_seen V k m B) item d) in
          let ahead : IsBefore item other.0 → ⊥ = first.none_ahead other.0 item other.1 held out in
          let apart : outside ≢ inside = λ e. other.2 (subst (λ o. Contains Y o) (sym e) c) in
          let before : IsBefore other.0 item = elim (IsBefore-total other.0 item apart) [ inl b ↦ b | inr b ↦ absurd (ahead b) ] in
          let before_seen : IsBefore (bounded V m B outside) item = subst (λ i. IsBefore i item) as_seen.1 before in
          let low_below : low V m B outside ≤ aggregate V D outside = low_holds V m n D B outside monotone h.agrees in
          let high_above : aggregate V D outside ≤ high V m B outside = high_holds V m n D B outside monotone h.agrees in
          behind_outside item (bounded V m B outside) before_seen (h.parts.part inside outside c here other.2) (omega arith))
    ]) idle

-- so the run is quiet
decided_quiet : (V : List ℕ → ℕ) (k m n : ℕ) (D : List (List Row)) (B : List Access) (Y : List ℕ) → IsMonotone V → IsDecided V k m n D B Y
    → is_quiet V k m D B ≡ true
decided_quiet V k m n D B Y monotone h =
    and_from (leb k (length (seen_objects B))) (list_all rests (objects_of D)) (le-leb k (length (seen_objects B)) h.many)
    (list_all-from_AllPass rests (objects_of D) (all_from_members (λ o. rests o ≡ true) (objects_of D) each))
  where
    is_first : ℕ → Bool
    is_first object = list_any (λ (item : Item). item.object == object) (first_seen V k m B)

    rests : ℕ → Bool
    rests object = is_first object || not (is_viable V k m B object)

    idle : (object : ℕ) → Contains (objects_of D) object → (¬ Contains (item_objects (first_seen V k m B)) object) → is_viable V k m B object ≡ false
    idle object here left =
        elim (cases_Bool (has object Y)) [
          | inl t ↦ inside_idle V k m n D B Y object monotone h (has_contains object Y t) left
          | inr f ↦ outside_idle V k m n D B Y object monotone h here (has_not object Y f)
        ]

    each : (object : ℕ) → Contains (objects_of D) object → rests object ≡ true
    each object here =
        elim (cases_Bool (is_first object)) [
          | inl t ↦ ap (λ b. b || not (is_viable V k m B object)) t
          | inr f ↦ or_right (is_first object) (not (is_viable V k m B object)) (ap not (idle object here (λ c.
              let from = contains_map_from (λ (item : Item). item.object) (first_seen V k m B) object c in
              true≢false (sym (any_from_member (λ (item : Item). item.object == object) (first_seen V k m B) from.0 from.1 (eq-eqb from.0.object object from.2)) ∙ f))))
        ]

-- the algorithm is quiet at a depth no less than the transcript's and no less than k
quiet_by : (V : List ℕ → ℕ) (k n at : ℕ) (D : List (List Row)) (A : List Access) (Y : List ℕ) → IsMonotone V → IsAsked k n D → k ≤ at
    → at ≤ n → depth (length D) A ≤ at → FixesBySorted V k (length D) n D A Y → is_quiet V k (length D) D (nra_run_to D at) ≡ true
quiet_by V k n at D A Y monotone asked many within deep h =
    let B : List Access = nra_run_to D at in
    let agrees : Agrees (length D) n D B = run_agrees n at D asked.table within in
    let fixes : FixesOver V k (length D) n (objects_of D) B Y = fixes_deeper V k n at D A Y asked.table within h.agrees h.no_random deep h.fixes in
    let rows : sorted_rows 0 B ≡ take at (list_at D 0) = run_rows n at D 0 asked.table within asked.lists in
    let size : length (take at (list_at D 0)) ≡ at = length-take-le at (list_at D 0) (let e = list_at_length n D 0 asked.table asked.lists in omega arith) in
    let read : depth_of 0 B ≡ at = ap length rows ∙ size in
    let seen : depth_of 0 B ≤ length (seen_objects B) = depth_of_seen (length D) n D B 0 agrees asked.lists in
    decided_quiet V k (length D) n D B Y monotone (record {
      agrees = agrees;
      no_random = run_asks at D;
      many = omega arith;
      positive = asked.positive;
      parts = fixes_parts V k (length D) n (objects_of D) B Y asked.lists (D, agrees) (table_objects (length D) n D B asked.lists agrees) fixes;
    })

-- it reads no deeper than the transcript, or than k
shallow : (V : List ℕ → ℕ) (k n : ℕ) (D : List (List Row)) (A : List Access) (Y : List ℕ) → IsMonotone V → IsAsked k n D
    → FixesBySorted V k (length D) n D A Y → nra_depth V k D ≤ max (depth (length D) A) k
shallow V k n D A Y monotone asked h =
    let at : ℕ = max (depth (length D) A) k in
    let least = nra_depth_is_least V k n D monotone asked in
    let one : 1 ≤ k = asked.positive in
    let fits : k ≤ n = asked.fits in
    let deep : depth (length D) A ≤ n = depth_below (length D) A n (λ list l. depth_fits (length D) n D A list h.agrees l) in
    let quiet : is_quiet V k (length D) D (nra_run_to D at) ≡ true = quiet_by V k n at D A Y monotone asked (omega arith) (omega arith) (omega arith) h in
    elim (cases_lt at (nra_depth V k D)) [
      | inl l ↦ absurd (true≢false (sym quiet ∙ least.least at (omega arith) l))
      | inr le ↦ le
    ]

pub nra_stops_in_time : (V : List ℕ → ℕ) (k m n : ℕ) (D : List (List Row)) (A : List Access) (Y : List ℕ) → IsMonotone V → IsAsked k n D
    → FixesBySorted V k m n D A Y → nra_depth V k D ≤ max (depth m A) k
nra_stops_in_time V k m n D A Y monotone asked h =
    subst (λ count. nra_depth V k D ≤ max (depth count A) k) h.agrees.lists
    (shallow V k n D A Y monotone asked (subst (λ count. FixesBySorted V k count n D A Y) (sym h.agrees.lists) h))
