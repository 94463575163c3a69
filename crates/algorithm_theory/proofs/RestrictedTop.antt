-- The answer of the algorithm is a top k of its table.
use Rattle.std.proofs.Common.{◌≡◌, ◌≢◌, ℕ, ◌<◌, ◌≤◌, inl, inr, Bool, true, false, cond, List, [], ◌∷◌, length, map, min, filter, count_by, nat_le, AllPairs, Contains, slice_index_or, refl, sym, ap, subst, ◌∙◌, arith, eqb-true}
use Rattle.std.proofs.lemmas.Bool.{cases_Bool, cases_lt, true≢false, le-leb, leb-true}
use Rattle.std.proofs.lemmas.List.Sums.{length-filter}
use Rattle.std.proofs.lemmas.List.Kept.{AllPairs-cons, AllPairs-filter}
use Rattle.ranked_list.specs.declared.row.Row.{Row}
use Rattle.ranked_list.specs.declared.item.Item.{Item}
use Rattle.ranked_list.specs.Table.{IsTable, place_in, grade_in, top_grade}
use Rattle.monotone_fn.specs.Value.{IsMonotone, NoSmaller}
use Rattle.topk_theory.specs.Order.{IsBefore, IsFirstK, first_k}
use Rattle.topk_theory.specs.Aggregate.{objects_of, grades_of, aggregate, IsTop}
use Rattle.topk_theory.specs.Transcript.{list_at, list_numbers}
use Rattle.topk_theory.specs.Threshold.{IsAsked, row_at, stands, scored, item_objects}
use Rattle.topk_theory.proofs.AgreementLists.{contains_nil, contains_cases, contains_at, contains_map, contains_map_from, all_from_members, member_of_all, distinct_fits}
use Rattle.topk_theory.proofs.AgreementNames.{has, has_contains, has_not}
use Rattle.topk_theory.proofs.AgreementRows.{list_at_contains, list_at_ranked}
use Rattle.topk_theory.proofs.Agreement.{objects_of_distinct, objects_of_count}
use Rattle.topk_theory.proofs.BoundsLaws.{Falls-from_ranked, grade_in_le, zip_numbers, grades_by_number}
use Rattle.topk_theory.proofs.FirstK.{first_k-is}
use Rattle.topk_theory.proofs.OrderLaws.{IsBefore-irreflexive}
use Rattle.topk_theory.proofs.ThresholdDepth.{grade_below}
use Rattle.topk_theory.proofs.ThresholdLists.{contains_filter, contains_from_filter, count_all, filter_here, filter_gone, filter_fits, length-map}
use Rattle.topk_theory.proofs.ThresholdTop.{objects_from_distinct, scored_distinct, scored_member}
use Rattle.algorithm_theory.specs.Restricted.{HasOne, part_in, taz_objects, taz_bottom, taz_threshold, taz_stop, taz_depth, taz_answer}
use Rattle.algorithm_theory.proofs.RestrictedLeast.{taz_depth_is_least, why_stops}
use Rattle.algorithm_theory.proofs.RestrictedLists.{stands_by}

-- ---- the first k of some objects, of which at least k reach a bound that no other object of the table passes
pub record AreEnough (V : List ℕ → ℕ) (k bound : ℕ) (D : List (List Row)) (os : List ℕ) : Type 0 where
  pub apart : AllPairs (λ (one other : ℕ). one ≢ other) os
  pub there : (object : ℕ) → Contains os object → Contains (objects_of D) object
  pub enough : k ≤ count_by (λ object. nat_le bound (aggregate V D object)) os
  pub others : (object : ℕ) → Contains (objects_of D) object → ¬ Contains os object → aggregate V D object ≤ bound

-- each of these first k reaches the bound: one below it would have k others ahead of it
first_reaches : (V : List ℕ → ℕ) (k bound : ℕ) (D : List (List Row)) (os : List ℕ) (first : List Item) (inside : Item) → AreEnough V k bound D os
    → IsFirstK k (map (scored V D) os) first → Contains first inside → bound ≤ inside.low
first_reaches V k bound D os first inside are is h =
    elim (cases_lt inside.low bound) [
      | inr reaches ↦ reaches
      | inl short ↦
          let good : ℕ → Bool = λ object. nat_le bound (aggregate V D object) in
          let kept : List ℕ = filter good os in
          let own = scored_member V D os inside (member_of_all (Contains (map (scored V D) os)) first inside is.held h) in
          let low_is : inside.low ≡ aggregate V D inside.object = sym (ap (λ (i : Item). i.low) own.1) in
          let reaches : (o : ℕ) → Contains kept o → bound ≤ aggregate V D o = λ o c. leb-true bound (aggregate V D o) (contains_from_filter good os o c).1 in
          let other : (o : ℕ) → Contains kept o → inside.object ≢ o = λ o c e.
          let same : aggregate V D inside.object ≡ aggregate V D o = ap (aggregate V D) e in
          let up : bound ≤ aggregate V D o = reaches o c in
          absurd (omega arith) in
          let ahead : (o : ℕ) → Contains kept o → Contains (item_objects first) o = λ o c.
          let up : bound ≤ aggregate V D o = reaches o c in
          elim (cases_Bool (has o (item_objects first))) [
            | inl t ↦ has_contains o (item_objects first) t
            | inr f ↦ absurd (is.none_ahead inside (scored V D o) h (contains_map (scored V D) os o (contains_from_filter good os o c).0)
                (λ d. has_not o (item_objects first) f (contains_map (λ (i : Item). i.object) first (scored V D o) d))
                (inl (omega arith)))
          ] in
          let fits : length (inside.object ∷ kept) ≤ length (item_objects first) =
          distinct_fits (inside.object ∷ kept) (item_objects first)
          (AllPairs-cons (λ (a : ℕ) (b : ℕ). a ≢ b) inside.object kept (all_from_members (λ o. inside.object ≢ o) kept other) (AllPairs-filter (λ (a : ℕ) (b : ℕ). a ≢ b) good os are.apart))
          (λ o c. elim (contains_cases inside.object kept o c) [
            | inl e ↦ subst (λ z. Contains (item_objects first) z) e (contains_map (λ (i : Item). i.object) first inside h)
            | inr r ↦ ahead o r
          ]) in
          let counted : length kept ≡ count_by good os = length-filter good os in
          let long : length (item_objects first) ≡ length first = length-map (λ (i : Item). i.object) first in
          let size : length first ≡ min k (length (map (scored V D) os)) = is.size in
          let many : k ≤ count_by good os = are.enough in
          absurd (omega arith)
    ]

pub first_of_enough : (V : List ℕ → ℕ) (k bound : ℕ) (D : List (List Row)) (os : List ℕ) (first : List Item) → AreEnough V k bound D os
    → IsFirstK k (map (scored V D) os) first → IsTop V k D (item_objects first)
first_of_enough V k bound D os first are is =
    let items : List Item = map (scored V D) os in
    let good : ℕ → Bool = λ object. nat_le bound (aggregate V D object) in
    let counted : length (filter good os) ≡ count_by good os = length-filter good os in
    let fewer : length (filter good os) ≤ length os = filter_fits good os in
    let long : length items ≡ length os = length-map (scored V D) os in
    let size : length first ≡ min k (length items) = is.size in
    let many : k ≤ count_by good os = are.enough in
    let holds : (item : Item) → Contains first item → Contains os item.object × (scored V D item.object ≡ item) = λ item h. scored_member V D os item (member_of_all (Contains items) first item is.held h) in
    record {
      sized = length-map (λ (i : Item). i.object) first ∙ omega arith;
      distinct = objects_from_distinct first (λ i j d l m.
          let a : Item = slice_index_or first i d in
          let b : Item = slice_index_or first j d in
          let here : i < length first = omega arith in
          λ e. let same : a ≡ b = sym (holds a (contains_at first i d here)).1 ∙ ap (scored V D) e ∙ (holds b (contains_at first j d m)).1 in
          IsBefore-irreflexive b (subst (λ (z : Item). IsBefore z b) same (is.ordered i j d l m)));
      members = all_from_members (Contains (objects_of D)) (item_objects first) (λ o h.
          let from = contains_map_from (λ (i : Item). i.object) first o h in
          subst (λ z. Contains (objects_of D) z) from.2 (are.there from.0.object (holds from.0 from.1).0));
      unbeaten = λ inside outside h o not_in.
          let from = contains_map_from (λ (i : Item). i.object) first inside h in
          let reaches : bound ≤ from.0.low = first_reaches V k bound D os first from.0 are is from.1 in
          let low_is : from.0.low ≡ aggregate V D inside = sym (ap (λ (i : Item). i.low) (holds from.0 from.1).1) ∙ ap (aggregate V D) from.2 in
          elim (cases_Bool (has outside os)) [
            | inl t ↦ elim (cases_lt (aggregate V D inside) (aggregate V D outside)) [
              | inr le ↦ le
              | inl beats ↦ absurd (is.none_ahead from.0 (scored V D outside) from.1 (contains_map (scored V D) os outside (has_contains outside os t))
                  (λ c. not_in (contains_map (λ (i : Item). i.object) first (scored V D outside) c)) (inl (omega arith)))
            ]
            | inr f ↦ let under : aggregate V D outside ≤ bound = are.others outside o (has_not outside os f) in omega arith
          ];
    }

-- ---- down to the depth of the algorithm there are enough
-- an object that stands in no list of Z down to a depth has an aggregate of at most the threshold there
pub unread_at_most : (V : List ℕ → ℕ) (n : ℕ) (Z : ℕ → Bool) (D : List (List Row)) (object depth : ℕ) → IsMonotone V → IsTable n D → Contains (objects_of D) object
    → 1 ≤ depth → stands (part_in Z D) depth object ≡ false → aggregate V D object ≤ taz_threshold V Z D depth
unread_at_most V n Z D object depth monotone t here positive unread =
    let at_most : (list : ℕ) → list < length D → grade_in (list_at D list) object ≤ taz_bottom Z D depth list = λ list l. by_list list l (Z list) refl in
    monotone (grades_of D object) (map (taz_bottom Z D depth) (list_numbers (length D)))
    (subst (λ gs. NoSmaller gs (map (taz_bottom Z D depth) (list_numbers (length D)))) (sym (grades_by_number (length D) D object refl))
    (zip_numbers (λ list. grade_in (list_at D list) object) (taz_bottom Z D depth) (length D) at_most))
  where
    by_list : (list : ℕ) → list < length D → (b : Bool) → Z list ≡ b → grade_in (list_at D list) object ≤ taz_bottom Z D depth list
    by_list list l true z =
        let bottom : taz_bottom Z D depth list ≡ (row_at (list_at D list) depth).grade = ap (λ b. cond b (row_at (list_at D list) depth).grade top_grade) z in
        let below : depth ≤ place_in (list_at D list) object =
        elim (cases_lt (place_in (list_at D list) object) depth) [
          | inr le ↦ le
          | inl placed ↦ absurd (true≢false (sym (stands_by Z D depth object list l z placed) ∙ unread))
        ] in
        subst (λ g. grade_in (list_at D list) object ≤ g) (sym bottom) (grade_below n D (list_at D list) object depth t (list_at_contains D list l) here positive below)
    by_list list l false z =
        let bottom : taz_bottom Z D depth list ≡ top_grade = ap (λ b. cond b (row_at (list_at D list) depth).grade top_grade) z in
        subst (λ g. grade_in (list_at D list) object ≤ g) (sym bottom) (grade_in_le top_grade (list_at D list) object (Falls-from_ranked (list_at D list) (list_at_ranked n D list t l)))

-- all pass a test that as many pass as there are
none_left : (p : ℕ → Bool) (xs : List ℕ) (x : ℕ) → length (filter p xs) ≡ length xs → Contains xs x → p x ≡ true
none_left p [] x all c = absurd (contains_nil x c)
none_left p (y ∷ xs) x all c =
    elim (cases_Bool (p y)) [
      | inr f ↦ absurd (let few : length (filter p xs) ≤ length xs = filter_fits p xs in let same : length (filter p (y ∷ xs)) ≡ length (filter p xs) = ap length (filter_gone p y xs f) in omega arith)
      | inl t ↦ elim (contains_cases y xs x c) [
        | inl e ↦ ap p (sym e) ∙ t
        | inr r ↦ none_left p xs x (let same : length (filter p (y ∷ xs)) ≡ length (y ∷ filter p xs) = ap length (filter_here p y xs t) in omega arith) r
      ]
    ]

pub enough_where_stops : (V : List ℕ → ℕ) (k n : ℕ) (Z : ℕ → Bool) (D : List (List Row)) (depth : ℕ) → IsMonotone V → IsAsked k n D → 1 ≤ depth
    → taz_stop V k Z D depth ≡ true → (bound : ℕ) × AreEnough V k bound D (taz_objects Z D depth)
enough_where_stops V k n Z D depth monotone asked positive stops =
    let os : List ℕ = taz_objects Z D depth in
    let apart : AllPairs (λ (one other : ℕ). one ≢ other) os = AllPairs-filter (λ (a : ℕ) (b : ℕ). a ≢ b) (stands (part_in Z D) depth) (objects_of D) (objects_of_distinct n D asked.table) in
    let there : (object : ℕ) → Contains os object → Contains (objects_of D) object = λ o c. (contains_from_filter (stands (part_in Z D) depth) (objects_of D) o c).0 in
    elim (why_stops V k Z D depth stops) [
      | inl all ↦
          let same : length os ≡ length (objects_of D) = eqb-true (length os) (length (objects_of D)) all in
          let count : length (objects_of D) ≡ n = objects_of_count n D asked.table asked.lists in
          let pass : count_by (λ object. nat_le 0 (aggregate V D object)) os ≡ length os = count_all (λ object. nat_le 0 (aggregate V D object)) os (λ o c. le-leb 0 (aggregate V D o) (omega arith)) in
          let fits = asked.fits in (
            0,
            record {
              apart = apart;
              there = there;
              enough = omega arith;
              others = λ o here out. absurd (out (contains_filter (stands (part_in Z D) depth) (objects_of D) o here (none_left (stands (part_in Z D) depth) (objects_of D) o same here)));
            },
          )
      | inr enough ↦ (
        taz_threshold V Z D depth,
        record {
          apart = apart;
          there = there;
          enough = leb-true k (count_by (λ object. nat_le (taz_threshold V Z D depth) (aggregate V D object)) os) enough;
          others = λ o here out. elim (cases_Bool (stands (part_in Z D) depth o)) [
            | inl t ↦ absurd (out (contains_filter (stands (part_in Z D) depth) (objects_of D) o here t))
            | inr f ↦ unread_at_most V n Z D o depth monotone asked.table here positive f
          ];
        },
      )
    ]

-- ---- the answer of the algorithm
pub taz_first : (V : List ℕ → ℕ) (k n : ℕ) (Z : ℕ → Bool) (D : List (List Row)) (depth : ℕ) → IsTable n D
    → IsFirstK k (map (scored V D) (taz_objects Z D depth)) (first_k k (map (scored V D) (taz_objects Z D depth)))
taz_first V k n Z D depth t =
    let os : List ℕ = taz_objects Z D depth in
    first_k-is k (map (scored V D) os) (scored_distinct V D os (AllPairs-filter (λ (a : ℕ) (b : ℕ). a ≢ b) (stands (part_in Z D) depth) (objects_of D) (objects_of_distinct n D t)))

pub taz_answer_top : (V : List ℕ → ℕ) (k n : ℕ) (Z : ℕ → Bool) (D : List (List Row)) → IsMonotone V → IsAsked k n D → HasOne Z (length D)
    → IsTop V k D (item_objects (taz_answer V k Z D))
taz_answer_top V k n Z D monotone asked one =
    let deep : ℕ = taz_depth V k Z D in
    let least = taz_depth_is_least V k n Z D asked one in
    let are = enough_where_stops V k n Z D deep monotone asked least.from_one least.stops in
    first_of_enough V k are.0 D (taz_objects Z D deep) (taz_answer V k Z D) are.1 (taz_first V k n Z D deep asked.table)
