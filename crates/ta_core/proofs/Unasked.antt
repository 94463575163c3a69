-- No random access of the run comes twice.
use Rattle.std.proofs.Common.{◌≡◌, ◌≢◌, ◌⊎◌, inl, inr, ℕ, zero, suc, ◌+◌, ◌-◌, ◌<◌, ◌≤◌, ◌==◌, Bool, true, false, true≢false, not, cond, List, [], ◌∷◌, ◌++◌, length, map, drop, AllPairs, Contains, Some, None, refl, sym, ap, subst, ◌∙◌, arith}
use Rattle.std.specs.List.{flat_map, cons_option}
use Rattle.std.proofs.lemmas.Bool.{cases_Bool, cases_lt, eq-eqb, eqb-true, ne_eqb, not-true}
use Rattle.std.proofs.lemmas.List.{map-append}
use Rattle.std.proofs.lemmas.List.Elements.{Contains-append_cases}
use Rattle.std.proofs.lemmas.List.Kept.{AllPairs-cons, AllPairs-filter}
use Rattle.ranked_list.specs.declared.row.Row.{Row}
use Rattle.ranked_list.specs.Table.{IsTable, objects, place_in, grade_in}
use Rattle.topk_theory.specs.declared.access.Access.{Access}
use Rattle.topk_theory.specs.declared.access.Access.TheVariants.{Sorted, Random}
use Rattle.monotone_fn.specs.Tree.{Tree}
use Rattle.monotone_fn.specs.Value.{value}
use Rattle.machine_base.specs.Held.{Held}
use Rattle.topk_theory.specs.Transcript.{Agrees, list_at, random_row, random_rows, seen_objects, each_once}
use Rattle.topk_theory.specs.Threshold.{row_at, stands, sorted_block, new_objects, random_block, ta_block, ta_run_to}
use Rattle.topk_theory.proofs.Agreement.{random_rows_append, contains_access}
use Rattle.topk_theory.proofs.AgreementLists.{contains_nil, contains_here, contains_there, contains_cases, contains_map_from, all_from_members, distinct_head, distinct_tail}
use Rattle.topk_theory.proofs.AgreementNames.{each_once_distinct}
use Rattle.topk_theory.proofs.NoRandomRun.{block_random}
use Rattle.topk_theory.proofs.ThresholdLists.{contains_from_filter}
use Rattle.topk_theory.proofs.ThresholdRun.{contains_from_filter_map, random_block_here, random_block_lower, seen_more, seen_stands, run_tame}
use Rattle.machine_base.specs.Base.{asked_of_list}
use Rattle.machine_base.proofs.Reserve.{chosen}
use Rattle.ta_core.specs.Reading.{RowProgress, first_or_zero}
use Rattle.ta_core.specs.OnTable.{OnAsks}
use Rattle.ta_core.specs.Halting.{Rule}
use Rattle.ta_core.specs.Kept.{IsTaKept}
use Rattle.ta_core.proofs.NeedSteps.{grade_ahead}
use Rattle.ta_core.proofs.Runs.{first_member}
use Rattle.ta_core.proofs.Steps.{asks_of_reading}

-- ---- lists of different numbers
distinct_append : (xs ys : List ℕ) → AllPairs (λ (a b : ℕ). a ≢ b) xs → AllPairs (λ (a b : ℕ). a ≢ b) ys → ((x : ℕ) → Contains xs x → ¬ Contains ys x)
    → AllPairs (λ (a b : ℕ). a ≢ b) (xs ++ ys)
distinct_append [] ys apart others none = others
distinct_append (x ∷ xs) ys apart others none =
    AllPairs-cons (λ (a b : ℕ). a ≢ b) x (xs ++ ys)
    (all_from_members (λ (o : ℕ). x ≢ o) (xs ++ ys) (λ o c e. elim (Contains-append_cases xs ys o c) [
      | inl here ↦ distinct_head x xs o apart here e
      | inr there ↦ none x (contains_here x xs) (subst (λ z. Contains ys z) (sym e) there)
    ]))
    (distinct_append xs ys (distinct_tail x xs apart) others (λ o c. none o (contains_there x xs o c)))

distinct_apart : (xs : List ℕ) (x : ℕ) (ys : List ℕ) → AllPairs (λ (a b : ℕ). a ≢ b) (xs ++ x ∷ ys) → ¬ Contains xs x
distinct_apart [] x ys apart c = contains_nil x c
distinct_apart (z ∷ xs) x ys apart c =
    elim (contains_cases z xs x c) [
      | inl e ↦ distinct_head z (xs ++ x ∷ ys) x apart (behind xs x ys) e
      | inr there ↦ distinct_apart xs x ys (distinct_tail z (xs ++ x ∷ ys) apart) there
    ]
  where
    behind : (xs : List ℕ) (x : ℕ) (ys : List ℕ) → Contains (xs ++ x ∷ ys) x
    behind [] x ys = contains_here x ys
    behind (z ∷ xs) x ys = contains_there z (xs ++ x ∷ ys) x (behind xs x ys)

-- ---- the objects that blocks ask of a list
asked_append : (list : ℕ) (A B : List Access) → asked_of_list list (A ++ B) ≡ asked_of_list list A ++ asked_of_list list B
asked_append list A B = ap objects (random_rows_append list A B) ∙ map-append (λ (row : Row). row.object) (random_rows list A) (random_rows list B)

asked_if : (here : Bool) {then : Bool} (row : Row) (rows : List Row) → here ≡ then
    → objects (cons_option (cond here (Some row) None) rows) ≡ objects (cons_option (cond then (Some row) None) rows)
asked_if here row rows e = ap (λ b. objects (cons_option (cond b (Some row) None) rows)) e

asked_here : (list object grade : ℕ) (A : List Access) → asked_of_list list (Random list object grade ∷ A) ≡ object ∷ asked_of_list list A
asked_here list object grade A = asked_if (list == list) (record { object = object; grade = grade }) (random_rows list A) (eq-eqb list list refl)

asked_other : (list other object grade : ℕ) (A : List Access) → other ≢ list → asked_of_list list (Random other object grade ∷ A) ≡ asked_of_list list A
asked_other list other object grade A apart = asked_if (other == list) (record { object = object; grade = grade }) (random_rows list A) (ne_eqb other list apart)

-- a block asks a list above it nothing, and each of its lists for its object at most once
none_above : (list start depth object : ℕ) (D : List (List Row)) → list < start → asked_of_list list (random_block start depth object D) ≡ []
none_above list start depth object [] l = refl
none_above list start depth object (rows ∷ D) l =
    let later : asked_of_list list (random_block (start + 1) depth object D) ≡ [] = none_above list (start + 1) depth object D (omega arith) in
    elim (cases_lt (place_in rows object) depth) [
      | inl here ↦ ap (asked_of_list list) (random_block_here start depth object rows D here) ∙ later
      | inr lower ↦
          ap (asked_of_list list) (random_block_lower start depth object rows D lower)
          ∙ asked_other list start object (grade_in rows object) (random_block (start + 1) depth object D) (λ e. absurd (omega arith))
          ∙ later
    ]

one_of_block : (list start depth object : ℕ) (D : List (List Row))
    → (asked_of_list list (random_block start depth object D) ≡ []) ⊎ (asked_of_list list (random_block start depth object D) ≡ object ∷ [])
one_of_block list start depth object [] = inl refl
one_of_block list start depth object (rows ∷ D) =
    elim (cases_lt (place_in rows object) depth) [
      | inl here ↦ elim (one_of_block list (start + 1) depth object D) [
        | inl none ↦ inl (ap (asked_of_list list) (random_block_here start depth object rows D here) ∙ none)
        | inr one ↦ inr (ap (asked_of_list list) (random_block_here start depth object rows D here) ∙ one)
      ]
      | inr lower ↦ elim (cases_Bool (start == list)) [
        | inl t ↦
            let same : start ≡ list = eqb-true start list t in
            inr (ap (asked_of_list list) (random_block_lower start depth object rows D lower)
            ∙ ap (λ at. asked_of_list list (Random at object (grade_in rows object) ∷ random_block (start + 1) depth object D)) same
            ∙ asked_here list object (grade_in rows object) (random_block (start + 1) depth object D)
            ∙ ap (λ os. object ∷ os) (none_above list (start + 1) depth object D (omega (arith, same))))
        | inr f ↦
            let apart : start ≢ list = λ e. true≢false (sym (eq-eqb start list e) ∙ f) in
            let head = ap (asked_of_list list) (random_block_lower start depth object rows D lower) ∙ asked_other list start object (grade_in rows object) (random_block (start + 1) depth object D) apart in
            elim (one_of_block list (start + 1) depth object D) [
              | inl none ↦ inl (head ∙ none)
              | inr one ↦ inr (head ∙ one)
            ]
      ]
    ]

-- blocks of objects ask for these objects, each once
abbrev blocks : ℕ → List (List Row) → List ℕ → List Access
blocks depth D os = flat_map (λ object. random_block 0 depth object D) os

asked_blocks : (list depth object : ℕ) (D : List (List Row)) (os : List ℕ)
    → asked_of_list list (blocks depth D (object ∷ os)) ≡ asked_of_list list (random_block 0 depth object D) ++ asked_of_list list (blocks depth D os)
asked_blocks list depth object D os = asked_append list (random_block 0 depth object D) (blocks depth D os)

within_blocks : (list depth : ℕ) (D : List (List Row)) (os : List ℕ) (o : ℕ) → Contains (asked_of_list list (blocks depth D os)) o → Contains os o
within_blocks list depth D [] o c = absurd (contains_nil o c)
within_blocks list depth D (object ∷ os) o c =
    elim (Contains-append_cases (asked_of_list list (random_block 0 depth object D)) (asked_of_list list (blocks depth D os)) o (subst (λ xs. Contains xs o) (asked_blocks list depth object D os) c)) [
      | inl here ↦ elim (one_of_block list 0 depth object D) [
        | inl none ↦ absurd (contains_nil o (subst (λ xs. Contains xs o) none here))
        | inr one ↦ elim (contains_cases object [] o (subst (λ xs. Contains xs o) one here)) [
          | inl e ↦ subst (λ z. Contains (object ∷ os) z) e (contains_here object os)
          | inr n ↦ absurd (contains_nil o n)
        ]
      ]
      | inr there ↦ contains_there object os o (within_blocks list depth D os o there)
    ]

blocks_once : (list depth : ℕ) (D : List (List Row)) (os : List ℕ) → AllPairs (λ (a b : ℕ). a ≢ b) os
    → AllPairs (λ (a b : ℕ). a ≢ b) (asked_of_list list (blocks depth D os))
blocks_once list depth D [] apart = apart
blocks_once list depth D (object ∷ os) apart =
    let later : AllPairs (λ (a b : ℕ). a ≢ b) (asked_of_list list (blocks depth D os)) = blocks_once list depth D os (distinct_tail object os apart) in
    let rest : List ℕ = asked_of_list list (blocks depth D os) in
    subst (AllPairs (λ (a b : ℕ). a ≢ b)) (sym (asked_blocks list depth object D os))
    (elim (one_of_block list 0 depth object D) [
      | inl none ↦ subst (λ xs. AllPairs (λ (a b : ℕ). a ≢ b) (xs ++ rest)) (sym none) later
      | inr one ↦ subst (λ xs. AllPairs (λ (a b : ℕ). a ≢ b) (xs ++ rest)) (sym one)
          (AllPairs-cons (λ (a b : ℕ). a ≢ b) object rest (all_from_members (λ (o : ℕ). object ≢ o) rest (λ o c. distinct_head object os o apart (within_blocks list depth D os o c))) later)
    ])

-- ---- the run
-- what is asked down to a depth stands there
random_row_of : (list : ℕ) (a : Access) (row : Row) → random_row list a ≡ Some row → (other grade : ℕ) × (a ≡ Random other row.object grade)
random_row_of list (Sorted other object grade) row e = absurd (cc)
random_row_of list (Random other object grade) row e =
    (other, grade, ap (λ (r : Row). Random other r.object grade) (chosen (other == list) (record { object = object; grade = grade }) row e))

seen_in : (A B : List Access) (o : ℕ) → A ≡ B → Contains (seen_objects B) o → Contains (seen_objects A) o
seen_in A B o e c = subst (λ (C : List Access). Contains (seen_objects C) o) (sym e) c

asked_stands : (n : ℕ) (D : List (List Row)) (depth list o : ℕ) → IsTable n D → depth ≤ n → Contains (asked_of_list list (ta_run_to D depth)) o
    → stands D depth o ≡ true
asked_stands n D depth list o t within c =
    let run : List Access = ta_run_to D depth in
    let row = contains_map_from (λ (r : Row). r.object) (random_rows list run) o c in
    let from = contains_from_filter_map (random_row list) run row.0 row.1 in
    let is = random_row_of list from.0 row.0 from.2 in
    let at = contains_access run from.0 from.1 in
    let split : run ≡ at.0 ++ Random is.0 row.0.object is.1 ∷ at.1 = at.2 ∙ ap (λ a. at.0 ++ a ∷ at.1) is.2 in
    let seen : Contains (seen_objects at.0) row.0.object = run_tame n D depth t within at.0 at.1 is.0 row.0.object is.1 split in
    let whole : Contains (seen_objects run) row.0.object = seen_in run (at.0 ++ Random is.0 row.0.object is.1 ∷ at.1) row.0.object split (seen_more at.0 (Random is.0 row.0.object is.1 ∷ at.1) row.0.object seen) in
    subst (λ z. stands D depth z ≡ true) row.2 (seen_stands n D depth row.0.object t within whole)

-- new objects stand nowhere above
new_unstands : (D : List (List Row)) (depth o : ℕ) → Contains (new_objects D (suc depth)) o → stands D depth o ≡ false
new_unstands D depth o c =
    let above : suc depth - 1 ≡ depth = omega arith in
    subst (λ d. stands D d o ≡ false) above
    (not-true (stands D (suc depth - 1) o) (contains_from_filter (λ (object : ℕ). not (stands D (suc depth - 1) object)) (each_once (map (λ (rows : List Row). (row_at rows (suc depth)).object) D)) o c).1)

new_distinct : (D : List (List Row)) (depth : ℕ) → AllPairs (λ (a b : ℕ). a ≢ b) (new_objects D depth)
new_distinct D depth = AllPairs-filter (λ (a b : ℕ). a ≢ b) (λ object. not (stands D (depth - 1) object)) (each_once (map (λ (rows : List Row). (row_at rows depth).object) D)) (each_once_distinct (map (λ (rows : List Row). (row_at rows depth).object) D))

run_asked : (D : List (List Row)) (depth list : ℕ)
    → asked_of_list list (ta_run_to D (suc depth)) ≡ asked_of_list list (ta_run_to D depth) ++ asked_of_list list (blocks (suc depth) D (new_objects D (suc depth)))
run_asked D depth list =
    asked_append list (ta_run_to D depth) (ta_block D (suc depth))
    ∙ ap (λ os. asked_of_list list (ta_run_to D depth) ++ os)
    (asked_append list (sorted_block 0 (suc depth) D) (blocks (suc depth) D (new_objects D (suc depth)))
    ∙ ap (λ (rows : List Row). objects rows ++ asked_of_list list (blocks (suc depth) D (new_objects D (suc depth)))) (block_random list 0 (suc depth) D))

run_once : (n : ℕ) (D : List (List Row)) (depth list : ℕ) → IsTable n D → depth ≤ n → AllPairs (λ (a b : ℕ). a ≢ b) (asked_of_list list (ta_run_to D depth))
run_once n D zero list t within = λ i j d lt in_range. absurd (omega arith)
run_once n D (suc depth) list t within =
    subst (AllPairs (λ (a b : ℕ). a ≢ b)) (sym (run_asked D depth list))
    (distinct_append (asked_of_list list (ta_run_to D depth)) (asked_of_list list (blocks (suc depth) D (new_objects D (suc depth))))
    (run_once n D depth list t (omega arith))
    (blocks_once list (suc depth) D (new_objects D (suc depth)) (new_distinct D (suc depth)))
    (λ o before here. true≢false (sym (asked_stands n D depth list o t (omega arith) before) ∙ new_unstands D depth o (within_blocks list (suc depth) D (new_objects D (suc depth)) o here))))

-- so the next random access of the run is none that was made
pub unasked : (n : ℕ) (D : List (List Row)) (depth list object grade : ℕ) (A later : List Access) → IsTable n D → depth ≤ n
    → A ++ Random list object grade ∷ later ≡ ta_run_to D depth → ¬ Contains (asked_of_list list A) object
unasked n D depth list object grade A later t within path =
    let parts : asked_of_list list (ta_run_to D depth) ≡ asked_of_list list A ++ object ∷ asked_of_list list later =
    ap (asked_of_list list) (sym path) ∙ asked_append list A (Random list object grade ∷ later) ∙ ap (λ os. asked_of_list list A ++ os) (asked_here list object grade later) in
    distinct_apart (asked_of_list list A) object (asked_of_list list later) (subst (AllPairs (λ (a b : ℕ). a ≢ b)) parts (run_once n D depth list t within))

-- so of the first object that waits no access asked the list that comes next
pub waiting_unasked : (passes : Rule) (e : Tree) (k room m n : ℕ) (A : List Access) (board : Held) (r : RowProgress) → IsTaKept passes e k room m n A board r → r.done ≡ false
    → m ≤ length r.objects → ¬ Contains (asked_of_list (length r.grades) A) (first_or_zero r.waiting)
waiting_unasked passes e k room m n A board r kept open' whole =
    let V = value e in
    let D = kept.base.agreeing.0 in
    let agrees : Agrees m n D A = kept.base.agreeing.1 in
    let on : OnAsks V (record { k = k; passes = passes }) n D A r = asks_of_reading V (record { k = k; passes = passes }) n D A r open' (omega (arith, agrees.lists)) (kept.on_table D agrees).reading in
    let rest = kept.rest.after_row open' whole in
    let first = first_member r.waiting rest.0 in
    let same : first_or_zero r.waiting ≡ first.0 = ap first_or_zero first.2 in
    let j : ℕ = length r.grades in
    let short : j < length D = omega (arith, rest.1, agrees.lists) in
    subst (λ o. ¬ Contains (asked_of_list j A) o) (sym same)
    (unasked n D r.depth j first.0 (grade_in (list_at D j) first.0) A (random_block (j + 1) r.depth first.0 (drop (suc j) D) ++ flat_map (λ o. random_block 0 r.depth o D) first.1) agrees.table on.at.within
    (grade_ahead V (record { k = k; passes = passes }) n D A r first.0 first.1 agrees.table on first.2 short (λ e'. rest.2 (e' ∙ sym same))))
