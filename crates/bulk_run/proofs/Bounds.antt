-- How great the figures of one made query are at most.
use Rattle.std.proofs.Common.{◌≡◌, ◌≤◌, ◌<◌, ◌+◌, ◌^◌, ℕ, suc, min, true, false, cond, ◌==◌, List, [], ◌∷◌, length, All, Option, None, Some, refl, sym, subst, ◌∙◌, arith}
use Rattle.std.specs.List.{AllZip, range_with_len, sum_by}
use Rattle.std.specs.Prelude.{◌%◌, nat_le}
use Rattle.std.proofs.Math.Nat.{mod-lt}
use Rattle.std.proofs.lemmas.Bool.{leb-true}
use Rattle.std.proofs.lemmas.List.{length-map}
use Rattle.std.proofs.lemmas.List.Sums.{sum_by-le}
use Rattle.ranked_list.specs.declared.row.Row.{Row}
use Rattle.ranked_list.specs.declared.item.Item.{Item}
use Rattle.ranked_list.specs.Table.{IsTable, IsRanked, grade_in, top_grade}
use Rattle.monotone_fn.specs.Tree.{Tree, trees, terms}
use Rattle.monotone_fn.specs.Value.{value}
use Rattle.monotone_fn.specs.Limits.{AreGrades, top_value}
use Rattle.monotone_fn.proofs.Laws.{value-monotone, value-le-top_value}
use Rattle.topk_theory.specs.declared.access.Access.{Access}
use Rattle.topk_theory.specs.Aggregate.{aggregate, grades_of}
use Rattle.topk_theory.specs.Asked.{Asked}
use Rattle.topk_theory.specs.Threshold.{item_objects}
use Rattle.topk_theory.proofs.AgreementLists.{all_from_members, member_of_all, contains_map_from}
use Rattle.algorithm_theory.proofs.NearBestDepths.{depth_seen, seen_sorted}
use Rattle.access_log.proofs.Readers.{counts}
use Rattle.machine_base.specs.declared.answer.Answer.{Answer}
use Rattle.algorithm_theory.specs.Within.{Factor}
use Rattle.cert_text.specs.Guarantee.{guarantee_by}
use Rattle.query_core.specs.Methods.{IsGoodBy}
use Rattle.query_core.specs.OneAnswer.{IsOneAnswer, HasTrueBounds, asked_by, method_for, one_run}
use Rattle.query_core.proofs.RunLength.{run_short}
use Rattle.made_inputs.specs.MadeQueries.{list_trees, list_terms, made_tree}
use Rattle.made_inputs.proofs.Trees.{each_tree, each_count}
use Rattle.made_inputs.proofs.Making.{is_table}
use Rattle.query_run.specs.declared.ended.Ended.{Ended}
use Rattle.query_run.proofs.Lists.{zip_member}
use Rattle.query_run.specs.declared.ended.Ended.TheVariants.{Answered, Core, Look}
use Rattle.bulk_run.specs.declared.input.BulkInput.{BulkInput}
use Rattle.bulk_run.specs.Sums.{IsInput, table_of, query_of}
use Rattle.bulk_run.specs.Endings.{EndsInOne, AllEndInOne, IsSmall}
use Rattle.bulk_run.proofs.TableLaws.{table_long}

-- ---- the values of made trees

-- no grade of an object is above the greatest
grade_capped : (rows : List Row) (object : ℕ) → All (λ (row : Row). row.grade ≤ top_grade) rows → grade_in rows object ≤ top_grade
grade_capped [] object h = omega arith
grade_capped (row ∷ rows) object h =
    let here : row.grade ≤ top_grade = h 0 row (omega arith) in
    let below : grade_in rows object ≤ top_grade = grade_capped rows object (λ k d l. h (suc k) d (omega arith)) in
    elim (row.object == object) as (λ b. cond b row.grade (grade_in rows object) ≤ top_grade) [ true ↦ here | false ↦ below ]

grades_capped : (n : ℕ) (D : List (List Row)) (object : ℕ) → IsTable n D → AreGrades (grades_of D object)
grades_capped n D object table =
    all_from_members (λ grade. grade ≤ top_grade) (grades_of D object) (λ grade c.
    let from = contains_map_from (λ (rows : List Row). grade_in rows object) D grade c in
    subst (λ g. g ≤ top_grade) from.2 (grade_capped from.0 object (member_of_all IsRanked D from.0 table.ranked from.1).capped))

-- the greatest value of a made tree is 36 times the greatest grade at most
abbrev most_value : ℕ
most_value = 36000000

IsLow : Tree → Type 0
IsLow t = nat_le (top_value t) most_value ≡ true

AllLow : ℕ → Type 0
AllLow lists = IsLow (Tree.Min (trees (list_trees lists))) × IsLow (Tree.Max (trees (list_trees lists))) × IsLow (Tree.Sum (trees (list_trees lists)))
    × IsLow (Tree.Median (trees (list_trees lists))) × IsLow (Tree.Wsum (terms (list_terms lists)))

low_1 : AllLow 1
unfolding AllLow IsLow
low_1 = (refl, refl, refl, refl, refl)

low_2 : AllLow 2
unfolding AllLow IsLow
low_2 = (refl, refl, refl, refl, refl)

low_3 : AllLow 3
unfolding AllLow IsLow
low_3 = (refl, refl, refl, refl, refl)

low_4 : AllLow 4
unfolding AllLow IsLow
low_4 = (refl, refl, refl, refl, refl)

low_5 : AllLow 5
unfolding AllLow IsLow
low_5 = (refl, refl, refl, refl, refl)

low_6 : AllLow 6
unfolding AllLow IsLow
low_6 = (refl, refl, refl, refl, refl)

low_7 : AllLow 7
unfolding AllLow IsLow
low_7 = (refl, refl, refl, refl, refl)

low_8 : AllLow 8
unfolding AllLow IsLow
low_8 = (refl, refl, refl, refl, refl)

made_low : (number lists : ℕ) → 1 ≤ lists → lists ≤ 8 → top_value (made_tree number lists) ≤ most_value
unfolding AllLow IsLow
made_low number lists some few =
    let all = each_count AllLow low_1 low_2 low_3 low_4 low_5 low_6 low_7 low_8 lists some few in
    leb-true (top_value (made_tree number lists)) most_value (each_tree IsLow number lists all.0 all.1 all.2 all.3 all.4)

-- ---- one answer

-- the aggregate of an object on the table is no greater
aggregate_low : (input : BulkInput) (number object : ℕ) → IsInput input → aggregate (value (query_of input number).expr) (table_of input) object ≤ most_value
aggregate_low input number object within =
    let long : length (grades_of (table_of input) object) ≡ input.lists =
    length-map (table_of input) (λ (rows : List Row). grade_in rows object) ∙ table_long input.start input.count input.lists in
    let few = within.few_lists in
    let top = value-le-top_value (made_tree number input.lists) (grades_of (table_of input) object) (omega (arith, long, few))
    (grades_capped input.count (table_of input) object (is_table input.start input.count input.lists)) in
    let most = made_low number input.lists within.some_lists few in
    omega (arith, top, most)

-- good objects are as many as were asked for
good_sized : (guarantee : Option Factor) (asked : Asked) (D : List (List Row)) (Y : List ℕ) → IsGoodBy guarantee asked D Y → length Y ≡ asked.k
good_sized None asked D Y good = good.sized
good_sized (Some factor) asked D Y good = good.sized

-- the lower bounds of an answer, in a sum
answer_low : (input : BulkInput) (number : ℕ) (answer : Answer) → IsInput input → IsOneAnswer (query_of input number) (table_of input) answer
    → sum_by (λ (item : Item). item.low) answer.items ≤ 2 ^ 32
answer_low input number answer within one =
    let V = value (query_of input number).expr in
    let Y = item_objects answer.items in
    let low : All (λ (item : Item). item.low ≤ most_value) answer.items =
    all_from_members (λ (item : Item). item.low ≤ most_value) answer.items (λ item c.
    let bound = member_of_all (HasTrueBounds V (table_of input)) answer.items item one.bounds c in
    let most = aggregate_low input number item.object within in
    omega (arith, bound.0, most)) in
    let some = within.some_objects in
    let turn : number % min input.count 10 < min input.count 10 = mod-lt number (omega (arith, some)) in
    let k : length answer.items ≡ 1 + number % min input.count 10 = sym (length-map answer.items (λ (item : Item). item.object))
    ∙ good_sized (guarantee_by (query_of input number).algorithm V (length (table_of input)) answer.transcript.accesses Y) (asked_by (query_of input number)) (table_of input) Y one.top in
    let few : length answer.items ≤ 10 = omega (arith, k, turn) in
    let sum = sum_by-le (λ (item : Item). item.low) most_value answer.items low in
    omega (arith, sum, few)

-- the accesses of its run
run_few : (input : BulkInput) (number : ℕ) → IsInput input → length (one_run (query_of input number) (table_of input)) < 2 ^ 24
run_few input number within =
    let q = query_of input number in
    let long = table_long input.start input.count input.lists in
    let some = within.some_objects in
    let lists = within.some_lists in
    let few = within.few_lists in
    let turn : number % min input.count 10 < min input.count 10 = mod-lt number (omega (arith, some)) in
    run_short (method_for q) (asked_by q) input.count (table_of input) (value-monotone q.expr)
    (record { table = is_table input.start input.count input.lists; lists = omega (arith, long, lists); positive = omega arith; fits = omega (arith, turn) })
    (omega (arith, long, few)) within.few_objects

ending_small : (input : BulkInput) (number : ℕ) (e : Ended) → IsInput input → EndsInOne (query_of input number) (table_of input) e → IsSmall e
ending_small input number (Answered answer) within one =
    let run : length answer.transcript.accesses < 2 ^ 24 = subst (λ (A : List Access). length A < 2 ^ 24) (sym one.0.run) (run_few input number within) in
    let both = counts answer.transcript.accesses in
    let deep = depth_seen answer.transcript.lists answer.transcript.count (table_of input) answer.transcript.accesses one.1 in
    let seen = seen_sorted answer.transcript.accesses in
    record { depth = omega (arith, deep, seen, both, run); sorted = omega (arith, both, run); random = omega (arith, both, run); values = answer_low input number answer within one.0 }
ending_small input number (Core fault) within one = absurd one
ending_small input number (Look list fault) within one = absurd one

all_small_of : (input : BulkInput) (numbers : List ℕ) (endings : List Ended) → IsInput input
    → AllZip (λ number. EndsInOne (query_of input number) (table_of input)) numbers endings → All IsSmall endings
all_small_of input numbers endings within all =
    all_from_members IsSmall endings (λ e c.
    let of = zip_member (λ number. EndsInOne (query_of input number) (table_of input)) numbers endings e all c in ending_small input of.0 e within of.2)

pub all_small : (input : BulkInput) (endings : List Ended) → IsInput input → AllEndInOne input endings → All IsSmall endings
all_small input endings within all = all_small_of input (range_with_len 0 input.queries) endings within all
