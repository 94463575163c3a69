-- How a table is made step by step, and that it is a table.
use Rattle.std.proofs.Common.{◌≡◌, ◌≢◌, ℕ, zero, suc, ◌+◌, ◌*◌, ◌/◌, ◌^◌, ◌≤◌, ◌<◌, List, [], ◌∷◌, ◌++◌, length, All, AllPairs, Contains, refl, sym, ap, ◌∙◌, subst, arith}
use Rattle.std.specs.List.{range_with_len}
use Rattle.std.proofs.Math.Nat.{suc-mul, mod-lt}
use Rattle.std.proofs.lemmas.List.FromFn.{map-range_with_len_more, length-map-range_with_len, length-range_with_len, get_or-range_with_len}
use Rattle.ranked_list.specs.declared.row.Row.{Row}
use Rattle.ranked_list.specs.Table.{IsRanked, IsTable, objects, top_grade}
use Rattle.topk_theory.specs.Transcript.{list_numbers}
use Rattle.topk_theory.specs.Adversary.{by_grade, graded}
use Rattle.topk_theory.proofs.AgreementLists.{contains_map, contains_map_from, all_from_members}
use Rattle.topk_theory.proofs.ConsistentRows.{by_grade_ranked, by_grade_members, by_grade_has, graded_distinct, graded_has}
use Rattle.topk_theory.proofs.AdversaryOrder.{by_grade_is}
use Rattle.made_inputs.specs.Made.{next_state, state_after, grade_of, made_grade, made_list, made_table}

-- no two rows are of one object
abbrev pub AreApart : List Row → Type 0
AreApart rows = AllPairs (λ (row : Row) (other : Row). row.object ≢ other.object) rows

-- the grades of the states after one state
abbrev pub grade_after : ℕ → ℕ → ℕ
grade_after state object = grade_of (state_after state object)

-- the rows of the objects 1 to count, with these grades
abbrev pub rows_after : ℕ → ℕ → List Row
rows_after state count = graded (grade_after state) (range_with_len 1 count)

-- ---- one step more
pub state_more : (state steps : ℕ) → state_after state (steps + 1) ≡ next_state (state_after state steps)
state_more state steps = let e : steps + 1 ≡ suc steps = omega arith in ap (state_after state) e

pub rows_more : (state steps : ℕ)
    → rows_after state (steps + 1) ≡ rows_after state steps ++ record { object = steps + 1; grade = grade_of (next_state (state_after state steps)) } ∷ []
rows_more state steps =
    map-range_with_len_more (λ object. record { object = object; grade = grade_after state object }) 1 steps (steps + 1) (omega arith)
    ∙ ap (λ s. rows_after state steps ++ record { object = steps + 1; grade = grade_of s } ∷ []) (state_more state steps)

pub state_pushed : (start place before now : ℕ) → before ≡ state_after start place → now ≡ next_state before → now ≡ state_after start (place + 1)
state_pushed start place before now at step = step ∙ ap next_state at ∙ sym (state_more start place)

pub rows_pushed : (start place : ℕ) (rows pushed : List Row) (grade before now : ℕ) → rows ≡ rows_after start place → before ≡ state_after start place
    → now ≡ next_state before → grade ≡ grade_of now → pushed ≡ rows ++ record { object = place + 1; grade = grade } ∷ [] → pushed ≡ rows_after start (place + 1)
rows_pushed start place rows pushed grade before now are at step gives push =
    let grade_is : grade ≡ grade_of (next_state (state_after start place)) = gives ∙ ap grade_of (step ∙ ap next_state at) in
    push
    ∙ ap (λ g. rows ++ record { object = place + 1; grade = g } ∷ []) grade_is
    ∙ ap (λ (xs : List Row). xs ++ record { object = place + 1; grade = grade_of (next_state (state_after start place)) } ∷ []) are
    ∙ sym (rows_more start place)

-- ---- one list more
state_joined : (state steps more : ℕ) → state_after (state_after state steps) more ≡ state_after state (steps + more)
state_joined state steps zero = let e : steps ≡ steps + 0 = omega arith in ap (state_after state) e
state_joined state steps (suc more) =
    let e : suc (steps + more) ≡ steps + suc more = omega arith in
    ap next_state (state_joined state steps more) ∙ ap (state_after state) e

graded_same : (F G : ℕ → ℕ) → ((object : ℕ) → F object ≡ G object) → (os : List ℕ) → graded F os ≡ graded G os
graded_same F G same [] = refl
graded_same F G same (o ∷ os) =
    ap (λ g. record { object = o; grade = g } ∷ graded F os) (same o)
    ∙ ap (λ (rows : List Row). record { object = o; grade = G o } ∷ rows) (graded_same F G same os)

pub state_next : (start count lists : ℕ) → state_after (state_after start (lists * count)) count ≡ state_after start ((lists + 1) * count)
state_next start count lists =
    let e : lists + 1 ≡ suc lists = omega arith in
    state_joined start (lists * count) count ∙ ap (state_after start) (sym (suc-mul lists count) ∙ ap (λ n. n * count) (sym e))

pub list_next : (start count lists : ℕ) → by_grade (rows_after (state_after start (lists * count)) count) ≡ made_list start count lists
list_next start count lists =
    ap by_grade (graded_same (grade_after (state_after start (lists * count))) (made_grade start count lists)
    (λ object. ap grade_of (state_joined start (lists * count) object)) (range_with_len 1 count))

pub table_more : (start count lists : ℕ) → made_table start count (lists + 1) ≡ made_table start count lists ++ made_list start count lists ∷ []
table_more start count lists = map-range_with_len_more (made_list start count) 0 lists lists (omega arith)

pub state_pushed_on : (start count lists before now : ℕ) → before ≡ state_after start (lists * count) → now ≡ state_after before count
    → now ≡ state_after start ((lists + 1) * count)
state_pushed_on start count lists before now at step = step ∙ ap (λ s. state_after s count) at ∙ state_next start count lists

pub table_pushed : (start count lists before : ℕ) (table pushed : List (List Row)) (list : List Row) → table ≡ made_table start count lists
    → before ≡ state_after start (lists * count) → list ≡ by_grade (rows_after before count) → pushed ≡ table ++ list ∷ [] → pushed ≡ made_table start count (lists + 1)
table_pushed start count lists before table pushed list are at is push =
    push
    ∙ ap (λ (xs : List Row). table ++ xs ∷ []) (is ∙ ap (λ s. by_grade (rows_after s count)) at ∙ list_next start count lists)
    ∙ ap (λ (D : List (List Row)). D ++ made_list start count lists ∷ []) are
    ∙ sym (table_more start count lists)

-- ---- the rows of a list are of different objects, and have lawful grades
numbers_apart : (count : ℕ) → AllPairs (λ (x : ℕ) (y : ℕ). x ≢ y) (range_with_len 1 count)
numbers_apart count = λ i j d below within.
    let size : length (range_with_len 1 count) ≡ count = length-range_with_len 1 count in
    let first = get_or-range_with_len 1 count i d (omega arith) in
    let second = get_or-range_with_len 1 count j d (omega arith) in
    λ same. let e : 1 + i ≡ 1 + j = sym first ∙ same ∙ second in absurd (omega arith)

pub rows_apart : (G : ℕ → ℕ) (count : ℕ) → AreApart (graded G (range_with_len 1 count))
rows_apart G count = graded_distinct G (range_with_len 1 count) (numbers_apart count)

rows_capped : (state : ℕ → ℕ) (os : List ℕ) → All (λ (row : Row). row.grade ≤ top_grade) (graded (λ object. grade_of (state object)) os)
rows_capped state os =
    all_from_members (λ (row : Row). row.grade ≤ top_grade) (graded (λ object. grade_of (state object)) os) (λ row c.
    let from = contains_map_from (λ o. record { object = o; grade = grade_of (state o) }) os row c in
    let low : grade_of (state from.0) < top_grade + 1 = mod-lt (state from.0 / 2 ^ 33) (omega arith) in
    let bound : grade_of (state from.0) ≤ top_grade = omega arith in
    subst (λ (z : Row). z.grade ≤ top_grade) from.2 bound)

pub rows_length : (state count : ℕ) → length (rows_after state count) ≡ count
rows_length state count = length-map-range_with_len (λ object. record { object = object; grade = grade_after state object }) 1 count

-- ---- a made table is a table
list_ranked : (start count list : ℕ) → IsRanked (made_list start count list)
list_ranked start count list =
    by_grade_ranked (graded (made_grade start count list) (range_with_len 1 count)) (rows_apart (made_grade start count list) count)
    (rows_capped (λ object. state_after start (list * count + object)) (range_with_len 1 count))

list_length : (start count list : ℕ) → length (made_list start count list) ≡ count
list_length start count list =
    (by_grade_is (graded (made_grade start count list) (range_with_len 1 count)) (rows_apart (made_grade start count list) count)).size
    ∙ length-map-range_with_len (λ object. record { object = object; grade = made_grade start count list object }) 1 count

pub list_objects : (start count list object : ℕ) → Contains (objects (made_list start count list)) object → Contains (range_with_len 1 count) object
list_objects start count list object c =
    let rows : List Row = graded (made_grade start count list) (range_with_len 1 count) in
    let from = contains_map_from (λ (row : Row). row.object) (by_grade rows) object c in
    let origin = contains_map_from (λ o. record { object = o; grade = made_grade start count list o }) (range_with_len 1 count) from.0 (by_grade_members rows from.0 from.1) in
    subst (λ o. Contains (range_with_len 1 count) o) (ap (λ (row : Row). row.object) origin.2 ∙ from.2) origin.1

list_has : (start count list object : ℕ) → Contains (range_with_len 1 count) object → Contains (objects (made_list start count list)) object
list_has start count list object c =
    contains_map (λ (row : Row). row.object) (made_list start count list) (record { object = object; grade = made_grade start count list object })
    (by_grade_has (graded (made_grade start count list) (range_with_len 1 count)) (record { object = object; grade = made_grade start count list object })
    (graded_has (made_grade start count list) (range_with_len 1 count) object c))

each_made : (P : List Row → Type 0) (start count lists : ℕ) → ((list : ℕ) → P (made_list start count list)) → All P (made_table start count lists)
each_made P start count lists holds =
    all_from_members P (made_table start count lists) (λ rows c.
    let from = contains_map_from (made_list start count) (list_numbers lists) rows c in
    subst P from.2 (holds from.0))

pub is_table : (start count lists : ℕ) → IsTable count (made_table start count lists)
is_table start count lists = record {
  sized = each_made (λ rows. length rows ≡ count) start count lists (list_length start count);
  ranked = each_made IsRanked start count lists (list_ranked start count);
  same = each_made (λ rows. All (λ others. (object : ℕ) → Contains (objects rows) object → Contains (objects others) object) (made_table start count lists)) start count lists
      (λ list. each_made (λ others. (object : ℕ) → Contains (objects (made_list start count list)) object → Contains (objects others) object) start count lists
      (λ other object c. list_has start count other object (list_objects start count list object c)));
}
