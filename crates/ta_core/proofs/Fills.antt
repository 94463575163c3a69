-- The grades that a row has of an object, and the accesses that they save.
use Rattle.std.proofs.Common.{◌≡◌, ◌≢◌, ℕ, suc, ◌+◌, ◌-◌, ◌<◌, ◌≤◌, inl, inr, true, false, cond, ◌==◌, List, [], ◌∷◌, length, take, drop, Contains, slice_index_or, slice_index, refl, sym, ap, subst, ◌∙◌, arith, eqb-true}
use Rattle.std.proofs.lemmas.Bool.{cases_Bool, eqb-false}
use Rattle.ranked_list.specs.declared.row.Row.{Row}
use Rattle.ranked_list.specs.Table.{IsRanked, IsTable, place_in, grade_in}
use Rattle.topk_theory.specs.Aggregate.{grades_of}
use Rattle.topk_theory.specs.Threshold.{row_at, random_block}
use Rattle.topk_theory.proofs.AgreementLists.{contains_here, contains_there}
use Rattle.ranked_list.proofs.RankLaws.{no_row}
use Rattle.topk_theory.proofs.ThresholdTables.{place_in-object, grade_in-at_place}
use Rattle.topk_theory.proofs.ThresholdDepth.{list_sized, list_ranked}
use Rattle.topk_theory.proofs.ThresholdRun.{random_block_here}
use Rattle.ta_core.specs.Reading.{grades_in_row}
use Rattle.ta_core.specs.OnTable.{objects_at, bottoms_at}

pub has_here : (object other bottom : ℕ) (os bs : List ℕ) → (other == object) ≡ true
    → grades_in_row object (other ∷ os) (bottom ∷ bs) ≡ bottom ∷ grades_in_row object os bs
has_here object other bottom os bs t = ap (λ b. cond b (bottom ∷ grades_in_row object os bs) []) t

has_not_here : (object other bottom : ℕ) (os bs : List ℕ) → (other == object) ≡ false → grades_in_row object (other ∷ os) (bottom ∷ bs) ≡ []
has_not_here object other bottom os bs f = ap (λ b. cond b (bottom ∷ grades_in_row object os bs) []) f

-- they are no more than the lists
pub length-grades_in_row : (object : ℕ) (os bs : List ℕ) → length (grades_in_row object os bs) ≤ length os
length-grades_in_row object [] bs = omega arith
length-grades_in_row object (other ∷ os) [] = omega arith
length-grades_in_row object (other ∷ os) (bottom ∷ bs) =
    elim (cases_Bool (other == object)) [
      | inl t ↦ omega (arith, ap length (has_here object other bottom os bs t), length-grades_in_row object os bs)
      | inr f ↦ omega (arith, ap length (has_not_here object other bottom os bs f))
    ]

-- in the first list where they end the row has another object
pub grades_in_row_end : (object : ℕ) (os bs : List ℕ) → length bs ≡ length os → length (grades_in_row object os bs) < length os
    → slice_index os (length (grades_in_row object os bs)) ≢ object
grades_in_row_end object [] bs e l = absurd (omega arith)
grades_in_row_end object (other ∷ os) [] e l = absurd (omega arith)
grades_in_row_end object (other ∷ os) (bottom ∷ bs) e l =
    elim (cases_Bool (other == object)) [
      | inl t ↦
          let same : grades_in_row object (other ∷ os) (bottom ∷ bs) ≡ bottom ∷ grades_in_row object os bs = has_here object other bottom os bs t in
          let count : length (grades_in_row object (other ∷ os) (bottom ∷ bs)) ≡ suc (length (grades_in_row object os bs)) = ap length same in
          subst (λ p. slice_index (other ∷ os) p ≢ object) (sym count) (grades_in_row_end object os bs (omega arith) (omega arith))
      | inr f ↦
          let count : length (grades_in_row object (other ∷ os) (bottom ∷ bs)) ≡ 0 = ap length (has_not_here object other bottom os bs f) in
          subst (λ p. slice_index (other ∷ os) p ≢ object) (sym count) (eqb-false other object f)
    ]

-- where the first list has another object there are none
pub grades_in_row_none : (object : ℕ) (os bs : List ℕ) → (0 < length os → slice_index os 0 ≢ object) → grades_in_row object os bs ≡ []
grades_in_row_none object [] bs n = refl
grades_in_row_none object (other ∷ os) [] n = refl
grades_in_row_none object (other ∷ os) (bottom ∷ bs) n =
    elim (cases_Bool (other == object)) [
      | inl t ↦ absurd (n (omega arith) (eqb-true other object t))
      | inr f ↦ has_not_here object other bottom os bs f
    ]

-- the place and the grade of an object that a row has
pub row_place : (n : ℕ) (D : List (List Row)) (rows : List Row) (depth object : ℕ) → IsTable n D → Contains D rows → 1 ≤ depth → depth ≤ n
    → (row_at rows depth).object ≡ object → (place_in rows object ≡ depth - 1) × (grade_in rows object ≡ (row_at rows depth).grade)
row_place n D rows depth object t h positive within e =
    let long : length rows ≡ n = list_sized n D rows t h in
    let ranked : IsRanked rows = list_ranked n D rows t h in
    let place : place_in rows object ≡ depth - 1 = ap (place_in rows) (sym e) ∙ place_in-object rows (depth - 1) no_row ranked.distinct (omega arith) in
    (place, grade_in-at_place rows object no_row (omega arith) ∙ ap (λ p. (slice_index_or rows p no_row).grade) place)

-- the accesses of an object skip the lists in which the row has it
pub skips : (n : ℕ) (D L : List (List Row)) (start depth object : ℕ) → IsTable n D → ((rows : List Row) → Contains L rows → Contains D rows) → 1 ≤ depth
    → depth ≤ n
    → random_block start depth object L ≡ random_block (start + length (grades_in_row object (objects_at depth L) (bottoms_at depth L))) depth object (drop (length (grades_in_row object (objects_at depth L) (bottoms_at depth L))) L)
skips n D [] start depth object t within positive fits = refl
skips n D (rows ∷ L) start depth object t within positive fits =
    let row : Row = row_at rows depth in
    let later : List ℕ = grades_in_row object (objects_at depth L) (bottoms_at depth L) in
    elim (cases_Bool (row.object == object)) [
      | inl s ↦
          let place = (row_place n D rows depth object t (within rows (contains_here rows L)) positive fits (eqb-true row.object object s)).0 in
          let count : length (grades_in_row object (objects_at depth (rows ∷ L)) (bottoms_at depth (rows ∷ L))) ≡ suc (length later) = ap length (has_here object row.object row.grade (objects_at depth L) (bottoms_at depth L) s) in
          random_block_here start depth object rows L (omega arith)
          ∙ skips n D L (start + 1) depth object t (λ other h. within other (contains_there rows L other h)) positive fits
          ∙ ap (λ at. random_block at depth object (drop (length later) L)) (omega arith)
          ∙ ap (λ c. random_block (start + c) depth object (drop c (rows ∷ L))) (sym count)
      | inr f ↦
          let count : length (grades_in_row object (objects_at depth (rows ∷ L)) (bottoms_at depth (rows ∷ L))) ≡ 0 = ap length (has_not_here object row.object row.grade (objects_at depth L) (bottoms_at depth L) f) in
          ap (λ at. random_block at depth object (rows ∷ L)) (omega arith)
          ∙ ap (λ c. random_block (start + c) depth object (drop c (rows ∷ L))) (sym count)
    ]

-- and the row's grades are the object's
pub row_grades : (n : ℕ) (D L : List (List Row)) (depth object : ℕ) → IsTable n D → ((rows : List Row) → Contains L rows → Contains D rows) → 1 ≤ depth
    → depth ≤ n
    → grades_in_row object (objects_at depth L) (bottoms_at depth L) ≡ take (length (grades_in_row object (objects_at depth L) (bottoms_at depth L)))
    (grades_of L object)
row_grades n D [] depth object t within positive fits = refl
row_grades n D (rows ∷ L) depth object t within positive fits =
    let row : Row = row_at rows depth in
    let later : List ℕ = grades_in_row object (objects_at depth L) (bottoms_at depth L) in
    elim (cases_Bool (row.object == object)) [
      | inl s ↦
          let grade = (row_place n D rows depth object t (within rows (contains_here rows L)) positive fits (eqb-true row.object object s)).1 in
          let same : grades_in_row object (objects_at depth (rows ∷ L)) (bottoms_at depth (rows ∷ L)) ≡ row.grade ∷ later = has_here object row.object row.grade (objects_at depth L) (bottoms_at depth L) s in
          same
          ∙ ap (λ g. g ∷ later) (sym grade)
          ∙ ap (λ rest. grade_in rows object ∷ rest) (row_grades n D L depth object t (λ other h. within other (contains_there rows L other h)) positive fits)
          ∙ ap (λ c. take c (grades_of (rows ∷ L) object)) (sym (ap length same))
      | inr f ↦
          let none : grades_in_row object (objects_at depth (rows ∷ L)) (bottoms_at depth (rows ∷ L)) ≡ [] = has_not_here object row.object row.grade (objects_at depth L) (bottoms_at depth L) f in
          none ∙ ap (λ c. take c (grades_of (rows ∷ L) object)) (sym (ap length none))
    ]
