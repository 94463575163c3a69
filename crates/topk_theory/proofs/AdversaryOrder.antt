-- Rows that are put in order stand by grade falling, then by number rising.
use Rattle.std.proofs.Common.{◌≡◌, ◌≢◌, suc, ◌≤◌, inl, inr, true, false, ◌==◌, ◌&&◌, nat_lt, List, [], ◌∷◌, length, AllPairs, Contains, refl, sym, ap, subst, ◌∙◌, arith, eqb-true, eq-eqb, ltb-true, ltb-false}
use Rattle.std.proofs.lemmas.Bool.{cases_Bool, cases_order, or_cases, and_parts, or_parts, lt-ltb, and_from, true≢false}
use Rattle.std.proofs.lemmas.List.Kept.{AllPairs-cons}
use Rattle.ranked_list.specs.declared.row.Row.{Row}
use Rattle.topk_theory.specs.Adversary.{StandsAbove, is_above, put_row, by_grade, IsByGrade}
use Rattle.topk_theory.proofs.AgreementLists.{contains_nil, contains_here, contains_there, contains_cases, all_from_members}
use Rattle.topk_theory.proofs.ConsistentRows.{put_here, put_later, put_members, by_grade_members, by_grade_has}

above_stands : (row other : Row) → is_above row other ≡ true → StandsAbove row other
above_stands row other e =
    elim (or_cases (nat_lt other.grade row.grade) (row.grade == other.grade && nat_lt row.object other.object) e) [
      | inl l ↦ inl (ltb-true other.grade row.grade l)
      | inr b ↦ let p = and_parts (row.grade == other.grade) (nat_lt row.object other.object) b in inr (eqb-true row.grade other.grade p.0, ltb-true row.object other.object p.1)
    ]

not_above_stands : (row other : Row) → row.object ≢ other.object → is_above row other ≡ false → StandsAbove other row
not_above_stands row other apart e =
    let p = or_parts (nat_lt other.grade row.grade) (row.grade == other.grade && nat_lt row.object other.object) e in
    let le : row.grade ≤ other.grade = ltb-false other.grade row.grade p.0 in
    elim (cases_order row.grade other.grade) [
      | inl same ↦ elim (cases_order row.object other.object) [
        | inl one ↦ absurd (apart one)
        | inr r ↦ elim r [
          | inl lt ↦ absurd (true≢false (sym (and_from (row.grade == other.grade) (nat_lt row.object other.object) (eq-eqb row.grade other.grade same) (lt-ltb row.object other.object lt)) ∙ p.1))
          | inr gt ↦ inr (sym same, gt)
        ]
      ]
      | inr r ↦ elim r [ inl lt ↦ inl lt | inr gt ↦ absurd (omega arith) ]
    ]

above_through : (a b c : Row) → StandsAbove a b → StandsAbove b c → StandsAbove a c
above_through a b c (inl l) (inl m) = inl (omega arith)
above_through a b c (inl l) (inr m) = let e = m.0 in inl (omega arith)
above_through a b c (inr l) (inl m) = let e = l.0 in inl (omega arith)
above_through a b c (inr l) (inr m) = let d = l.1 in let e = m.1 in inr (l.0 ∙ m.0, omega arith)

ordered_tail : (row : Row) (rows : List Row) → AllPairs StandsAbove (row ∷ rows) → AllPairs StandsAbove rows
ordered_tail row rows h = λ i j d lt in_range. h (suc i) (suc j) d (omega arith) (omega arith)

ordered_head : (row : Row) (rows : List Row) (other : Row) → AllPairs StandsAbove (row ∷ rows) → Contains rows other → StandsAbove row other
ordered_head row rows other h c = subst (λ (z : Row). StandsAbove row z) c.2 (h 0 (suc c.0) other (omega arith) (omega (arith, c.1)))

put_ordered : (row : Row) (rows : List Row) → AllPairs StandsAbove rows → ((other : Row) → Contains rows other → row.object ≢ other.object)
    → AllPairs StandsAbove (put_row row rows)
put_ordered row [] h apart = AllPairs-cons StandsAbove row [] (all_from_members (StandsAbove row) [] (λ z c. absurd (contains_nil z c))) h
put_ordered row (first ∷ rows) h apart =
    elim (cases_Bool (is_above row first)) [
      | inl t ↦ subst (λ z. AllPairs StandsAbove z) (sym (put_here row first rows t))
          (AllPairs-cons StandsAbove row (first ∷ rows) (all_from_members (StandsAbove row) (first ∷ rows) (λ z c.
          let head : StandsAbove row first = above_stands row first t in
          elim (contains_cases first rows z c) [
            | inl e ↦ subst (λ (w : Row). StandsAbove row w) e head
            | inr u ↦ above_through row first z head (ordered_head first rows z h u)
          ])) h)
      | inr f ↦ subst (λ z. AllPairs StandsAbove z) (sym (put_later row first rows f))
          (AllPairs-cons StandsAbove first (put_row row rows) (all_from_members (StandsAbove first) (put_row row rows) (λ z c.
          elim (put_members row rows z c) [
            | inl e ↦ subst (λ (w : Row). StandsAbove first w) e (not_above_stands row first (apart first (contains_here first rows)) f)
            | inr u ↦ ordered_head first rows z h u
          ]))
          (put_ordered row rows (ordered_tail first rows h) (λ other c. apart other (contains_there first rows other c))))
    ]

put_length : (row : Row) (rows : List Row) → length (put_row row rows) ≡ suc (length rows)
put_length row [] = refl
put_length row (first ∷ rows) =
    elim (cases_Bool (is_above row first)) [
      | inl t ↦ ap length (put_here row first rows t)
      | inr f ↦ ap length (put_later row first rows f) ∙ ap suc (put_length row rows)
    ]

by_grade_length : (rows : List Row) → length (by_grade rows) ≡ length rows
by_grade_length [] = refl
by_grade_length (row ∷ rows) = put_length row (by_grade rows) ∙ ap suc (by_grade_length rows)

by_grade_ordered : (rows : List Row) → AllPairs (λ (one : Row) (other : Row). one.object ≢ other.object) rows → AllPairs StandsAbove (by_grade rows)
by_grade_ordered [] d = λ i j e l m. absurd (omega arith)
by_grade_ordered (row ∷ rows) d =
    put_ordered row (by_grade rows)
    (by_grade_ordered rows (λ i j e l m. d (suc i) (suc j) e (omega arith) (omega arith)))
    (λ other c. let in_rows = by_grade_members rows other c in λ same. d 0 (suc in_rows.0) other (omega arith) (omega (arith, in_rows.1)) (same ∙ sym (ap (λ (z : Row). z.object) in_rows.2)))

-- rows of distinct objects
pub by_grade_is : (rows : List Row) → AllPairs (λ (one : Row) (other : Row). one.object ≢ other.object) rows → IsByGrade rows (by_grade rows)
by_grade_is rows d = record {
  ordered = by_grade_ordered rows d;
  size = by_grade_length rows;
  held = λ row c. by_grade_members rows row c;
  whole = λ row c. by_grade_has rows row c;
}
