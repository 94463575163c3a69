-- One list of a transcript: the rows that were read from it in order, and those that were looked up. When some ranked list has them, and how one is built.
use Rattle.std.proofs.Common.{◌≡◌, ◌≢◌, ℕ, suc, ◌<◌, ◌≤◌, ◌⊎◌, inl, inr, Bool, true, false, not, ◌==◌, ◌&&◌, nat_lt, List, [], ◌∷◌, ◌++◌, length, filter, All, AllPairs, Contains, refl, sym, ap, subst, ◌∙◌, arith, eqb-true, ltb-true, ltb-false}
use Rattle.std.proofs.lemmas.Bool.{cases_Bool, cases_lt, cases_eq, cond-true, cond-false, or_cases, and_parts, or_parts, not-true, true≢false}
use Rattle.std.proofs.lemmas.List.{length-map}
use Rattle.std.proofs.lemmas.List.Elements.{Contains-append_left, Contains-append_right, Contains-append_cases, Contains-push, Contains-push_cases}
use Rattle.std.proofs.lemmas.List.Kept.{AllPairs-cons, AllPairs-filter}
use Rattle.ranked_list.specs.declared.row.Row.{Row}
use Rattle.ranked_list.specs.Table.{IsRanked, objects, grade_in, top_grade}
use Rattle.ranked_list.proofs.RankLaws.{IsRanked-nil}
use Rattle.topk_theory.specs.Transcript.{last_grade}
use Rattle.topk_theory.specs.Consistent.{HasOther, HasAbove}
use Rattle.topk_theory.specs.Adversary.{is_above, put_row, by_grade, graded, unread, filled}
use Rattle.topk_theory.proofs.AgreementLists.{contains_nil, contains_here, contains_there, contains_cases, contains_map, contains_map_from, all_from_members, member_of_all, distinct_fits, distinct_head, distinct_tail}
use Rattle.topk_theory.proofs.AgreementNames.{has, has_contains, has_not, not_has}
use Rattle.topk_theory.proofs.AgreementRows.{row_is, ranked_tail, ranked_head_apart, grade_in_row, object_of_row, objects_distinct}

-- some ranked list begins with the rows that were read and has those that were looked up
pub record AreCoherent (read looked : List Row) : Type 0 where
  pub ranked : IsRanked read
  pub capped : (row : Row) → Contains looked row → row.grade ≤ top_grade
  pub same_read : (row other : Row) → Contains looked row → Contains read other → row.object ≡ other.object → row.grade ≡ other.grade
  pub same_looked : (row other : Row) → Contains looked row → Contains looked other → row.object ≡ other.object → row.grade ≡ other.grade
  pub below : (row : Row) → Contains looked row → (¬ Contains (objects read) row.object) → row.grade ≤ last_grade top_grade read

-- ranked lists, by the first row and the rest
pub ranked_cons : (row : Row) (rows : List Row) → IsRanked rows → row.grade ≤ top_grade → ((other : Row) → Contains rows other → row.object ≢ other.object)
    → ((other : Row) → Contains rows other → other.grade ≤ row.grade) → IsRanked (row ∷ rows)
ranked_cons row rows r top apart below = record {
  distinct = AllPairs-cons (λ (above : Row) (below : Row). above.object ≢ below.object) row rows (all_from_members (λ (z : Row). row.object ≢ z.object) rows apart) r.distinct;
  falling = AllPairs-cons (λ (above : Row) (below : Row). below.grade ≤ above.grade) row rows (all_from_members (λ (z : Row). z.grade ≤ row.grade) rows below) r.falling;
  capped = all_from_members (λ (z : Row). z.grade ≤ top_grade) (row ∷ rows) (λ z c. elim (contains_cases row rows z c) [
    | inl e ↦ subst (λ (w : Row). w.grade ≤ top_grade) e top
    | inr t ↦ member_of_all (λ (w : Row). w.grade ≤ top_grade) rows z r.capped t
  ]);
}

pub ranked_head_above : (row : Row) (rows : List Row) (other : Row) → IsRanked (row ∷ rows) → Contains rows other → other.grade ≤ row.grade
ranked_head_above row rows other r h = subst (λ (z : Row). z.grade ≤ row.grade) h.2 (r.falling 0 (suc h.0) other (omega arith) (omega (arith, h.1)))

pub ranked_capped : (rows : List Row) (row : Row) → IsRanked rows → Contains rows row → row.grade ≤ top_grade
ranked_capped rows row r h = member_of_all (λ (z : Row). z.grade ≤ top_grade) rows row r.capped h

-- two parts that are ranked and go together
pub ranked_append : (front back : List Row) → IsRanked front → IsRanked back
    → ((row other : Row) → Contains front row → Contains back other → row.object ≢ other.object)
    → ((row other : Row) → Contains front row → Contains back other → other.grade ≤ row.grade) → IsRanked (front ++ back)
ranked_append [] back f b apart below = b
ranked_append (row ∷ front) back f b apart below =
    ranked_cons row (front ++ back)
    (ranked_append front back (ranked_tail row front f) b (λ x y c d. apart x y (contains_there row front x c) d) (λ x y c d. below x y (contains_there row front x c) d))
    (ranked_capped (row ∷ front) row f (contains_here row front))
    (λ other c. elim (Contains-append_cases front back other c) [
      | inl t ↦ ranked_head_apart row front other f t
      | inr t ↦ apart row other (contains_here row front) t
    ])
    (λ other c. elim (Contains-append_cases front back other c) [
      | inl t ↦ ranked_head_above row front other f t
      | inr t ↦ below row other (contains_here row front) t
    ])

-- the parts of a ranked list
pub ranked_front : (front back : List Row) → IsRanked (front ++ back) → IsRanked front
ranked_front [] back r = IsRanked-nil
ranked_front (row ∷ front) back r =
    ranked_cons row front (ranked_front front back (ranked_tail row (front ++ back) r))
    (ranked_capped (row ∷ (front ++ back)) row r (contains_here row (front ++ back)))
    (λ other c. ranked_head_apart row (front ++ back) other r (Contains-append_left front back other c))
    (λ other c. ranked_head_above row (front ++ back) other r (Contains-append_left front back other c))

pub ranked_parts_below : (front back : List Row) (row other : Row) → IsRanked (front ++ back) → Contains front row → Contains back other
    → other.grade ≤ row.grade
ranked_parts_below [] back row other r c d = absurd (contains_nil row c)
ranked_parts_below (first ∷ front) back row other r c d =
    elim (contains_cases first front row c) [
      | inl e ↦ subst (λ (z : Row). other.grade ≤ z.grade) e (ranked_head_above first (front ++ back) other r (Contains-append_right front back other d))
      | inr t ↦ ranked_parts_below front back row other (ranked_tail first (front ++ back) r) t d
    ]

pub ranked_parts_apart : (front back : List Row) (row other : Row) → IsRanked (front ++ back) → Contains front row → Contains back other
    → row.object ≢ other.object
ranked_parts_apart [] back row other r c d = absurd (contains_nil row c)
ranked_parts_apart (first ∷ front) back row other r c d =
    elim (contains_cases first front row c) [
      | inl e ↦ subst (λ (z : Row). z.object ≢ other.object) e (ranked_head_apart first (front ++ back) other r (Contains-append_right front back other d))
      | inr t ↦ ranked_parts_apart front back row other (ranked_tail first (front ++ back) r) t d
    ]

-- the last grade is the least one of ranked rows
pub last_is_least : (above : ℕ) (rows : List Row) (row : Row) → IsRanked rows → Contains rows row → last_grade above rows ≤ row.grade
last_is_least above [] row r c = absurd (contains_nil row c)
last_is_least above (first ∷ []) row r c =
    elim (contains_cases first [] row c) [
      | inl e ↦ subst (λ (z : Row). first.grade ≤ z.grade) e (omega arith)
      | inr t ↦ absurd (contains_nil row t)
    ]
last_is_least above (first ∷ second ∷ rows) row r c =
    let tail : IsRanked (second ∷ rows) = ranked_tail first (second ∷ rows) r in
    elim (contains_cases first (second ∷ rows) row c) [
      | inl e ↦ subst (λ (z : Row). last_grade first.grade (second ∷ rows) ≤ z.grade) e
          (let low : last_grade first.grade (second ∷ rows) ≤ second.grade = last_is_least first.grade (second ∷ rows) second tail (contains_here second rows) in
          let step : second.grade ≤ first.grade = ranked_head_above first (second ∷ rows) second r (contains_here second rows) in
          omega arith)
      | inr t ↦ last_is_least first.grade (second ∷ rows) row tail t
    ]

-- what stands behind ranked rows is no more than their last grade, or the greatest grade where there are none
last_grade_is : (above : ℕ) (rows : List Row) → (last_grade above rows ≡ above) ⊎ ((row : Row) × Contains rows row × (last_grade above rows ≡ row.grade))
last_grade_is above [] = inl refl
last_grade_is above (first ∷ rows) =
    elim (last_grade_is first.grade rows) [
      | inl e ↦ inr (first, contains_here first rows, e)
      | inr h ↦ inr (h.0, contains_there first rows h.0 h.1, h.2)
    ]

pub behind_below_last : (front back : List Row) (row : Row) → IsRanked (front ++ back) → Contains back row → row.grade ≤ last_grade top_grade front
behind_below_last front back row r c =
    elim (last_grade_is top_grade front) [
      | inl e ↦ subst (λ g. row.grade ≤ g) (sym e) (ranked_capped (front ++ back) row r (Contains-append_right front back row c))
      | inr h ↦ subst (λ g. row.grade ≤ g) (sym h.2) (ranked_parts_below front back h.0 row r h.1 c)
    ]

pub last_below_top : (rows : List Row) → IsRanked rows → last_grade top_grade rows ≤ top_grade
last_below_top rows r =
    elim (last_grade_is top_grade rows) [
      | inl e ↦ subst (λ g. g ≤ top_grade) (sym e) (omega arith)
      | inr h ↦ subst (λ g. g ≤ top_grade) (sym h.2) (ranked_capped rows h.0 r h.1)
    ]

-- what a ranked list says of the rows that were read from it and looked up in it
pub ranked_coherent : (read rest looked : List Row) → IsRanked (read ++ rest) → ((row : Row) → Contains looked row → Contains (read ++ rest) row)
    → AreCoherent read looked
ranked_coherent read rest looked r within = record {
  ranked = ranked_front read rest r;
  capped = λ row c. ranked_capped (read ++ rest) row r (within row c);
  same_read = λ row other c d e. ranked_one_grade (read ++ rest) row other r (within row c) (Contains-append_left read rest other d) e;
  same_looked = λ row other c d e. ranked_one_grade (read ++ rest) row other r (within row c) (within other d) e;
  below = λ row c n. elim (Contains-append_cases read rest row (within row c)) [
    | inl t ↦ absurd (n (object_of_row read row t))
    | inr t ↦ behind_below_last read rest row r t
  ];
}
  where
    ranked_one_grade : (rows : List Row) (row other : Row) → IsRanked rows → Contains rows row → Contains rows other → row.object ≡ other.object
        → row.grade ≡ other.grade
    ranked_one_grade rows row other r c d e =
        sym (grade_in_row rows row.object row.grade r c) ∙ ap (λ o. grade_in rows o) e ∙ grade_in_row rows other.object other.grade r d

pub coherent_read : (read looked : List Row) (object grade : ℕ) → AreCoherent read looked → grade ≤ top_grade → grade ≤ last_grade top_grade read
    → (¬ Contains (objects read) object) → (¬ HasOther looked object grade) → (¬ HasAbove looked read object grade)
    → AreCoherent (read ++ record { object = object; grade = grade } ∷ []) looked
coherent_read read looked object grade h top falls new same short = record {
  ranked = ranked_append read (row ∷ []) h.ranked
      (ranked_cons row [] IsRanked-nil top (λ other c. absurd (contains_nil other c)) (λ other c. absurd (contains_nil other c)))
      (λ x y c d. λ e. new (subst (λ o. Contains (objects read) o) (e ∙ ap (λ (z : Row). z.object) (only y d)) (object_of_row read x c)))
      (λ x y c d. subst (λ (z : Row). z.grade ≤ x.grade) (sym (only y d)) (let low : last_grade top_grade read ≤ x.grade = last_is_least top_grade read x h.ranked c in omega arith));
  capped = h.capped;
  same_read = λ x y c d e. elim (Contains-push_cases read row y d) [
    | inl t ↦ h.same_read x y c t e
    | inr f ↦ elim (cases_eq x.grade grade) [
      | inl g ↦ g ∙ ap (λ (z : Row). z.grade) f
      | inr n ↦ absurd (same (x.grade, subst (λ z. Contains looked z) (row_is x object x.grade (e ∙ sym (ap (λ (z : Row). z.object) f)) refl) c, n))
    ]
  ];
  same_looked = h.same_looked;
  below = λ x c n. subst (λ g. x.grade ≤ g) (sym (last_push top_grade read row)) (elim (cases_lt grade x.grade) [
    | inl l ↦ absurd (short (x, c, (λ e. n (subst (λ o. Contains (objects (read ++ row ∷ [])) o) (sym e) (object_of_row (read ++ row ∷ []) row (Contains-push read row)))), (λ t. n (pushed_object x.object t)), l))
    | inr l ↦ l
  ]);
}
  where
    row : Row
    row = record { object = object; grade = grade }

    only : (y : Row) → Contains (row ∷ []) y → y ≡ row
    only y d = elim (contains_cases row [] y d) [ inl e ↦ sym e | inr t ↦ absurd (contains_nil y t) ]

    pushed_object : (o : ℕ) → Contains (objects read) o → Contains (objects (read ++ row ∷ [])) o
    pushed_object o t = let from = contains_map_from (λ (z : Row). z.object) read o t in subst (λ p. Contains (objects (read ++ row ∷ [])) p) from.2 (object_of_row (read ++ row ∷ []) from.0 (Contains-append_left read (row ∷ []) from.0 from.1))

    last_push : (above : ℕ) (rows : List Row) (r : Row) → last_grade above (rows ++ r ∷ []) ≡ r.grade
    last_push above [] r = refl
    last_push above (first ∷ rows) r = last_push first.grade rows r

pub coherent_looked : (read looked : List Row) (object grade : ℕ) → AreCoherent read looked → grade ≤ top_grade → (¬ HasOther read object grade)
    → (¬ HasOther looked object grade) → ((¬ Contains (objects read) object) → grade ≤ last_grade top_grade read)
    → AreCoherent read (looked ++ record { object = object; grade = grade } ∷ [])
coherent_looked read looked object grade h top same_read same_looked below = record {
  ranked = h.ranked;
  capped = λ x c. elim (Contains-push_cases looked row x c) [
    | inl t ↦ h.capped x t
    | inr e ↦ subst (λ (z : Row). z.grade ≤ top_grade) e top
  ];
  same_read = λ x y c d e. elim (Contains-push_cases looked row x c) [
    | inl t ↦ h.same_read x y t d e
    | inr f ↦ sym (ap (λ (z : Row). z.grade) f) ∙ sym (one read same_read y d (sym e ∙ sym (ap (λ (z : Row). z.object) f)))
  ];
  same_looked = λ x y c d e. elim (Contains-push_cases looked row x c) [
    | inl t ↦ elim (Contains-push_cases looked row y d) [
      | inl u ↦ h.same_looked x y t u e
      | inr g ↦ one looked same_looked x t (e ∙ sym (ap (λ (z : Row). z.object) g)) ∙ ap (λ (z : Row). z.grade) g
    ]
    | inr f ↦ sym (ap (λ (z : Row). z.grade) f) ∙ elim (Contains-push_cases looked row y d) [
      | inl u ↦ sym (one looked same_looked y u (sym e ∙ sym (ap (λ (z : Row). z.object) f)))
      | inr g ↦ ap (λ (z : Row). z.grade) g
    ]
  ];
  below = λ x c n. elim (Contains-push_cases looked row x c) [
    | inl t ↦ h.below x t n
    | inr e ↦ subst (λ (z : Row). z.grade ≤ last_grade top_grade read) e (below (λ t. n (subst (λ (z : Row). Contains (objects read) z.object) e t)))
  ];
}
  where
    row : Row
    row = record { object = object; grade = grade }

    one : (rows : List Row) → (¬ HasOther rows object grade) → (x : Row) → Contains rows x → x.object ≡ object → x.grade ≡ grade
    one rows same x c e = elim (cases_eq x.grade grade) [
      | inl g ↦ g
      | inr n ↦ absurd (same (x.grade, subst (λ z. Contains rows z) (row_is x object x.grade e refl) c, n))
    ]

-- rows in the order of their grades falling, and of their objects rising among equal grades
pub put_here : (row other : Row) (rows : List Row) → is_above row other ≡ true → put_row row (other ∷ rows) ≡ row ∷ other ∷ rows
put_here row other rows e = cond-true (is_above row other) (row ∷ other ∷ rows) (other ∷ put_row row rows) e

pub put_later : (row other : Row) (rows : List Row) → is_above row other ≡ false → put_row row (other ∷ rows) ≡ other ∷ put_row row rows
put_later row other rows e = cond-false (is_above row other) (row ∷ other ∷ rows) (other ∷ put_row row rows) e

pub put_members : (row : Row) (rows : List Row) (x : Row) → Contains (put_row row rows) x → (row ≡ x) ⊎ Contains rows x
put_members row [] x c = contains_cases row [] x c
put_members row (other ∷ rows) x c =
    elim (cases_Bool (is_above row other)) [
      | inl t ↦ contains_cases row (other ∷ rows) x (subst (λ z. Contains z x) (put_here row other rows t) c)
      | inr f ↦ elim (contains_cases other (put_row row rows) x (subst (λ z. Contains z x) (put_later row other rows f) c)) [
        | inl e ↦ inr (subst (λ z. Contains (other ∷ rows) z) e (contains_here other rows))
        | inr u ↦ elim (put_members row rows x u) [ inl e ↦ inl e | inr v ↦ inr (contains_there other rows x v) ]
      ]
    ]

put_has_row : (row : Row) (rows : List Row) → Contains (put_row row rows) row
put_has_row row [] = contains_here row []
put_has_row row (other ∷ rows) =
    elim (cases_Bool (is_above row other)) [
      | inl t ↦ subst (λ z. Contains z row) (sym (put_here row other rows t)) (contains_here row (other ∷ rows))
      | inr f ↦ subst (λ z. Contains z row) (sym (put_later row other rows f)) (contains_there other (put_row row rows) row (put_has_row row rows))
    ]

put_has_rest : (row : Row) (rows : List Row) (x : Row) → Contains rows x → Contains (put_row row rows) x
put_has_rest row [] x c = absurd (contains_nil x c)
put_has_rest row (other ∷ rows) x c =
    elim (cases_Bool (is_above row other)) [
      | inl t ↦ subst (λ z. Contains z x) (sym (put_here row other rows t)) (contains_there row (other ∷ rows) x c)
      | inr f ↦ subst (λ z. Contains z x) (sym (put_later row other rows f)) (elim (contains_cases other rows x c) [
        | inl e ↦ subst (λ z. Contains (other ∷ put_row row rows) z) e (contains_here other (put_row row rows))
        | inr u ↦ contains_there other (put_row row rows) x (put_has_rest row rows x u)
      ])
    ]

pub by_grade_members : (rows : List Row) (x : Row) → Contains (by_grade rows) x → Contains rows x
by_grade_members [] x c = c
by_grade_members (row ∷ rows) x c =
    elim (put_members row (by_grade rows) x c) [
      | inl e ↦ subst (λ z. Contains (row ∷ rows) z) e (contains_here row rows)
      | inr t ↦ contains_there row rows x (by_grade_members rows x t)
    ]

pub by_grade_has : (rows : List Row) (x : Row) → Contains rows x → Contains (by_grade rows) x
by_grade_has [] x c = c
by_grade_has (row ∷ rows) x c =
    elim (contains_cases row rows x c) [
      | inl e ↦ subst (λ z. Contains (put_row row (by_grade rows)) z) e (put_has_row row (by_grade rows))
      | inr t ↦ put_has_rest row (by_grade rows) x (by_grade_has rows x t)
    ]

above_grade : (row other : Row) → is_above row other ≡ true → other.grade ≤ row.grade
above_grade row other e =
    elim (or_cases (nat_lt other.grade row.grade) (row.grade == other.grade && nat_lt row.object other.object) e) [
      | inl l ↦ let m : other.grade < row.grade = ltb-true other.grade row.grade l in omega arith
      | inr b ↦ let m : row.grade ≡ other.grade = eqb-true row.grade other.grade (and_parts (row.grade == other.grade) (nat_lt row.object other.object) b).0 in omega arith
    ]

not_above_grade : (row other : Row) → is_above row other ≡ false → row.grade ≤ other.grade
not_above_grade row other e = ltb-false other.grade row.grade (or_parts (nat_lt other.grade row.grade) (row.grade == other.grade && nat_lt row.object other.object) e).0

-- rows of distinct objects with lawful grades, put in this order, are ranked
put_ranked : (row : Row) (rows : List Row) → IsRanked rows → row.grade ≤ top_grade → ((other : Row) → Contains rows other → row.object ≢ other.object)
    → IsRanked (put_row row rows)
put_ranked row [] r top apart = ranked_cons row [] r top apart (λ other c. absurd (contains_nil other c))
put_ranked row (first ∷ rows) r top apart =
    elim (cases_Bool (is_above row first)) [
      | inl t ↦ subst IsRanked (sym (put_here row first rows t)) (ranked_cons row (first ∷ rows) r top apart (λ other c.
          let head : first.grade ≤ row.grade = above_grade row first t in
          elim (contains_cases first rows other c) [
            | inl e ↦ subst (λ (z : Row). z.grade ≤ row.grade) e head
            | inr u ↦ let l : other.grade ≤ first.grade = ranked_head_above first rows other r u in omega arith
          ]))
      | inr f ↦ subst IsRanked (sym (put_later row first rows f)) (ranked_cons first (put_row row rows)
          (put_ranked row rows (ranked_tail first rows r) top (λ other c. apart other (contains_there first rows other c)))
          (ranked_capped (first ∷ rows) first r (contains_here first rows))
          (λ other c. elim (put_members row rows other c) [
            | inl e ↦ subst (λ (z : Row). first.object ≢ z.object) e (λ same. apart first (contains_here first rows) (sym same))
            | inr u ↦ ranked_head_apart first rows other r u
          ])
          (λ other c. elim (put_members row rows other c) [
            | inl e ↦ subst (λ (z : Row). z.grade ≤ first.grade) e (not_above_grade row first f)
            | inr u ↦ ranked_head_above first rows other r u
          ]))
    ]

pub by_grade_ranked : (rows : List Row) → AllPairs (λ (above : Row) (below : Row). above.object ≢ below.object) rows
    → All (λ (row : Row). row.grade ≤ top_grade) rows → IsRanked (by_grade rows)
by_grade_ranked [] d a = IsRanked-nil
by_grade_ranked (row ∷ rows) d a =
    put_ranked row (by_grade rows)
    (by_grade_ranked rows (λ i j e l m. d (suc i) (suc j) e (omega arith) (omega arith)) (λ k e l. a (suc k) e (omega arith)))
    (a 0 row (omega arith))
    (λ other c. let in_rows = by_grade_members rows other c in λ same. d 0 (suc in_rows.0) other (omega arith) (omega (arith, in_rows.1)) (same ∙ sym (ap (λ (z : Row). z.object) in_rows.2)))

-- the rows of objects that have these grades, and a list that is filled with them
pub graded_distinct : (G : ℕ → ℕ) (os : List ℕ) → AllPairs (λ (x : ℕ) (y : ℕ). x ≢ y) os
    → AllPairs (λ (above : Row) (below : Row). above.object ≢ below.object) (graded G os)
graded_distinct G [] d = λ i j e l m. absurd (omega arith)
graded_distinct G (o ∷ os) d =
    AllPairs-cons (λ (above : Row) (below : Row). above.object ≢ below.object) (record { object = o; grade = G o }) (graded G os)
    (all_from_members (λ (z : Row). o ≢ z.object) (graded G os) (λ z c.
    let from = contains_map_from (λ p. record { object = p; grade = G p }) os z c in
    λ same. distinct_head o os from.0 d from.1 (same ∙ sym (ap (λ (w : Row). w.object) from.2))))
    (graded_distinct G os (distinct_tail o os d))

pub graded_has : (G : ℕ → ℕ) (os : List ℕ) (o : ℕ) → Contains os o → Contains (graded G os) (record { object = o; grade = G o })
graded_has G os o c = contains_map (λ p. record { object = p; grade = G p }) os o c

graded_row : (G : ℕ → ℕ) (os : List ℕ) (row : Row) → Contains (graded G os) row → Contains os row.object × (row.grade ≡ G row.object)
graded_row G os row c =
    let from = contains_map_from (λ p. record { object = p; grade = G p }) os row c in
    (subst (λ o. Contains os o) (ap (λ (z : Row). z.object) from.2) from.1, sym (ap (λ (z : Row). z.grade) from.2) ∙ ap G (ap (λ (z : Row). z.object) from.2))

pub filter_has : (p : ℕ → Bool) (xs : List ℕ) (x : ℕ) → Contains xs x → p x ≡ true → Contains (filter p xs) x
filter_has p [] x c e = c
filter_has p (y ∷ xs) x c e =
    elim (cases_Bool (p y)) [
      | inl t ↦ subst (λ z. Contains z x) (sym (cond-true (p y) (y ∷ filter p xs) (filter p xs) t)) (elim (contains_cases y xs x c) [
        | inl same ↦ subst (λ z. Contains (y ∷ filter p xs) z) same (contains_here y (filter p xs))
        | inr u ↦ contains_there y (filter p xs) x (filter_has p xs x u e)
      ])
      | inr f ↦ subst (λ z. Contains z x) (sym (cond-false (p y) (y ∷ filter p xs) (filter p xs) f)) (elim (contains_cases y xs x c) [
        | inl same ↦ absurd (true≢false (sym e ∙ ap p (sym same) ∙ f))
        | inr u ↦ filter_has p xs x u e
      ])
    ]

pub filter_from : (p : ℕ → Bool) (xs : List ℕ) (x : ℕ) → Contains (filter p xs) x → Contains xs x × (p x ≡ true)
filter_from p [] x c = absurd (contains_nil x c)
filter_from p (y ∷ xs) x c =
    elim (cases_Bool (p y)) [
      | inl t ↦ elim (contains_cases y (filter p xs) x (subst (λ z. Contains z x) (cond-true (p y) (y ∷ filter p xs) (filter p xs) t) c)) [
        | inl same ↦ (subst (λ z. Contains (y ∷ xs) z) same (contains_here y xs), ap p (sym same) ∙ t)
        | inr u ↦ let r = filter_from p xs x u in (contains_there y xs x r.0, r.1)
      ]
      | inr f ↦ let r = filter_from p xs x (subst (λ z. Contains z x) (cond-false (p y) (y ∷ filter p xs) (filter p xs) f) c) in (contains_there y xs x r.0, r.1)
    ]

unread_from : (read : List Row) (O : List ℕ) (o : ℕ) → Contains (unread read O) o → Contains O o × (¬ Contains (objects read) o)
unread_from read O o c =
    let r = filter_from (λ p. not (has p (objects read))) O o c in
    (r.0, has_not o (objects read) (not-true (has o (objects read)) r.1))

unread_has : (read : List Row) (O : List ℕ) (o : ℕ) → Contains O o → (¬ Contains (objects read) o) → Contains (unread read O) o
unread_has read O o c n = filter_has (λ p. not (has p (objects read))) O o c (ap not (not_has o (objects read) n))

-- the filled list has the rows that it is made for
pub filled_other : (G : ℕ → ℕ) (O : List ℕ) (read : List Row) (o : ℕ) → Contains O o → (¬ Contains (objects read) o)
    → Contains (filled G O read) (record { object = o; grade = G o })
filled_other G O read o c n =
    Contains-append_right read (by_grade (graded G (unread read O))) _ (by_grade_has (graded G (unread read O)) _ (graded_has G (unread read O) o (unread_has read O o c n)))

pub filled_read : (G : ℕ → ℕ) (O : List ℕ) (read : List Row) (row : Row) → Contains read row → Contains (filled G O read) row
filled_read G O read row c = Contains-append_left read (by_grade (graded G (unread read O))) row c

rest_row : (G : ℕ → ℕ) (O : List ℕ) (read : List Row) (row : Row) → Contains (by_grade (graded G (unread read O))) row
    → Contains O row.object × (¬ Contains (objects read) row.object) × (row.grade ≡ G row.object)
rest_row G O read row c =
    let g = graded_row G (unread read O) row (by_grade_members (graded G (unread read O)) row c) in
    let u = unread_from read O row.object g.0 in
    (u.0, u.1, g.1)

-- it is ranked, where the rows were and the other grades are no greater than the last of them
pub filled_ranked : (G : ℕ → ℕ) (O : List ℕ) (read : List Row) → AllPairs (λ (x : ℕ) (y : ℕ). x ≢ y) O → IsRanked read
    → ((o : ℕ) → (¬ Contains (objects read) o) → G o ≤ last_grade top_grade read) → IsRanked (filled G O read)
filled_ranked G O read d r low =
    ranked_append read (by_grade (graded G (unread read O))) r
    (by_grade_ranked (graded G (unread read O))
    (graded_distinct G (unread read O) (AllPairs-filter (λ (x : ℕ) (y : ℕ). x ≢ y) (λ o. not (has o (objects read))) O d))
    (all_from_members (λ (row : Row). row.grade ≤ top_grade) (graded G (unread read O)) (λ row c.
    let g = graded_row G (unread read O) row c in
    let l : G row.object ≤ last_grade top_grade read = low row.object (unread_from read O row.object g.0).1 in
    let t : last_grade top_grade read ≤ top_grade = last_below_top read r in
    let e : row.grade ≡ G row.object = g.1 in
    omega arith)))
    (λ row other c o. let h = rest_row G O read other o in λ e. h.1 (subst (λ z. Contains (objects read) z) e (object_of_row read row c)))
    (λ row other c o.
    let h = rest_row G O read other o in
    let l : G other.object ≤ last_grade top_grade read = low other.object h.1 in
    let t : last_grade top_grade read ≤ row.grade = last_is_least top_grade read row r c in
    let e : other.grade ≡ G other.object = h.2 in
    omega arith)

-- its objects are those of O, and so it has as many rows
pub filled_objects : (G : ℕ → ℕ) (O : List ℕ) (read : List Row) (o : ℕ) → ((p : ℕ) → Contains (objects read) p → Contains O p)
    → Contains (objects (filled G O read)) o → Contains O o
filled_objects G O read o within c =
    let from = contains_map_from (λ (z : Row). z.object) (filled G O read) o c in
    subst (λ p. Contains O p) from.2
    (elim (Contains-append_cases read (by_grade (graded G (unread read O))) from.0 from.1) [
      | inl t ↦ within from.0.object (object_of_row read from.0 t)
      | inr t ↦ (rest_row G O read from.0 t).0
    ])

pub filled_has_objects : (G : ℕ → ℕ) (O : List ℕ) (read : List Row) (o : ℕ) → Contains O o → Contains (objects (filled G O read)) o
filled_has_objects G O read o c =
    elim (cases_Bool (has o (objects read))) [
      | inl t ↦ let from = contains_map_from (λ (z : Row). z.object) read o (has_contains o (objects read) t) in
          subst (λ p. Contains (objects (filled G O read)) p) from.2 (object_of_row (filled G O read) from.0 (filled_read G O read from.0 from.1))
      | inr f ↦ object_of_row (filled G O read) (record { object = o; grade = G o }) (filled_other G O read o c (has_not o (objects read) f))
    ]

pub filled_length : (G : ℕ → ℕ) (O : List ℕ) (read : List Row) → AllPairs (λ (x : ℕ) (y : ℕ). x ≢ y) O → IsRanked (filled G O read)
    → ((p : ℕ) → Contains (objects read) p → Contains O p) → length (filled G O read) ≡ length O
filled_length G O read d r within =
    let e : length (objects (filled G O read)) ≡ length (filled G O read) = length-map (filled G O read) (λ (z : Row). z.object) in
    let most : length (objects (filled G O read)) ≤ length O = distinct_fits (objects (filled G O read)) O (objects_distinct (filled G O read) r) (λ o c. filled_objects G O read o within c) in
    let least : length O ≤ length (objects (filled G O read)) = distinct_fits O (objects (filled G O read)) d (λ o c. filled_has_objects G O read o c) in
    omega arith

-- the rows that were looked up are in it, where G has their grades
pub filled_looked : (G : ℕ → ℕ) (O : List ℕ) (read looked : List Row) (row : Row) → AreCoherent read looked → Contains looked row → Contains O row.object
    → ((¬ Contains (objects read) row.object) → G row.object ≡ row.grade) → Contains (filled G O read) row
filled_looked G O read looked row h c o known =
    elim (cases_Bool (has row.object (objects read))) [
      | inl t ↦ let from = contains_map_from (λ (z : Row). z.object) read row.object (has_contains row.object (objects read) t) in
          let same : row.grade ≡ from.0.grade = h.same_read row from.0 c from.1 (sym from.2) in
          subst (λ z. Contains (filled G O read) z) (row_is from.0 row.object row.grade from.2 (sym same)) (filled_read G O read from.0 from.1)
      | inr f ↦ let n = has_not row.object (objects read) f in
          subst (λ g. Contains (filled G O read) (record { object = row.object; grade = g })) (known n) (filled_other G O read row.object o n)
    ]
