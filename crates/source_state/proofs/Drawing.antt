-- What is drawn from sound logs is consistent.
use Rattle.std.proofs.Common.{◌≡◌, ◌<◌, ◌≤◌, ◌⊎◌, inl, inr, ℕ, zero, suc, Some, List, [], ◌∷◌, ◌++◌, length, map, drop, slice_index_or, All, Contains, refl, sym, ap, subst, ◌∙◌, arith, le_refl}
use Rattle.std.proofs.lemmas.List.Elements.{All-contains, All-head, All-tail, Contains-append_left, Contains-append_cases}
use Rattle.ranked_list.specs.declared.row.Row.{Row}
use Rattle.ranked_list.specs.Table.{IsRanked, objects, top_grade}
use Rattle.ranked_list.proofs.OptionLaws.{option_cases}
use Rattle.ranked_list.proofs.RankLaws.{IsRanked-nil}
use Rattle.topk_theory.specs.declared.access.Access.{Access}
use Rattle.topk_theory.specs.declared.access.Access.TheVariants.{Sorted, Random}
use Rattle.topk_theory.specs.Transcript.{Begins, IsDrawn, Gives, list_of, list_at, last_grade, sorted_rows, random_rows, named_objects}
use Rattle.topk_theory.specs.Bounds.{grade_among}
use Rattle.topk_theory.specs.Consistent.{SomeAgrees, Kind, IsOfKind}
use Rattle.topk_theory.specs.Consistent.{no_such_list, above_top, too_many_objects, rises, repeats, clashes, falls_short, above_bottom}
use Rattle.topk_theory.proofs.AgreementLists.{contains_nil, contains_here, contains_there, member_of_all, begins_splits}
use Rattle.topk_theory.proofs.AgreementRows.{grade_among_row, grade_among_none, grade_in_row, object_of_row}
use Rattle.topk_theory.proofs.Agreement.{drawn_push}
use Rattle.topk_theory.proofs.ConsistentRows.{AreCoherent, ranked_front, ranked_capped, behind_below_last}
use Rattle.topk_theory.proofs.ConsistentTable.{IsCoherent}
use Rattle.topk_theory.proofs.Consistent.{coherent_free, coherent_agrees}
use Rattle.source_state.specs.declared.entry.LogEntry.{LogEntry}
use Rattle.source_state.specs.declared.entry.Settling.TheVariants.{Graded}
use Rattle.source_state.specs.Log.{rows_in, settling_in, graded_in}
use Rattle.source_state.specs.State.{GoesWith, IsSoundLog}
use Rattle.source_state.specs.Drawing.{told_by, IsSomeSound}
use Rattle.source_state.proofs.LogLaws.{graded_settling}

-- a row of ranked rows has the grade that they give its object
row_grade : (rows : List Row) (row : Row) → IsRanked rows → Contains rows row → grade_among rows row.object ≡ Some row.grade
row_grade rows row r c =
    elim (option_cases (grade_among rows row.object)) [
      | inl none ↦ absurd (grade_among_none rows row.object none (object_of_row rows row c))
      | inr some ↦
          let there = grade_among_row rows row.object some.0 some.1 in
          let same : some.0 ≡ row.grade = sym (grade_in_row rows row.object some.0 r there) ∙ grade_in_row rows row.object row.grade r c in
          some.1 ∙ ap (λ g. Some g) same
    ]

-- what is no greater than each of the rows, nor than what is above them, is no greater than their last grade
low_last : (grade above : ℕ) (rows : List Row) → grade ≤ above → ((row : Row) → Contains rows row → grade ≤ row.grade) → grade ≤ last_grade above rows
low_last grade above [] low each = low
low_last grade above (row ∷ rows) low each = low_last grade row.grade rows (each row (contains_here row rows)) (λ other c. each other (contains_there row rows other c))

-- known rows of one object have one grade
one_grade : (count : ℕ) (asks : List ℕ) (log : List LogEntry) (row other : Row) → IsSoundLog count asks log → Contains (rows_in log ++ graded_in log) row
    → Contains (rows_in log ++ graded_in log) other → row.object ≡ other.object → row.grade ≡ other.grade
one_grade count asks log row other h c d same =
    elim (Contains-append_cases (rows_in log) (graded_in log) row c) [
      | inl one ↦ elim (Contains-append_cases (rows_in log) (graded_in log) other d) [
        | inl two ↦ given (sym (row_grade (rows_in log) row h.ranked one) ∙ ap (grade_among (rows_in log)) same ∙ row_grade (rows_in log) other h.ranked two)
        | inr two ↦ (goes other two).same row.grade (ap (grade_among (rows_in log)) (sym same) ∙ row_grade (rows_in log) row h.ranked one)
      ]
      | inr one ↦ elim (Contains-append_cases (rows_in log) (graded_in log) other d) [
        | inl two ↦ sym ((goes row one).same other.grade (ap (grade_among (rows_in log)) same ∙ row_grade (rows_in log) other h.ranked two))
        | inr two ↦ settled (sym (graded_settling log row h.once one) ∙ ap (settling_in log) same ∙ graded_settling log other h.once two)
      ]
    ]
  where
    goes : (graded : Row) → Contains (graded_in log) graded → GoesWith (rows_in log) graded
    goes graded k = All-contains (GoesWith (rows_in log)) (graded_in log) graded h.good k

    given : {a b : ℕ} → Some a ≡ Some b → a ≡ b
    given e = cc

    settled : {a b : ℕ} → Some (Graded a) ≡ Some (Graded b) → a ≡ b
    settled e = cc

-- what was read and looked up of a sound log is coherent
log_coherent : (count : ℕ) (asks : List ℕ) (log : List LogEntry) (read looked : List Row) → IsSoundLog count asks log → Begins read (rows_in log)
    → All (Contains (rows_in log ++ graded_in log)) looked → AreCoherent read looked
log_coherent count asks log read looked h begins within = record {
  ranked = ranked_front read rest (subst IsRanked split h.ranked);
  capped = λ row c. elim (Contains-append_cases (rows_in log) (graded_in log) row (known row c)) [
    | inl one ↦ ranked_capped (rows_in log) row h.ranked one
    | inr one ↦ (goes row one).capped
  ];
  same_read = λ row other c d e. one_grade count asks log row other h (known row c) (Contains-append_left (rows_in log) (graded_in log) other (in_rows other d)) e;
  same_looked = λ row other c d e. one_grade count asks log row other h (known row c) (known other d) e;
  below = λ row c n. elim (Contains-append_cases (rows_in log) (graded_in log) row (known row c)) [
    | inl one ↦ behind row one n
    | inr one ↦ elim (option_cases (grade_among (rows_in log) row.object)) [
      | inl none ↦ low_last row.grade top_grade read (goes row one).capped
          (λ other d. All-contains (λ (z : Row). row.grade ≤ z.grade) (rows_in log) other ((goes row one).below none) (in_rows other d))
      | inr some ↦
          let same : some.0 ≡ row.grade = (goes row one).same some.0 some.1 in
          subst (λ g. g ≤ last_grade top_grade read) same (behind (record { object = row.object; grade = some.0 }) (grade_among_row (rows_in log) row.object some.0 some.1) n)
    ]
  ];
}
  where
    rest : List Row
    rest = drop (length read) (rows_in log)

    split : rows_in log ≡ read ++ drop (length read) (rows_in log)
    split = begins_splits read (rows_in log) begins

    known : (row : Row) → Contains looked row → Contains (rows_in log ++ graded_in log) row
    known row c = member_of_all (Contains (rows_in log ++ graded_in log)) looked row within c

    goes : (graded : Row) → Contains (graded_in log) graded → GoesWith (rows_in log) graded
    goes graded k = All-contains (GoesWith (rows_in log)) (graded_in log) graded h.good k

    in_rows : (row : Row) → Contains read row → Contains (rows_in log) row
    in_rows row c = subst (λ rows. Contains rows row) (sym split) (Contains-append_left read (drop (length read) (rows_in log)) row c)

    behind : (row : Row) → Contains (rows_in log) row → (Contains (objects read) row.object → ⊥) → row.grade ≤ last_grade top_grade read
    behind row c n = elim (Contains-append_cases read (drop (length read) (rows_in log)) row (subst (λ rows. Contains rows row) split c)) [
      | inl t ↦ absurd (n (object_of_row read row t))
      | inr t ↦ behind_below_last read (drop (length read) (rows_in log)) row (subst IsRanked split h.ranked) t
    ]

-- the log of a list
log_at : List (List LogEntry) → ℕ → List LogEntry
log_at logs list = slice_index_or logs list []

map_at : (f : List LogEntry → List Row) → f [] ≡ [] → (logs : List (List LogEntry)) (list : ℕ) → list_at (map f logs) list ≡ f (slice_index_or logs list [])
map_at f e [] list = sym e
map_at f e (log ∷ logs) zero = refl
map_at f e (log ∷ logs) (suc list) = map_at f e logs list

none_sound : IsSomeSound []
none_sound = record {
  count = 0;
  asks = [];
  sound = record {
    ranked = IsRanked-nil;
    fits = omega arith;
    good = λ k d l. absurd (omega arith);
    once = λ i j d l m. absurd (omega arith);
    asked = λ object c. absurd (contains_nil object c);
    one_fault = omega arith;
  };
}

sound_at : (logs : List (List LogEntry)) (list : ℕ) → All IsSomeSound logs → IsSomeSound (slice_index_or logs list [])
sound_at [] list h = none_sound
sound_at (log ∷ logs) zero h = All-head IsSomeSound log logs h
sound_at (log ∷ logs) (suc list) h = sound_at logs list (All-tail IsSomeSound log logs h)

drawn_coherent : (m n : ℕ) (logs : List (List LogEntry)) (A : List Access) → All IsSomeSound logs → IsDrawn m (told_by logs) A → length (named_objects A) ≤ n
    → IsCoherent m n A
drawn_coherent m n logs A sound drawn few = record {
  in_range = drawn.in_range;
  fits = few;
  each = λ list l.
      let some = sound_at logs list sound in
      log_coherent some.count some.asks (slice_index_or logs list []) (sorted_rows list A) (random_rows list A) some.sound
      (subst (λ rows. Begins (sorted_rows list A) rows) (map_at rows_in refl logs list) (drawn.sorted list l))
      (subst (λ rows. All (Contains rows) (random_rows list A)) (map_at (λ log. rows_in log ++ graded_in log) refl logs list) (drawn.random list l));
}

pub drawn_consistent : (m n : ℕ) (logs : List (List LogEntry)) (A : List Access) → All IsSomeSound logs → IsDrawn m (told_by logs) A
    → length (named_objects A) ≤ n → SomeAgrees m n A
drawn_consistent m n logs A sound drawn few = coherent_agrees m n A (drawn_coherent m n logs A sound drawn few)

-- a kind but the one of too many objects doesn't speak of the number of objects
other_count : (m n other : ℕ) (A : List Access) (a : Access) (kind : Kind) → IsOfKind m n A a kind → (kind ≡ too_many_objects) ⊎ IsOfKind m other A a kind
other_count m n other A a no_such_list h = inr h
other_count m n other A a above_top h = inr h
other_count m n other A a too_many_objects h = inl refl
other_count m n other A (Sorted list object grade) rises h = inr h
other_count m n other A (Random list object grade) rises h = inr h
other_count m n other A (Sorted list object grade) repeats h = inr h
other_count m n other A (Random list object grade) repeats h = inr h
other_count m n other A (Sorted list object grade) clashes h = inr h
other_count m n other A (Random list object grade) clashes h = inr h
other_count m n other A (Sorted list object grade) falls_short h = inr h
other_count m n other A (Random list object grade) falls_short h = inr h
other_count m n other A (Sorted list object grade) above_bottom h = inr h
other_count m n other A (Random list object grade) above_bottom h = inr h

pub next_consistent : (m n : ℕ) (logs : List (List LogEntry)) (A : List Access) (a : Access) (kind : Kind) → All IsSomeSound logs → IsDrawn m (told_by logs) A
    → list_of a < m → Gives (told_by logs) A a → IsOfKind m n A a kind → kind ≡ too_many_objects
next_consistent m n logs A a kind sound drawn l gives of =
    let longer : IsDrawn m (told_by logs) (A ++ a ∷ []) = drawn_push m (told_by logs) A a drawn l gives in
    let count : ℕ = length (named_objects (A ++ a ∷ [])) in
    elim (other_count m n count A a kind of) [
      | inl e ↦ e
      | inr k ↦ absurd (coherent_free m count A a (drawn_coherent m count logs (A ++ a ∷ []) sound longer (le_refl _)) kind k)
    ]
