-- What a reading is whatever the table, after a row, after a grade and after what follows.
use Rattle.std.proofs.Common.{◌≡◌, ◌≢◌, ℕ, zero, suc, ◌+◌, ◌-◌, ◌<◌, ◌≤◌, inl, inr, Bool, true, false, cond, ◌==◌, List, [], ◌∷◌, ◌++◌, length, take, drop, Contains, slice_index, refl, sym, ap, subst, ◌∙◌, arith, append_assoc, append-nil, length-append, length-drop, eq-eqb}
use Rattle.std.proofs.lemmas.Bool.{cases_Bool, cases_lt, cases_eq, ne_eqb, true≢false}
use Rattle.std.proofs.lemmas.List.{take-append-drop}
use Rattle.std.proofs.lemmas.List.Elements.{Contains-append_right, Contains-push, Contains-push_cases, All-push, All-append, All-drop, All-nil, All-cons, All-head, All-tail}
use Rattle.ranked_list.specs.declared.row.Row.{Row}
use Rattle.ranked_list.specs.declared.item.Item.{Item}
use Rattle.monotone_fn.specs.Limits.{AreGrades}
use Rattle.topk_theory.specs.declared.access.Access.{Access}
use Rattle.topk_theory.specs.declared.access.Access.TheVariants.{Sorted, Random}
use Rattle.topk_theory.specs.Transcript.{seen_objects}
use Rattle.topk_theory.proofs.AgreementLists.{contains_nil, contains_here, contains_there, all_from_members, member_of_all}
use Rattle.topk_theory.proofs.Agreement.{seen_objects_old, seen_objects_new, seen_objects_random}
use Rattle.topk_theory.proofs.ThresholdRun.{seen_from_access, seen_more}
use Rattle.machine_base.specs.Base.{TellsNew}
use Rattle.machine_base.specs.Board.{with_new}
use Rattle.ta_core.specs.Halting.{Halt}
use Rattle.ta_core.specs.Reading.{RowProgress, grades_in_row, filled, filled_first, first_or_zero, row_added, grade_added, moved, enough, followed}
use Rattle.ta_core.specs.Kept.{IsSound, IsAtRest}
use Rattle.ta_core.proofs.Fills.{length-grades_in_row, grades_in_row_end}
use Rattle.ta_core.proofs.Steps.{settled_not, settled_scored, moved_on, moved_down}

-- the grades that a row has are some of its own
capped_in_row : (object : ℕ) (os bs : List ℕ) → AreGrades bs → AreGrades (grades_in_row object os bs)
capped_in_row object [] bs h = All-nil (λ g. g ≤ 1000000)
capped_in_row object (other ∷ os) [] h = All-nil (λ g. g ≤ 1000000)
capped_in_row object (other ∷ os) (bottom ∷ bs) h =
    elim (cases_Bool (other == object)) [
      | inl t ↦ subst AreGrades (sym (ap (λ b. cond b (bottom ∷ grades_in_row object os bs) []) t))
          (All-cons (λ g. g ≤ 1000000) bottom (grades_in_row object os bs) (All-head (λ g. g ≤ 1000000) bottom bs h) (capped_in_row object os bs (All-tail (λ g. g ≤ 1000000) bottom bs h)))
      | inr f ↦ subst AreGrades (sym (ap (λ b. cond b (bottom ∷ grades_in_row object os bs) []) f)) (All-nil (λ g. g ≤ 1000000))
    ]

capped_filled : (os bs : List ℕ) (object : ℕ) (g : List ℕ) → AreGrades bs → AreGrades g → AreGrades (filled os bs object g)
capped_filled os bs object g b h = All-append (λ x. x ≤ 1000000) g (grades_in_row object (drop (length g) os) (drop (length g) bs)) h (capped_in_row object (drop (length g) os) (drop (length g) bs) (All-drop (λ x. x ≤ 1000000) (length g) bs b))

capped_first : (os bs ws : List ℕ) → AreGrades bs → AreGrades (filled_first os bs ws)
capped_first os bs [] b = All-nil (λ x. x ≤ 1000000)
capped_first os bs (object ∷ ws) b = capped_filled os bs object [] b (All-nil (λ x. x ≤ 1000000))

length-with_new : (ws : List ℕ) (object : ℕ) (is_new : Bool) → length (with_new ws object is_new) ≤ suc (length ws)
length-with_new ws object true = omega (arith, length-append ws (object ∷ []))
length-with_new ws object false = omega arith

-- an object that waits behind the first isn't the row's first
later_still : (os ws : List ℕ) (object : ℕ) (is_new : Bool) → length ws ≤ length os → ((x : ℕ) → Contains (drop 1 ws) x → slice_index os 0 ≢ x)
    → (is_new ≡ true → ¬ Contains os object) → (x : ℕ) → Contains (drop 1 (with_new ws object is_new)) x → slice_index (os ++ object ∷ []) 0 ≢ x
later_still [] [] object true few later fresh x h = absurd (contains_nil x h)
later_still [] [] object false few later fresh x h = absurd (contains_nil x h)
later_still [] (w ∷ ws) object is_new few later fresh x h = absurd (omega arith)
later_still (o ∷ os) [] object true few later fresh x h = absurd (contains_nil x h)
later_still (o ∷ os) [] object false few later fresh x h = absurd (contains_nil x h)
later_still (o ∷ os) (w ∷ ws) object true few later fresh x h =
    elim (Contains-push_cases ws object x h) [
      | inl before ↦ later x before
      | inr e ↦ λ same. fresh refl (subst (λ z. Contains (o ∷ os) z) (same ∙ sym e) (contains_here o os))
    ]
later_still (o ∷ os) (w ∷ ws) object false few later fresh x h = later x h

-- what waits was seen
pub waiting_seen : (m : ℕ) (A : List Access) (r : RowProgress) (object : ℕ) → IsSound m A r → Contains r.waiting object → Contains (seen_objects A) object
waiting_seen m A r object s h = subst (λ os. Contains os object) (sym s.waiting_last.1) (Contains-append_right s.waiting_last.0 r.waiting object h)

-- a new object is the last of the seen ones, and of those that wait
last_after_row : (A : List Access) (list : ℕ) (before ws : List ℕ) (object grade : ℕ) (is_new : Bool) → TellsNew A object is_new → seen_objects A ≡ before ++ ws
    → seen_objects (A ++ Sorted list object grade ∷ []) ≡ before ++ with_new ws object is_new
last_after_row A list before ws object grade true new e =
    seen_objects_new A list object grade (new.unseen refl) ∙ ap (λ os. os ++ object ∷ []) e ∙ append_assoc before ws (object ∷ [])
last_after_row A list before ws object grade false new e = seen_objects_old A list object grade (new.seen refl) ∙ e

-- after one more row
pub sound_row : (m : ℕ) (A : List Access) (r : RowProgress) (row : Row) (is_new : Bool) → IsSound m A r → length r.objects < m → length r.grades ≡ 0
    → row.grade ≤ 1000000 → TellsNew A row.object is_new → IsSound m (A ++ Sorted (length r.objects) row.object row.grade ∷ []) (row_added m r row is_new)
sound_row m A r row is_new s short none capped new =
    let a : Access = Sorted (length r.objects) row.object row.grade in
    let seen : Contains (seen_objects (A ++ a ∷ [])) row.object = seen_from_access (A ++ a ∷ []) (length r.objects) row.object row.grade (Contains-push A a) in
    let more : (x : ℕ) → Contains (seen_objects A) x → Contains (seen_objects (A ++ a ∷ [])) x = λ x h. seen_more A (a ∷ []) x h in
    let os : List ℕ = r.objects ++ row.object ∷ [] in
    let bs : List ℕ = r.bottoms ++ row.grade ∷ [] in
    let ws : List ℕ = with_new r.waiting row.object is_new in
    let os_long : length os ≡ length r.objects + 1 = length-append r.objects (row.object ∷ []) in
    let bs_long : length bs ≡ length r.bottoms + 1 = length-append r.bottoms (row.grade ∷ []) in
    let bs_capped : AreGrades bs = All-push (λ g. g ≤ 1000000) r.bottoms row.grade s.bottoms_capped capped in
    record {
      waiting_last = (s.waiting_last.0, last_after_row A (length r.objects) s.waiting_last.0 r.waiting row.object row.grade is_new new s.waiting_last.1);
      objects_seen = all_from_members (Contains (seen_objects (A ++ a ∷ []))) os (λ x h. elim (Contains-push_cases r.objects row.object x h) [
        | inl before ↦ more x (member_of_all (Contains (seen_objects A)) r.objects x s.objects_seen before)
        | inr here ↦ subst (λ z. Contains (seen_objects (A ++ a ∷ [])) z) here seen
      ]);
      same_length = omega (arith, os_long, bs_long, s.same_length);
      within = omega (arith, os_long);
      few = omega (arith, os_long, s.few, length-with_new r.waiting row.object is_new);
      bottoms_capped = bs_capped;
      grades_capped = elim (cases_Bool (length os == m)) [
        | inl t ↦ subst AreGrades (sym (ap (λ b. cond b (filled_first os bs ws) []) t)) (capped_first os bs ws bs_capped)
        | inr f ↦ subst AreGrades (sym (ap (λ b. cond b (filled_first os bs ws) []) f)) (All-nil (λ g. g ≤ 1000000))
      ];
      later = later_still r.objects r.waiting row.object is_new s.few s.later (λ e c. new.unseen e (member_of_all (Contains (seen_objects A)) r.objects row.object s.objects_seen c));
    }

-- after one more grade
pub sound_grade : (m : ℕ) (A : List Access) (r : RowProgress) (grade : ℕ) → IsSound m A r → 0 < length r.waiting → grade ≤ 1000000
    → IsSound m (A ++ Random (length r.grades) (first_or_zero r.waiting) grade ∷ []) (grade_added r grade)
sound_grade m A r grade s waits capped =
    let a : Access = Random (length r.grades) (first_or_zero r.waiting) grade in
    let more : (x : ℕ) → Contains (seen_objects A) x → Contains (seen_objects (A ++ a ∷ [])) x = λ x h. seen_more A (a ∷ []) x h in
    record {
      waiting_last = (s.waiting_last.0, seen_objects_random A (length r.grades) (first_or_zero r.waiting) grade ∙ s.waiting_last.1);
      objects_seen = all_from_members (Contains (seen_objects (A ++ a ∷ []))) r.objects (λ x h. more x (member_of_all (Contains (seen_objects A)) r.objects x s.objects_seen h));
      same_length = s.same_length;
      within = s.within;
      few = s.few;
      bottoms_capped = s.bottoms_capped;
      grades_capped = capped_filled r.objects r.bottoms (first_or_zero r.waiting) (r.grades ++ grade ∷ []) s.bottoms_capped (All-push (λ g. g ≤ 1000000) r.grades grade s.grades_capped capped);
      later = s.later;
    }

-- once an access is told, before what follows
pub record IsFed (m : ℕ) (r : RowProgress) : Type 0 where
  pub in_row : length r.objects < m → length r.grades ≡ 0
  pub enough_waits : length r.grades ≡ m → 0 < length r.waiting
  pub within : length r.grades ≤ m
  pub after_row : m ≤ length r.objects → 0 < length r.waiting → length r.grades < m → slice_index r.objects (length r.grades) ≢ first_or_zero r.waiting

pub fed_row : (m : ℕ) (r : RowProgress) (row : Row) (is_new : Bool) → 1 ≤ m → length r.objects < m → length r.bottoms ≡ length r.objects
    → IsFed m (row_added m r row is_new)
fed_row m r row is_new positive short same =
    let os : List ℕ = r.objects ++ row.object ∷ [] in
    let bs : List ℕ = r.bottoms ++ row.grade ∷ [] in
    let ws : List ℕ = with_new r.waiting row.object is_new in
    let os_long : length os ≡ length r.objects + 1 = length-append r.objects (row.object ∷ []) in
    let bs_long : length bs ≡ length r.bottoms + 1 = length-append r.bottoms (row.grade ∷ []) in
    elim (cases_eq (length os) m) [
      | inl e ↦
          let g : (row_added m r row is_new).grades ≡ filled_first os bs ws = ap (λ b. cond b (filled_first os bs ws) []) (eq-eqb (length os) m e) in
          let first = first_fed os bs ws (omega arith) in
          record {
            in_row = λ l. absurd (omega arith);
            enough_waits = λ h. first.0 (omega (arith, ap length g)) (omega arith);
            within = omega (arith, ap length g, first.1);
            after_row = λ l w h. subst (λ gs. slice_index os (length gs) ≢ first_or_zero ws) (sym g) (first.2 w (omega (arith, ap length g)));
          }
      | inr n ↦
          let g : (row_added m r row is_new).grades ≡ [] = ap (λ b. cond b (filled_first os bs ws) []) (ne_eqb (length os) m n) in
          record {
            in_row = λ l. ap length g;
            enough_waits = λ h. absurd (omega (arith, ap length g));
            within = omega (arith, ap length g);
            after_row = λ l w h. absurd (at_most os_long n l);
          }
    ]
  where
    at_most : length (r.objects ++ row.object ∷ []) ≡ length r.objects + 1 → (length (r.objects ++ row.object ∷ []) ≡ m → ⊥)
        → m ≤ length (r.objects ++ row.object ∷ []) → ⊥
    at_most long n l = n (omega arith)

    first_fed : (os bs ws : List ℕ) → length bs ≡ length os
        → (length (filled_first os bs ws) ≡ length os → 0 < length os → 0 < length ws) × (length (filled_first os bs ws) ≤ length os) × (0 < length ws
        → length (filled_first os bs ws) < length os → slice_index os (length (filled_first os bs ws)) ≢ first_or_zero ws)
    first_fed os bs [] e = ((λ a b. absurd (omega arith)), omega arith, (λ w. absurd (omega arith)))
    first_fed os bs (object ∷ ws) e = ((λ a b. omega arith), length-grades_in_row object os bs, (λ w h. grades_in_row_end object os bs e h))

pub fed_grade : (m : ℕ) (r : RowProgress) (grade : ℕ) → length r.objects ≡ m → length r.bottoms ≡ length r.objects → 0 < length r.waiting → length r.grades < m
    → IsFed m (grade_added r grade)
fed_grade m r grade whole same waits short =
    let object : ℕ = first_or_zero r.waiting in
    let g : List ℕ = r.grades ++ grade ∷ [] in
    let c : ℕ = length g in
    let os : List ℕ = drop c r.objects in
    let bs : List ℕ = drop c r.bottoms in
    let e : List ℕ = grades_in_row object os bs in
    let count : c ≡ length r.grades + 1 = length-append r.grades (grade ∷ []) in
    let long : length (g ++ e) ≡ c + length e = length-append g e in
    let os_long : length os ≡ length r.objects - c = length-drop c r.objects in
    let bs_long : length bs ≡ length r.bottoms - c = length-drop c r.bottoms in
    let fits : length e ≤ length os = length-grades_in_row object os bs in
    record {
      in_row = λ l. absurd (omega arith);
      enough_waits = λ _. waits;
      within = omega arith;
      after_row = λ l w h. λ is. grades_in_row_end object os bs (omega arith) (omega arith) (dropped c r.objects (length e) ∙ ap (slice_index r.objects) (sym long) ∙ is);
    }
  where
    dropped : (c : ℕ) (xs : List ℕ) (i : ℕ) → slice_index (drop c xs) i ≡ slice_index xs (c + i)
    dropped zero xs i = let e : i ≡ 0 + i = omega arith in ap (slice_index xs) e
    dropped (suc c) [] i = past (suc c + i) i
      where
        past : (j i : ℕ) → slice_index [] i ≡ slice_index [] j
        past j i = refl
    dropped (suc c) (x ∷ xs) i = let e : suc (c + i) ≡ suc c + i = omega arith in dropped c xs i ∙ ap (slice_index (x ∷ xs)) e

-- what follows
drop_once : (ws : List ℕ) (x : ℕ) → Contains (drop 1 (drop 1 ws)) x → Contains (drop 1 ws) x
drop_once [] x h = absurd (contains_nil x h)
drop_once (w ∷ []) x h = absurd (contains_nil x h)
drop_once (w ∷ v ∷ ws) x h = contains_there v ws x h

first_later : (ws : List ℕ) → 0 < length (drop 1 ws) → Contains (drop 1 ws) (first_or_zero (drop 1 ws))
first_later [] l = absurd (omega arith)
first_later (w ∷ []) l = absurd (omega arith)
first_later (w ∷ v ∷ ws) l = contains_here v ws

-- once the first of them waits no more
one_less : (before ws : List ℕ) → before ++ ws ≡ (before ++ take 1 ws) ++ drop 1 ws
one_less before ws = ap (λ os. before ++ os) (sym (take-append-drop 1 ws)) ∙ sym (append_assoc before (take 1 ws) (drop 1 ws))

sound_moved : (m : ℕ) (A : List Access) (stops : Bool) (r : RowProgress) → IsSound m A r → 1 ≤ m → r.done ≡ false → (length r.objects < m → length r.grades ≡ 0)
    → (m ≤ length r.objects → 0 < length r.waiting → (length r.grades < m) × (slice_index r.objects (length r.grades) ≢ first_or_zero r.waiting))
    → IsSound m A (moved m stops r) × IsAtRest m (moved m stops r)
sound_moved m A stops r s positive open' in_row after_row =
    elim (cases_eq (length r.objects) m) [
      | inr n ↦
          let same : moved m stops r ≡ r = moved_on m stops r (inl n) in
          subst (λ z. IsSound m A z × IsAtRest m z) (sym same) (s, record { in_row = in_row; after_row = λ o l. absurd (not_past s.within n l) })
      | inl e ↦ elim (cases_eq (length r.waiting) 0) [
        | inr w ↦
            let same : moved m stops r ≡ r = moved_on m stops r (inr (above (length r.waiting) w)) in
            subst (λ z. IsSound m A z × IsAtRest m z) (sym same) (s, record { in_row = in_row; after_row = λ o l. let h = after_row l (above (length r.waiting) w) in (above (length r.waiting) w, h.0, h.1) })
        | inl w ↦ down stops e w
      ]
    ]
  where
    above : (p : ℕ) → (p ≡ 0 → ⊥) → 0 < p
    above zero n = absurd (n refl)
    above (suc p) n = omega arith

    not_past : length r.objects ≤ m → (length r.objects ≡ m → ⊥) → m ≤ length r.objects → ⊥
    not_past l n g = n (omega arith)

    down : (b : Bool) → length r.objects ≡ m → length r.waiting ≡ 0 → IsSound m A (moved m b r) × IsAtRest m (moved m b r)
    down true e w =
        subst (λ z. IsSound m A z × IsAtRest m z) (sym (moved_down m true r e w)) (
          record { waiting_last = s.waiting_last; objects_seen = s.objects_seen; same_length = s.same_length; within = s.within; few = s.few; bottoms_capped = s.bottoms_capped; grades_capped = s.grades_capped; later = s.later },
          record { in_row = λ l. absurd (omega arith); after_row = λ o. absurd (true≢false o) },
        )
    down false e w =
        subst (λ z. IsSound m A z × IsAtRest m z) (sym (moved_down m false r e w)) (
          record {
            waiting_last = (seen_objects A, sym (append-nil (seen_objects A)));
            objects_seen = All-nil (Contains (seen_objects A));
            same_length = refl;
            within = omega arith;
            few = omega arith;
            bottoms_capped = All-nil (λ g. g ≤ 1000000);
            grades_capped = All-nil (λ g. g ≤ 1000000);
            later = λ x h. absurd (contains_nil x h);
          },
          record { in_row = λ l. refl; after_row = λ o l. absurd (omega arith) },
        )

pub sound_followed : (V : List ℕ → ℕ) (halt : Halt) (m : ℕ) (A : List Access) (items : List Item) (r : RowProgress) → 1 ≤ m → r.done ≡ false → IsSound m A r → IsFed m r
    → IsSound m A (followed V halt m items r) × IsAtRest m (followed V halt m items r)
sound_followed V halt m A items r positive open' s fed =
    let stops : Bool = enough halt r.depth (V r.bottoms) items in
    elim (cases_eq (length r.grades) m) [
      | inr n ↦
          subst (λ z. IsSound m A (moved m stops z) × IsAtRest m (moved m stops z)) (sym (settled_not m r n))
          (sound_moved m A stops r s positive open' fed.in_row (λ l w. let short = under fed.within n in (short, fed.after_row l w short)))
      | inl e ↦
          let t : RowProgress = record r { waiting = drop 1 r.waiting; grades = [] } in
          let whole : m ≤ length r.objects = out_of_row fed.in_row e in
          let sound : IsSound m A t = record {
            waiting_last = (s.waiting_last.0 ++ take 1 r.waiting, s.waiting_last.1 ∙ one_less s.waiting_last.0 r.waiting);
            objects_seen = s.objects_seen;
            same_length = s.same_length;
            within = s.within;
            few = omega (arith, length-drop 1 r.waiting, s.few);
            bottoms_capped = s.bottoms_capped;
            grades_capped = All-nil (λ g. g ≤ 1000000);
            later = λ x h. s.later x (drop_once r.waiting x h);
          } in
          subst (λ z. IsSound m A (moved m stops z) × IsAtRest m (moved m stops z)) (sym (settled_scored m r e))
          (sound_moved m A stops t sound positive open' (λ l. refl) (λ l w. (omega arith, s.later (first_or_zero (drop 1 r.waiting)) (first_later r.waiting w))))
    ]
  where
    under : length r.grades ≤ m → (length r.grades ≡ m → ⊥) → length r.grades < m
    under l n = elim (cases_lt (length r.grades) m) [ inl lt ↦ lt | inr ge ↦ absurd (n (omega arith)) ]

    out_of_row : (length r.objects < m → length r.grades ≡ 0) → length r.grades ≡ m → m ≤ length r.objects
    out_of_row h e = elim (cases_lt (length r.objects) m) [ inl lt ↦ let z : length r.grades ≡ 0 = h lt in absurd (omega arith) | inr ge ↦ ge ]
