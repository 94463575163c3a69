-- What the tests of one more access decide: the first of the eight kinds that holds, or that none does.
use Rattle.std.proofs.Common.{◌≡◌, ◌≢◌, ℕ, ◌<◌, ◌≤◌, inl, inr, Bool, true, false, not, cond, ◌==◌, ◌&&◌, nat_lt, nat_le, List, [], ◌∷◌, ◌++◌, length, Contains, Option, Some, None, is_none, position, nat_eq, refl, sym, ap, subst, ◌∙◌, arith, append_assoc, ltb-true, lt-ltb, leb-true, le-leb, ne_eqb}
use Rattle.std.proofs.lemmas.Bool.{cases_Bool, cond-true, cond-false, and_parts, and_from, eqb-false, not-true, true≢false}
use Rattle.ranked_list.specs.declared.row.Row.{Row}
use Rattle.ranked_list.specs.Table.{objects, top_grade}
use Rattle.ranked_list.proofs.OptionLaws.{none_if_is_none}
use Rattle.topk_theory.specs.declared.access.Access.{Access}
use Rattle.topk_theory.specs.declared.access.Access.TheVariants.{Sorted, Random}
use Rattle.topk_theory.specs.Transcript.{Agrees, list_of, object_of, grade_of, sorted_rows, random_rows, given_rows, named_objects, bottom_of}
use Rattle.topk_theory.specs.Bounds.{known_grade}
use Rattle.topk_theory.specs.Consistent.{Kind, number_of, HasOther, HasAbove, IsOfKind, SomeAgrees}
use Rattle.topk_theory.specs.Consistent.Kind.{no_such_list, above_top, too_many_objects, rises, repeats, clashes, falls_short, above_bottom}
use Rattle.topk_theory.proofs.AgreementNames.{has_contains, contains_has, has_not, not_has}
use Rattle.topk_theory.proofs.AgreementRows.{grade_among_row, object_of_row}
use Rattle.topk_theory.proofs.Agreement.{given_from, agrees_front, known_grade_given, known_grade_kept}
use Rattle.topk_theory.proofs.ConsistentTable.{given_split, random_given}
use Rattle.access_log.specs.Tests.{differs, exceeds, first_of_sorted, first_of_random}
use Rattle.access_log.specs.FirstKind.{IsFirstOf}
use Rattle.access_log.specs.RecordsKept.{is_read, grade_ahead, IsGreatestAhead}
use Rattle.access_log.proofs.RecordKept.{not_placed, place_of_absent}

-- a test decides a fact
record Decided (b : Bool) (P : Type 0) : Type 0 where
  pub from : b ≡ true → P
  pub to : P → b ≡ true

-- a row that was given is known
some_value : {x y : ℕ} → Some x ≡ Some y → x ≡ y
some_value e = cc

none_is_some : {x : ℕ} → None ≡ Some x → ⊥
none_is_some e = cc

pub known_of_row : (m n : ℕ) (A : List Access) (list object grade : ℕ) → SomeAgrees m n A
    → Contains (given_rows list A) (record { object = object; grade = grade }) → known_grade A object list ≡ Some grade
known_of_row m n A list object grade some c =
    let from = given_from list A (record { object = object; grade = grade }) c in
    let before = from.0 in
    let a = from.1 in
    let after = from.2 in
    let split : A ≡ (before ++ a ∷ []) ++ after = from.3 ∙ sym (append_assoc before (a ∷ []) after) in
    let front = agrees_front m n some.0 (before ++ a ∷ []) after (subst (λ B. Agrees m n some.0 B) split some.1) in
    let known : known_grade (before ++ a ∷ []) (object_of a) (list_of a) ≡ Some (grade_of a) = known_grade_given m n some.0 before a front in
    let whole : known_grade ((before ++ a ∷ []) ++ after) (object_of a) (list_of a) ≡ Some (grade_of a) = known_grade_kept (before ++ a ∷ []) after (object_of a) (list_of a) (grade_of a) known in
    let same_object : object_of a ≡ object = ap (λ (row : Row). row.object) from.5 in
    let same_grade : grade_of a ≡ grade = ap (λ (row : Row). row.grade) from.5 in
    subst (λ B. known_grade B object list ≡ Some grade) (sym split)
    (subst (λ g. known_grade ((before ++ a ∷ []) ++ after) object list ≡ Some g) same_grade
    (subst (λ o. known_grade ((before ++ a ∷ []) ++ after) o list ≡ Some (grade_of a)) same_object
    (subst (λ l. known_grade ((before ++ a ∷ []) ++ after) (object_of a) l ≡ Some (grade_of a)) from.4 whole)))

-- what the tests of grades say
differs_from : (known : Option ℕ) (grade : ℕ) → differs known grade ≡ true → (other : ℕ) × (known ≡ Some other) × (other ≢ grade)
differs_from None grade e = absurd (true≢false (sym e))
differs_from (Some other) grade e = (other, refl, eqb-false other grade (not-true (other == grade) e))

differs_to : (known : Option ℕ) (other grade : ℕ) → known ≡ Some other → other ≢ grade → differs known grade ≡ true
differs_to known other grade e n = ap (λ k. differs k grade) e ∙ ap not (ne_eqb other grade n)

exceeds_from : (greatest : Option ℕ) (grade : ℕ) → exceeds greatest grade ≡ true → (top : ℕ) × (greatest ≡ Some top) × (grade < top)
exceeds_from None grade e = absurd (true≢false (sym e))
exceeds_from (Some top) grade e = (top, refl, ltb-true grade top e)

exceeds_to : (greatest : Option ℕ) (top grade : ℕ) → greatest ≡ Some top → grade < top → exceeds greatest grade ≡ true
exceeds_to greatest top grade e l = ap (λ o. exceeds o grade) e ∙ lt-ltb grade top l

-- a known grade of an object that the list hasn't given is a random one
unread_random : (A : List Access) (list object grade : ℕ) → (¬ Contains (objects (sorted_rows list A)) object) → known_grade A object list ≡ Some grade
    → Contains (random_rows list A) (record { object = object; grade = grade })
unread_random A list object grade n e =
    elim (given_split list A (record { object = object; grade = grade }) (grade_among_row (given_rows list A) object grade e)) [
      | inl s ↦ absurd (n (object_of_row (sorted_rows list A) (record { object = object; grade = grade }) s))
      | inr r ↦ r
    ]

decides_clash : (m n : ℕ) (A : List Access) (list object grade : ℕ) (known : Option ℕ) → SomeAgrees m n A → known ≡ known_grade A object list
    → (¬ Contains (objects (sorted_rows list A)) object) → Decided (differs known grade) (HasOther (random_rows list A) object grade)
decides_clash m n A list object grade known some e unread = record {
  from = λ t. let d = differs_from known grade t in (d.0, unread_random A list object d.0 unread (sym e ∙ d.1), d.2);
  to = λ h. differs_to known h.0 grade (e ∙ known_of_row m n A list object h.0 some (random_given list A (record { object = object; grade = h.0 }) h.1)) h.2;
}

decides_dispute : (m n : ℕ) (A : List Access) (list object grade : ℕ) (known : Option ℕ) → SomeAgrees m n A → known ≡ known_grade A object list
    → Decided (differs known grade) (HasOther (given_rows list A) object grade)
decides_dispute m n A list object grade known some e = record {
  from = λ t. let d = differs_from known grade t in (d.0, grade_among_row (given_rows list A) object d.0 (sym e ∙ d.1), d.2);
  to = λ h. differs_to known h.0 grade (e ∙ known_of_row m n A list object h.0 some h.1) h.2;
}

ahead_from : (A : List Access) (list object grade : ℕ) → grade_ahead A object list ≡ Some grade
    → (is_read A object list ≡ false) × (known_grade A object list ≡ Some grade)
ahead_from A list object grade e =
    elim (cases_Bool (is_read A object list)) [
      | inl t ↦ absurd (none_is_some (sym (ap (λ b. cond b None (known_grade A object list)) t) ∙ e))
      | inr f ↦ (f, sym (ap (λ b. cond b None (known_grade A object list)) f) ∙ e)
    ]

less : (a b c : ℕ) → a < b → b ≤ c → a < c
less a b c l k = omega arith

apart_from : (a b : ℕ) → a < b → b ≢ a
apart_from a b l = omega arith

decides_passed : (m n : ℕ) (A : List Access) (list object grade : ℕ) (ahead : Option ℕ) → SomeAgrees m n A → IsGreatestAhead A list ahead
    → (¬ HasOther (random_rows list A) object grade) → Decided (exceeds ahead grade) (HasAbove (random_rows list A) (sorted_rows list A) object grade)
decides_passed m n A list object grade ahead some g agrees = record {
  from = λ t.
      let x = exceeds_from ahead grade t in
      let top = x.0 in
      let greatest : IsGreatestAhead A list (Some top) = subst (IsGreatestAhead A list) x.1 g in
      let other = greatest.0.0 in
      let known = ahead_from A list other top greatest.0.1 in
      let unread = has_not other (objects (sorted_rows list A)) known.0 in
      let row = unread_random A list other top unread known.1 in
      (record { object = other; grade = top }, row, (λ same. agrees (top, subst (λ o. Contains (random_rows list A) (record { object = o; grade = top })) same row, apart_from grade top x.2)), unread, x.2);
  to = λ h.
      let row = h.0 in
      let known : known_grade A row.object list ≡ Some row.grade = known_of_row m n A list row.object row.grade some (random_given list A row h.1) in
      let before : grade_ahead A row.object list ≡ Some row.grade = ap (λ b. cond b None (known_grade A row.object list)) (not_has row.object (objects (sorted_rows list A)) h.3) ∙ known in
      above_some A list grade row.object row.grade ahead g before h.4;
}
  where
    above_some : (A : List Access) (list grade object other : ℕ) (ahead : Option ℕ) → IsGreatestAhead A list ahead → grade_ahead A object list ≡ Some other
        → grade < other → exceeds ahead grade ≡ true
    above_some A list grade object other None g e l = absurd (none_is_some (sym (g object) ∙ e))
    above_some A list grade object other (Some top) g e l = lt-ltb grade top (less grade other top l (g.1 object other e))

-- none of the kinds below a number holds
below : (m n : ℕ) (A : List Access) (a : Access) (limit : ℕ) → (1 < limit → ¬ IsOfKind m n A a no_such_list) → (2 < limit → ¬ IsOfKind m n A a above_top)
    → (3 < limit → ¬ IsOfKind m n A a too_many_objects) → (4 < limit → ¬ IsOfKind m n A a rises) → (5 < limit → ¬ IsOfKind m n A a repeats)
    → (6 < limit → ¬ IsOfKind m n A a clashes) → (7 < limit → ¬ IsOfKind m n A a falls_short) → (8 < limit → ¬ IsOfKind m n A a above_bottom) → (kind : Kind)
    → number_of kind < limit → ¬ IsOfKind m n A a kind
below m n A a limit k1 k2 k3 k4 k5 k6 k7 k8 no_such_list l = k1 l
below m n A a limit k1 k2 k3 k4 k5 k6 k7 k8 above_top l = k2 l
below m n A a limit k1 k2 k3 k4 k5 k6 k7 k8 too_many_objects l = k3 l
below m n A a limit k1 k2 k3 k4 k5 k6 k7 k8 rises l = k4 l
below m n A a limit k1 k2 k3 k4 k5 k6 k7 k8 repeats l = k5 l
below m n A a limit k1 k2 k3 k4 k5 k6 k7 k8 clashes l = k6 l
below m n A a limit k1 k2 k3 k4 k5 k6 k7 k8 falls_short l = k7 l
below m n A a limit k1 k2 k3 k4 k5 k6 k7 k8 above_bottom l = k8 l

small : (kind : Kind) → number_of kind < 9
small no_such_list = omega arith
small above_top = omega arith
small too_many_objects = omega arith
small rises = omega arith
small repeats = omega arith
small clashes = omega arith
small falls_short = omega arith
small above_bottom = omega arith

-- none of the first three holds
pub record IsEarly (m n : ℕ) (A : List Access) (a : Access) : Type 0 where
  pub in_range : ¬ IsOfKind m n A a no_such_list
  pub capped : ¬ IsOfKind m n A a above_top
  pub few : ¬ IsOfKind m n A a too_many_objects

-- one test after another
test : (m n : ℕ) (A : List Access) (a : Access) (kind : Kind) (b : Bool) (rest : Option ℕ) → Decided b (IsOfKind m n A a kind)
    → ((other : Kind) → number_of other < number_of kind → ¬ IsOfKind m n A a other) → ((¬ IsOfKind m n A a kind) → IsFirstOf m n A a rest)
    → IsFirstOf m n A a (cond b (Some (number_of kind)) rest)
test m n A a kind b rest d before after =
    elim (cases_Bool b) [
      | inl t ↦ subst (IsFirstOf m n A a) (sym (cond-true b (Some (number_of kind)) rest t)) (kind, refl, record { holds = d.from t; first = before })
      | inr f ↦ subst (IsFirstOf m n A a) (sym (cond-false b (Some (number_of kind)) rest f)) (after (λ k. true≢false (sym (d.to k) ∙ f)))
    ]

decides_less : (x y : ℕ) → Decided (nat_lt x y) (x < y)
decides_less x y = record { from = ltb-true x y; to = lt-ltb x y }

decides_read : (A : List Access) (object list : ℕ) (read : Bool) → read ≡ is_read A object list → Decided read (Contains (objects (sorted_rows list A)) object)
decides_read A object list read e = record {
  from = λ t. has_contains object (objects (sorted_rows list A)) (sym e ∙ t);
  to = λ c. e ∙ contains_has object (objects (sorted_rows list A)) c;
}

decides_above : (m n : ℕ) (A : List Access) (list object grade bottom : ℕ) (read : Bool) → bottom ≡ bottom_of list A → read ≡ is_read A object list
    → Decided (not read && nat_lt bottom grade) (IsOfKind m n A (Random list object grade) above_bottom)
decides_above m n A list object grade bottom read b r = record {
  from = λ t.
      let both = and_parts (not read) (nat_lt bottom grade) t in
      (has_not object (objects (sorted_rows list A)) (sym r ∙ not-true read both.0), subst (λ x. x < grade) b (ltb-true bottom grade both.1));
  to = λ k. and_from (not read) (nat_lt bottom grade) (ap not (r ∙ not_has object (objects (sorted_rows list A)) k.0)) (lt-ltb bottom grade (subst (λ x. x < grade) (sym b) k.1));
}

pub sorted_first : (m n : ℕ) (A : List Access) (list object grade bottom : ℕ) (read : Bool) (known ahead : Option ℕ) → SomeAgrees m n A
    → IsEarly m n A (Sorted list object grade) → bottom ≡ bottom_of list A → known ≡ known_grade A object list → read ≡ is_read A object list
    → IsGreatestAhead A list ahead
    → IsFirstOf m n A (Sorted list object grade) (first_of_sorted (nat_lt bottom grade) read (differs known grade) (exceeds ahead grade))
sorted_first m n A list object grade bottom read known ahead some early b k r g =
    let a : Access = Sorted list object grade in
    test m n A a rises (nat_lt bottom grade) _ (subst (λ x. Decided (nat_lt x grade) (bottom_of list A < grade)) (sym b) (decides_less (bottom_of list A) grade))
    (below m n A a 4 (λ l. early.in_range) (λ l. early.capped) (λ l. early.few) (λ l. absurd (omega arith)) (λ l. absurd (omega arith)) (λ l. absurd (omega arith)) (λ l. absurd (omega arith)) (λ l. absurd (omega arith)))
    (λ n4. test m n A a repeats read _ (decides_read A object list read r)
    (below m n A a 5 (λ l. early.in_range) (λ l. early.capped) (λ l. early.few) (λ l. n4) (λ l. absurd (omega arith)) (λ l. absurd (omega arith)) (λ l. absurd (omega arith)) (λ l. absurd (omega arith)))
    (λ n5. test m n A a clashes (differs known grade) _ (decides_clash m n A list object grade known some k n5)
    (below m n A a 6 (λ l. early.in_range) (λ l. early.capped) (λ l. early.few) (λ l. n4) (λ l. n5) (λ l. absurd (omega arith)) (λ l. absurd (omega arith)) (λ l. absurd (omega arith)))
    (λ n6. test m n A a falls_short (exceeds ahead grade) None (decides_passed m n A list object grade ahead some g n6)
    (below m n A a 7 (λ l. early.in_range) (λ l. early.capped) (λ l. early.few) (λ l. n4) (λ l. n5) (λ l. n6) (λ l. absurd (omega arith)) (λ l. absurd (omega arith)))
    (λ n7. λ kind. below m n A a 9 (λ l. early.in_range) (λ l. early.capped) (λ l. early.few) (λ l. n4) (λ l. n5) (λ l. n6) (λ l. n7) (λ l. λ z. z) kind (small kind)))))

pub random_first : (m n : ℕ) (A : List Access) (list object grade bottom : ℕ) (read : Bool) (known : Option ℕ) → SomeAgrees m n A
    → IsEarly m n A (Random list object grade) → bottom ≡ bottom_of list A → known ≡ known_grade A object list → read ≡ is_read A object list
    → IsFirstOf m n A (Random list object grade) (first_of_random (differs known grade) read (nat_lt bottom grade))
random_first m n A list object grade bottom read known some early b k r =
    let a : Access = Random list object grade in
    test m n A a clashes (differs known grade) _ (decides_dispute m n A list object grade known some k)
    (below m n A a 6 (λ l. early.in_range) (λ l. early.capped) (λ l. early.few) (λ l. λ z. z) (λ l. λ z. z) (λ l. absurd (omega arith)) (λ l. absurd (omega arith)) (λ l. absurd (omega arith)))
    (λ n6. test m n A a above_bottom (not read && nat_lt bottom grade) None (decides_above m n A list object grade bottom read b r)
    (below m n A a 8 (λ l. early.in_range) (λ l. early.capped) (λ l. early.few) (λ l. λ z. z) (λ l. λ z. z) (λ l. n6) (λ l. λ z. z) (λ l. absurd (omega arith)))
    (λ n8. λ kind. below m n A a 9 (λ l. early.in_range) (λ l. early.capped) (λ l. early.few) (λ l. λ z. z) (λ l. λ z. z) (λ l. n6) (λ l. λ z. z) (λ l. n8) kind (small kind)))

-- the first three kinds
pub first_list : (m n : ℕ) (A : List Access) (a : Access) → m ≤ list_of a → IsFirstOf m n A a (Some 1)
first_list m n A a l = (no_such_list, refl, record { holds = l; first = below m n A a 1 (λ l. absurd (omega arith)) (λ l. absurd (omega arith)) (λ l. absurd (omega arith)) (λ l. absurd (omega arith)) (λ l. absurd (omega arith)) (λ l. absurd (omega arith)) (λ l. absurd (omega arith)) (λ l. absurd (omega arith)) })

not_both : (x y : ℕ) → x < y → y ≤ x → ⊥
not_both x y l m = omega arith

pub first_above : (m n : ℕ) (A : List Access) (a : Access) → list_of a < m → top_grade < grade_of a → IsFirstOf m n A a (Some 2)
first_above m n A a l g = (above_top, refl, record { holds = g; first = below m n A a 2 (λ k. λ z. not_both (list_of a) m l z) (λ l. absurd (omega arith)) (λ l. absurd (omega arith)) (λ l. absurd (omega arith)) (λ l. absurd (omega arith)) (λ l. absurd (omega arith)) (λ l. absurd (omega arith)) (λ l. absurd (omega arith)) })

pub first_many : (m n : ℕ) (A : List Access) (a : Access) (place : Option ℕ) (len : ℕ) → list_of a < m → grade_of a ≤ top_grade
    → place ≡ position (nat_eq (object_of a)) (named_objects A) → len ≡ length (named_objects A) → (is_none place && nat_le n len) ≡ true
    → IsFirstOf m n A a (Some 3)
first_many m n A a place len l g e s t =
    let both = and_parts (is_none place) (nat_le n len) t in (
      too_many_objects,
      refl,
      record {
        holds = (subst (λ k. n ≤ k) s (leb-true n len both.1), not_placed (object_of a) (named_objects A) (sym e ∙ none_if_is_none place both.0));
        first = below m n A a 3 (λ k. λ z. not_both (list_of a) m l z) (λ k. λ z. not_both top_grade (grade_of a) z g) (λ l. absurd (omega arith)) (λ l. absurd (omega arith)) (λ l. absurd (omega arith)) (λ l. absurd (omega arith)) (λ l. absurd (omega arith)) (λ l. absurd (omega arith));
      },
    )

pub is_early : (m n : ℕ) (A : List Access) (a : Access) (place : Option ℕ) (len : ℕ) → list_of a < m → grade_of a ≤ top_grade
    → place ≡ position (nat_eq (object_of a)) (named_objects A) → len ≡ length (named_objects A) → (is_none place && nat_le n len) ≡ false → IsEarly m n A a
is_early m n A a place len l g e s f = record {
  in_range = λ z. not_both (list_of a) m l z;
  capped = λ z. not_both top_grade (grade_of a) z g;
  few = λ z. true≢false (sym (and_from (is_none place) (nat_le n len) (ap is_none (e ∙ place_of_absent (object_of a) (named_objects A) z.1)) (le-leb n len (subst (λ k. n ≤ k) (sym s) z.0))) ∙ f);
}

-- the first kind, by what the access is
pub sorted_kinds : (m n : ℕ) (A : List Access) (a : Access) (list object grade at bottom : ℕ) (read : Bool) (known ahead r : Option ℕ)
    → a ≡ Sorted list object grade → at ≡ list_of a → SomeAgrees m n A → IsEarly m n A a → bottom ≡ bottom_of at A
    → (known ≡ known_grade A (object_of a) at) × (read ≡ is_read A (object_of a) at) → IsGreatestAhead A at ahead
    → r ≡ first_of_sorted (nat_lt bottom grade) read (differs known grade) (exceeds ahead grade) → IsFirstOf m n A a r
sorted_kinds m n A a list object grade at bottom read known ahead r e =
    subst (λ b. at ≡ list_of b → SomeAgrees m n A → IsEarly m n A b → bottom ≡ bottom_of at A → (known ≡ known_grade A (object_of b) at) × (read ≡ is_read A (object_of b) at) → IsGreatestAhead A at ahead → r ≡ first_of_sorted (nat_lt bottom grade) read (differs known grade) (exceeds ahead grade) → IsFirstOf m n A b r) (sym e)
    (λ l some early b k g q. subst (IsFirstOf m n A (Sorted list object grade)) (sym q)
    (sorted_first m n A list object grade bottom read known ahead some early (b ∙ ap (λ j. bottom_of j A) l) (k.0 ∙ ap (λ j. known_grade A object j) l) (k.1 ∙ ap (λ j. is_read A object j) l) (subst (λ j. IsGreatestAhead A j ahead) l g)))

pub random_kinds : (m n : ℕ) (A : List Access) (a : Access) (list object grade at bottom : ℕ) (read : Bool) (known r : Option ℕ) → a ≡ Random list object grade
    → at ≡ list_of a → SomeAgrees m n A → IsEarly m n A a → bottom ≡ bottom_of at A
    → (known ≡ known_grade A (object_of a) at) × (read ≡ is_read A (object_of a) at) → r ≡ first_of_random (differs known grade) read (nat_lt bottom grade)
    → IsFirstOf m n A a r
random_kinds m n A a list object grade at bottom read known r e =
    subst (λ b. at ≡ list_of b → SomeAgrees m n A → IsEarly m n A b → bottom ≡ bottom_of at A → (known ≡ known_grade A (object_of b) at) × (read ≡ is_read A (object_of b) at) → r ≡ first_of_random (differs known grade) read (nat_lt bottom grade) → IsFirstOf m n A b r) (sym e)
    (λ l some early b k q. subst (IsFirstOf m n A (Random list object grade)) (sym q)
    (random_first m n A list object grade bottom read known some early (b ∙ ap (λ j. bottom_of j A) l) (k.0 ∙ ap (λ j. known_grade A object j) l) (k.1 ∙ ap (λ j. is_read A object j) l)))
