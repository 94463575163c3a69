-- The objects that accesses name, after one more access.
use Rattle.std.proofs.Common.{◌≡◌, ◌≢◌, ℕ, ◌+◌, ◌^◌, ◌<◌, ◌≤◌, ◌⊎◌, inl, inr, Bool, true, false, cond, ◌&&◌, List, [], ◌∷◌, ◌++◌, length, AllPairs, Contains, Option, Some, None, position, nat_eq, is_none, slice_get, slice_index_or, slice_set, replicate, sym, ap, subst, ◌∙◌, arith}
use Rattle.std.specs.Option.{option_and_then}
use Rattle.std.proofs.lemmas.Bool.{cases_Bool, cases_eq, cases_lt, true≢false}
use Rattle.std.proofs.lemmas.List.{get_or-set_same, get_or-set_other, length-set, get_or_append_left, length_push}
use Rattle.std.proofs.Math.Seq.{get_or-append_seam}
use Rattle.std.proofs.lemmas.Option.{slice_get_past, slice_get_within, get_or_from_slice_get, slice_get-get_or}
use Rattle.topk_theory.specs.declared.access.Access.{Access}
use Rattle.topk_theory.specs.declared.access.Access.TheVariants.{Sorted, Random}
use Rattle.topk_theory.specs.Transcript.{list_of, object_of, is_sorted, named_objects, seen_objects}
use Rattle.topk_theory.specs.Bounds.{known_grade}
use Rattle.topk_theory.specs.Consistent.{SomeAgrees}
use Rattle.topk_theory.proofs.AgreementLists.{distinct_fits, slice_get_contains}
use Rattle.topk_theory.proofs.AgreementNames.{has, has_contains, has_not}
use Rattle.topk_theory.proofs.Agreement.{named_objects_old, named_objects_new, named_distinct, seen_distinct, seen_is_named, seen_objects_old, seen_objects_new, seen_objects_random, agrees_in_range, contains_middle}
use Rattle.topk_theory.proofs.Unseen.{unnamed_unknown}
use Rattle.ranked_list.proofs.OptionLaws.{option_cases}
use Rattle.access_log.specs.declared.record.Record.{Record}
use Rattle.access_log.specs.declared.objects.Objects.{Objects}
use Rattle.containers.proofs.Getting.{get_last, get_replicate}
use Rattle.access_log.specs.RecordsKept.{IsRecordOf, AreRecords, AreAhead, AreWider, heap_at, is_read, grade_ahead}
use Rattle.access_log.specs.Objects.{AreObjects, HasRoom, IsNoted, FitsAccess, IsPlaced}
use Rattle.access_log.proofs.RecordKept.{record_other, unnamed_unread, placed, not_placed, place_of_absent}
use Rattle.access_log.proofs.AheadKept.{ahead_wider, apart}
use Rattle.topk_base.specs.declared.TheConstants.{MAX_LISTS}

-- a list with one more at its end
get_pushed : (xs : List ℕ) (y place x : ℕ) → slice_get (xs ++ y ∷ []) place ≡ Some x
    → ((place < length xs) × (slice_get xs place ≡ Some x)) ⊎ ((place ≡ length xs) × (y ≡ x))
get_pushed xs y place x e =
    let within : place < length (xs ++ y ∷ []) = slice_get_within (xs ++ y ∷ []) place x e in
    let size : length (xs ++ y ∷ []) ≡ length xs + 1 = length_push xs y in
    let read : slice_index_or (xs ++ y ∷ []) place x ≡ x = get_or_from_slice_get (xs ++ y ∷ []) place x x e in
    elim (cases_lt place (length xs)) [
      | inl l ↦ inl (l, slice_get-get_or xs place x l ∙ ap Some (sym (get_or_append_left xs (y ∷ []) x place l) ∙ read))
      | inr p ↦
          let last : place ≡ length xs = omega arith in
          inr (last, sym (get_or-append_seam xs y [] x) ∙ sym (ap (λ k. slice_index_or (xs ++ y ∷ []) k x) last) ∙ read)
    ]

-- an object that no access names has the empty record
abbrev pub unnamed : Record
unnamed = record { known = replicate MAX_LISTS None; read = replicate MAX_LISTS false; sight = None }

pub unnamed_record : (m : ℕ) (A : List Access) (object : ℕ) (kept : Record) → kept.known ≡ replicate MAX_LISTS None → kept.read ≡ replicate MAX_LISTS false
    → kept.sight ≡ None → (¬ Contains (named_objects A) object) → IsRecordOf m A object kept
unnamed_record m A object kept e f g n = record {
  sized = (ap (length {A = Option ℕ}) e, ap (length {A = Bool}) f);
  known = λ list l. ap (λ xs. slice_index_or xs list None) e ∙ get_replicate None MAX_LISTS list ∙ sym (unnamed_unknown A object list n);
  read = λ list l. ap (λ xs. slice_index_or xs list false) f ∙ get_replicate false MAX_LISTS list ∙ sym (unnamed_unread A object list n);
  sight = g ∙ sym (place_of_absent object (seen_objects A) (λ c. n (seen_is_named A object c)));
}

pub records_named : (m : ℕ) (A : List Access) (names : List ℕ) (records : List Record) (object : ℕ) (kept : Record) → AreRecords m A names records
    → IsRecordOf m A object kept → AreRecords m A (names ++ object ∷ []) (records ++ kept ∷ [])
records_named m A names records object kept h k =
    let size = h.0 in (
      length_push records kept ∙ ap (λ n. n + 1) h.0 ∙ sym (length_push names object),
      (λ place other d e. elim (get_pushed names object place other e) [
        | inl before ↦
            let l : place < length records = subst (λ n. place < n) (sym h.0) before.0 in
            subst (IsRecordOf m A other) (sym (get_or_append_left records (kept ∷ []) d place l)) (h.1 place other d before.1)
        | inr last ↦
            let at : slice_index_or (records ++ kept ∷ []) place d ≡ kept = ap (λ k. slice_index_or (records ++ kept ∷ []) k d) (last.0 ∙ sym h.0) ∙ get_or-append_seam records kept [] d in
            subst (IsRecordOf m A other) (sym at) (subst (λ o. IsRecordOf m A o kept) last.1 k)
      ]),
    )

-- the records after one more access of the object at a place
pub records_noted : (m : ℕ) (A : List Access) (a : Access) (names : List ℕ) (records : List Record) (place : ℕ) (now : Record)
    → AllPairs (λ (x : ℕ) (y : ℕ). x ≢ y) names → slice_get names place ≡ Some (object_of a) → AreRecords m A names records
    → IsRecordOf m (A ++ a ∷ []) (object_of a) now → AreRecords m (A ++ a ∷ []) names (slice_set records place now)
records_noted m A a names records place now d e h k = (
  length-set records place now ∙ h.0,
  (λ at other r f. elim (cases_eq place at) [
    | inl same ↦
        let l : place < length records = subst (λ n. place < n) (sym h.0) (slice_get_within names place (object_of a) e) in
        let o : object_of a ≡ other = some_is (sym e ∙ ap (slice_get names) same ∙ f) in
        subst (λ q. IsRecordOf m (A ++ a ∷ []) other (slice_index_or (slice_set records place now) q r)) same
        (subst (IsRecordOf m (A ++ a ∷ []) other) (sym (get_or-set_same records place now r l)) (subst (λ q. IsRecordOf m (A ++ a ∷ []) q now) o k))
    | inr n ↦
        subst (IsRecordOf m (A ++ a ∷ []) other) (sym (get_or-set_other records place at now r (λ q. n (sym q))))
        (record_other m A a other (slice_index_or records at r) (apart names place at (object_of a) other d e f n) (h.1 at other r f))
  ]),
)
  where
    some_is : {x y : ℕ} → Some x ≡ Some y → x ≡ y
    some_is e = cc

-- the seen objects after one more access, as they are written
pub seen_then : (A : List Access) (a : Access) (p : Option ℕ) (o : ℕ) → (is_sorted a && is_none p) ≡ true → o ≡ object_of a
    → p ≡ position (nat_eq (object_of a)) (seen_objects A) → seen_objects A ++ o ∷ [] ≡ seen_objects (A ++ a ∷ [])
seen_then A (Random list object grade) p o t e n = absurd (true≢false (sym t))
seen_then A (Sorted list object grade) (Some p) o t e n = absurd (true≢false (sym t))
seen_then A (Sorted list object grade) None o t e n = ap (λ x. seen_objects A ++ x ∷ []) e ∙ sym (seen_objects_new A list object grade (not_placed object (seen_objects A) (sym n)))

pub seen_else : (A : List Access) (a : Access) (p : Option ℕ) → (is_sorted a && is_none p) ≡ false → p ≡ position (nat_eq (object_of a)) (seen_objects A)
    → seen_objects A ≡ seen_objects (A ++ a ∷ [])
seen_else A (Random list object grade) p t e = sym (seen_objects_random A list object grade)
seen_else A (Sorted list object grade) None t e = absurd (true≢false t)
seen_else A (Sorted list object grade) (Some p) t e =
    sym (seen_objects_old A list object grade (slice_get_contains (seen_objects A) p object (placed object p (seen_objects A) (sym e))))

-- there are no more seen objects than named ones
pub seen_below_named : (A : List Access) → length (seen_objects A) ≤ length (named_objects A)
seen_below_named A = distinct_fits (seen_objects A) (named_objects A) (seen_distinct A) (λ x c. seen_is_named A x c)

named_grows : (A : List Access) (a : Access) → length (named_objects A) ≤ length (named_objects (A ++ a ∷ []))
named_grows A a =
    elim (cases_Bool (has (object_of a) (named_objects A))) [
      | inl t ↦ let e : length (named_objects (A ++ a ∷ [])) ≡ length (named_objects A) = ap (length {A = ℕ}) (named_objects_old A a (has_contains (object_of a) (named_objects A) t)) in omega arith
      | inr f ↦ let e : length (named_objects (A ++ a ∷ [])) ≡ length (named_objects A) + 1 = ap (length {A = ℕ}) (named_objects_new A a (has_not (object_of a) (named_objects A) f)) ∙ length_push (named_objects A) (object_of a) in omega arith
    ]

pub list_in_range : (m n : ℕ) (A : List Access) (a : Access) → SomeAgrees m n (A ++ a ∷ []) → list_of a < m
list_in_range m n A a some = agrees_in_range m n some.0 (A ++ a ∷ []) a some.1 (contains_middle A a [])

pub noted : (m n : ℕ) (A : List Access) (a : Access) (names : List ℕ) (records : List Record) (place list : ℕ) (old now : Record) (after : List ℕ)
    → SomeAgrees m n (A ++ a ∷ []) → AllPairs (λ (x : ℕ) (y : ℕ). x ≢ y) names → slice_get names place ≡ Some (object_of a) → AreRecords m A names records
    → list ≡ list_of a → IsRecordOf m A (object_of a) old → IsRecordOf m (A ++ a ∷ []) (object_of a) now → after ≡ seen_objects (A ++ a ∷ [])
    → IsNoted m A a names (slice_set records place now) after (slice_index_or old.read list false)
noted m n A a names records place list old now after some distinct e h l o k s = record {
  records = records_noted m A a names records place now distinct e h k;
  sights = s;
  read = ap (λ i. slice_index_or old.read i false) l ∙ o.read (list_of a) (list_in_range m n A a some);
}

-- what is known of an object by its place
pub looked_some : (m object list place : ℕ) (A : List Access) (kept : Objects) (r : Record) → list < m → AreObjects m A kept
    → Some place ≡ position (nat_eq object) (named_objects A) → r ≡ slice_index_or kept.records.items place r
    → (slice_index_or r.known list None ≡ known_grade A object list) × (slice_index_or r.read list false ≡ is_read A object list)
looked_some m object list place A kept r l h e f =
    let there : slice_get kept.names.keys place ≡ Some object = ap (λ names. slice_get names place) h.names ∙ placed object place (named_objects A) (sym e) in
    let old : IsRecordOf m A object r = subst (IsRecordOf m A object) (sym f) (h.records.1 place object r there) in
    (old.known list l, old.read list l)

pub looked_none : (m object list : ℕ) (A : List Access) → None ≡ position (nat_eq object) (named_objects A)
    → (None ≡ known_grade A object list) × (false ≡ is_read A object list)
looked_none m object list A e =
    let n = not_placed object (named_objects A) (sym e) in
    (sym (unnamed_unknown A object list n), sym (unnamed_unread A object list n))

-- an object that no access names is added
pub ahead_named : (m : ℕ) (A : List Access) (names : List ℕ) (object : ℕ) (heaps : List (List (Option ℕ))) → (¬ Contains (named_objects A) object)
    → AreAhead m A names heaps → AreAhead m A (names ++ object ∷ []) heaps
ahead_named m A names object heaps n h = record {
  sized = h.sized;
  grades = λ list place l. h.grades list place l ∙ elim (cases_lt place (length names)) [
    | inl before ↦ ap (option_and_then (λ o. grade_ahead A o list)) (slice_get-get_or names place 0 before ∙ ap Some (sym (get_or_append_left names (object ∷ []) 0 place before)) ∙ sym (slice_get-get_or (names ++ object ∷ []) place 0 (longer place before)))
    | inr past ↦ ap (option_and_then (λ o. grade_ahead A o list)) (slice_get_past names place past) ∙ sym (elim (option_cases (slice_get (names ++ object ∷ []) place)) [
      | inl none ↦ ap (option_and_then (λ o. grade_ahead A o list)) none
      | inr some ↦ elim (get_pushed names object place some.0 some.1) [
        | inl before ↦ absurd (not_both place (length names) before.0 past)
        | inr last ↦ ap (option_and_then (λ o. grade_ahead A o list)) (some.1 ∙ ap Some (sym last.1))
            ∙ ap (λ b. cond b None (known_grade A object list)) (unnamed_unread A object list n) ∙ unnamed_unknown A object list n
      ]
    ])
  ];
}
  where
    longer : (place : ℕ) → place < length names → place < length (names ++ object ∷ [])
    longer place l = let size = length_push names object in omega arith

    not_both : (p q : ℕ) → p < q → q ≤ p → ⊥
    not_both p q l k = omega arith

pub placed_old : (m n : ℕ) (A : List Access) (a : Access) (kept : Objects) (place : ℕ) → FitsAccess m n A kept (Some place) a → IsPlaced m A a kept place
placed_old m n A a kept place h =
    let o = h.objects in
    let at : slice_get (named_objects A) place ≡ Some (object_of a) = placed (object_of a) place (named_objects A) (sym h.place) in
    let same : named_objects (A ++ a ∷ []) ≡ named_objects A = named_objects_old A a (slice_get_contains (named_objects A) place (object_of a) at) in
    let room = h.room in
    record {
      names = o.names ∙ sym same;
      place = ap (λ names. slice_get names place) o.names ∙ at;
      records = o.records;
      sights = o.sights;
      ahead = o.ahead;
      fits = subst (λ n. n ≤ kept.room) (ap (length {A = ℕ}) (same ∙ sym o.names)) h.room;
    }

pub placed_new : (m n : ℕ) (A : List Access) (a : Access) (kept now : Objects) (object at : ℕ) → FitsAccess m n A kept None a → object ≡ object_of a
    → now.names.keys ≡ kept.names.keys ++ object ∷ [] → at ≡ length kept.names.keys → AreRecords m A now.names.keys now.records.items
    → now.sights ≡ kept.sights → now.ahead ≡ kept.ahead → now.room ≡ kept.room → IsPlaced m A a now at
placed_new m n A a kept now object at h e names last records sights ahead room =
    let o = h.objects in
    let absent : ¬ Contains (named_objects A) (object_of a) = not_placed (object_of a) (named_objects A) (sym h.place) in
    let more : named_objects (A ++ a ∷ []) ≡ named_objects A ++ object_of a ∷ [] = named_objects_new A a absent in
    let all : now.names.keys ≡ named_objects (A ++ a ∷ []) = names ∙ ap (λ x. kept.names.keys ++ x ∷ []) e ∙ ap (λ xs. xs ++ object_of a ∷ []) o.names ∙ sym more in
    record {
      names = all;
      place = ap (λ xs. slice_get xs at) names ∙ ap (slice_get (kept.names.keys ++ object ∷ [])) last ∙ get_last kept.names.keys object ∙ ap Some e;
      records = records;
      sights = ap (λ xs. xs.items) sights ∙ o.sights;
      ahead = subst (λ hs. AreAhead m A now.names.keys hs.heaps.items) (sym ahead) (subst (λ xs. AreAhead m A xs kept.ahead.heaps.items) (sym names)
          (ahead_named m A kept.names.keys object kept.ahead.heaps.items (subst (λ x. ¬ Contains (named_objects A) x) (sym e) absent) o.ahead));
      fits = subst (λ n. n ≤ now.room) (ap (length {A = ℕ}) (sym all)) (subst (λ r. length (named_objects (A ++ a ∷ [])) ≤ r) (sym room) h.room);
    }

-- an object without a place is absent, and there is room for it
pub absent_fits : (m n : ℕ) (A : List Access) (a : Access) (kept : Objects) → FitsAccess m n A kept None a
    → (¬ Contains kept.names.keys (object_of a)) × (length kept.names.keys < kept.room)
absent_fits m n A a kept h =
    let o = h.objects in
    let absent : ¬ Contains (named_objects A) (object_of a) = not_placed (object_of a) (named_objects A) (sym h.place) in
    let more : length (named_objects (A ++ a ∷ [])) ≡ length (named_objects A) + 1 = ap (length {A = ℕ}) (named_objects_new A a absent) ∙ length_push (named_objects A) (object_of a) in
    let same : length kept.names.keys ≡ length (named_objects A) = ap (length {A = ℕ}) o.names in
    let room = h.room in
    (subst (λ xs. ¬ Contains xs (object_of a)) (sym o.names) absent, omega arith)

-- what the notes of a placed access require
pub record Ready (m : ℕ) (A : List Access) (a : Access) (kept : Objects) (at : ℕ) : Type 0 where
  pub list : list_of a < m
  pub in_records : at < length kept.records.items
  pub few : length kept.sights.items < 2 ^ 32
  pub sights : length kept.sights.items ≤ kept.room
  pub heaps : list_of a < length kept.ahead.heaps.items
  pub in_heap : at < length (heap_at kept.ahead.heaps.items (list_of a))

pub is_ready : (m n : ℕ) (A : List Access) (a : Access) (kept : Objects) (at : ℕ) → SomeAgrees m n (A ++ a ∷ []) → HasRoom kept → IsPlaced m A a kept at
    → Ready m A a kept at
is_ready m n A a kept at some room p =
    let in_names : at < length kept.names.keys = slice_get_within kept.names.keys at (object_of a) p.place in
    let fits = p.fits in
    let size = p.records.0 in
    let few = room.few in
    let l : list_of a < m = list_in_range m n A a some in
    let heaps : list_of a < length kept.ahead.heaps.items = subst (λ k. list_of a < k) (sym p.ahead.sized) l in
    let heap : kept.room ≤ length (heap_at kept.ahead.heaps.items (list_of a)) = room.ahead (list_of a) heaps in
    let seen : length kept.sights.items ≡ length (seen_objects A) = ap (length {A = ℕ}) p.sights in
    let below = seen_below_named A in
    let grows = named_grows A a in
    let named : length kept.names.keys ≡ length (named_objects (A ++ a ∷ [])) = ap (length {A = ℕ}) p.names in
    record { list = l; in_records = omega arith; few = omega arith; sights = omega arith; heaps = heaps; in_heap = omega arith }

-- the same objects, with no less room
pub objects_wider : (m : ℕ) (A : List Access) (old new : Objects) → new.names.keys ≡ old.names.keys → new.records.items ≡ old.records.items
    → new.sights.items ≡ old.sights.items → AreWider old.ahead.heaps.items new.ahead.heaps.items → AreObjects m A old → AreObjects m A new
objects_wider m A old new e f g w h = record {
  names = e ∙ h.names;
  records = subst (λ ks. AreRecords m A ks new.records.items) (sym e) (subst (λ rs. AreRecords m A old.names.keys rs) (sym f) h.records);
  sights = g ∙ h.sights;
  ahead = subst (λ ks. AreAhead m A ks new.ahead.heaps.items) (sym e) (ahead_wider m A old.names.keys old.ahead.heaps.items new.ahead.heaps.items w h.ahead);
}

pub unnamed_without : (m n : ℕ) (A : List Access) (a : Access) (kept : Objects) → FitsAccess m n A kept None a → ¬ Contains (named_objects A) (object_of a)
unnamed_without m n A a kept h = not_placed (object_of a) (named_objects A) (sym h.place)

pub distinct_names : (A : List Access) (a : Access) (kept : Objects) (at : ℕ) → {m : ℕ} → IsPlaced m A a kept at
    → AllPairs (λ (x : ℕ) (y : ℕ). x ≢ y) kept.names.keys
distinct_names A a kept at p = subst (AllPairs (λ (x : ℕ) (y : ℕ). x ≢ y)) (sym p.names) (named_distinct (A ++ a ∷ []))
