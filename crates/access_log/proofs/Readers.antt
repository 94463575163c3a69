-- What the readers of a transcript answer, from what it keeps.
use Rattle.std.proofs.Common.{◌≡◌, ℕ, ◌+◌, ◌*◌, ◌<◌, ◌≤◌, ◌^◌, ◌↔◌, inl, inr, Bool, not, cond, List, [], ◌∷◌, length, map, take, replicate, Contains, IsTrue, Option, Some, None, unwrap_or, is_some, position, nat_eq, slice_index_or, refl, sym, ap, ap₂, subst, ◌∙◌, arith}
use Rattle.std.proofs.lemmas.Bool.{true≢false}
use Rattle.std.proofs.lemmas.List.{get_or-take, length-take-le}
use Rattle.std.proofs.lemmas.List.FromFn.{fill_by_all, length-map-range_with_len}
use Rattle.std.proofs.lemmas.List.Sums.{sum_by-cons}
use Rattle.ranked_list.specs.Table.{top_grade}
use Rattle.ranked_list.proofs.OptionLaws.{option_cases}
use Rattle.topk_theory.specs.declared.access.Access.{Access}
use Rattle.topk_theory.specs.declared.access.Access.TheVariants.{Sorted, Random}
use Rattle.topk_theory.specs.Transcript.{is_sorted, sorted_rows, given_rows, named_objects, seen_objects, bottom_of, list_numbers, sorted_count, random_count, cost}
use Rattle.topk_theory.specs.Bounds.{known_grade, low, high}
use Rattle.topk_theory.specs.Consistent.{SomeAgrees}
use Rattle.topk_theory.proofs.AgreementLists.{contains_map_from, all_from_members, slice_get_contains}
use Rattle.topk_theory.proofs.AgreementRows.{grade_among_row}
use Rattle.topk_theory.proofs.Agreement.{seen_is_named}
use Rattle.topk_theory.proofs.BoundsLaws.{bottoms_filled}
use Rattle.topk_theory.proofs.ListNumbers.{number_below}
use Rattle.topk_theory.proofs.Unseen.{unnamed_unknown}
use Rattle.topk_theory.proofs.ConsistentRows.{ranked_capped, last_below_top}
use Rattle.topk_theory.proofs.ConsistentTable.{IsCoherent, agrees_coherent, given_split}
use Rattle.monotone_fn.specs.Tree.{Tree}
use Rattle.monotone_fn.specs.Value as expression
use Rattle.monotone_fn.specs.Limits.{AreGrades, AreGradesWhereKnown}
use Rattle.containers.proofs.Getting.{get_replicate}
use Rattle.access_log.specs.Log.{Log}
use Rattle.access_log.specs.declared.record.Record.{Record}
use Rattle.access_log.specs.declared.objects.Objects.{Objects}
use Rattle.access_log.specs.declared.ends.Ends.{Ends}
use Rattle.access_log.specs.RecordsKept.{IsRecordOf, AreEndsOf}
use Rattle.access_log.specs.Objects.{AreObjects, HasRoom}
use Rattle.access_log.proofs.RecordKept.{placed, not_placed, place_of_absent}
use Rattle.access_log.proofs.ObjectsKept.{seen_below_named}
use Rattle.topk_base.specs.declared.TheConstants.{MAX_LISTS}

-- a list by its places
pub taken : {X : Type 0} → (f : ℕ → X) (xs : List X) (m n : ℕ) (d : X) → length xs ≡ n → m ≤ n → ((k : ℕ) → k < m → slice_index_or xs k d ≡ f k)
    → take m xs ≡ map f (list_numbers m)
taken f xs m n d e l h =
    let long : m ≤ length xs = subst (λ k. m ≤ k) (sym e) l in
    fill_by_all f (take m xs) m d (length-take-le m xs long) (λ k b. get_or-take m xs k d b ∙ h k b)

pub bottoms_taken : (m : ℕ) (A : List Access) (ends : Ends) → m ≤ MAX_LISTS → AreEndsOf m A ends
    → take m ends.bottoms ≡ map (λ list. bottom_of list A) (list_numbers m)
bottoms_taken m A ends few h = taken (λ list. bottom_of list A) ends.bottoms m MAX_LISTS 0 h.sized.1 few h.bottoms

pub known_taken : (m : ℕ) (A : List Access) (object : ℕ) (kept : Record) → m ≤ MAX_LISTS → IsRecordOf m A object kept
    → take m kept.known ≡ map (λ list. known_grade A object list) (list_numbers m)
known_taken m A object kept few h = taken (λ list. known_grade A object list) kept.known m MAX_LISTS None h.sized.0 few h.known

pub none_taken : (m : ℕ) (A : List Access) (object : ℕ) (xs : List (Option ℕ)) → m ≤ MAX_LISTS → xs ≡ replicate MAX_LISTS None
    → (¬ Contains (named_objects A) object) → take m xs ≡ map (λ list. known_grade A object list) (list_numbers m)
none_taken m A object xs few e n = taken (λ list. known_grade A object list) xs m MAX_LISTS None (ap (length {A = Option ℕ}) e) few (λ k l. ap (λ ys. slice_index_or ys k None) e ∙ get_replicate None MAX_LISTS k ∙ sym (unnamed_unknown A object k n))

-- as the view shows it
pub in_view : (log : Log) (lists count so sa : ℕ) (A : List Access) {X : Type 0} (f : List Access → ℕ → X) (xs : List X)
    → (let shown : Log = record { lists = lists; count = count; accesses = A; spare_objects = so; spare_accesses = sa } in shown ≡ log)
    → xs ≡ map (f A) (list_numbers lists) → xs ≡ map (f log.accesses) (list_numbers log.lists)
in_view log lists count so sa A f xs v e = subst (λ (z : Log). xs ≡ map (f z.accesses) (list_numbers z.lists)) v e

-- the record of an object, by its place
pub record_found : (m object place : ℕ) (A : List Access) (kept : Objects) (r : Record) → AreObjects m A kept
    → Some place ≡ position (nat_eq object) kept.names.keys → r ≡ slice_index_or kept.records.items place r → IsRecordOf m A object r
record_found m object place A kept r h e f = subst (IsRecordOf m A object) (sym f) (h.records.1 place object r (placed object place kept.names.keys (sym e)))

pub unnamed_at : (m object : ℕ) (A : List Access) (kept : Objects) → AreObjects m A kept → None ≡ position (nat_eq object) kept.names.keys
    → ¬ Contains (named_objects A) object
unnamed_at m object A kept h e = subst (λ xs. ¬ Contains xs object) h.names (not_placed object kept.names.keys (sym e))

pub unseen_at : (A : List Access) (object : ℕ) → (¬ Contains (named_objects A) object) → None ≡ position (nat_eq object) (seen_objects A)
unseen_at A object n = sym (place_of_absent object (seen_objects A) (λ c. n (seen_is_named A object c)))

pub seen_answer : (r : Bool) (p : Option ℕ) (xs : List ℕ) (object : ℕ) → p ≡ position (nat_eq object) xs → r ≡ is_some p → IsTrue r ↔ Contains xs object
seen_answer r None xs object e f = ((λ t. absurd (true≢false (sym t ∙ f))), (λ c. absurd (not_placed object xs (sym e) c)))
seen_answer r (Some place) xs object e f = ((λ t. slice_get_contains xs place object (placed object place xs (sym e))), (λ c. f))

pub seen_small : (m : ℕ) (A : List Access) (kept : Objects) (named : ℕ) → AreObjects m A kept → HasRoom kept → length (named_objects A) + named ≤ kept.room
    → length kept.sights.items < 2 ^ 32
seen_small m A kept named h room fits =
    let few = room.few in
    let seen : length kept.sights.items ≡ length (seen_objects A) = ap (length {A = ℕ}) h.sights in
    let below = seen_below_named A in
    omega arith

-- each access is sorted or random
pub counts : (A : List Access) → sorted_count A + random_count A ≡ length A
counts [] = refl
counts (Sorted list object grade ∷ A) =
    let e = counts A in
    let s = sum_by-cons (λ (b : Access). cond (is_sorted b) 1 0) (Sorted list object grade) A in
    let r = sum_by-cons (λ (b : Access). cond (not (is_sorted b)) 1 0) (Sorted list object grade) A in
    omega arith
counts (Random list object grade ∷ A) =
    let e = counts A in
    let s = sum_by-cons (λ (b : Access). cond (is_sorted b) 1 0) (Random list object grade) A in
    let r = sum_by-cons (λ (b : Access). cond (not (is_sorted b)) 1 0) (Random list object grade) A in
    omega arith

-- a known grade is a grade, and so is a bottom
known_at_most : (lists count : ℕ) (A : List Access) (object list : ℕ) → IsCoherent lists count A → list < lists
    → unwrap_or (known_grade A object list) 0 ≤ top_grade
known_at_most lists count A object list h l =
    elim (option_cases (known_grade A object list)) [
      | inl none ↦ subst (λ o. unwrap_or o 0 ≤ top_grade) (sym none) (omega arith)
      | inr some ↦ subst (λ o. unwrap_or o 0 ≤ top_grade) (sym some.1)
          (elim (given_split list A (record { object = object; grade = some.0 }) (grade_among_row (given_rows list A) object some.0 some.1)) [
            | inl s ↦ ranked_capped (sorted_rows list A) (record { object = object; grade = some.0 }) (h.each list l).ranked s
            | inr r ↦ (h.each list l).capped (record { object = object; grade = some.0 }) r
          ])
    ]

pub known_capped : (lists count : ℕ) (A : List Access) (object : ℕ) (xs : List (Option ℕ)) → SomeAgrees lists count A
    → xs ≡ map (λ list. known_grade A object list) (list_numbers lists) → AreGradesWhereKnown xs
known_capped lists count A object xs h e =
    subst AreGradesWhereKnown (sym e)
    (all_from_members (λ g. unwrap_or g 0 ≤ top_grade) (map (λ list. known_grade A object list) (list_numbers lists)) (λ g c.
    let from = contains_map_from (λ list. known_grade A object list) (list_numbers lists) g c in
    subst (λ o. unwrap_or o 0 ≤ top_grade) from.2 (known_at_most lists count A object from.0 (agrees_coherent lists count h.0 A h.1) (number_below lists from.0 from.1))))

pub bottoms_capped : (lists count : ℕ) (A : List Access) (xs : List ℕ) → SomeAgrees lists count A → xs ≡ map (λ list. bottom_of list A) (list_numbers lists)
    → AreGrades xs
bottoms_capped lists count A xs h e =
    subst AreGrades (sym e)
    (all_from_members (λ g. g ≤ top_grade) (map (λ list. bottom_of list A) (list_numbers lists)) (λ g c.
    let from = contains_map_from (λ list. bottom_of list A) (list_numbers lists) g c in
    subst (λ b. b ≤ top_grade) from.2 (last_below_top (sorted_rows from.0 A) ((agrees_coherent lists count h.0 A h.1).each from.0 (number_below lists from.0 from.1)).ranked)))

-- the bounds are the values at these
zeros_of : (f : ℕ → Option ℕ) (xs : List ℕ) → expression.with_zeros (map f xs) ≡ map (λ x. unwrap_or (f x) 0) xs
zeros_of f [] = refl
zeros_of f (x ∷ xs) = ap (λ ys. unwrap_or (f x) 0 ∷ ys) (zeros_of f xs)

pub as_many : {X : Type 0} → (f : ℕ → X) (m lists : ℕ) (xs : List X) → xs ≡ map f (list_numbers m) → lists ≡ m → length xs ≡ lists
as_many f m lists xs e l = ap length e ∙ length-map-range_with_len f 0 m ∙ sym l

pub low_answer : (e : Tree) (log : Log) (object r : ℕ) (xs : List (Option ℕ))
    → xs ≡ map (λ list. known_grade log.accesses object list) (list_numbers log.lists) → r ≡ expression.low e xs
    → r ≡ low (expression.value e) log.lists log.accesses object
low_answer e log object r xs f g =
    g ∙ ap (expression.low e) f ∙ ap (expression.value e) (zeros_of (λ list. known_grade log.accesses object list) (list_numbers log.lists))

pub high_answer : (e : Tree) (log : Log) (object r : ℕ) (xs : List (Option ℕ)) (ys : List ℕ)
    → xs ≡ map (λ list. known_grade log.accesses object list) (list_numbers log.lists)
    → ys ≡ map (λ list. bottom_of list log.accesses) (list_numbers log.lists) → r ≡ expression.high e xs ys
    → r ≡ high (expression.value e) log.lists log.accesses object
high_answer e log object r xs ys f b g =
    g ∙ ap₂ (expression.high e) f b ∙ ap (expression.value e) (bottoms_filled (λ list. known_grade log.accesses object list) (λ list. bottom_of list log.accesses) (list_numbers log.lists))

-- what the accesses cost
pub cost_is : (A : List Access) (each_sorted each_random sorted random paid_sorted paid_random : ℕ) → sorted ≡ sorted_count A → random ≡ random_count A
    → paid_sorted ≡ each_sorted → paid_random ≡ each_random → sorted * paid_sorted + random * paid_random ≡ cost each_sorted each_random A
cost_is A each_sorted each_random sorted random paid_sorted paid_random s r p q = ap₂ (λ a b. a + b) (ap₂ (λ a b. a * b) s p) (ap₂ (λ a b. a * b) r q)
