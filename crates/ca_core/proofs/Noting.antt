-- What is kept of the opens objects is kept after one more access.
use Rattle.std.proofs.Common.{◌≡◌, ◌≢◌, ◌⊎◌, inl, inr, ℕ, zero, suc, ◌<◌, ◌≤◌, true, false, List, [], ◌∷◌, ◌++◌, length, set, replicate, Option, Some, None, is_some, nat_eq, position, refl, sym, ap, subst, ◌∙◌, arith}
use Rattle.std.specs.List.{slice_get}
use Rattle.std.specs.declared.cmp.Reverse.{Reverse}
use Rattle.std.proofs.lemmas.Bool.{cases_Bool, cases_eq, cases_lt, false≢true, true≢false}
use Rattle.std.proofs.lemmas.List.{length-set, length-replicate, get_or-set_same, get_or-set_other, get_or-replicate}
use Rattle.std.proofs.lemmas.Option.{none-some, same_Some, slice_get_within}
use Rattle.ranked_list.specs.declared.row.Row.{Row}
use Rattle.topk_theory.specs.declared.access.Access.{Access}
use Rattle.topk_theory.specs.declared.access.Access.TheVariants.{Sorted, Random}
use Rattle.topk_theory.specs.Transcript.{Agrees, object_of, seen_objects}
use Rattle.topk_theory.specs.Bounds.{high}
use Rattle.topk_theory.specs.Combined.{unknown_lists}
use Rattle.topk_theory.proofs.AgreementNames.{has, has_contains, has_not}
use Rattle.topk_theory.proofs.Agreement.{seen_distinct, known_grade_other_object, seen_objects_old, seen_objects_new, seen_objects_random}
use Rattle.topk_theory.proofs.AgreementLists.{one_place, slice_get_front}
use Rattle.monotone_fn.specs.Tree.{Tree}
use Rattle.monotone_fn.specs.Value.{value, IsMonotone}
use Rattle.monotone_fn.proofs.Laws.{value-monotone}
use Rattle.access_log.specs.Log.{Log, IsConsistent}
use Rattle.access_log.proofs.RecordKept.{placed}
use Rattle.containers.specs.Ranks.{rank_at}
use Rattle.nra_core.proofs.Renewed.{high_falls}
use Rattle.ca_core.specs.declared.kept_high.KeptHigh.{KeptHigh}
use Rattle.ca_core.specs.declared.open_highs.OpenHighs.{OpenHighs}
use Rattle.machine_base.specs.Asking.{next_unknown}
use Rattle.ca_core.specs.Ties.{ties_of}
use Rattle.ca_core.specs.Open.{IsOpen, AreOpen, WasOpen}
use Rattle.machine_base.proofs.Unknown.{unknown_other, no_unknown, some_unknown}

-- ---- what is seen after one more access
seen_cases : (A : List Access) (a : Access) → (seen_objects (A ++ a ∷ []) ≡ seen_objects A) ⊎ (seen_objects (A ++ a ∷ []) ≡ seen_objects A ++ object_of a ∷ [])
seen_cases A (Sorted list object grade) =
    elim (cases_Bool (has object (seen_objects A))) [
      | inl t ↦ inl (seen_objects_old A list object grade (has_contains object (seen_objects A) t))
      | inr f ↦ inr (seen_objects_new A list object grade (has_not object (seen_objects A) f))
    ]
seen_cases A (Random list object grade) = inl (seen_objects_random A list object grade)

get_front : (xs : List ℕ) (y p x : ℕ) → y ≢ x → slice_get (xs ++ y ∷ []) p ≡ Some x → slice_get xs p ≡ Some x
get_front [] y zero x apart e = absurd (apart (same_Some y x e))
get_front [] y (suc p) x apart e = absurd (none-some x e)
get_front (z ∷ xs) y zero x apart e = e
get_front (z ∷ xs) y (suc p) x apart e = get_front xs y p x apart e

seen_after : (A : List Access) (a : Access) (p x : ℕ) → slice_get (seen_objects A) p ≡ Some x → slice_get (seen_objects (A ++ a ∷ [])) p ≡ Some x
seen_after A a p x e =
    elim (seen_cases A a) [
      | inl same ↦ ap (λ xs. slice_get xs p) same ∙ e
      | inr more ↦ ap (λ xs. slice_get xs p) more ∙ slice_get_front (seen_objects A) (object_of a ∷ []) p x e
    ]

seen_before : (A : List Access) (a : Access) (p x : ℕ) → object_of a ≢ x → slice_get (seen_objects (A ++ a ∷ [])) p ≡ Some x
    → slice_get (seen_objects A) p ≡ Some x
seen_before A a p x apart e =
    elim (seen_cases A a) [
      | inl same ↦ sym (ap (λ xs. slice_get xs p) same) ∙ e
      | inr more ↦ get_front (seen_objects A) (object_of a) p x apart (sym (ap (λ xs. slice_get xs p) more) ∙ e)
    ]

-- ---- an object that the access doesn't name stays opens
still_open : (V : List ℕ → ℕ) (m n : ℕ) (D : List (List Row)) (A : List Access) (a : Access) (place : ℕ) (kept : KeptHigh) → IsMonotone V
    → Agrees m n D (A ++ a ∷ []) → object_of a ≢ kept.object → IsOpen V m A place kept → IsOpen V m (A ++ a ∷ []) place kept
still_open V m n D A a place kept monotone agrees apart opens' =
    let falls : high V m (A ++ a ∷ []) kept.object ≤ high V m A kept.object = high_falls V m n D A (a ∷ []) kept.object monotone agrees in
    let above : high V m A kept.object ≤ kept.high = opens'.above in
    record {
      there = seen_after A a place kept.object opens'.there;
      unknown = subst (λ (xs : List ℕ). 0 < length xs) (sym (unknown_other m A a kept.object apart)) opens'.unknown;
      above = omega arith;
    }

-- nothing else is changed than at the object's place, and there it is as it is to be
noted : (V : List ℕ → ℕ) (m n : ℕ) (D : List (List Row)) (A : List Access) (a : Access) (highs after : List (Option KeptHigh)) (heaps : List (List (Option (Reverse ℕ)))) (place : ℕ) → IsMonotone V
    → Agrees m n D (A ++ a ∷ []) → AreOpen V m A highs heaps
    → slice_get (seen_objects (A ++ a ∷ [])) place ≡ Some (object_of a) → length (seen_objects (A ++ a ∷ [])) ≤ length after → length after ≡ length highs
    → ((other : ℕ) → other ≢ place → rank_at after other ≡ rank_at highs other)
    → ((kept : KeptHigh) → rank_at after place ≡ Some kept → IsOpen V m (A ++ a ∷ []) place kept)
    → (0 < length (unknown_lists m (A ++ a ∷ []) (object_of a)) → (kept : KeptHigh) × (rank_at after place ≡ Some kept))
    → AreOpen V m (A ++ a ∷ []) after heaps
noted V m n D A a highs after heaps place monotone agrees opens' at fits size others here there = record {
  fits = fits;
  lists = opens'.lists;
  rooms = λ list l. opens'.rooms list l ∙ sym size;
  tied = λ list other object has. seen_after A a other object (opens'.tied list other object has);
  held = λ other kept is.
      elim (cases_eq other place) [
        | inl e ↦ subst (λ p. IsOpen V m (A ++ a ∷ []) p kept) (sym e) (here kept (subst (λ p. rank_at after p ≡ Some kept) e is))
        | inr n' ↦
            let was = opens'.held other kept (sym (others other n') ∙ is) in
            still_open V m n D A a other kept monotone agrees
            (λ same. n' (one_place (seen_objects (A ++ a ∷ [])) other place kept.object (seen_distinct (A ++ a ∷ [])) (seen_after A a other kept.object was.there) (at ∙ ap (λ x. Some x) same))) was
      ];
  all = λ other object is unknown.
      elim (cases_eq other place) [
        | inl e ↦
            let same : object ≡ object_of a = same_Some object (object_of a) (sym is ∙ ap (slice_get (seen_objects (A ++ a ∷ []))) e ∙ at) in
            let r = there (subst (λ o. 0 < length (unknown_lists m (A ++ a ∷ []) o)) same unknown) in
            inl (r.0, ap (rank_at after) e ∙ r.1)
        | inr n' ↦
            let apart : object_of a ≢ object = λ same. n' (one_place (seen_objects (A ++ a ∷ [])) other place object (seen_distinct (A ++ a ∷ [])) is (at ∙ ap (λ x. Some x) same)) in
            elim (opens'.all other object (seen_before A a other object apart is) (subst (λ (xs : List ℕ). 0 < length xs) (unknown_other m A a object apart) unknown)) [
              | inl kept ↦ inl (kept.0, others other n' ∙ kept.1)
              | inr tied ↦ inr (tied.0, tied.1, known_grade_other_object A a object tied.0 apart ∙ tied.2, tied.3)
            ]
      ];
}

-- the same of a log
noted_log : (e : Tree) (log : Log) (object place : ℕ) (opens : OpenHighs) (after : List (Option KeptHigh)) → IsConsistent log → WasOpen e log object opens
    → slice_get (seen_objects log.accesses) place ≡ Some object → length after ≡ length opens.highs
    → ((other : ℕ) → other ≢ place → rank_at after other ≡ rank_at opens.highs other)
    → ((kept : KeptHigh) → rank_at after place ≡ Some kept → IsOpen (value e) log.lists log.accesses place kept)
    → (0 < length (unknown_lists log.lists log.accesses object) → (kept : KeptHigh) × (rank_at after place ≡ Some kept))
    → AreOpen (value e) log.lists log.accesses after opens.ties.heaps.items
noted_log e log object place opens after consistent was at size others here there =
    let A = was.before in
    let a = was.access in
    let D : List (List Row) = consistent.0 in
    let fits = was.room in
    let agrees : Agrees log.lists log.count D (A ++ a ∷ []) = subst (Agrees log.lists log.count D) was.told consistent.1 in
    subst (λ B. AreOpen (value e) log.lists B after opens.ties.heaps.items) (sym was.told)
    (noted (value e) log.lists log.count D A a opens.highs after opens.ties.heaps.items place (value-monotone e) agrees was.kept
    (subst (λ B. slice_get (seen_objects B) place ≡ Some (object_of a)) was.told (at ∙ ap (λ x. Some x) (sym was.named)))
    (subst (λ B. length (seen_objects B) ≤ length after) was.told (omega (arith, fits, size)))
    size
    others
    (λ kept is. subst (λ B. IsOpen (value e) log.lists B place kept) was.told (here kept is))
    (λ unknown. there (subst (λ B. 0 < length (unknown_lists log.lists B object)) (sym was.told) (subst (λ o. 0 < length (unknown_lists log.lists (A ++ a ∷ []) o)) was.named unknown))))

pub place_fits : (e : Tree) (log : Log) (object place : ℕ) (opens : OpenHighs) → WasOpen e log object opens
    → Some place ≡ position (nat_eq object) (seen_objects log.accesses) → place < length opens.highs
place_fits e log object place opens was found =
    let fits = was.room in
    let within = slice_get_within (seen_objects log.accesses) place object (placed object place (seen_objects log.accesses) (sym found)) in
    omega arith

pub none_left : (m : ℕ) (A : List Access) (object : ℕ) (next : Option ℕ) → next ≡ next_unknown m A object → is_some next ≡ false → unknown_lists m A object ≡ []
none_left m A object None e t = no_unknown m A object (sym e)
none_left m A object (Some x) e t = absurd (true≢false t)

pub some_left : (m : ℕ) (A : List Access) (object : ℕ) (next : Option ℕ) → next ≡ next_unknown m A object → is_some next ≡ true
    → 0 < length (unknown_lists m A object)
some_left m A object None e f = absurd (false≢true f)
some_left m A object (Some list) e f =
    let r = some_unknown m A object list (sym e) in
    let size : length (unknown_lists m A object) ≡ length (list ∷ r.0) = ap length r.1 in
    omega arith

-- an object whose grades are all known is taken out
pub note_known : (e : Tree) (log : Log) (object place : ℕ) (opens : OpenHighs) (next : Option ℕ) (after : List (Option KeptHigh)) → IsConsistent log
    → WasOpen e log object opens → Some place ≡ position (nat_eq object) (seen_objects log.accesses)
    → next ≡ next_unknown log.lists log.accesses object → is_some next ≡ false → after ≡ set opens.highs place None → AreOpen (value e) log.lists log.accesses after opens.ties.heaps.items
note_known e log object place opens next after consistent was found is none taken =
    let within = place_fits e log object place opens was found in
    let gone : unknown_lists log.lists log.accesses object ≡ [] = none_left log.lists log.accesses object next is none in
    subst (λ hs. AreOpen (value e) log.lists log.accesses hs opens.ties.heaps.items) (sym taken)
    (noted_log e log object place opens (set opens.highs place None) consistent was (placed object place (seen_objects log.accesses) (sym found)) (length-set opens.highs place None)
    (λ other apart. get_or-set_other opens.highs place other None None apart)
    (λ kept at. absurd (none-some kept (sym (get_or-set_same opens.highs place None None within) ∙ at)))
    (λ unknown. absurd (let size : length (unknown_lists log.lists log.accesses object) ≡ 0 = ap length gone in omega arith)))

-- a new one is put in
pub note_new : (e : Tree) (log : Log) (object place present : ℕ) (opens : OpenHighs) (next : Option ℕ) (after : List (Option KeptHigh)) → IsConsistent log
    → WasOpen e log object opens → Some place ≡ position (nat_eq object) (seen_objects log.accesses)
    → next ≡ next_unknown log.lists log.accesses object → is_some next ≡ true → present ≡ high (value e) log.lists log.accesses object → after ≡ set opens.highs place (Some (record { high = present; object = object }))
    → AreOpen (value e) log.lists log.accesses after opens.ties.heaps.items
note_new e log object place present opens next after consistent was found is some same put =
    let within = place_fits e log object place opens was found in
    let new : KeptHigh = record { high = present; object = object } in
    let at : slice_get (seen_objects log.accesses) place ≡ Some object = placed object place (seen_objects log.accesses) (sym found) in
    let mine : IsOpen (value e) log.lists log.accesses place new = record { there = at; unknown = some_left log.lists log.accesses object next is some; above = omega arith } in
    subst (λ hs. AreOpen (value e) log.lists log.accesses hs opens.ties.heaps.items) (sym put)
    (noted_log e log object place opens (set opens.highs place (Some new)) consistent was at (length-set opens.highs place (Some new))
    (λ other apart. get_or-set_other opens.highs place other (Some new) None apart)
    (λ kept is'. subst (IsOpen (value e) log.lists log.accesses place) (same_Some new kept (sym (get_or-set_same opens.highs place (Some new) None within) ∙ is')) mine)
    (λ unknown. (new, get_or-set_same opens.highs place (Some new) None within)))

-- another stays
pub note_same : (e : Tree) (log : Log) (object place : ℕ) (opens : OpenHighs) (next : Option ℕ) → IsConsistent log → WasOpen e log object opens
    → Some place ≡ position (nat_eq object) (seen_objects log.accesses)
    → next ≡ next_unknown log.lists log.accesses object → is_some next ≡ true → is_some (rank_at opens.highs place) ≡ true
    → AreOpen (value e) log.lists log.accesses opens.highs opens.ties.heaps.items
note_same e log object place opens next consistent was found is some there =
    let at : slice_get (seen_objects log.accesses) place ≡ Some object = placed object place (seen_objects log.accesses) (sym found) in
    let D : List (List Row) = consistent.0 in
    let agrees : Agrees log.lists log.count D (was.before ++ was.access ∷ []) = subst (Agrees log.lists log.count D) was.told consistent.1 in
    noted_log e log object place opens opens.highs consistent was at refl (λ other apart. refl)
    (λ kept is'.
    let held = was.kept.held place kept is' in
    let same : kept.object ≡ object = same_Some kept.object object (sym (subst (λ B. slice_get (seen_objects B) place ≡ Some kept.object) (sym was.told) (seen_after was.before was.access place kept.object held.there)) ∙ at) in
    let falls : high (value e) log.lists (was.before ++ was.access ∷ []) kept.object ≤ high (value e) log.lists was.before kept.object = high_falls (value e) log.lists log.count D was.before (was.access ∷ []) kept.object (value-monotone e) agrees in
    let below : high (value e) log.lists log.accesses kept.object ≤ high (value e) log.lists was.before kept.object = subst (λ B. high (value e) log.lists B kept.object ≤ high (value e) log.lists was.before kept.object) (sym was.told) falls in
    let above : high (value e) log.lists was.before kept.object ≤ kept.high = held.above in
    record {
      there = at ∙ ap (λ x. Some x) (sym same);
      unknown = subst (λ o. 0 < length (unknown_lists log.lists log.accesses o)) (sym same) (some_left log.lists log.accesses object next is some);
      above = omega arith;
    })
    (λ unknown. kept_there (rank_at opens.highs place) there)
  where
    kept_there : (o : Option KeptHigh) → is_some o ≡ true → (kept : KeptHigh) × (o ≡ Some kept)
    kept_there None t = absurd (false≢true t)
    kept_there (Some kept) t = (kept, refl)

-- before any access nothing is kept
pub open_start : (V : List ℕ → ℕ) (m room : ℕ) (highs : List (Option KeptHigh)) (heaps : List (List (Option (Reverse ℕ)))) → highs ≡ replicate room None
    → heaps ≡ replicate m (replicate room None) → AreOpen V m [] highs heaps
open_start V m room highs heaps none untied =
    let start : AreOpen V m [] (replicate room None) (replicate m (replicate room None)) = record {
      fits = omega arith;
      lists = length-replicate m (replicate {A = Option (Reverse ℕ)} room None);
      rooms = λ list l. ap (length {A = Option (Reverse ℕ)}) (get_or-replicate m list (replicate room None) [] l) ∙ length-replicate {A = Option (Reverse ℕ)} room None
          ∙ sym (length-replicate {A = Option KeptHigh} room None);
      held = λ place kept at. absurd (none-some kept (sym (none_at {T = KeptHigh} room place) ∙ at));
      tied = λ list place object at. absurd (none-some {A = Reverse ℕ} (record { 0 = object }) (sym (none_tied list place) ∙ at));
      all = λ place object at unknown. absurd (none-some object at);
    } in
    subst (λ hs. AreOpen V m [] hs heaps) (sym none) (subst (λ ts. AreOpen V m [] (replicate room None) ts) (sym untied) start)
  where
    none_at : {T : Type 0} (n place : ℕ) → rank_at (replicate {A = Option T} n None) place ≡ None
    none_at zero place = refl
    none_at (suc n) zero = refl
    none_at (suc n) (suc place) = none_at n place

    none_tied : (list place : ℕ) → rank_at (ties_of (replicate m (replicate room None)) list) place ≡ None
    none_tied list place =
        elim (cases_lt list m) [
          | inl l ↦ ap (λ (ties : List (Option (Reverse ℕ))). rank_at ties place) (get_or-replicate m list (replicate room None) [] l) ∙ none_at {T = Reverse ℕ} room place
          | inr g ↦ ap (λ (ties : List (Option (Reverse ℕ))). rank_at ties place) (past m list g)
        ]
      where
        past : (n i : ℕ) → n ≤ i → ties_of (replicate n (replicate room None)) i ≡ []
        past zero i le = refl
        past (suc n) zero le = absurd (omega arith)
        past (suc n) (suc i) le = past n i (omega arith)
