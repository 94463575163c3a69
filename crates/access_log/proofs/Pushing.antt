-- What one more access comes to: why it is refused, and what the transcript keeps after it.
use Rattle.std.proofs.Common.{◌≡◌, ℕ, zero, suc, ◌+◌, ◌-◌, ◌<◌, ◌≤◌, ◌⊎◌, inl, inr, cond, List, [], ◌∷◌, ◌++◌, length, Option, Some, None, is_some, position, nat_eq, slice_index_or, refl, sym, ap, subst, ◌∙◌, arith}
use Rattle.std.proofs.lemmas.Bool.{cases_lt}
use Rattle.std.proofs.lemmas.List.{length_push}
use Rattle.topk_theory.specs.declared.access.Access.{Access}
use Rattle.topk_theory.specs.Transcript.{list_of, object_of, named_objects, depth_of}
use Rattle.topk_theory.specs.Consistent.{SomeAgrees}
use Rattle.topk_theory.specs.Consistent.Kind.{too_many_objects}
use Rattle.topk_theory.proofs.AgreementLists.{slice_get_contains}
use Rattle.topk_theory.proofs.AgreementNames.{has, contains_has, not_has}
use Rattle.topk_theory.proofs.Agreement.{named_objects_old, named_objects_new, depth_fits}
use Rattle.topk_theory.proofs.Consistent.{empty_agrees, kind_excludes, no_kind_agrees}
use Rattle.access_log.specs.Log.{Log, IsWithinLimits, HasNoRoom, with_access}
use Rattle.access_log.specs.FirstKind.{IsFirstOf}
use Rattle.access_log.specs.Refusal.{Refuses}
use Rattle.access_log.specs.declared.fault.PushFault.TheVariants.{Inconsistent}
use Rattle.access_log.specs.declared.objects.Objects.{Objects}
use Rattle.access_log.specs.declared.ends.Ends.{Ends}
use Rattle.access_log.specs.RecordsKept.{AreEndsOf}
use Rattle.access_log.specs.Objects.{AreObjects, HasRoom}
use Rattle.access_log.specs.Kept.{IsTranscriptKept}
use Rattle.access_log.proofs.RecordKept.{placed, not_placed}
use Rattle.access_log.proofs.ObjectsKept.{list_in_range}

-- an access that is refused
pub refusal : (log : Log) (lists count so sa : ℕ) (A : List Access) (a : Access) (kind len : ℕ)
    → (let shown : Log = record { lists = lists; count = count; accesses = A; spare_objects = so; spare_accesses = sa } in shown ≡ log)
    → IsFirstOf lists count A a (Some kind) → len ≡ length A → Refuses log a (Inconsistent (len + 1) kind)
refusal log lists count so sa A a kind len v first l =
    subst (λ (z : Log). Refuses z a (Inconsistent (len + 1) kind)) v
    (ap (λ k. k + 1) l, first, (λ D. kind_excludes lists count A a first.0 first.2.holds D))

pub no_room : (log : Log) (lists count so sa : ℕ) (A : List Access) (a : Access) (cap len room : ℕ) (keys : List ℕ) (place : Option ℕ)
    → (let shown : Log = record { lists = lists; count = count; accesses = A; spare_objects = so; spare_accesses = sa } in shown ≡ log) → len ≡ length A
    → length A + sa ≤ cap → keys ≡ named_objects A → length (named_objects A) + so ≤ room → place ≡ position (nat_eq (object_of a)) (named_objects A)
    → (cap ≤ len) ⊎ ((place ≡ None) × (room ≤ length keys)) → HasNoRoom log a
no_room log lists count so sa A a cap len room keys place v l fits k named e full =
    subst (λ (z : Log). HasNoRoom z a) v
    (elim full [
      | inl f ↦ inl (no_spare (length A) sa cap len fits l f)
      | inr f ↦ inr (no_spare (length (named_objects A)) so room (length keys) named (ap (length {A = ℕ}) k) f.1, not_placed (object_of a) (named_objects A) (sym e ∙ f.0))
    ])
  where
    no_spare : (n spare room held : ℕ) → n + spare ≤ room → held ≡ n → room ≤ held → spare ≡ 0
    no_spare n spare room held f l r = omega arith

-- where no kind holds, an object without a place finds fewer objects than there may be
pub few_named : (lists count : ℕ) (A : List Access) (a : Access) (keys : List ℕ) (place : Option ℕ) → IsWithinLimits lists count → keys ≡ named_objects A
    → place ≡ position (nat_eq (object_of a)) (named_objects A) → IsFirstOf lists count A a None → place ≡ None → length keys < 200000
few_named lists count A a keys place limits k e none p =
    let absent = not_placed (object_of a) (named_objects A) (sym e ∙ p) in
    let same : length keys ≡ length (named_objects A) = ap (length {A = ℕ}) k in
    let few = limits.few_objects in
    elim (cases_lt (length (named_objects A)) count) [
      | inl l ↦ omega arith
      | inr m ↦ absurd (none too_many_objects (m, absent))
    ]

pub still_agrees : (lists count : ℕ) (A : List Access) (a : Access) → SomeAgrees lists count A → IsFirstOf lists count A a None
    → SomeAgrees lists count (A ++ a ∷ [])
still_agrees lists count A a some none = no_kind_agrees lists count A a some none

-- how many objects are named after it
named_some : (A : List Access) (a : Access) (place : ℕ) → Some place ≡ position (nat_eq (object_of a)) (named_objects A)
    → named_objects (A ++ a ∷ []) ≡ named_objects A
named_some A a place e = named_objects_old A a (slice_get_contains (named_objects A) place (object_of a) (placed (object_of a) place (named_objects A) (sym e)))

named_none : (A : List Access) (a : Access) → None ≡ position (nat_eq (object_of a)) (named_objects A)
    → length (named_objects (A ++ a ∷ [])) ≡ length (named_objects A) + 1
named_none A a e = ap (length {A = ℕ}) (named_objects_new A a (not_placed (object_of a) (named_objects A) (sym e))) ∙ length_push (named_objects A) (object_of a)

pub named_room : (A : List Access) (a : Access) (place : Option ℕ) (room : ℕ) → place ≡ position (nat_eq (object_of a)) (named_objects A)
    → (place ≡ None → length (named_objects A) < room) → length (named_objects A) ≤ room → length (named_objects (A ++ a ∷ [])) ≤ room
named_room A a (Some place) room e new l = subst (λ xs. length xs ≤ room) (sym (named_some A a place e)) l
named_room A a None room e new l = let more = named_none A a e in let fits : length (named_objects A) < room = new refl in omega arith

pub spare_room : (A : List Access) (a : Access) (place : Option ℕ) (so room : ℕ) → place ≡ position (nat_eq (object_of a)) (named_objects A)
    → length (named_objects (A ++ a ∷ [])) ≤ room → length (named_objects A) + so ≤ room
    → length (named_objects (A ++ a ∷ [])) + cond (is_some place) so (so - 1) ≤ room
spare_room A a (Some place) so room e fits l = subst (λ xs. length xs + so ≤ room) (sym (named_some A a place e)) l
spare_room A a None so room e fits l = let more = named_none A a e in spare_less (length (named_objects A)) (length (named_objects (A ++ a ∷ []))) so room more fits l
  where
    spare_less : (n k so room : ℕ) → k ≡ n + 1 → k ≤ room → n + so ≤ room → k + (so - 1) ≤ room
    spare_less n k zero room e f l = omega arith
    spare_less n k (suc so) room e f l = omega arith

pub depth_small : (lists count : ℕ) (A : List Access) (a : Access) (ends : Ends) → IsWithinLimits lists count → SomeAgrees lists count A
    → SomeAgrees lists count (A ++ a ∷ []) → AreEndsOf lists A ends → slice_index_or ends.depths (list_of a) 0 ≤ 200000
depth_small lists count A a ends limits some after e =
    let l : list_of a < lists = list_in_range lists count A a after in
    let d : slice_index_or ends.depths (list_of a) 0 ≡ depth_of (list_of a) A = e.depths (list_of a) l in
    let fits : depth_of (list_of a) A ≤ count = depth_fits lists count some.0 A (list_of a) some.1 l in
    let few = limits.few_objects in
    omega arith

-- the log as it is shown after it
named_placed : (x : ℕ) (xs : List ℕ) (place : Option ℕ) → place ≡ position (nat_eq x) xs → is_some place ≡ has x xs
named_placed x xs None e = sym (not_has x xs (not_placed x xs (sym e)))
named_placed x xs (Some place) e = sym (contains_has x xs (slice_get_contains xs place x (placed x place xs (sym e))))

abbrev pub log_of : ℕ → ℕ → List Access → ℕ → ℕ → Log
log_of lists count A so sa = record { lists = lists; count = count; accesses = A; spare_objects = so; spare_accesses = sa }

pub one_more : (log : Log) (lists count so sa so' sa' : ℕ) (A B : List Access) (a : Access) (place : Option ℕ) → log_of lists count A so sa ≡ log
    → B ≡ A ++ a ∷ [] → place ≡ position (nat_eq (object_of a)) (named_objects A) → so' ≡ cond (is_some place) so (so - 1) → sa' ≡ sa - 1
    → log_of lists count B so' sa' ≡ with_access log a
one_more log lists count so sa so' sa' A B a place v e p o s =
    ap (λ xs. log_of lists count xs so' sa') e
    ∙ ap (λ x. log_of lists count (A ++ a ∷ []) x sa') (o ∙ ap (λ b. cond b so (so - 1)) (named_placed (object_of a) (named_objects A) place p))
    ∙ ap (λ x. log_of lists count (A ++ a ∷ []) (cond (has (object_of a) (named_objects A)) so (so - 1)) x) s
    ∙ ap (λ z. with_access z a) v

-- what is kept
pub kept_empty : (lists count cap : ℕ) (xs : List Access) (kept : Objects) (ends : Ends) → IsWithinLimits lists count → xs ≡ [] → AreObjects lists [] kept
    → AreEndsOf lists [] ends → HasRoom kept → IsTranscriptKept lists count xs cap kept ends 0 0
kept_empty lists count cap xs kept ends limits e objects reached room =
    subst (λ A. IsTranscriptKept lists count A cap kept ends 0 0) (sym e) (record {
      limits = limits;
      agrees = empty_agrees lists count;
      objects = objects;
      ends = reached;
      room = room;
      object_room = omega arith;
      access_room = omega arith;
    })

pub kept_moved : (lists count cap cap' so sa so' sa' : ℕ) (A B : List Access) (kept kept' : Objects) (ends : Ends) → IsTranscriptKept lists count A cap kept ends so sa
    → B ≡ A → AreObjects lists A kept' → HasRoom kept' → length (named_objects A) + so' ≤ kept'.room → length A + sa' ≤ cap'
    → IsTranscriptKept lists count B cap' kept' ends so' sa'
kept_moved lists count cap cap' so sa so' sa' A B kept kept' ends h e objects room named fits =
    subst (λ C. IsTranscriptKept lists count C cap' kept' ends so' sa') (sym e) (record {
      limits = h.limits;
      agrees = h.agrees;
      objects = objects;
      ends = h.ends;
      room = room;
      object_room = named;
      access_room = fits;
    })

pub kept_pushed : (lists count cap' so' sa' : ℕ) (A B : List Access) (a : Access) (kept' : Objects) (ends' : Ends) → IsWithinLimits lists count
    → B ≡ A ++ a ∷ [] → SomeAgrees lists count (A ++ a ∷ []) → AreObjects lists (A ++ a ∷ []) kept' → AreEndsOf lists (A ++ a ∷ []) ends' → HasRoom kept'
    → length (named_objects (A ++ a ∷ [])) + so' ≤ kept'.room → length A + 1 + sa' ≤ cap' → IsTranscriptKept lists count B cap' kept' ends' so' sa'
kept_pushed lists count cap' so' sa' A B a kept' ends' limits e some objects ends room named fits =
    subst (λ C. IsTranscriptKept lists count C cap' kept' ends' so' sa') (sym e) (record {
      limits = limits;
      agrees = some;
      objects = objects;
      ends = ends;
      room = room;
      object_room = named;
      access_room = subst (λ n. n + sa' ≤ cap') (sym (length_push A a)) fits;
    })
