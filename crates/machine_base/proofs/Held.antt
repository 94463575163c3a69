-- What a machine holds, at its beginning and with one more access.
use Rattle.std.proofs.Common.{◌≡◌, ◌≢◌, ◌==◌, ◌⊎◌, inl, inr, ℕ, ◌≤◌, true≢false, List, [], ◌∷◌, ◌++◌, length, map, AllPairs, Contains, Err, refl, sym, ap, subst, ◌∙◌, arith, length-append}
use Rattle.std.proofs.lemmas.Bool.{cases_Bool, eq-eqb, eqb-true}
use Rattle.std.proofs.lemmas.List.{map-append}
use Rattle.std.proofs.lemmas.List.Quantifiers.{all_pairs_push}
use Rattle.std.proofs.lemmas.List.Elements.{Contains-append_right, Contains-append_cases}
use Rattle.ranked_list.specs.declared.row.Row.{Row}
use Rattle.ranked_list.specs.Table.{objects}
use Rattle.ranked_list.specs.declared.need.Need.{Need}
use Rattle.ranked_list.specs.declared.need.Need.TheVariants.{Done}
use Rattle.monotone_fn.specs.declared.costs.Costs.{Costs}
use Rattle.monotone_fn.specs.Tree.{Tree}
use Rattle.monotone_fn.specs.Shape.{list_count, NumbersLists}
use Rattle.topk_theory.specs.declared.access.Access.{Access}
use Rattle.topk_theory.specs.declared.access.Access.TheVariants.{Sorted, Random}
use Rattle.topk_theory.specs.Transcript.{Agrees, object_of, random_rows, seen_objects, named_objects}
use Rattle.topk_theory.specs.Consistent.{SomeAgrees}
use Rattle.topk_theory.specs.Threshold.{IsAsked}
use Rattle.topk_theory.proofs.AgreementLists.{contains_nil, contains_here, contains_at, contains_cases, contains_map, contains_map_from}
use Rattle.topk_theory.proofs.Agreement.{random_rows_random, random_rows_other, random_rows_sorted, seen_objects_old, seen_objects_new, seen_objects_random}
use Rattle.topk_theory.proofs.AgreementNames.{has, has_contains, has_not, each_once_within, each_once_complete}
use Rattle.topk_theory.proofs.Consistent.{empty_agrees}
use Rattle.topk_theory.proofs.ThresholdRun.{seen_from_access, seen_more}
use Rattle.machine_base.specs.Machine.{MachineState, IsBegun, Takes, RowFed, MayBeNextRow, MayBeNextGrade}
use Rattle.machine_base.specs.declared.core_fault.CoreFault.{CoreFault}
use Rattle.machine_base.specs.declared.core_fault.CoreFault.TheVariants.{Strangers, RoomFull}
use Rattle.machine_base.specs.declared.base.Base.{Base}
use Rattle.machine_base.specs.Base.{shown, asked_of_list, IsHeld, Holds, IsTold, MayFollow, HasNoRoom}

-- at the beginning
pub held_start : (e : Tree) (k room count : ℕ) → NumbersLists e → 1 ≤ k → k ≤ count → count ≤ 200000 → 1 ≤ room → room ≤ count
    → IsHeld e k room (list_count e) count []
held_start e k room count lists asked fits counted roomy room_fits = record {
  posed = record { positive = asked; fits = fits; lists = refl; roomy = roomy; room_fits = room_fits };
  some_list = lists.some;
  few_lists = lists.few;
  counted = counted;
  named_seen = λ o c. absurd (contains_nil o (each_once_within [] o c));
  roomy = omega arith;
  asked_once = λ list i j d lt in_range. absurd (omega arith);
  agreeing = empty_agrees (list_count e) count;
}

-- one more access names one object more at most
named_by : (A : List Access) (a : Access) (x : ℕ) → Contains (named_objects (A ++ a ∷ [])) x → Contains (named_objects A) x ⊎ (object_of a ≡ x)
named_by A a x h =
    let from = contains_map_from object_of (A ++ a ∷ []) x (each_once_within (map object_of (A ++ a ∷ [])) x h) in
    elim (Contains-append_cases A (a ∷ []) from.0 from.1) [
      | inl before ↦ inl (each_once_complete (map object_of A) x (subst (λ z. Contains (map object_of A) z) from.2 (contains_map object_of A from.0 before)))
      | inr last ↦ elim (contains_cases a [] from.0 last) [ inl e ↦ inr (ap object_of e ∙ from.2) | inr n ↦ absurd (contains_nil from.0 n) ]
    ]

-- and it was seen, or is now
seen_by : (room : ℕ) (A : List Access) (a : Access) → MayFollow room A a → Contains (seen_objects (A ++ a ∷ [])) (object_of a)
seen_by room A (Sorted list object grade) follows =
    let a : Access = Sorted list object grade in
    seen_from_access (A ++ a ∷ []) list object grade (Contains-append_right A (a ∷ []) a (contains_here a []))
seen_by room A (Random list object grade) follows = seen_more A (Random list object grade ∷ []) object follows.0

pub named_more : (room : ℕ) (A : List Access) (a : Access) → MayFollow room A a → ((o : ℕ) → Contains (named_objects A) o → Contains (seen_objects A) o)
    → (o : ℕ) → Contains (named_objects (A ++ a ∷ [])) o → Contains (seen_objects (A ++ a ∷ [])) o
named_more room A a follows before o h =
    elim (named_by A a o h) [
      | inl there ↦ seen_more A (a ∷ []) o (before o there)
      | inr e ↦ subst (λ x. Contains (seen_objects (A ++ a ∷ [])) x) e (seen_by room A a follows)
    ]

-- and no more were seen than there is room for
pub room_more : (room : ℕ) (A : List Access) (a : Access) → MayFollow room A a → length (seen_objects A) ≤ room → length (seen_objects (A ++ a ∷ [])) ≤ room
room_more room A (Sorted list object grade) follows few =
    elim (cases_Bool (has object (seen_objects A))) [
      | inl old ↦ subst (λ (seen : List ℕ). length seen ≤ room) (sym (seen_objects_old A list object grade (has_contains object (seen_objects A) old))) few
      | inr new ↦ elim follows [
        | inl old ↦ absurd (has_not object (seen_objects A) new old)
        | inr spare ↦
            let one_more : length (seen_objects A ++ object ∷ []) ≤ room = let long = length-append (seen_objects A) (object ∷ []) in omega arith in
            subst (λ (seen : List ℕ). length seen ≤ room) (sym (seen_objects_new A list object grade (has_not object (seen_objects A) new))) one_more
      ]
    ]
room_more room A (Random list object grade) follows few = subst (λ (seen : List ℕ). length seen ≤ room) (sym (seen_objects_random A list object grade)) few

-- no random access comes twice
asked_push : (list : ℕ) (A : List Access) (object grade : ℕ) → asked_of_list list (A ++ Random list object grade ∷ []) ≡ asked_of_list list A ++ object ∷ []
asked_push list A object grade =
    ap (map (λ (row : Row). row.object)) (random_rows_random list A object grade) ∙ map-append (λ (row : Row). row.object) (random_rows list A) (record { object = object; grade = grade } ∷ [])

pub once_more : (room : ℕ) (A : List Access) (a : Access) (list : ℕ) → MayFollow room A a → AllPairs (λ (one other : ℕ). one ≢ other) (asked_of_list list A)
    → AllPairs (λ (one other : ℕ). one ≢ other) (asked_of_list list (A ++ a ∷ []))
once_more room A (Sorted other object grade) list follows once =
    subst (λ (rows : List Row). AllPairs (λ (one other : ℕ). one ≢ other) (objects rows)) (sym (random_rows_sorted list other A object grade)) once
once_more room A (Random other object grade) list follows once =
    elim (cases_Bool (other == list)) [
      | inl t ↦
          let same : other ≡ list = eqb-true other list t in
          let more : AllPairs (λ (one two : ℕ). one ≢ two) (asked_of_list list A ++ object ∷ []) = all_pairs_push (λ (one two : ℕ). one ≢ two) (asked_of_list list A) object once
          (λ k d l e. follows.1 (subst (λ (at : ℕ). Contains (asked_of_list at A) object) (sym same) (subst (λ o. Contains (asked_of_list list A) o) e (contains_at (asked_of_list list A) k d l)))) in
          subst (λ (at : ℕ). AllPairs (λ (one two : ℕ). one ≢ two) (asked_of_list list (A ++ Random at object grade ∷ []))) (sym same)
          (subst (AllPairs (λ (one two : ℕ). one ≢ two)) (sym (asked_push list A object grade)) more)
      | inr f ↦
          subst (λ (rows : List Row). AllPairs (λ (one two : ℕ). one ≢ two) (objects rows)) (sym (random_rows_other list other A object grade (λ e. true≢false (sym (eq-eqb other list e) ∙ f)))) once
    ]

pub held_more : (e : Tree) (k room m n : ℕ) (A : List Access) (a : Access) → IsHeld e k room m n A → MayFollow room A a → SomeAgrees m n (A ++ a ∷ [])
    → IsHeld e k room m n (A ++ a ∷ [])
held_more e k room m n A a held follows agreeing = record {
  posed = held.posed;
  some_list = held.some_list;
  few_lists = held.few_lists;
  counted = held.counted;
  named_seen = named_more room A a follows held.named_seen;
  roomy = room_more room A a follows held.roomy;
  asked_once = λ list. once_more room A a list follows (held.asked_once list);
  agreeing = agreeing;
}

-- what is so of the query, the lists and one more access is so of the base that was told it
pub carried : (P : Tree → ℕ → ℕ → ℕ → ℕ → List Access → Type 0) (a : Access) (before after : Base) → IsTold a before after
    → P before.expr before.k before.room before.transcript.lists before.transcript.count (before.transcript.accesses ++ a ∷ [])
    → P after.expr after.k after.room after.transcript.lists after.transcript.count after.transcript.accesses
carried P a before after told h =
    subst (λ e. P e after.k after.room after.transcript.lists after.transcript.count after.transcript.accesses) (sym told.expr)
    (subst (λ k. P before.expr k after.room after.transcript.lists after.transcript.count after.transcript.accesses) (sym told.k)
    (subst (λ room. P before.expr before.k room after.transcript.lists after.transcript.count after.transcript.accesses) (sym told.room)
    (subst (λ m. P before.expr before.k before.room m after.transcript.count after.transcript.accesses) (sym told.log.lists)
    (subst (λ n. P before.expr before.k before.room before.transcript.lists n after.transcript.accesses) (sym told.log.count)
    (subst (P before.expr before.k before.room before.transcript.lists before.transcript.count) (sym told.log.accesses) h)))))

-- some table agrees with the base that was told an access: with the base before and the access
pub some_before : (a : Access) (before after : Base) → IsTold a before after
    → SomeAgrees after.transcript.lists after.transcript.count after.transcript.accesses
    → SomeAgrees before.transcript.lists before.transcript.count (before.transcript.accesses ++ a ∷ [])
some_before a before after told agreeing =
    subst (λ m. SomeAgrees m before.transcript.count (before.transcript.accesses ++ a ∷ [])) told.log.lists
    (subst (λ n. SomeAgrees after.transcript.lists n (before.transcript.accesses ++ a ∷ [])) told.log.count
    (subst (SomeAgrees after.transcript.lists after.transcript.count) told.log.accesses agreeing))

pub holds_more : (a : Access) (before after : Base) → IsTold a before after → Holds before → MayFollow before.room before.transcript.accesses a
    → SomeAgrees after.transcript.lists after.transcript.count after.transcript.accesses → Holds after
holds_more a before after told held follows agreeing =
    carried IsHeld a before after told
    (held_more before.expr before.k before.room before.transcript.lists before.transcript.count before.transcript.accesses a held follows (some_before a before after told agreeing))

-- a table that agrees is asked
pub held_asked : (e : Tree) (k room m n : ℕ) (A : List Access) (D : List (List Row)) → IsHeld e k room m n A → Agrees m n D A → IsAsked k n D
held_asked e k room m n A D held agrees = record {
  table = agrees.table;
  lists = omega (arith, held.some_list, agrees.lists);
  positive = held.posed.positive;
  fits = held.posed.fits;
}

-- what contracts see: a machine that is begun, one that takes an access, and one that has no room for a row's object
pub begun_with : (e : Tree) (k n room : ℕ) (costs : Costs) (base : Base) (need : Need) → IsBegun e k n room costs (shown base Done)
    → IsBegun e k n room costs (shown base need)
begun_with e k n room costs base need begun = record {
  expr = begun.expr;
  asked = begun.asked;
  in_force = begun.in_force;
  costs = begun.costs;
  lists = begun.lists;
  count = begun.count;
  none = begun.none;
}

pub takes : (a : Access) (before after : Base) (need then : Need) → IsTold a before after → Takes a (shown before need) (shown after then)
takes a before after need then told = record {
  expr = told.expr;
  k = told.k;
  room = told.room;
  costs = told.costs;
  log = told.log;
}

pub no_room : (A : Type 0) (row : Row) (base : Base) (need : Need) (t : MachineState) (fault : CoreFault) → shown base need ≡ t
    → HasNoRoom row.object base fault → RowFed row t t {A = A} (Err fault)
no_room A row base need t (Strangers object count) is full =
    subst (λ (s : MachineState). RowFed row s s {A = A} (Err (Strangers object count))) is (full.0, full.1, full.2, full.3, refl)
no_room A row base need t (RoomFull room) is full =
    subst (λ (s : MachineState). RowFed row s s {A = A} (Err (RoomFull room))) is (full.0, full.1, full.2, refl)

-- what may come next of what contracts see may come next of what is held
pub may_row : (base : Base) (need : Need) (t : MachineState) (row : Row) → shown base need ≡ t → MayBeNextRow t.log t.need row
    → MayBeNextRow base.transcript need row
may_row base need t row is may = subst (λ (s : MachineState). MayBeNextRow s.log s.need row) (sym is) may

pub may_grade : (base : Base) (need : Need) (t : MachineState) (grade : ℕ) → shown base need ≡ t → MayBeNextGrade t.log t.need grade
    → MayBeNextGrade base.transcript need grade
may_grade base need t grade is may = subst (λ (s : MachineState). MayBeNextGrade s.log s.need grade) (sym is) may
