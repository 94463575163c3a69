-- What follows for the lists of a query that is admitted.
use Rattle.std.proofs.Common.{◌≡◌, ℕ, ◌<◌, true, false, not, ◌==◌, is_none, length, Option, Some, None, IsTrue, slice_index_or, refl, sym, ap, ◌∙◌, subst, arith}
use Rattle.std.specs.List.{position}
use Rattle.std.proofs.lemmas.Bool.{not-false, eqb-true}
use Rattle.topk_theory.proofs.AgreementLists.{member_of_all}
use Rattle.cert_text.specs.declared.refusal.Refusal.{Refusal}
use Rattle.cert_text.specs.declared.refusal.Refusal.TheVariants.{NotOpened, CountsDiffer, NoRandom, NoSorted}
use Rattle.query_core.specs.declared.ready.Ready.{Ready}
use Rattle.query_core.specs.Algorithms.{asks_grades}
use Rattle.query_admission.specs.View.{size_passes, is_closed, differs, lacks_random, lacks_sorted, unread_list, size_stated}
use Rattle.query_admission.specs.Causes.{QueryLine, Cause, admission_causes, RefusesFor}
use Rattle.query_admission.specs.Admission.{IsAdmitted}
use Rattle.query_admission.proofs.Positions.{nothing, none_at, found_within, size_there}

never : (x : QueryLine) (ready : Ready) (cause : Cause) (place : ℕ) (refusal : Refusal) → IsAdmitted x ready → place < length admission_causes
    → slice_index_or admission_causes place cause ≡ cause → ¬ RefusesFor x cause refusal
never x ready cause place refusal admitted l is = member_of_all (λ c. (any : Refusal) → ¬ RefusesFor x c any) admission_causes cause admitted.unrefused (place, l, is) refusal

-- where a test is passed nowhere, no place is found
no_place : (found : Option ℕ) → ((place : ℕ) → found ≡ Some place → ⊥) → found ≡ None
no_place None none = refl
no_place (Some place) none = absurd (none place refl)

all_opened : (x : QueryLine) (ready : Ready) (admitted : IsAdmitted x ready) → position is_closed admitted.lists ≡ None
all_opened x ready admitted = no_place (position is_closed admitted.lists) (λ place e.
    never x ready Cause.not_opened 3 (NotOpened place) admitted (omega arith) refl
    (record { query = ready.query; lists = admitted.lists; reads = admitted.reads; listed = admitted.listed; holds = (place, refl, e) }))

stated_size : (size : Option ℕ) → is_none size ≡ false → (n : ℕ) × (size ≡ Some n)
stated_size None e = absurd cc
stated_size (Some n) e = (n, refl)

-- each list was opened and states the count of the query
all_same : (x : QueryLine) (ready : Ready) (admitted : IsAdmitted x ready) → position (differs ready.count) admitted.lists ≡ None
all_same x ready admitted = no_place (position (differs ready.count) admitted.lists) (λ place e.
    let lists = admitted.lists in
    let within = found_within (differs ready.count) lists place e in
    let opened : is_none (slice_index_or lists place nothing).size ≡ false = none_at is_closed lists place (all_opened x ready admitted) within in
    let stated = stated_size (slice_index_or lists place nothing).size opened in
    let size : size_stated lists place ≡ Some stated.0 = subst (λ s. s ≡ Some stated.0) (sym (size_there lists place within)) stated.1 in
    never x ready Cause.counts_differ 5 (CountsDiffer 0 ready.count place stated.0) admitted (omega arith) refl
    (record { query = ready.query; lists = lists; reads = admitted.reads; listed = admitted.listed; holds = (ready.count, place, stated.0, refl, admitted.count, e, size) }))

same_number : (m n : ℕ) → not (m == n) ≡ false → m ≡ n
same_number m n e = eqb-true m n (not-false (m == n) e)

pub admitted_states : (x : QueryLine) (ready : Ready) (admitted : IsAdmitted x ready) (place : ℕ) → place < length admitted.lists
    → (slice_index_or admitted.lists place nothing).size ≡ Some ready.count
admitted_states x ready admitted place within =
    let lists = admitted.lists in
    let opened : is_none (slice_index_or lists place nothing).size ≡ false = none_at is_closed lists place (all_opened x ready admitted) within in
    let stated = stated_size (slice_index_or lists place nothing).size opened in
    let same : size_passes (λ size. not (size == ready.count)) (slice_index_or lists place nothing).size ≡ false = none_at (differs ready.count) lists place (all_same x ready admitted) within in
    let number : stated.0 ≡ ready.count = same_number stated.0 ready.count (subst (λ s. size_passes (λ size. not (size == ready.count)) s ≡ false) stated.1 same) in
    stated.1 ∙ ap Some number

-- where the algorithm asks for grades each list offers random access
pub admitted_offers : (x : QueryLine) (ready : Ready) (admitted : IsAdmitted x ready) → IsTrue (asks_grades ready.query.algorithm) → (place : ℕ)
    → place < length admitted.lists → (slice_index_or admitted.lists place nothing).random ≡ true
admitted_offers x ready admitted asks place within =
    let offered : position lacks_random admitted.lists ≡ None = no_place (position lacks_random admitted.lists) (λ at e.
    never x ready Cause.no_random 7 (NoRandom at) admitted (omega arith) refl
    (record { query = ready.query; lists = admitted.lists; reads = admitted.reads; listed = admitted.listed; holds = (at, refl, asks, e) })) in
    not-false (slice_index_or admitted.lists place nothing).random (none_at lacks_random admitted.lists place offered within)

-- where the algorithm reads all lists in order each offers sorted access
pub admitted_sorts : (x : QueryLine) (ready : Ready) (admitted : IsAdmitted x ready) → unread_list ready.query.algorithm admitted.lists ≡ position lacks_sorted admitted.lists
    → (place : ℕ) → place < length admitted.lists → (slice_index_or admitted.lists place nothing).sorted ≡ true
admitted_sorts x ready admitted all place within =
    let offered : position lacks_sorted admitted.lists ≡ None = no_place (position lacks_sorted admitted.lists) (λ at e.
    never x ready Cause.no_sorted 8 (NoSorted at) admitted (omega arith) refl
    (record { query = ready.query; lists = admitted.lists; reads = admitted.reads; listed = admitted.listed; holds = (at, refl, all ∙ e) })) in
    not-false (slice_index_or admitted.lists place nothing).sorted (none_at lacks_sorted admitted.lists place offered within)
