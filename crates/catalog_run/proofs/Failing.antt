-- A query that is refused because a call failed is refused for one of the source of its list, and that stands behind a count of the shelf.
use Rattle.std.proofs.Common.{◌≡◌, ℕ, zero, suc, ◌+◌, ◌-◌, ◌^◌, ◌<◌, ◌≤◌, min, Bool, true, false, List, [], ◌∷◌, Contains, length, reverse, inl, inr, Some, slice_index_or, refl, sym, ap, ◌∙◌, subst, arith}
use Rattle.std.specs.Prelude.{if◌then◌else◌}
use Rattle.std.specs.Str.{bytes_eq}
use Rattle.std.specs.List.{count_by, sum_by}
use Rattle.std.proofs.lemmas.Bool.{cases_lt, false≢true}
use Rattle.std.proofs.lemmas.List.Sums.{get_or-le-sum_by, sum_by-cons}
use Rattle.std.proofs.lemmas.Slice.Eq.{bytes_eq-Decides}
use Rattle.tk_io.specs.Faults.{Rose}
use Rattle.topk_theory.proofs.AgreementLists.{contains_nil, contains_here, contains_there, contains_cases}
use Rattle.topk_theory.proofs.Counts.{none_counted}
use Rattle.source_api.specs.declared.counts.Counts.{Counts}
use Rattle.source_api.specs.Counting.{added, raised}
use Rattle.source_api.specs.declared.source.FailKind.{FailKind}
use Rattle.source_state.specs.declared.look.LookFault.{LookFault}
use Rattle.source_state.specs.State.{State, state_at}
use Rattle.query_core.specs.Machines.{state_of}
use Rattle.query_run.specs.declared.ended.Refusal.TheVariants as refusal
use Rattle.query_run.specs.declared.running_query.RunningQuery.{RunningQuery}
use Rattle.query_run.specs.Inquiries.{needed, list_needed, source_needed, source_of}
use Rattle.query_run.specs.Causes.{IsCause, IsOfList}
use Rattle.query_run.specs.Kept.{IsServed}
use Rattle.query_run.proofs.Serving.{listed, of_some_list}
use Rattle.batch_result.specs.Numbered.{counts_at}
use Rattle.batch_result.specs.Using.{IsFewFor, is_fail, is_refused_for}
use Rattle.batch_result.proofs.EndingLaws.{counted_for, no_calls}
use Rattle.catalog_text.specs.Catalog.{Listed as Entry}
use Rattle.catalog_open.specs.Entries.{entry_at}
use Rattle.catalog_open.specs.Openings.{Counted, Used, used_at, added_all, PutsBack, put_back}
use Rattle.catalog_run.proofs.Turned.{contains_back}
use Rattle.line_outcome.proofs.Writable.{of_list_is}

-- what is counted of sources that were put back
pub faults_sum : (c : Counts) (xs : List Counts) → min (added_all c xs).faults (2 ^ 64 - 1) ≡ min (c.faults + sum_by (λ (x : Counts). x.faults) xs) (2 ^ 64 - 1)
faults_sum c [] = let none : sum_by (λ (x : Counts). x.faults) [] ≡ 0 = refl in omega (arith, none)
faults_sum c (x ∷ xs) =
    let rest = faults_sum (added c x) xs in
    let here : (added c x).faults ≡ raised c.faults x.faults = refl in
    let more : sum_by (λ (y : Counts). y.faults) (x ∷ xs) ≡ x.faults + sum_by (λ (y : Counts). y.faults) xs = sum_by-cons (λ (y : Counts). y.faults) x xs in
    omega (arith, rest, here, more)

pub garbles_sum : (c : Counts) (xs : List Counts) → min (added_all c xs).garbles (2 ^ 64 - 1) ≡ min (c.garbles + sum_by (λ (x : Counts). x.garbles) xs) (2 ^ 64 - 1)
garbles_sum c [] = let none : sum_by (λ (x : Counts). x.garbles) [] ≡ 0 = refl in omega (arith, none)
garbles_sum c (x ∷ xs) =
    let rest = garbles_sum (added c x) xs in
    let here : (added c x).garbles ≡ raised c.garbles x.garbles = refl in
    let more : sum_by (λ (y : Counts). y.garbles) (x ∷ xs) ≡ x.garbles + sum_by (λ (y : Counts). y.garbles) xs = sum_by-cons (λ (y : Counts). y.garbles) x xs in
    omega (arith, rest, here, more)

pub moves_sum : (c : Counts) (xs : List Counts) → min (added_all c xs).moves (2 ^ 64 - 1) ≡ min (c.moves + sum_by (λ (x : Counts). x.moves) xs) (2 ^ 64 - 1)
moves_sum c [] = let none : sum_by (λ (x : Counts). x.moves) [] ≡ 0 = refl in omega (arith, none)
moves_sum c (x ∷ xs) =
    let rest = moves_sum (added c x) xs in
    let here : (added c x).moves ≡ raised c.moves x.moves = refl in
    let more : sum_by (λ (y : Counts). y.moves) (x ∷ xs) ≡ x.moves + sum_by (λ (y : Counts). y.moves) xs = sum_by-cons (λ (y : Counts). y.moves) x xs in
    omega (arith, rest, here, more)

member_sum : (f : Counts → ℕ) (xs : List Counts) (x : Counts) → Contains xs x → f x ≤ sum_by f xs
member_sum f xs x c = subst (λ (y : Counts). f y ≤ sum_by f xs) c.2 (get_or-le-sum_by f xs c.0 x c.1)

-- where one that was put back had met trouble, a count rose
pub rose_faults : (back : List Used) (mid after : Counted) (place : List ℕ) (x : Counts) → PutsBack back mid after → Contains (used_at place back) x
    → 1 ≤ x.faults → Rose (mid place).sources.faults (after place).sources.faults
rose_faults back mid after place x puts c some =
    let n = faults_sum (mid place).sources (used_at place back) in
    let is_after : (after place).sources.faults ≡ (added_all (mid place).sources (used_at place back)).faults = ap (λ (k : Counts). k.faults) (puts.sources place) in
    let one : x.faults ≤ sum_by (λ (y : Counts). y.faults) (used_at place back) = member_sum (λ (y : Counts). y.faults) (used_at place back) x c in
    omega (arith, n, is_after, one, some)

pub rose_garbles : (back : List Used) (mid after : Counted) (place : List ℕ) (x : Counts) → PutsBack back mid after → Contains (used_at place back) x
    → 1 ≤ x.garbles → Rose (mid place).sources.garbles (after place).sources.garbles
rose_garbles back mid after place x puts c some =
    let n = garbles_sum (mid place).sources (used_at place back) in
    let is_after : (after place).sources.garbles ≡ (added_all (mid place).sources (used_at place back)).garbles = ap (λ (k : Counts). k.garbles) (puts.sources place) in
    let one : x.garbles ≤ sum_by (λ (y : Counts). y.garbles) (used_at place back) = member_sum (λ (y : Counts). y.garbles) (used_at place back) x c in
    omega (arith, n, is_after, one, some)

pub rose_moves : (back : List Used) (mid after : Counted) (place : List ℕ) (x : Counts) → PutsBack back mid after → Contains (used_at place back) x
    → 1 ≤ x.moves → Rose (mid place).sources.moves (after place).sources.moves
rose_moves back mid after place x puts c some =
    let n = moves_sum (mid place).sources (used_at place back) in
    let is_after : (after place).sources.moves ≡ (added_all (mid place).sources (used_at place back)).moves = ap (λ (k : Counts). k.moves) (puts.sources place) in
    let one : x.moves ≤ sum_by (λ (y : Counts). y.moves) (used_at place back) = member_sum (λ (y : Counts). y.moves) (used_at place back) x c in
    omega (arith, n, is_after, one, some)

-- what a source had counted is among what was put back at its place
used_one : (used : List Used) (one : Used) → Contains used one → Contains (used_at one.place used) one.counts
used_one [] one c = absurd (contains_nil one c)
used_one (u ∷ used) one c = elim (contains_cases u used one c) [
  | inl same ↦ here u same
  | inr there ↦ later (bytes_eq u.place one.place) (used_one used one there)
]
  where
    later : (b : Bool) → Contains (used_at one.place used) one.counts
        → Contains (if b then u.counts ∷ used_at one.place used else used_at one.place used) one.counts
    later true c = contains_there u.counts (used_at one.place used) one.counts c
    later false c = c

    here : (v : Used) → v ≡ one → Contains (if bytes_eq v.place one.place then v.counts ∷ used_at one.place used else used_at one.place used) one.counts
    here v same = subst (λ (w : Used). Contains (if bytes_eq w.place one.place then w.counts ∷ used_at one.place used else used_at one.place used) one.counts) (sym same)
        (subst (λ b. Contains (if b then one.counts ∷ used_at one.place used else used_at one.place used) one.counts) (sym ((bytes_eq-Decides one.place one.place).1 refl)) (contains_here one.counts (used_at one.place used)))

back_one : (catalog : List Entry) (places : List ℕ) (now : List Counts) (source : ℕ) → source < length places → source < length now
    → Contains (put_back catalog places now) (record { place = (entry_at catalog (slice_index_or places source 0)).place; counts = counts_at now source })
back_one catalog [] now source l m = absurd (omega (arith, l))
back_one catalog (p ∷ ps) [] source l m = absurd (omega (arith, m))
back_one catalog (p ∷ ps) (c ∷ cs) zero l m = contains_here (record { place = (entry_at catalog p).place; counts = c }) (put_back catalog ps cs)
back_one catalog (p ∷ ps) (c ∷ cs) (suc source) l m =
    contains_there (record { place = (entry_at catalog p).place; counts = c }) (put_back catalog ps cs)
    (record { place = (entry_at catalog (slice_index_or ps source 0)).place; counts = counts_at cs source })
    (back_one catalog ps cs source (omega (arith, l)) (omega (arith, m)))

pub counted_back : (catalog : List Entry) (places : List ℕ) (now : List Counts) (source : ℕ) → source < length places → source < length now
    → Contains (used_at (entry_at catalog (slice_index_or places source 0)).place (reverse (put_back catalog places now))) (counts_at now source)
counted_back catalog places now source l m =
    let one : Used = record { place = (entry_at catalog (slice_index_or places source 0)).place; counts = counts_at now source } in
    used_one (reverse (put_back catalog places now)) one (contains_back (put_back catalog places now) one (back_one catalog places now source l m))

-- the list for which a query is refused is one of its own, and that of its need
pub record IsNeeded (q : RunningQuery) (list : ℕ) : Type 0 where
  pub of : list < length q.sources.items
  pub is : source_of q list ≡ source_needed q

pub refused_there : (states : List State) (q : RunningQuery) (list : ℕ) (f : LookFault) → IsServed states q → q.refusal ≡ Some (refusal.Look list f)
    → IsNeeded q list
refused_there states q list f served e =
    let cause : IsCause (state_at states (source_needed q)) (state_of q.machine) q.waiting.noted (Some (refusal.Look list f)) =
    subst (IsCause (state_at states (source_needed q)) (state_of q.machine) q.waiting.noted) e served.cause in
    let of_list : IsOfList list (needed q) = cause.0 in
    let l = listed states q served.sources served.run (of_some_list list (needed q) of_list) in
    let same : list_needed (needed q) ≡ list = of_list_is list (needed q) of_list in
    record { of = omega (arith, l, same); is = ap (source_of q) (sym same) }

counted_one : {X : Type 0} (p : X → Bool) (xs : List X) (x : X) → Contains xs x → p x ≡ true → 1 ≤ count_by p xs
counted_one p xs x c passes = elim (cases_lt 0 (count_by p xs)) [
  | inl some ↦ omega (arith, some)
  | inr none ↦ absurd (false≢true (sym (none_counted p xs x none c) ∙ passes))
]

-- where a query is refused for calls of a kind the source has counted some
some_calls : (workers lines calls before now : ℕ) → 1 ≤ lines → IsFewFor workers lines calls before now → 1 ≤ now
some_calls workers lines calls before now some few = elim (cases_lt 0 now) [
  | inl counted ↦ omega (arith, counted)
  | inr none ↦ absurd (let no_lines = no_calls workers lines calls before now few (λ rose. absurd (omega (arith, rose, none))) in omega (arith, some, no_lines))
]

pub calls_behind : (what : FailKind) (fault : LookFault) (states : List State) (queries : List RunningQuery) (q : RunningQuery) (list workers calls before now : ℕ)
    → is_fail what fault ≡ true → IsServed states q → Contains queries q → q.refusal ≡ Some (refusal.Look list fault)
    → IsFewFor workers (count_by (is_refused_for what (source_of q list)) queries) calls before now → 1 ≤ now
calls_behind what fault states queries q list workers calls before now is served c e few =
    let there = refused_there states q list fault served e in
    let refused : is_refused_for what (source_of q list) q ≡ true =
    subst (λ source. is_refused_for what source q ≡ true) (sym there.is) (counted_for what fault states q list is served e).1 in
    some_calls workers (count_by (is_refused_for what (source_of q list)) queries) calls before now
    (counted_one (is_refused_for what (source_of q list)) queries q c refused) few
