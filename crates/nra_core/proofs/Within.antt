-- What the walk answers, and what quiet is.
use Rattle.std.proofs.Common.{◌≡◌, ◌≢◌, ◌⊎◌, inl, inr, ℕ, ◌+◌, ◌<◌, ◌≤◌, Bool, true, false, List, length, set, Option, Some, None, MatchBool, nat_cmp, nat_le, refl, sym, ap, subst, ◌∙◌, arith}
use Rattle.std.specs.List.{slice_get}
use Rattle.std.specs.Bool.{IsTrue}
use Rattle.std.specs.Cmp.{both_ways}
use Rattle.std.specs.declared.cmp.Ordering.TheVariants.{Greater}
use Rattle.std.proofs.lemmas.Bool.{cases_lt, le-leb, lt-leb, false≢true}
use Rattle.std.proofs.lemmas.Option.{none-some}
use Rattle.topk_theory.specs.declared.access.Access.{Access}
use Rattle.topk_theory.specs.Transcript.{seen_objects}
use Rattle.topk_theory.specs.Bounds.{low, high, threshold}
use Rattle.topk_theory.proofs.Agreement.{seen_distinct}
use Rattle.access_log.specs.Log.{Log}
use Rattle.containers.specs.Ranks.{rank_at}
use Rattle.containers.specs.declared.slots.Entry.{Entry}
use Rattle.containers.specs.Slots.{Slots, HasNoSlot, AreDistinctKeys}
use Rattle.containers.proofs.SlotChanges.{no_greater}
use Rattle.nra_core.specs.Late.{IsLeastLow, AreOthersWithin}
use Rattle.nra_core.specs.Quiet.{is_quiet_seen}
use Rattle.nra_core.proofs.Candidates.{within_same}
use Rattle.nra_core.proofs.Stop.{stop_from_quiet, quiet_from_stop}
use Rattle.nra_core.specs.LatePlaces.{at_place, is_first, IsLate, AreOpenFrom, GivesPlace, HasLeast, UnseenWithin}
use Rattle.nra_core.proofs.Places.{place_at, has_place, has_from}
use Rattle.nra_core.proofs.Walked.{Walks, candidate_at, walked_given_up, walked_exchanged, walk_within, walk_witness}
use Rattle.nra_core.proofs.Least.{least_low_is, enough_seen}

-- no kept high is above the greatest, nor where there is none
pub none_above_greatest : (candidates : List (Option ℕ)) (bound rank : ℕ)
    → ((place kept : ℕ) → rank_at candidates place ≡ Some kept → nat_cmp kept rank ≢ Greater)
    → rank ≤ bound → (place kept : ℕ) → rank_at candidates place ≡ Some kept → kept ≤ bound
none_above_greatest candidates bound rank above upto = λ place kept at. (let less = no_greater kept rank (above place kept at) in omega arith)

pub none_above_nothing : (candidates : List (Option ℕ)) (bound : ℕ) → ((place : ℕ) → rank_at candidates place ≡ None)
    → (place kept : ℕ) → rank_at candidates place ≡ Some kept → kept ≤ bound
none_above_nothing candidates bound none = λ place kept at. absurd (none-some kept (sym (none place) ∙ at))

-- ---- what the walk answers
abbrev pub Within : (List ℕ → ℕ) → ℕ → List Access → List Entry → ℕ → Type 0
Within V m A entries bound = AreOthersWithin (low V m A) (high V m A) (seen_objects A) (is_first A entries) bound

pub all_within : (V : List ℕ → ℕ) (k m : ℕ) (A : List Access) (bound : ℕ) (start first : Slots) (before candidates : List (Option ℕ)) (from : ℕ)
    → IsLate V k m A start before → IsLeastLow (low V m A) (is_first A start.entries) bound → k ≤ length (seen_objects A)
    → Walks V k m A bound first candidates from → ((place kept : ℕ) → rank_at candidates place ≡ Some kept → kept ≤ bound)
    → (IsTrue true → Within V m A start.entries bound) × (Within V m A start.entries bound → IsTrue true)
all_within V k m A bound start first before candidates from late least enough walks none = (
  λ _. within_same (low V m A) (high V m A) (seen_objects A) (is_first A first.entries) (is_first A start.entries) k bound enough walks.late.keeps.first late.keeps.first walks.least least
      (walk_within V k m A bound first candidates from walks none),
  λ _. refl,
)

pub one_against : (V : List ℕ
    → ℕ) (k m : ℕ) (A : List Access) (bound : ℕ) (start first : Slots) (before candidates : List (Option ℕ)) (from place object kept : ℕ)
    → IsLate V k m A start before → IsLeastLow (low V m A) (is_first A start.entries) bound → k ≤ length (seen_objects A)
    → Walks V k m A bound first candidates from → rank_at candidates place ≡ Some kept → slice_get (seen_objects A) place ≡ Some object
    → bound < high V m A object → (low V m A object < bound) ⊎ AreOpenFrom V m A bound first.entries from (length first.entries)
    → (IsTrue false → Within V m A start.entries bound) × (Within V m A start.entries bound → IsTrue false)
one_against V k m A bound start first before candidates from place object kept late least enough walks at there above reason = (
  λ f. absurd (false≢true f),
  λ within. absurd (walk_witness V k m A bound first candidates from place object kept walks at there above reason
      (within_same (low V m A) (high V m A) (seen_objects A) (is_first A start.entries) (is_first A first.entries) k bound enough late.keeps.first walks.late.keeps.first least walks.least within)),
)

-- a candidate has no slot
pub candidate_absent : (V : List ℕ → ℕ) (k m : ℕ) (A : List Access) (first : Slots) (candidates : List (Option ℕ)) (place object kept : ℕ)
    → IsLate V k m A first candidates → rank_at candidates place ≡ Some kept → slice_get (seen_objects A) place ≡ Some object → HasNoSlot first.entries place
candidate_absent V k m A first candidates place object kept late at there = λ slot entry here same.
    let apart = (late.keeps.apart object (candidate_at A candidates place object kept at there)).1 in
    let has : has_place first.entries place ≡ true = subst (λ q. has_place first.entries q ≡ true) same (has_from first.entries slot entry here) in
    false≢true (sym apart ∙ ap (at_place (has_place first.entries)) (place_at (seen_objects A) place object (seen_distinct A) there) ∙ has)

-- ---- a step of the walk
pub goes_on_without : (V : List ℕ
    → ℕ) (k m : ℕ) (A : List Access) (bound : ℕ) (first after : Slots) (candidates then : List (Option ℕ)) (from next place object kept high_now : ℕ)
    → Walks V k m A bound first candidates from → rank_at candidates place ≡ Some kept → slice_get (seen_objects A) place ≡ Some object
    → high_now ≡ high V m A object → high_now ≤ bound → after ≡ first → next ≡ from → then ≡ set candidates place None → Walks V k m A bound after then next
goes_on_without V k m A bound first after candidates then from next place object kept high_now walks at there high_is within after_is next_is then_is =
    let w : Walks V k m A bound first (set candidates place None) from = walked_given_up V k m A bound first candidates from place object kept walks at there (omega arith) in
    subst (λ s. Walks V k m A bound s then next) (sym after_is)
    (subst (λ cs. Walks V k m A bound first cs next) (sym then_is) (subst (λ n. Walks V k m A bound first (set candidates place None) n) (sym next_is) w))

pub goes_on_exchanged : (V : List ℕ
    → ℕ) (k m : ℕ) (A : List Access) (bound : ℕ) (first replaced after : Slots) (candidates then : List (Option ℕ)) (from next slot place object kept high_now low_now : ℕ)
    → Walks V k m A bound first candidates from → rank_at candidates place ≡ Some kept → slice_get (seen_objects A) place ≡ Some object
    → high_now ≡ high V m A object → bound < high_now → low_now ≡ low V m A object → bound ≤ low_now → GivesPlace V m A bound first.entries from slot
    → replaced ≡ record first { entries = set first.entries slot (record { key = place; rank = bound }) } → AreDistinctKeys replaced.entries
    → after ≡ replaced → next ≡ slot + 1 → then ≡ set candidates place None → Walks V k m A bound after then next
goes_on_exchanged V k m A bound first replaced after candidates then from next slot place object kept high_now low_now walks at there high_is above low_is no_less gives replaced_is distinct after_is next_is then_is =
    let now : Slots = record first { entries = set first.entries slot (record { key = place; rank = bound }) } in
    let w : Walks V k m A bound now (set candidates place None) (slot + 1) = walked_exchanged V k m A bound first candidates from slot place object kept walks at there (omega arith) (omega arith) gives
    (candidate_absent V k m A first candidates place object kept walks.late at there) (subst (λ (s : Slots). AreDistinctKeys s.entries) replaced_is distinct) in
    subst (λ s. Walks V k m A bound s then next) (sym (after_is ∙ replaced_is))
    (subst (λ cs. Walks V k m A bound now cs next) (sym then_is) (subst (λ n. Walks V k m A bound now (set candidates place None) n) (sym next_is) w))

-- ---- quiet
-- where some object wasn't seen the threshold decides
pub unseen_by_threshold : (V : List ℕ → ℕ) (log : Log) (bound at : ℕ) → length (seen_objects log.accesses) < log.count
    → at ≡ threshold V log.lists log.accesses
    → MatchBool (nat_le at bound) (UnseenWithin V log bound) (¬ UnseenWithin V log bound)
unseen_by_threshold V log bound at short is =
    elim (cases_lt bound at) [
      | inl above ↦ subst (λ b. MatchBool b (UnseenWithin V log bound) (¬ UnseenWithin V log bound)) (sym (lt-leb at bound above)) (λ within. elim within [
        | inl all ↦ absurd (omega arith)
        | inr upto ↦ absurd (omega arith)
      ])
      | inr upto ↦ subst (λ b. MatchBool b (UnseenWithin V log bound) (¬ UnseenWithin V log bound)) (sym (le-leb at bound upto)) (inr (omega arith))
    ]

pub quiet_few : (V : List ℕ → ℕ) (k m n : ℕ) (A : List Access) (first : Slots) (candidates : List (Option ℕ)) → IsLate V k m A first candidates
    → (length first.entries < k) ⊎ (k ≡ 0) → false ≡ is_quiet_seen V k m n A
quiet_few V k m n A first candidates late few =
    let full = late.full in
    let asked = late.asked in
    let short : length (seen_objects A) < k = elim few [ inl less ↦ omega arith | inr zero_k ↦ omega arith ] in
    both_ways false (is_quiet_seen V k m n A) (λ f. absurd (false≢true f))
    (λ q. let stop = stop_from_quiet V k m n A (is_first A first.entries) 0 asked late.keeps.first (λ enough. let h : ⊥ = omega arith in absurd h) q in
    let enough = stop.enough in
    let h : ⊥ = omega arith in absurd h)

pub quiet_unseen : (V : List ℕ → ℕ) (k : ℕ) (log : Log) (first : Slots) (candidates : List (Option ℕ)) (bound : ℕ)
    → IsLate V k log.lists log.accesses first candidates
    → HasLeast k first.entries bound → (¬ UnseenWithin V log bound) → false ≡ is_quiet_seen V k log.lists log.count log.accesses
quiet_unseen V k log first candidates bound late has against =
    both_ways false (is_quiet_seen V k log.lists log.count log.accesses) (λ f. absurd (false≢true f))
    (λ q. absurd (against (stop_from_quiet V k log.lists log.count log.accesses (is_first log.accesses first.entries) bound late.asked late.keeps.first (λ enough. least_low_is V k log.lists log.accesses first candidates bound late has) q).unseen))

pub quiet_others : (V : List ℕ → ℕ) (k : ℕ) (log : Log) (first : Slots) (candidates : List (Option ℕ)) (bound : ℕ) (answer : Bool)
    → IsLate V k log.lists log.accesses first candidates
    → HasLeast k first.entries bound → UnseenWithin V log bound → (IsTrue answer → Within V log.lists log.accesses first.entries bound) × (Within V log.lists log.accesses first.entries bound → IsTrue answer)
    → answer ≡ is_quiet_seen V k log.lists log.count log.accesses
quiet_others V k log first candidates bound answer late has unseen exact =
    let least = λ (enough : k ≤ length (seen_objects log.accesses)). least_low_is V k log.lists log.accesses first candidates bound late has in
    both_ways answer (is_quiet_seen V k log.lists log.count log.accesses)
    (λ t. quiet_from_stop V k log.lists log.count log.accesses (is_first log.accesses first.entries) bound late.asked late.keeps.first least
    (record { enough = enough_seen V k log.lists log.accesses first candidates late has.enough; unseen = unseen; others = exact.0 t }))
    (λ q. exact.1 (stop_from_quiet V k log.lists log.count log.accesses (is_first log.accesses first.entries) bound late.asked late.keeps.first least q).others)
