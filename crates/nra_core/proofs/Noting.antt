-- What each way of noting an access keeps, in the words of the call.
use Rattle.std.proofs.Common.{◌≡◌, ℕ, ◌<◌, ◌≤◌, List, [], ◌∷◌, ◌++◌, length, set, Option, Some, None, nat_eq, position, Contains, sym, ap, subst, ◌∙◌, arith}
use Rattle.std.specs.List.{slice_get}
use Rattle.std.proofs.lemmas.List.{length-set}
use Rattle.std.proofs.lemmas.Option.{same_Some, slice_get_within}
use Rattle.monotone_fn.specs.Tree.{Tree}
use Rattle.monotone_fn.specs.Value.{value}
use Rattle.monotone_fn.proofs.Laws.{value-monotone}
use Rattle.topk_theory.specs.declared.access.Access.{Access}
use Rattle.topk_theory.specs.Transcript.{Agrees, object_of, seen_objects}
use Rattle.topk_theory.specs.Bounds.{low, high}
use Rattle.access_log.specs.Log.{Log, IsConsistent}
use Rattle.access_log.proofs.RecordKept.{placed}
use Rattle.containers.specs.declared.slots.Entry.{Entry}
use Rattle.containers.specs.Slots.{Slots, HasNoSlot, IsAt, IsLeast, AreDistinctKeys, IsRenewed}
use Rattle.nra_core.specs.Late.{AreNextBounds}
use Rattle.nra_core.proofs.Renewed.{next_bounds}
use Rattle.nra_core.specs.declared.late.LateBounds.{LateBounds}
use Rattle.nra_core.specs.LatePlaces.{IsLate, IsLateAfter, WasLate}
use Rattle.nra_core.proofs.Noted.{noted_member, noted_few, noted_outside, noted_known, noted_exchange, old_or_new, no_fewer}

-- ---- the last access closes the bounds in
abbrev AreNext : (List ℕ → ℕ) → ℕ → List Access → List Access → ℕ → Type 0
AreNext V m A B o = AreNextBounds (low V m A) (high V m A) (low V m B) (high V m B) o

pub bounds_close_in : (e : Tree) (log : Log) (object : ℕ) (late : LateBounds) → IsConsistent log → (was : WasLate e log object late)
    → AreNext (value e) log.lists was.before log.accesses object
bounds_close_in e log object late agrees was =
    let V = value e in
    let A = was.before in
    let last : Agrees log.lists log.count agrees.0 (A ++ was.access ∷ []) = subst (λ B. Agrees log.lists log.count agrees.0 B) was.told agrees.1 in
    subst (λ o. AreNext V log.lists A log.accesses o) was.named
    (subst (λ B. AreNext V log.lists A B (object_of was.access)) (sym was.told)
    (next_bounds V log.lists log.count agrees.0 A was.access (value-monotone e) last))

-- ---- the ways of noting, with the accesses B and the object told otherwise
abbrev NotesMember : (List ℕ → ℕ) → ℕ → ℕ → List Access → Slots → List (Option ℕ) → ℕ → ℕ → Entry → List Access → ℕ → Type 0
NotesMember V k m A first candidates slot place old B o =
    AreNext V m A B o → Contains (seen_objects B) o → IsLate V k m A first candidates → slice_get first.entries slot ≡ Some old → old.key ≡ place
    → slice_get (seen_objects B) place ≡ Some o → AreDistinctKeys (set first.entries slot (record { key = old.key; rank = low V m B o }))
    → IsLate V k m B (record first { entries = set first.entries slot (record { key = old.key; rank = low V m B o }) }) candidates

member_told : (V : List ℕ
    → ℕ) (k m : ℕ) (A : List Access) (a : Access) (first : Slots) (candidates : List (Option ℕ)) (slot place : ℕ) (old : Entry) (B : List Access) (o : ℕ)
    → B ≡ A ++ a ∷ [] → object_of a ≡ o → NotesMember V k m A first candidates slot place old B o
member_told V k m A a first candidates slot place old B o told named =
    subst (λ x. NotesMember V k m A first candidates slot place old B x) named
    (subst (λ C. NotesMember V k m A first candidates slot place old C (object_of a)) (sym told)
    (noted_member V k m A a first candidates slot place old))

abbrev NotesFew : (List ℕ → ℕ) → ℕ → ℕ → List Access → Slots → List (Option ℕ) → ℕ → List Access → ℕ → Type 0
NotesFew V k m A first candidates place B o =
    AreNext V m A B o → Contains (seen_objects B) o → length (seen_objects B) ≤ first.room → IsLate V k m A first candidates
    → length first.entries < k → HasNoSlot first.entries place → slice_get (seen_objects B) place ≡ Some o
    → AreDistinctKeys (first.entries ++ record { key = place; rank = low V m B o } ∷ [])
    → IsLate V k m B (record first { entries = first.entries ++ record { key = place; rank = low V m B o } ∷ [] }) candidates

few_told : (V : List ℕ → ℕ) (k m : ℕ) (A : List Access) (a : Access) (first : Slots) (candidates : List (Option ℕ)) (place : ℕ) (B : List Access) (o : ℕ)
    → B ≡ A ++ a ∷ [] → object_of a ≡ o → NotesFew V k m A first candidates place B o
few_told V k m A a first candidates place B o told named =
    subst (λ x. NotesFew V k m A first candidates place B x) named
    (subst (λ C. NotesFew V k m A first candidates place C (object_of a)) (sym told)
    (noted_few V k m A a first candidates place))

abbrev NotesOutside : (List ℕ → ℕ) → ℕ → ℕ → List Access → Slots → List (Option ℕ) → ℕ → ℕ → List Access → ℕ → Type 0
NotesOutside V k m A first candidates place slot B o =
    AreNext V m A B o → Contains (seen_objects B) o → length (seen_objects B) ≤ first.room → IsLate V k m A first candidates
    → k ≤ length first.entries → HasNoSlot first.entries place → slice_get (seen_objects B) place ≡ Some o
    → (least : IsLeast first.entries slot) → low V m B o ≤ least.entry.rank
    → IsLate V k m B first (set candidates place (Some (high V m B o)))

outside_told : (V : List ℕ
    → ℕ) (k m : ℕ) (A : List Access) (a : Access) (first : Slots) (candidates : List (Option ℕ)) (place slot : ℕ) (B : List Access) (o : ℕ)
    → B ≡ A ++ a ∷ [] → object_of a ≡ o → NotesOutside V k m A first candidates place slot B o
outside_told V k m A a first candidates place slot B o told named =
    subst (λ x. NotesOutside V k m A first candidates place slot B x) named
    (subst (λ C. NotesOutside V k m A first candidates place slot C (object_of a)) (sym told)
    (noted_outside V k m A a first candidates place slot))

abbrev NotesKnown : (List ℕ → ℕ) → ℕ → ℕ → List Access → Slots → List (Option ℕ) → ℕ → ℕ → List Access → ℕ → Type 0
NotesKnown V k m A first candidates place slot B o =
    AreNext V m A B o → Contains (seen_objects B) o → length (seen_objects B) ≤ first.room → IsLate V k m A first candidates
    → k ≤ length first.entries → HasNoSlot first.entries place → slice_get (seen_objects B) place ≡ Some o → place < length (seen_objects A)
    → (least : IsLeast first.entries slot) → low V m B o ≤ least.entry.rank → IsLate V k m B first candidates

known_told : (V : List ℕ → ℕ) (k m : ℕ) (A : List Access) (a : Access) (first : Slots) (candidates : List (Option ℕ)) (place slot : ℕ) (B : List Access) (o : ℕ)
    → B ≡ A ++ a ∷ [] → object_of a ≡ o → NotesKnown V k m A first candidates place slot B o
known_told V k m A a first candidates place slot B o told named =
    subst (λ x. NotesKnown V k m A first candidates place slot B x) named
    (subst (λ C. NotesKnown V k m A first candidates place slot C (object_of a)) (sym told)
    (noted_known V k m A a first candidates place slot))

abbrev NotesExchange : (List ℕ → ℕ) → ℕ → ℕ → List Access → Slots → List (Option ℕ) → ℕ → ℕ → ℕ → List Access → ℕ → Type 0
NotesExchange V k m A first candidates place slot left B o =
    AreNext V m A B o → Contains (seen_objects B) o → length (seen_objects B) ≤ first.room → IsLate V k m A first candidates
    → k ≤ length first.entries → HasNoSlot first.entries place → slice_get (seen_objects B) place ≡ Some o
    → (least : IsLeast first.entries slot) → least.entry.rank ≤ low V m B o → slice_get (seen_objects B) least.entry.key ≡ Some left
    → AreDistinctKeys (set first.entries slot (record { key = place; rank = low V m B o }))
    → IsLate V k m B (record first { entries = set first.entries slot (record { key = place; rank = low V m B o }) }) (set (set candidates place None) least.entry.key (Some (high V m B left)))

exchange_told : (V : List ℕ
    → ℕ) (k m : ℕ) (A : List Access) (a : Access) (first : Slots) (candidates : List (Option ℕ)) (place slot left : ℕ) (B : List Access) (o : ℕ)
    → B ≡ A ++ a ∷ [] → object_of a ≡ o → NotesExchange V k m A first candidates place slot left B o
exchange_told V k m A a first candidates place slot left B o told named =
    subst (λ x. NotesExchange V k m A first candidates place slot left B x) named
    (subst (λ C. NotesExchange V k m A first candidates place slot left C (object_of a)) (sym told)
    (noted_exchange V k m A a first candidates place slot left))

-- ---- the call
same_slots : (a b : Slots) → a.most ≡ b.most → a.room ≡ b.room → a.entries ≡ b.entries → a ≡ b
same_slots a b most room entries =
    ap (λ (n : ℕ). record { most = n; room = a.room; entries = a.entries }) most
    ∙ ap (λ (n : ℕ). record { most = b.most; room = n; entries = a.entries }) room
    ∙ ap (λ (es : List Entry). record { most = b.most; room = b.room; entries = es }) entries

-- one of the first is renewed
pub note_member : (e : Tree) (log : Log) (object : ℕ) (late : LateBounds) (place slot low_now seen_now : ℕ) (after : Slots) → IsConsistent log
    → (was : WasLate e log object late) → position (nat_eq object) (seen_objects log.accesses) ≡ Some place → IsAt late.first.entries place slot
    → seen_now ≡ length (seen_objects log.accesses) → low_now ≡ low (value e) log.lists log.accesses object
    → IsRenewed slot low_now late.first after → AreDistinctKeys after.entries
    → IsLateAfter e log.lists log.accesses (record { k = late.k; seen = seen_now; first = after; candidates = late.candidates })
note_member e log object late place slot low_now seen_now after agrees was at is_at seen_is low_is renewed distinct =
    let V = value e in
    let B = log.accesses in
    let first = late.first in
    let old : Entry = renewed.entry in
    let key : old.key ≡ place = ap (λ (x : Entry). x.key) (same_Some old (record { key = place; rank = is_at.0 }) (sym renewed.there ∙ is_at.1)) in
    let entries_are : after.entries ≡ set first.entries slot (record { key = old.key; rank = low V log.lists B object }) = renewed.entries ∙ ap (λ r. set first.entries slot (record { key = old.key; rank = r })) low_is in
    let after_is : after ≡ record first { entries = set first.entries slot (record { key = old.key; rank = low V log.lists B object }) } = same_slots after (record first { entries = set first.entries slot (record { key = old.key; rank = low V log.lists B object }) }) renewed.most renewed.room entries_are in
    record {
      seen = seen_is;
      kept = subst (λ s. IsLate V late.k log.lists B s late.candidates) (sym after_is)
          (member_told V late.k log.lists was.before was.access first late.candidates slot place old B object was.told was.named (bounds_close_in e log object late agrees was) was.seen
          was.kept.kept renewed.there key (placed object place (seen_objects B) at) (subst (λ es. AreDistinctKeys es) entries_are distinct));
    }

-- fewer than k were seen
pub note_few : (e : Tree) (log : Log) (object : ℕ) (late : LateBounds) (place low_now seen_now : ℕ) (after : Slots) → IsConsistent log
    → (was : WasLate e log object late) → position (nat_eq object) (seen_objects log.accesses) ≡ Some place → HasNoSlot late.first.entries place
    → seen_now ≡ length (seen_objects log.accesses) → low_now ≡ low (value e) log.lists log.accesses object → length late.first.entries < late.k
    → after ≡ record late.first { entries = late.first.entries ++ record { key = place; rank = low_now } ∷ [] } → AreDistinctKeys after.entries
    → IsLateAfter e log.lists log.accesses (record { k = late.k; seen = seen_now; first = after; candidates = late.candidates })
note_few e log object late place low_now seen_now after agrees was at none seen_is low_is few added distinct =
    let V = value e in
    let B = log.accesses in
    let first = late.first in
    let now : Slots = record first { entries = first.entries ++ record { key = place; rank = low V log.lists B object } ∷ [] } in
    let after_is : after ≡ now = added ∙ ap (λ r. record first { entries = first.entries ++ record { key = place; rank = r } ∷ [] }) low_is in
    record {
      seen = seen_is;
      kept = subst (λ s. IsLate V late.k log.lists B s late.candidates) (sym after_is)
          (few_told V late.k log.lists was.before was.access first late.candidates place B object was.told was.named (bounds_close_in e log object late agrees was) was.seen was.room
          was.kept.kept few none (placed object place (seen_objects B) at) (subst (λ (s : Slots). AreDistinctKeys s.entries) after_is distinct));
    }

-- its low isn't above the least, and it is new
pub note_outside : (e : Tree) (log : Log) (object : ℕ) (late : LateBounds) (place slot low_now high_now seen_now : ℕ) (got : Entry) (after : List (Option ℕ))
    → IsConsistent log
    → (was : WasLate e log object late) → position (nat_eq object) (seen_objects log.accesses) ≡ Some place → HasNoSlot late.first.entries place
    → seen_now ≡ length (seen_objects log.accesses) → low_now ≡ low (value e) log.lists log.accesses object → late.k ≤ length late.first.entries
    → IsLeast late.first.entries slot → slice_get late.first.entries slot ≡ Some got → low_now ≤ got.rank
    → high_now ≡ high (value e) log.lists log.accesses object → after ≡ set late.candidates place (Some high_now)
    → IsLateAfter e log.lists log.accesses (record { k = late.k; seen = seen_now; first = late.first; candidates = after })
note_outside e log object late place slot low_now high_now seen_now got after agrees was at none seen_is low_is many least got_is below high_is put =
    let V = value e in
    let B = log.accesses in
    let rank : least.entry.rank ≡ got.rank = ap (λ (x : Entry). x.rank) (same_Some least.entry got (sym least.there ∙ got_is)) in
    let after_is : after ≡ set late.candidates place (Some (high V log.lists B object)) = put ∙ ap (λ h. set late.candidates place (Some h)) high_is in
    record {
      seen = seen_is;
      kept = subst (λ cs. IsLate V late.k log.lists B late.first cs) (sym after_is)
          (outside_told V late.k log.lists was.before was.access late.first late.candidates place slot B object was.told was.named (bounds_close_in e log object late agrees was) was.seen was.room
          was.kept.kept many none (placed object place (seen_objects B) at) least (omega arith));
    }

-- its low isn't above the least, and it was seen before
pub note_known : (e : Tree) (log : Log) (object : ℕ) (late : LateBounds) (place slot low_now seen_now : ℕ) (got : Entry) → IsConsistent log
    → (was : WasLate e log object late) → position (nat_eq object) (seen_objects log.accesses) ≡ Some place → HasNoSlot late.first.entries place
    → seen_now ≡ length (seen_objects log.accesses) → low_now ≡ low (value e) log.lists log.accesses object → late.k ≤ length late.first.entries
    → IsLeast late.first.entries slot → slice_get late.first.entries slot ≡ Some got → low_now ≤ got.rank → place < late.seen
    → IsLateAfter e log.lists log.accesses (record { k = late.k; seen = seen_now; first = late.first; candidates = late.candidates })
note_known e log object late place slot low_now seen_now got agrees was at none seen_is low_is many least got_is below before =
    let V = value e in
    let B = log.accesses in
    let rank : least.entry.rank ≡ got.rank = ap (λ (x : Entry). x.rank) (same_Some least.entry got (sym least.there ∙ got_is)) in
    let seen_was = was.kept.seen in
    record {
      seen = seen_is;
      kept = known_told V late.k log.lists was.before was.access late.first late.candidates place slot B object was.told was.named (bounds_close_in e log object late agrees was) was.seen was.room
          was.kept.kept many none (placed object place (seen_objects B) at) (omega arith) least (omega arith);
    }

-- its low is above the least, whose place it takes
pub note_exchange : (e : Tree) (log : Log) (object : ℕ) (late : LateBounds) (place slot low_now high_left left leaves seen_now : ℕ) (got : Entry)
    (after : Slots) (emptied candidates : List (Option ℕ)) → IsConsistent log
    → (was : WasLate e log object late) → position (nat_eq object) (seen_objects log.accesses) ≡ Some place → HasNoSlot late.first.entries place
    → seen_now ≡ length (seen_objects log.accesses) → low_now ≡ low (value e) log.lists log.accesses object → late.k ≤ length late.first.entries
    → IsLeast late.first.entries slot → slice_get late.first.entries slot ≡ Some got → got.rank < low_now
    → IsAt late.first.entries leaves slot → after ≡ record late.first { entries = set late.first.entries slot (record { key = place; rank = low_now }) } → AreDistinctKeys after.entries
    → slice_get (seen_objects log.accesses) leaves ≡ Some left → high_left ≡ high (value e) log.lists log.accesses left
    → emptied ≡ set late.candidates place None → candidates ≡ set emptied leaves (Some high_left)
    → IsLateAfter e log.lists log.accesses (record { k = late.k; seen = seen_now; first = after; candidates = candidates })
note_exchange e log object late place slot low_now high_left left leaves seen_now got after emptied candidates agrees was at none seen_is low_is many least got_is above is_at replaced distinct left_there high_is removed put =
    let V = value e in
    let B = log.accesses in
    let first = late.first in
    let rank : least.entry.rank ≡ got.rank = ap (λ (x : Entry). x.rank) (same_Some least.entry got (sym least.there ∙ got_is)) in
    let key : leaves ≡ least.entry.key = ap (λ (x : Entry). x.key) (same_Some (record { key = leaves; rank = is_at.0 }) least.entry (sym is_at.1 ∙ least.there)) in
    let after_is : after ≡ record first { entries = set first.entries slot (record { key = place; rank = low V log.lists B object }) } = replaced ∙ ap (λ r. record first { entries = set first.entries slot (record { key = place; rank = r }) }) low_is in
    let candidates_are : candidates ≡ set (set late.candidates place None) least.entry.key (Some (high V log.lists B left)) = put ∙ ap (λ cs. set cs leaves (Some high_left)) removed ∙ ap (λ q. set (set late.candidates place None) q (Some high_left)) key ∙ ap (λ h. set (set late.candidates place None) least.entry.key (Some h)) high_is in
    record {
      seen = seen_is;
      kept = subst (λ s. IsLate V late.k log.lists B s candidates) (sym after_is)
          (subst (λ cs. IsLate V late.k log.lists B (record first { entries = set first.entries slot (record { key = place; rank = low V log.lists B object }) }) cs) (sym candidates_are)
          (exchange_told V late.k log.lists was.before was.access first late.candidates place slot left B object was.told was.named (bounds_close_in e log object late agrees was) was.seen was.room
          was.kept.kept many none (placed object place (seen_objects B) at) least (omega arith) (ap (slice_get (seen_objects B)) (sym key) ∙ left_there)
          (subst (λ (s : Slots). AreDistinctKeys s.entries) after_is distinct)));
    }

-- the place that leaves is that of a seen object
pub leaves_within : (e : Tree) (log : Log) (object : ℕ) (late : LateBounds) (slot leaves : ℕ) → (was : WasLate e log object late)
    → IsAt late.first.entries leaves slot
    → leaves < length (seen_objects log.accesses)
leaves_within e log object late slot leaves was is_at =
    let A = was.before in
    let here = was.kept.kept.places slot (record { key = leaves; rank = is_at.0 }) is_at.1 in
    let c : Contains (seen_objects (A ++ was.access ∷ [])) (object_of was.access) = subst (λ o. Contains (seen_objects (A ++ was.access ∷ [])) o) (sym was.named) (subst (λ B. Contains (seen_objects B) object) was.told was.seen) in
    let more = no_fewer A was.access (old_or_new A was.access c) in
    let size : length (seen_objects log.accesses) ≡ length (seen_objects (A ++ was.access ∷ [])) = ap (λ B. length (seen_objects B)) was.told in
    omega arith

-- the object's place, and that of whoever leaves, have room
pub place_in_room : (e : Tree) (log : Log) (object : ℕ) (late : LateBounds) (place : ℕ) → WasLate e log object late
    → position (nat_eq object) (seen_objects log.accesses) ≡ Some place → (place < late.first.room) × (place < length late.candidates)
place_in_room e log object late place was at =
    let within = slice_get_within (seen_objects log.accesses) place object (placed object place (seen_objects log.accesses) at) in
    let fits = was.room in
    let room = was.kept.kept.room in
    (omega arith, omega arith)

pub leaves_in_room : (e : Tree) (log : Log) (object : ℕ) (late : LateBounds) (slot leaves place : ℕ) (emptied : List (Option ℕ)) → WasLate e log object late
    → IsAt late.first.entries leaves slot → emptied ≡ set late.candidates place None → leaves < length emptied
leaves_in_room e log object late slot leaves place emptied was at is =
    let within = leaves_within e log object late slot leaves was at in
    let fits = was.room in
    let room = was.kept.kept.room in
    let size : length emptied ≡ length (set late.candidates place None) = ap (λ (cs : List (Option ℕ)). length cs) is in
    let same : length (set late.candidates place None) ≡ length late.candidates = length-set late.candidates place None in
    omega arith
