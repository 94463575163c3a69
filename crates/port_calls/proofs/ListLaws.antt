-- The lists of a catalog that is served, and how serving ends.
use Rattle.std.proofs.Common.{◌≡◌, ◌≤◌, ◌<◌, ◌+◌, ℕ, zero, suc, Bool, true, false, List, [], ◌∷◌, ◌++◌, Option, Some, All, Contains, length, map, take, reverse, replicate, nat_le, leb-true, leb-false, refl, sym, ap, subst, ◌∙◌, inr, arith}
use Rattle.std.specs.Prelude.{if◌then◌else◌}
use Rattle.std.proofs.lemmas.Bool.{false≢true}
use Rattle.std.proofs.lemmas.List.{get_or-map, length-map, take_all}
use Rattle.ranked_list.specs.declared.row.Row.{Row}
use Rattle.topk_base.specs.declared.TheConstants.{MAX_OBJECTS}
use Rattle.source_api.specs.declared.counts.Counts.{Counts}
use Rattle.fetcher.specs.declared.slot.Slot.{Slot}
use Rattle.catalog_open.specs.Slots.{of_slot, sources_in}
use Rattle.source_api.specs.Places.{SameAtEach}
use Rattle.catalog_text.specs.Catalog.{Listed as Entry}
use Rattle.catalog_open.specs.declared.opened.Opening.{Opening}
use Rattle.catalog_open.specs.declared.opened.Opening.TheVariants.{Closed, Open}
use Rattle.catalog_open.specs.Entries.{opening_at, is_marked, IsMarked}
use Rattle.catalog_open.specs.Openings.{AreOpened, AsksEachAtMostOnce, AsksEachOnce, Counted, IsOpening, IsSource, KeepsOthers, PutsBack, Sources, Used, no_sources, put_back}
use Rattle.catalog_open.proofs.Once.{few_back, once_back}
use Rattle.catalog_run.proofs.Whole.{back_keeps, opened_for, run_moves}
use Rattle.query_server.specs.Entries.{AreEntriesOf, IsSized}
use Rattle.query_server.specs.OpenedEntry.{OpenedEntry}
use Rattle.query_server.specs.OpenedEntry.TheVariants.{Opened, TooLarge}
use Rattle.query_server.specs.Homes.{AreHomes, home_at, home_of}
use Rattle.query_server.specs.Reopening.{IsAtHand}
use Rattle.query_server.specs.declared.server.Served.{Served}
use Rattle.query_server.specs.declared.server.Served.TheVariants.{Ended, PortFault as AtFault, Memory as NoMemory}
use Rattle.command_line.specs.Shelves.{Shelf}
use Rattle.port_calls.specs.Ports.{Ports}
use Rattle.port_calls.specs.Opening.{BorrowsSome, BorrowsAll, IsOneOf, entry_of, every, OpensAll}
use Rattle.command_line.specs.declared.node.Listening.{Listening}
use Rattle.port_calls.specs.ServeEnds.{EndsLists, ServesPort}

-- each entry of a catalog is marked, and nothing else
marked_within : (n place : ℕ) → is_marked (replicate n true) place ≡ true → place < n
marked_within zero place h = absurd (false≢true h)
marked_within (suc n) zero h = omega arith
marked_within (suc n) (suc place) h = let l = marked_within n place h in omega (arith, l)

within_marked : (n place : ℕ) → place < n → is_marked (replicate n true) place ≡ true
within_marked zero place h = absurd (omega (arith, h))
within_marked (suc n) zero h = refl
within_marked (suc n) (suc place) h = within_marked n place (omega (arith, h))

pub opened_every : (lists : List ℕ → Option (List Row)) (versions : List ℕ → Option ℕ) (catalog : List Entry) (marks : List Bool) (before now : Counted)
    (openings : List Opening) (s : Sources) → marks ≡ every catalog → AreOpened lists versions catalog (IsMarked marks) before now openings s
    → AreOpened lists versions catalog (IsOneOf catalog) before now openings s
opened_every lists versions catalog marks before now openings s is are =
    opened_for lists versions catalog (IsMarked marks) (IsOneOf catalog) before now openings s
    (λ place h. marked_within (length catalog) place (subst (λ ms. is_marked ms place ≡ true) is h))
    (λ place h. subst (λ ms. is_marked ms place ≡ true) (sym is) (within_marked (length catalog) place h)) are

-- what becomes of a list is within the sizes of lists
sized_entry : (o : Opening) → IsSized (entry_of o)
sized_entry Closed = tt
sized_entry (Open size source version) = go (nat_le size MAX_OBJECTS) refl
  where
    go : (b : Bool) → nat_le size MAX_OBJECTS ≡ b → IsSized (if b then Opened size source version else TooLarge size (Some source))
    go true e = leb-true size MAX_OBJECTS e
    go false e = let past = leb-false size MAX_OBJECTS e in omega (arith, past)

sized_entries : (os : List Opening) → All IsSized (map entry_of os)
sized_entries [] i d l = absurd (omega (arith, l))
sized_entries (o ∷ os) zero d l = sized_entry o
sized_entries (o ∷ os) (suc i) d l = sized_entries os i d (omega (arith, l))

pub are_entries : (catalog : List Entry) (openings : List Opening) (entries : List OpenedEntry) → entries ≡ map entry_of openings
    → length openings ≡ length catalog → AreEntriesOf catalog entries
are_entries catalog openings entries is many = subst (AreEntriesOf catalog) (sym is) (record { many = length-map openings entry_of ∙ many; sized = sized_entries openings })

-- a list that has a source is open by it
record OpenThere (openings : List Opening) (place source : ℕ) : Type 0 where
  pub within : place < length openings
  pub size : ℕ
  pub version : ℕ
  pub open_as : opening_at openings place ≡ Open size source version

home_opened : (o : Opening) (source : ℕ) → home_of (entry_of o) ≡ Some source → (size : ℕ) × (version : ℕ) × (o ≡ Open size source version)
home_opened Closed source h = absurd (cc)
home_opened (Open size s version) source h = go (nat_le size MAX_OBJECTS) h
  where
    go : (b : Bool) → home_of (if b then Opened size s version else TooLarge size (Some s)) ≡ Some source
        → (size_is : ℕ) × (version_is : ℕ) × (Open size s version ≡ Open size_is source version_is)
    go true e = let same : s ≡ source = cc in (size, version, ap (λ t. Open size t version) same)
    go false e = let same : s ≡ source = cc in (size, version, ap (λ t. Open size t version) same)

open_there : (openings : List Opening) (place source : ℕ) → home_at (map home_of (map entry_of openings)) place ≡ Some source → OpenThere openings place source
open_there [] place source h = absurd (cc)
open_there (o ∷ openings) zero source h =
    let t = home_opened o source h in
    record { within = omega arith; size = t.0; version = t.1; open_as = t.2 }
open_there (o ∷ openings) (suc place) source h =
    let t = open_there openings place source h in
    let w = t.within in
    record { within = omega (arith, w); size = t.size; version = t.version; open_as = t.open_as }

-- each list that is open has a source of its own
pub are_homes : (lists : List ℕ → Option (List Row)) (versions : List ℕ → Option ℕ) (catalog : List Entry) (W : ℕ → Type 0) (before now : Counted)
    (openings : List Opening) (s : Sources) (sources : ℕ) (entries : List OpenedEntry) → entries ≡ map entry_of openings → sources ≡ length s.places
    → AreOpened lists versions catalog W before now openings s → AreHomes sources (map home_of entries)
are_homes lists versions catalog W before now openings s sources entries is many are =
    subst (λ es. AreHomes sources (map home_of es)) (sym is) (record {
      within = λ place source h. let w = (source_at place source h).within in omega (arith, w, many);
      apart = λ place other source h k. sym (source_at place source h).stands ∙ (source_at other source k).stands;
    })
  where
    there : (place source : ℕ) → home_at (map home_of (map entry_of openings)) place ≡ Some source → OpenThere openings place source
    there place source h = open_there openings place source h

    source_at : (place source : ℕ) → (h : home_at (map home_of (map entry_of openings)) place ≡ Some source)
        → IsSource lists versions catalog s place (there place source h).size source (there place source h).version
    source_at place source h =
        let t = there place source h in
        let opening : IsOpening lists versions catalog s W before now place (Open t.size source t.version) =
        subst (IsOpening lists versions catalog s W before now place) t.open_as (are.each place t.within) in
        opening.1

-- each list that is open has the version that its source has at hand
module _ (lists : List ℕ → Option (List Row)) (versions : List ℕ → Option ℕ) (catalog : List Entry) (W : ℕ → Type 0) (before now : Counted) where
  hand_opened : {S : Type 0} (list : S → Option (List Row)) (at_hand : S → ℕ) (slots : List (Slot S)) (places counts : List ℕ) (place : ℕ) (o : Opening)
      → IsOpening lists versions catalog (sources_in list at_hand slots places counts) W before now place o → IsAtHand at_hand slots (entry_of o)
  hand_opened list at_hand slots places counts place Closed is = tt
  hand_opened {S} list at_hand slots places counts place (Open size source version) is = go (nat_le size MAX_OBJECTS)
    where
      go : (b : Bool) → IsAtHand at_hand slots (if b then Opened size source version else TooLarge size (Some source))
      go true = λ d l. sym is.1.at.at_hand ∙ get_or-map (of_slot at_hand) slots source d 0 l
      go false = tt

  pub are_at_hand : {S : Type 0} (openings : List Opening) (list : S → Option (List Row)) (at_hand : S → ℕ) (slots : List (Slot S)) (places counts : List ℕ)
      (entries : List OpenedEntry) → entries ≡ map entry_of openings → AreOpened lists versions catalog W before now openings (sources_in list at_hand slots places counts)
      → All (IsAtHand at_hand slots) entries
  are_at_hand openings list at_hand slots places counts entries is are =
      subst (All (IsAtHand at_hand slots)) (sym is)
      (λ i d l. let there : i < length openings = (let e = length-map openings entry_of in omega (arith, e, l)) in
      subst (IsAtHand at_hand slots) (sym (get_or-map entry_of openings i Closed d there))
      (hand_opened list at_hand slots places counts i (opening_at openings i) (are.each i there)))

-- sources were taken of a shelf and put back
pub borrows : (catalog : List Entry) (before mid now : Shelf) (openings : List Opening) (s : Sources) (counts : List Counts)
    → SameAtEach before.texts mid.texts → SameAtEach before.lists mid.lists → SameAtEach before.versions mid.versions
    → SameAtEach mid.texts now.texts → SameAtEach mid.lists now.lists → SameAtEach mid.versions now.versions
    → length counts ≡ length s.places → AreOpened before.lists before.versions catalog (IsOneOf catalog) before.at mid.at openings s
    → AsksEachAtMostOnce catalog (every catalog) before.at mid.at
    → PutsBack (reverse (put_back catalog s.places counts)) mid.at now.at → KeepsOthers catalog (Contains s.places) mid.at now.at
    → BorrowsSome catalog before now
borrows catalog before mid now openings s counts t l v t_now l_now v_now many are few back others =
    let moves = run_moves before.lists before.versions catalog (IsOneOf catalog) before.at mid.at now.at openings s counts many are back in
    record {
      tells = record { texts = λ place. t_now place ∙ t place; lists = λ place. l_now place ∙ l place; versions = λ place. v_now place ∙ v place };
      used = moves.0;
      moves = moves.1;
      few = few_back catalog (every catalog) (reverse (put_back catalog s.places counts)) before.at mid.at now.at few back;
      others = back_keeps before.lists before.versions catalog (IsOneOf catalog) before.at mid.at now.at openings s are others;
    }

pub borrows_all : (catalog : List Entry) (before mid now : Shelf) (back : List Used) → BorrowsSome catalog before now
    → AsksEachOnce catalog (every catalog) before.at mid.at → PutsBack back mid.at now.at → BorrowsAll catalog before now
borrows_all catalog before mid now back b once puts =
    record { borrows = b; once = once_back catalog (every catalog) back before.at mid.at now.at once puts }

pub lists_end : (l : Listening) (catalog : List Entry) (before now : Shelf) (p : Ports) (served : Served) → BorrowsAll catalog before now
    → OpensAll catalog before now → ServesPort l p served → p.after.closed ≡ p.before.closed → EndsLists l catalog before now p served
lists_end l catalog before now p (Ended count) b opens serves closed = record { borrows = b; opens = opens; serves = serves; closed = closed }
lists_end l catalog before now p AtFault b opens serves closed = record { borrows = b; opens = opens; serves = serves; closed = closed }
lists_end l catalog before now p NoMemory b opens serves closed = (b.borrows, inr serves)

mapped_next : (openings : List Opening) (place : ℕ) → place < length openings
    → map entry_of (take (suc place) openings) ≡ map entry_of (take place openings) ++ entry_of (opening_at openings place) ∷ []
mapped_next [] place l = absurd (omega (arith, l))
mapped_next (o ∷ openings) zero l = refl
mapped_next (o ∷ openings) (suc place) l = ap (λ es. entry_of o ∷ es) (mapped_next openings place (omega (arith, l)))

-- what becomes of the lists before a place
pub record EntriesTo (place : ℕ) (openings : List Opening) (entries : List OpenedEntry) : Type 0 where
  pub is : entries ≡ map entry_of (take place openings)

pub entries_none : (openings : List Opening) (entries : List OpenedEntry) → entries ≡ [] → EntriesTo 0 openings entries
entries_none openings entries none = record { is = none }

pub entries_more : (place : ℕ) (openings : List Opening) (entries now : List OpenedEntry) (entry : OpenedEntry) → place < length openings
    → EntriesTo place openings entries → entry ≡ entry_of (opening_at openings place) → now ≡ entries ++ entry ∷ [] → EntriesTo (place + 1) openings now
entries_more place openings entries now entry within so is push =
    let next : suc place ≡ place + 1 = omega arith in
    record {
      is = push ∙ (ap (λ es. es ++ entry ∷ []) so.is ∙ (ap (λ e. map entry_of (take place openings) ++ e ∷ []) is
          ∙ (sym (mapped_next openings place within) ∙ ap (λ n. map entry_of (take n openings)) next)));
    }

pub entries_all : (place : ℕ) (openings : List Opening) (entries : List OpenedEntry) → length openings ≤ place → EntriesTo place openings entries
    → entries ≡ map entry_of openings
entries_all place openings entries far so = so.is ∙ ap (map entry_of) (take_all place openings far)

-- none was open
pub borrows_none : (catalog : List Entry) (before now : Shelf) → SameAtEach before.texts now.texts → SameAtEach before.lists now.lists → SameAtEach before.versions now.versions
    → AreOpened before.lists before.versions catalog (IsOneOf catalog) before.at now.at [] no_sources → AsksEachAtMostOnce catalog (every catalog) before.at now.at
    → BorrowsSome catalog before now
borrows_none catalog before now t l v closed few = record {
  tells = record { texts = t; lists = l; versions = v };
  used = closed.used;
  moves = closed.moves;
  few = few;
  others = closed.others;
}

-- the same of sources that stand in slots
pub borrows_from : {S : Type 0} (count : S → Counts) (catalog other : List Entry) (before mid now : Shelf) (openings : List Opening) (s : Sources)
    (places : List ℕ) (slots : List (Slot S)) → other ≡ catalog → places ≡ s.places
    → SameAtEach before.texts mid.texts → SameAtEach before.lists mid.lists → SameAtEach before.versions mid.versions
    → SameAtEach mid.texts now.texts → SameAtEach mid.lists now.lists → SameAtEach mid.versions now.versions
    → AreOpened before.lists before.versions catalog (IsOneOf catalog) before.at mid.at openings s
    → AsksEachAtMostOnce catalog (every catalog) before.at mid.at
    → PutsBack (reverse (put_back other places (map (of_slot count) slots))) mid.at now.at → KeepsOthers other (Contains places) mid.at now.at
    → length slots ≡ length s.places → BorrowsSome catalog before now
borrows_from count catalog other before mid now openings s places slots same at t l v t_now l_now v_now are few back others many =
    borrows catalog before mid now openings s (map (of_slot count) slots) t l v t_now l_now v_now (length-map slots (of_slot count) ∙ many) are few
    (subst (λ cat. PutsBack (reverse (put_back cat s.places (map (of_slot count) slots))) mid.at now.at) same
    (subst (λ ps. PutsBack (reverse (put_back other ps (map (of_slot count) slots))) mid.at now.at) at back))
    (subst (λ cat. KeepsOthers cat (Contains s.places) mid.at now.at) same (subst (λ ps. KeepsOthers other (Contains ps) mid.at now.at) at others))
