-- Sources that are asked for their sizes again, and what becomes of their lists.
use Rattle.std.proofs.Common.{◌≡◌, ◌≢◌, ◌≤◌, ◌<◌, ◌+◌, ◌⊎◌, ℕ, List, [], ◌∷◌, ◌++◌, Option, Some, None, Result, Ok, Err, IfOk, IfSome, All, length, map, slice_index_or, slice_set, refl, sym, ap, subst, ◌∙◌, inl, inr, arith}
use Rattle.std.proofs.lemmas.Bool.{cases_lt}
use Rattle.std.proofs.lemmas.Bool.Decides.{eqb_tells}
use Rattle.std.proofs.lemmas.Option.{same_Some}
use Rattle.std.proofs.lemmas.List.{get_or-set_same, get_or_default, get_or_past, get_or_append_left, get_or_push, length_push}
use Rattle.ranked_list.specs.declared.row.Row.{Row}
use Rattle.tk_io.specs.Faults.{Rose}
use Rattle.source_api.specs.Calls.{Call, with_call}
use Rattle.source_api.specs.Counting.{NoneFell, GaveNothing}
use Rattle.source_api.specs.declared.counts.Counts.{Counts}
use Rattle.source_api.specs.declared.source.Trouble.{Trouble}
use Rattle.fetcher.specs.declared.slot.Slot.{Slot}
use Rattle.server_conn.specs.declared.opened.OpenedEntry.{OpenedEntry}
use Rattle.server_conn.specs.declared.opened.OpenedEntry.TheVariants.{Opened, NotOpened, TooLarge}
use Rattle.source_api.proofs.CountLaws.{none_fell_same}
use Rattle.query_server.specs.Homes.{home_at, home_of, entry_at, AreHomes}
use Rattle.query_server.specs.Reopening.{AsksOne, AsksSome, HasAnswer, HasCauseInCounts, IsAsStated, IsAsked, IsAtHand, IsByItsSize, Reopens, ReopensAll, ReopensAt}
use Rattle.query_server.specs.Serving.{KeepsSources, KeepsVersions}
use Rattle.query_server.proofs.HomeLaws.{home_map}

-- a list by the size that its source answered
has_answer : (size at_hand : ℕ) (entry : OpenedEntry) → IsByItsSize size at_hand entry → HasAnswer (Ok size) entry
has_answer size at_hand (Opened count source version) is = ap Ok (sym is.0)
has_answer size at_hand (NotOpened source) is = absurd is
has_answer size at_hand (TooLarge count source) is = ap Ok (sym is)

quiet_so : (before now : Counts) (size at_hand : ℕ) (entry : OpenedEntry) → IsByItsSize size at_hand entry → now ≡ before → HasCauseInCounts before now entry
quiet_so before now size at_hand (Opened count source version) is quiet = quiet
quiet_so before now size at_hand (NotOpened source) is quiet = absurd is
quiet_so before now size at_hand (TooLarge count source) is quiet = quiet

counted_so : (told : Option (List Row)) (count size : ℕ) → count ≡ size → IfSome told (λ rows. size ≡ length rows) → IfSome told (λ rows. count ≡ length rows)
counted_so None count size is length_is = tt
counted_so (Some rows) count size is length_is = is ∙ length_is

stated_so : (told : Option (List Row)) (size at_hand : ℕ) (entry : OpenedEntry) → IsByItsSize size at_hand entry → IfSome told (λ rows. size ≡ length rows)
    → IsAsStated told at_hand entry
stated_so told size at_hand (Opened count source version) is length_is = (is.1, counted_so told count size is.0 length_is)
stated_so told size at_hand (NotOpened source) is length_is = absurd is
stated_so told size at_hand (TooLarge count source) is length_is = counted_so told count size is length_is

-- a list has the source that it had
same_home : (entries now : List OpenedEntry) (place : ℕ) → map home_of now ≡ map home_of entries → home_of (entry_at entries place) ≡ home_of (entry_at now place)
same_home entries now place same = sym (home_map entries place) ∙ (ap (λ hs. home_at hs place) (sym same) ∙ home_map now place)

module _ {S : Type 0} (list : S → Option (List Row)) (counts : S → Counts) (calls : S → Option (List Call)) where
  -- the sources of the lists before a place were asked, and no other
  pub record AskedTo (place : ℕ) (homes : List (Option ℕ)) (before now : List (Slot S)) : Type 0 where
    pub size : length now ≡ length before
    pub each : (i : ℕ) (d : Slot S)
        → (slice_index_or now i d ≡ slice_index_or before i d) ⊎ IsAsked list counts calls (slice_index_or before i d).source (slice_index_or now i d).source
    pub others : (i : ℕ) (d : Slot S) → ((p : ℕ) → p < place → home_at homes p ≢ Some i) → slice_index_or now i d ≡ slice_index_or before i d

  pub asked_none : (homes : List (Option ℕ)) (slots : List (Slot S)) → AskedTo 0 homes slots slots
  asked_none homes slots = record { size = refl; each = λ i d. inl refl; others = λ i d apart. refl }

  -- a source is that of a list, or it isn't
  home_or : (home : Option ℕ) (i : ℕ) → (home ≡ Some i) ⊎ (home ≢ Some i)
  home_or None i = inr (λ e. absurd (cc))
  home_or (Some source) i = elim (eqb_tells source i) [
    | inl same ↦ inl (ap Some same.1)
    | inr apart ↦ inr (λ e. apart.1 (same_Some source i e))
  ]

  -- the source of a list stands as it stood before the list came
  untouched : (sources place : ℕ) (homes : List (Option ℕ)) (before mid : List (Slot S)) (i : ℕ) (d : Slot S) → AreHomes sources homes
      → AskedTo place homes before mid → home_at homes place ≡ Some i → slice_index_or mid i d ≡ slice_index_or before i d
  untouched sources place homes before mid i d are so mine =
      so.others i d (λ p l e. let same : p ≡ place = are.apart p place i e mine in omega (arith, l, same))

  -- one more list
  pub asked_more : (sources place : ℕ) (homes : List (Option ℕ)) (before mid now : List (Slot S)) → AreHomes sources homes → AskedTo place homes before mid
      → AsksOne list counts calls (home_at homes place) mid now → AskedTo (place + 1) homes before now
  asked_more sources place homes before mid now are so one = record {
    size = one.size ∙ so.size;
    each = λ i d. elim (home_or (home_at homes place) i) [
      | inl mine ↦ inr (subst (λ (s : Slot S). IsAsked list counts calls s.source (slice_index_or now i d).source) (untouched sources place homes before mid i d are so mine)
          (one.asked i d mine))
      | inr apart ↦ subst (λ (s : Slot S). (s ≡ slice_index_or before i d) ⊎ IsAsked list counts calls (slice_index_or before i d).source s.source)
          (sym (one.others i d apart)) (so.each i d)
    ];
    others = λ i d apart. one.others i d (apart place (omega arith)) ∙ so.others i d (λ p l. apart p (omega (arith, l)));
  }

  -- the source of the list at a place
  pub asks_there : (entries : List OpenedEntry) (place : ℕ) (x : OpenedEntry) (mid now : List (Slot S)) → place < length entries
      → AsksOne list counts calls (home_of (slice_index_or entries place x)) mid now → AsksOne list counts calls (home_at (map home_of entries) place) mid now
  asks_there entries place x mid now within =
      subst (λ h. AsksOne list counts calls h mid now) (ap home_of (get_or_default entries place x (NotOpened None) within) ∙ sym (home_map entries place))

  pub asked_all : (place : ℕ) (homes : List (Option ℕ)) (before now : List (Slot S)) → AskedTo place homes before now → AsksSome list counts calls homes before now
  asked_all place homes before now so = record { size = so.size; each = so.each; others = λ i d apart. so.others i d (λ p l. apart p) }

module _ {S : Type 0} (list : S → Option (List Row)) (counts : S → Counts) (calls : S → Option (List Call)) (at_hand : S → ℕ) where
  -- a source answered its size, and its list became what it is by this size
  pub reopens_by : (before after : S) (size version : ℕ) (entry : OpenedEntry) → calls after ≡ with_call (Call.Size (Ok size)) (calls before) → list after ≡ list before
      → NoneFell (counts before) (counts after) → GaveNothing (counts before) (counts after) → counts after ≡ counts before
      → IfSome (list before) (λ rows. size ≡ length rows) → IsByItsSize size version entry → version ≡ at_hand after
      → Reopens list counts calls at_hand before after entry
  reopens_by before after size version entry call told later given quiet length_is is hand = record {
    asked = record { answer = Ok size; call = call; told = told; later = later; given = given };
    answer = has_answer size version entry is;
    cause = quiet_so (counts before) (counts after) size version entry is quiet;
    stated = subst (λ v. IsAsStated (list after) v entry) hand (stated_so (list after) size version entry is (subst (λ rs. IfSome rs (λ rows. size ≡ length rows)) (sym told) length_is));
  }

  -- a source answered no size, and its list isn't open
  pub reopens_not : (before after : S) (why : Trouble) (source : Option ℕ) → calls after ≡ with_call (Call.Size (Err why)) (calls before) → list after ≡ list before
      → NoneFell (counts before) (counts after) → GaveNothing (counts before) (counts after)
      → Rose (counts before).faults (counts after).faults ⊎ Rose (counts before).garbles (counts after).garbles
      → Reopens list counts calls at_hand before after (NotOpened source)
  reopens_not before after why source call told later given cause = record {
    asked = record { answer = Err why; call = call; told = told; later = later; given = given };
    answer = (why, refl);
    cause = cause;
    stated = tt;
  }

  -- what became of the list of the one source that was asked
  pub reopens_at : (before : List (Slot S)) (at : ℕ) (x : Slot S) (source : S) (entry now : OpenedEntry) → at < length before
      → Reopens list counts calls at_hand (slice_index_or before at x).source source now
      → ReopensAt list counts calls at_hand before (slice_set before at (record (slice_index_or before at x) { source = source })) (Some at) entry now
  reopens_at before at x source entry now within is d =
      let new : Slot S = record (slice_index_or before at x) { source = source } in
      subst (λ (s : Slot S). Reopens list counts calls at_hand (slice_index_or before at d).source s.source now) (sym (get_or-set_same before at new d within))
      (subst (λ (s : Slot S). Reopens list counts calls at_hand s.source source now) (get_or_default before at x d within) is)

  some_reopens : {E : Type 0} (before : List (Slot S)) (at : ℕ) (x : Slot S) (source : S) (entry : OpenedEntry) (result : Result OpenedEntry E) → at < length before
      → IfOk result (Reopens list counts calls at_hand (slice_index_or before at x).source source)
      → IfOk result (ReopensAt list counts calls at_hand before (slice_set before at (record (slice_index_or before at x) { source = source })) (Some at) entry)
  some_reopens before at x source entry (Ok now) within is = reopens_at before at x source entry now within is
  some_reopens before at x source entry (Err why) within is = tt

  pub if_reopens : {E : Type 0} (before : List (Slot S)) (home : Option ℕ) (at : ℕ) (x : Slot S) (source : S) (entry : OpenedEntry) (result : Result OpenedEntry E)
      → home ≡ Some at → at < length before → IfOk result (Reopens list counts calls at_hand (slice_index_or before at x).source source)
      → IfOk result (ReopensAt list counts calls at_hand before (slice_set before at (record (slice_index_or before at x) { source = source })) home entry)
  if_reopens before home at x source entry result e within is =
      subst (λ h. IfOk result (ReopensAt list counts calls at_hand before (slice_set before at (record (slice_index_or before at x) { source = source })) h entry)) (sym e)
      (some_reopens before at x source entry result within is)

  -- of the lists before a place it is known what became of them
  pub record BecameTo (place : ℕ) (entries now : List OpenedEntry) (before slots : List (Slot S)) : Type 0 where
    pub size : length now ≡ place
    pub each : (p : ℕ) → p < place → ReopensAt list counts calls at_hand before slots (home_of (entry_at entries p)) (entry_at entries p) (entry_at now p)

  -- what became of a list stays so where its source stays
  still : (before mid after : List (Slot S)) (home : Option ℕ) (entry now : OpenedEntry)
      → ((source : ℕ) (d : Slot S) → home ≡ Some source → slice_index_or after source d ≡ slice_index_or mid source d)
      → ReopensAt list counts calls at_hand before mid home entry now → ReopensAt list counts calls at_hand before after home entry now
  still before mid after None entry now same is = is
  still before mid after (Some source) entry now same is =
      λ d. subst (λ (s : Slot S). Reopens list counts calls at_hand (slice_index_or before source d).source s.source now) (sym (same source d refl)) (is d)

  -- and where it stood as before until then
  since : (before mid after : List (Slot S)) (home : Option ℕ) (entry now : OpenedEntry)
      → ((source : ℕ) (d : Slot S) → home ≡ Some source → slice_index_or mid source d ≡ slice_index_or before source d)
      → ReopensAt list counts calls at_hand mid after home entry now → ReopensAt list counts calls at_hand before after home entry now
  since before mid after None entry now same is = is
  since before mid after (Some source) entry now same is =
      λ d. subst (λ (s : Slot S). Reopens list counts calls at_hand s.source (slice_index_or after source d).source now) (same source d refl) (is d)

  pub became_more : (sources place : ℕ) (entries was now : List OpenedEntry) (x entry : OpenedEntry) (before mid after : List (Slot S))
      → place < length entries → AreHomes sources (map home_of entries) → AskedTo list counts calls place (map home_of entries) before mid
      → BecameTo place entries was before mid → AsksOne list counts calls (home_of (slice_index_or entries place x)) mid after
      → ReopensAt list counts calls at_hand mid after (home_of (slice_index_or entries place x)) (slice_index_or entries place x) entry → now ≡ was ++ entry ∷ []
      → BecameTo (place + 1) entries now before after
  became_more sources place entries was now x entry before mid after within are asked so asks is push =
      let long : length now ≡ length was + 1 = ap length push ∙ length_push was entry in
      let size = so.size in
      let here : slice_index_or entries place x ≡ entry_at entries place = get_or_default entries place x (NotOpened None) within in
      let one : AsksOne list counts calls (home_of (entry_at entries place)) mid after = subst (λ o. AsksOne list counts calls (home_of o) mid after) here asks in
      let at : (p source : ℕ) → home_of (entry_at entries p) ≡ Some source → home_at (map home_of entries) p ≡ Some source = λ p source h. home_map entries p ∙ h in
      record {
        size = omega (arith, long, size);
        each = λ p l. subst (λ es. ReopensAt list counts calls at_hand before after (home_of (entry_at entries p)) (entry_at entries p) (entry_at es p)) (sym push) (elim (cases_lt p place) [
          | inl less ↦
              subst (ReopensAt list counts calls at_hand before after (home_of (entry_at entries p)) (entry_at entries p))
              (sym (get_or_append_left was (entry ∷ []) (NotOpened None) p (omega (arith, less, size))))
              (still before mid after (home_of (entry_at entries p)) (entry_at entries p) (entry_at was p)
              (λ source d e. one.others source d (λ mine. let same : p ≡ place = are.apart p place source (at p source e) (at place source mine) in omega (arith, less, same)))
              (so.each p less))
          | inr more ↦ let same : place ≡ p = omega (arith, more, l) in
              subst (ReopensAt list counts calls at_hand before after (home_of (entry_at entries p)) (entry_at entries p))
              (sym (get_or_push was entry (NotOpened None) p (omega (arith, same, size))))
              (subst (λ q. ReopensAt list counts calls at_hand before after (home_of (entry_at entries q)) (entry_at entries q) entry) same
              (since before mid after (home_of (entry_at entries place)) (entry_at entries place) entry
              (λ source d e. untouched list counts calls sources place (map home_of entries) before mid source d are asked (at place source e))
              (subst (λ o. ReopensAt list counts calls at_hand mid after (home_of o) o entry) here is)))
        ]);
      }

  -- past the last list
  pub became_all : (place : ℕ) (entries now : List OpenedEntry) (before slots : List (Slot S)) → length entries ≤ place → BecameTo place entries now before slots
      → ReopensAll list counts calls at_hand entries now before slots
  became_all place entries now before slots far so = record {
    each = λ p. elim (cases_lt p place) [
      | inl less ↦ so.each p less
      | inr more ↦
          let none : entry_at entries p ≡ NotOpened None = get_or_past entries p (NotOpened None) (omega (arith, far, more)) in
          subst (λ o. ReopensAt list counts calls at_hand before slots (home_of o) o (entry_at now p)) (sym none)
          (get_or_past now p (NotOpened None) (let size = so.size in omega (arith, size, more)))
    ];
  }

  -- a list that is open is at the version that its source answered
  hand_of : (before after : List (Slot S)) (home : Option ℕ) (was now : OpenedEntry) → home ≡ home_of now
      → ReopensAt list counts calls at_hand before after home was now → IsAtHand at_hand after now
  hand_of before after home was (Opened count source version) at is =
      λ d l. (subst (λ h. ReopensAt list counts calls at_hand before after h was (Opened count source version)) at is d).stated.0
  hand_of before after home was (NotOpened source) at is = tt
  hand_of before after home was (TooLarge count source) at is = tt

  pub hand_reopened : (entries now : List OpenedEntry) (before after : List (Slot S)) → map home_of now ≡ map home_of entries
      → ReopensAll list counts calls at_hand entries now before after → All (IsAtHand at_hand after) now
  hand_reopened entries now before after same so i d l =
      subst (IsAtHand at_hand after) (get_or_default now i (NotOpened None) d l)
      (hand_of before after (home_of (entry_at entries i)) (entry_at entries i) (entry_at now i) (same_home entries now i same) (so.each i))

  -- a list that was asked again in two generations is as its source answered in the last
  again_at : (before after : List (Slot S)) (home : Option ℕ) (first was now : OpenedEntry) → (home ≡ None → was ≡ first)
      → ReopensAt list counts calls at_hand before after home was now → ReopensAt list counts calls at_hand before after home first now
  again_at before after None first was now same is = is ∙ same refl
  again_at before after (Some source) first was now same is = is

  -- a list without a source stays as it was
  stays_at : (before after : List (Slot S)) (home : Option ℕ) (entry now : OpenedEntry) → ReopensAt list counts calls at_hand before after home entry now
      → home ≡ None → now ≡ entry
  stays_at before after home entry now is none = subst (λ h. ReopensAt list counts calls at_hand before after h entry now) none is

  pub reopened_since : (first was now : List OpenedEntry) (before after : List (Slot S)) → map home_of was ≡ map home_of first
      → ((place : ℕ) → home_of (entry_at first place) ≡ None → entry_at was place ≡ entry_at first place)
      → ReopensAll list counts calls at_hand was now before after → ReopensAll list counts calls at_hand first now before after
  reopened_since first was now before after same stay so = record {
    each = λ place.
        again_at before after (home_of (entry_at first place)) (entry_at first place) (entry_at was place) (entry_at now place) (stay place)
        (subst (λ h. ReopensAt list counts calls at_hand before after h (entry_at was place) (entry_at now place)) (sym (same_home first was place same)) (so.each place));
  }

  pub stay_reopened : (first was : List OpenedEntry) (before after : List (Slot S)) → ReopensAll list counts calls at_hand first was before after
      → (place : ℕ) → home_of (entry_at first place) ≡ None → entry_at was place ≡ entry_at first place
  stay_reopened first was before after so place none =
      stays_at before after (home_of (entry_at first place)) (entry_at first place) (entry_at was place) (so.each place) none

-- what asking leaves of the sources
pub keeps_asked : {S : Type 0} (list : S → Option (List Row)) (counts : S → Counts) (calls : S → Option (List Call)) (homes : List (Option ℕ)) (before after : List (Slot S))
    → AsksSome list counts calls homes before after → KeepsSources list counts before after
keeps_asked {S} list counts calls homes before after asks = record {
  size = asks.size;
  lists = λ i d l. elim (asks.each i d) [
    | inl same ↦ ap (λ (s : Slot S). list s.source) same
    | inr asked ↦ asked.told
  ];
  later = λ i d l. elim (asks.each i d) [
    | inl same ↦ subst (λ (s : Slot S). NoneFell (counts (slice_index_or before i d).source) (counts s.source)) (sym same)
        (none_fell_same (counts (slice_index_or before i d).source))
    | inr asked ↦ asked.later
  ];
}

-- a list stays at the version at hand where its source keeps it
hand_still : {S : Type 0} (at_hand : S → ℕ) (before after : List (Slot S)) (entry : OpenedEntry) → length after ≡ length before → KeepsVersions at_hand before after
    → IsAtHand at_hand before entry → IsAtHand at_hand after entry
hand_still at_hand before after (Opened count source version) size keeps is =
    λ d l. let there : source < length before = omega (arith, size, l) in is d there ∙ sym (keeps.each source d there)
hand_still at_hand before after (NotOpened source) size keeps is = tt
hand_still at_hand before after (TooLarge count source) size keeps is = tt

pub hand_served : {S : Type 0} (at_hand : S → ℕ) (before after : List (Slot S)) (entries : List OpenedEntry) → length after ≡ length before
    → KeepsVersions at_hand before after → All (IsAtHand at_hand before) entries → All (IsAtHand at_hand after) entries
hand_served at_hand before after entries size keeps are i d l = hand_still at_hand before after (slice_index_or entries i d) size keeps (are i d l)
