-- Sources of lists, by the lists' places, and counts of sources.
use Rattle.std.proofs.Common.{◌≡◌, ◌≤◌, ◌<◌, ◌+◌, ℕ, zero, suc, List, [], ◌∷◌, ◌++◌, Some, None, All, length, map, take, slice_index_or, slice_set, refl, sym, ap, subst, ◌∙◌, inl, inr, arith}
use Rattle.std.proofs.lemmas.Bool.{cases_lt}
use Rattle.std.proofs.lemmas.Bool.Decides.{eqb_tells}
use Rattle.std.proofs.lemmas.List.{length-set, get_or-set_same, get_or-set_other, get_or_default, get_or_append_left, get_or_push, length_push, map-append, take_all}
use Rattle.topk_base.specs.declared.TheConstants.{MAX_OBJECTS}
use Rattle.server_conn.specs.Entries.{IsSized}
use Rattle.server_conn.specs.declared.opened.OpenedEntry.{OpenedEntry}
use Rattle.server_conn.specs.declared.opened.OpenedEntry.TheVariants.{Opened, NotOpened, TooLarge}
use Rattle.query_server.specs.Homes.{home_of, home_at, entry_at, AreHomes, IsWithin, IsCounted, counted_by}

-- the source of the list at a place, among the sources of all
pub home_map : (entries : List OpenedEntry) (place : ℕ) → home_at (map home_of entries) place ≡ home_of (entry_at entries place)
home_map [] place = refl
home_map (entry ∷ entries) zero = refl
home_map (entry ∷ entries) (suc place) = home_map entries place

-- the source of the list at a place
home_here : (entries : List OpenedEntry) (place source : ℕ) → home_of (entry_at entries place) ≡ Some source → home_at (map home_of entries) place ≡ Some source
home_here entries place source is = home_map entries place ∙ is

-- the same with another default
pub home_there : (entries : List OpenedEntry) (place source : ℕ) (x : OpenedEntry) → place < length entries
    → home_of (slice_index_or entries place x) ≡ Some source → home_at (map home_of entries) place ≡ Some source
home_there entries place source x within is = home_here entries place source (ap home_of (get_or_default entries place (NotOpened None) x within) ∙ is)

within_of : (sources : ℕ) (entries : List OpenedEntry) (place : ℕ) (entry : OpenedEntry) → AreHomes sources (map home_of entries)
    → entry_at entries place ≡ entry → IsWithin sources entry
within_of sources entries place (Opened count source version) are is = are.within place source (home_here entries place source (ap home_of is))
within_of sources entries place (NotOpened source) are is = tt
within_of sources entries place (TooLarge count source) are is = tt

-- the source of the list at a place is there
pub is_within : (sources : ℕ) (entries : List OpenedEntry) (place : ℕ) (x : OpenedEntry) → place < length entries → AreHomes sources (map home_of entries)
    → IsWithin sources (slice_index_or entries place x)
is_within sources entries place x within are =
    subst (IsWithin sources) (get_or_default entries place (NotOpened None) x within) (within_of sources entries place (entry_at entries place) are refl)

-- the counts of the lists before a place are put
pub record CountedTo (place : ℕ) (entries : List OpenedEntry) (before now : List ℕ) : Type 0 where
  pub size : length now ≡ length before
  pub small : All (λ count. count ≤ MAX_OBJECTS) now
  pub done : (i : ℕ) → i < place → IsCounted now (entry_at entries i)

pub counted_none : (entries : List OpenedEntry) (before : List ℕ) → All (λ count. count ≤ MAX_OBJECTS) before → CountedTo 0 entries before before
counted_none entries before small = record { size = refl; small = small; done = λ i l. absurd (omega (arith, l)) }

-- what is counted at a place where no other list's count is put
counted_still : (counts : List ℕ) (source count : ℕ) (entry : OpenedEntry) → IsCounted counts entry → (home_of entry ≡ Some source → ⊥)
    → IsCounted (slice_set counts source count) entry
counted_still counts source count (Opened n s version) is apart = (
  (let e = length-set counts source count in let l = is.0 in omega (arith, e, l)),
  get_or-set_other counts source s count 0 (λ q. apart (ap Some q)) ∙ is.1,
)
counted_still counts source count (NotOpened home) is apart = tt
counted_still counts source count (TooLarge n home) is apart = tt

small_set : (counts : List ℕ) (at count : ℕ) → count ≤ MAX_OBJECTS → All (λ n. n ≤ MAX_OBJECTS) counts → All (λ n. n ≤ MAX_OBJECTS) (slice_set counts at count)
small_set counts at count few small i d l =
    let size = length-set counts at count in
    let there : i < length counts = omega (arith, size, l) in
    elim (eqb_tells at i) [
      | inl same ↦ subst (λ j. slice_index_or (slice_set counts at count) j d ≤ MAX_OBJECTS) same.1
          (subst (λ n. n ≤ MAX_OBJECTS) (sym (get_or-set_same counts at count d (let e = same.1 in omega (arith, e, there)))) few)
      | inr apart ↦ subst (λ n. n ≤ MAX_OBJECTS) (sym (get_or-set_other counts at i count d (λ q. apart.1 (sym q)))) (small i d there)
    ]

-- the count of one more list
counted_next : (place : ℕ) (entries : List OpenedEntry) (before now : List ℕ) (entry : OpenedEntry) → entry ≡ entry_at entries place
    → AreHomes (length before) (map home_of entries) → IsSized entry → CountedTo place entries before now → CountedTo (place + 1) entries before (counted_by entry now)
counted_next place entries before now (Opened count source version) is have sized so =
    let mine : home_at (map home_of entries) place ≡ Some source = home_here entries place source (ap home_of (sym is)) in
    record {
      size = length-set now source count ∙ so.size;
      small = small_set now source count sized so.small;
      done = λ i l. elim (cases_lt i place) [
        | inl less ↦ counted_still now source count (entry_at entries i) (so.done i less)
            (λ his. let same : i ≡ place = have.apart i place source (home_here entries i source his) mine in
            omega (arith, less, same))
        | inr more ↦ let same : place ≡ i = omega (arith, more, l) in
            subst (IsCounted (slice_set now source count)) (is ∙ ap (entry_at entries) same) (
              (let there = have.within place source mine in let e = so.size in let m = length-set now source count in omega (arith, there, e, m)),
              get_or-set_same now source count 0 (let there = have.within place source mine in let e = so.size in omega (arith, there, e)),
            )
      ];
    }
counted_next place entries before now (NotOpened home) is have sized so = record {
  size = so.size;
  small = so.small;
  done = λ i l. elim (cases_lt i place) [
    | inl less ↦ so.done i less
    | inr more ↦ let same : place ≡ i = omega (arith, more, l) in subst (IsCounted now) (is ∙ ap (entry_at entries) same) tt
  ];
}
counted_next place entries before now (TooLarge n home) is have sized so = record {
  size = so.size;
  small = so.small;
  done = λ i l. elim (cases_lt i place) [
    | inl less ↦ so.done i less
    | inr more ↦ let same : place ≡ i = omega (arith, more, l) in subst (IsCounted now) (is ∙ ap (entry_at entries) same) tt
  ];
}

pub counted_more : (place : ℕ) (entries : List OpenedEntry) (x : OpenedEntry) (before now after : List ℕ) → place < length entries
    → AreHomes (length before) (map home_of entries) → All IsSized entries → CountedTo place entries before now
    → after ≡ counted_by (slice_index_or entries place x) now → CountedTo (place + 1) entries before after
counted_more place entries x before now after within have sized so put =
    subst (CountedTo (place + 1) entries before) (sym (put ∙ ap (λ e. counted_by e now) (get_or_default entries place x (NotOpened None) within)))
    (counted_next place entries before now (entry_at entries place) refl have (sized place (NotOpened None) within) so)

pub counted_all : (place : ℕ) (entries : List OpenedEntry) (before now : List ℕ) → length entries ≤ place → CountedTo place entries before now → All (IsCounted now) entries
counted_all place entries before now far so i d l =
    subst (IsCounted now) (get_or_default entries i (NotOpened None) d l) (so.done i (omega (arith, far, l)))

mapped_next : (entries : List OpenedEntry) (place : ℕ) → place < length entries
    → map home_of (take (suc place) entries) ≡ map home_of (take place entries) ++ home_of (entry_at entries place) ∷ []
mapped_next [] place l = absurd (omega (arith, l))
mapped_next (entry ∷ entries) zero l = refl
mapped_next (entry ∷ entries) (suc place) l = ap (λ hs. home_of entry ∷ hs) (mapped_next entries place (omega (arith, l)))

-- of the lists before a place it is known what became of them: they have the sources that they had
pub record ReopenedTo (place : ℕ) (entries now : List OpenedEntry) : Type 0 where
  pub sized : All IsSized now
  pub homes : map home_of now ≡ map home_of (take place entries)

pub reopened_none : (entries now : List OpenedEntry) → now ≡ [] → ReopenedTo 0 entries now
reopened_none entries now none = record {
  sized = λ i d l. absurd (let e : length now ≡ 0 = ap length none in omega (arith, l, e));
  homes = ap (map home_of) none;
}

pub reopened_more : (place : ℕ) (entries was now : List OpenedEntry) (x entry : OpenedEntry) → place < length entries → ReopenedTo place entries was
    → IsSized entry → home_of entry ≡ home_of (slice_index_or entries place x) → now ≡ was ++ entry ∷ [] → ReopenedTo (place + 1) entries now
reopened_more place entries was now x entry within so sized home push =
    let next : suc place ≡ place + 1 = omega arith in
    let here : home_of entry ≡ home_of (entry_at entries place) = home ∙ ap home_of (get_or_default entries place x (NotOpened None) within) in
    record {
      sized = λ i d l. subst (λ es. IsSized (slice_index_or es i d)) (sym push) (elim (cases_lt i (length was)) [
        | inl less ↦ subst IsSized (sym (get_or_append_left was (entry ∷ []) d i less)) (so.sized i d less)
        | inr more ↦
            let long : length now ≡ length was + 1 = ap length push ∙ length_push was entry in
            subst IsSized (sym (get_or_push was entry d i (omega (arith, more, l, long)))) sized
      ]);
      homes = ap (map home_of) push ∙ (map-append home_of was (entry ∷ []) ∙ (ap (λ hs. hs ++ home_of entry ∷ []) so.homes
          ∙ (ap (λ h. map home_of (take place entries) ++ h ∷ []) here
          ∙ (sym (mapped_next entries place within) ∙ ap (λ n. map home_of (take n entries)) next))));
    }

pub reopened_all : (place : ℕ) (entries now : List OpenedEntry) → length entries ≤ place → ReopenedTo place entries now → map home_of now ≡ map home_of entries
reopened_all place entries now far so = so.homes ∙ ap (map home_of) (take_all place entries far)
