-- What became of the sources of the first entries of a catalog, with one more.
use Rattle.std.proofs.Common.{◌≡◌, ◌⊎◌, ℕ, suc, ◌+◌, ◌<◌, ◌≤◌, Bool, true, false, cond, nat_le, List, [], ◌∷◌, ◌++◌, All, length, length-append, slice_index_or, inl, inr, slice_get, MatchOption, Option, None, Some, IfSome, refl, sym, ap, ◌∙◌, subst, arith}
use Rattle.std.proofs.lemmas.List.{get_or_append_left, get_or_past, get_or_push}
use Rattle.std.proofs.lemmas.Bool.{cases_lt, leb-true}
use Rattle.std.proofs.lemmas.List.Elements.{All-push, All-from_recursion, All-weaker}
use Rattle.std.proofs.lemmas.Option.{get_or_from_slice_get, same_Some}
use Rattle.std.specs.Prelude.{if◌then◌else◌}
use Rattle.std.specs.Str.{bytes_eq}
use Rattle.ranked_list.specs.declared.row.Row.{Row}
use Rattle.catalog_text.specs.Catalog.{Listed as Entry}
use Rattle.catalog_open.specs.declared.opened.Opening.{Opening}
use Rattle.catalog_open.specs.declared.opened.Opening.TheVariants.{Closed, Open}
use Rattle.catalog_open.specs.Entries.{no_entry, entry_at, opening_at, entry_told}
use Rattle.catalog_open.specs.Openings.{Counted, MovesAt, TroubleAt, one_at, standing, no_sources, Sources, run_count, IsToldAs, IsAtVersion, IsSource, IsOpening, IsNumbered, AreOpened, IsKnownAt}
use Rattle.catalog_open.proofs.Moving.{moves_nothing, trouble_on}
use Rattle.topk_base.specs.declared.TheConstants.{MAX_OBJECTS}

abbrev sources_by : List (Option (List Row)) → List ℕ → List ℕ → List ℕ → Sources
sources_by told held places counts = record { told = told; versions = held; places = places; counts = counts }

-- what became of the sources of the first entries, whatever the shelf has counted
pub record OpensSoFar (lists : List ℕ → Option (List Row)) (versions : List ℕ → Option ℕ) (catalog : List Entry) (Wanted : ℕ → Type 0)
    (before now : Counted) (openings : List Opening) (s : Sources) : Type 0 where
  pub each : (place : ℕ) → place < length openings → IsOpening lists versions catalog s Wanted before now place (opening_at openings place)
  pub numbered : (source : ℕ) → source < length s.places → IsNumbered catalog openings (slice_index_or s.places source 0) source
  pub many_told : length s.told ≡ length s.places
  pub many_versions : length s.versions ≡ length s.places
  pub many_counts : length s.counts ≡ length s.places
  pub small : All (λ count. count ≤ MAX_OBJECTS) s.counts

pub so_far_none : (lists : List ℕ → Option (List Row)) (versions : List ℕ → Option ℕ) (catalog : List Entry) (Wanted : ℕ → Type 0) (before now : Counted)
    → OpensSoFar lists versions catalog Wanted before now [] no_sources
so_far_none lists versions catalog Wanted before now = record {
  each = λ place h. absurd (omega arith);
  numbered = λ source h. absurd (omega arith);
  many_told = refl;
  many_versions = refl;
  many_counts = refl;
  small = All-from_recursion (λ count. count ≤ MAX_OBJECTS) [] tt;
}

-- nothing is open yet
pub opened_none : (lists : List ℕ → Option (List Row)) (versions : List ℕ → Option ℕ) (catalog : List Entry) (Wanted : ℕ → Type 0) (before : Counted)
    → AreOpened lists versions catalog Wanted before before [] (record { told = []; versions = []; places = []; counts = [] })
opened_none lists versions catalog Wanted before = record {
  each = λ place h. absurd (omega arith);
  numbered = λ source h. absurd (omega arith);
  many_told = refl;
  many_versions = refl;
  many_counts = refl;
  small = All-from_recursion (λ count. count ≤ MAX_OBJECTS) [] tt;
  used = [];
  moves = moves_nothing (standing catalog []) before (λ place. refl);
  others = λ place apart. refl;
}

opening_on : (lists : List ℕ → Option (List Row)) (versions : List ℕ → Option ℕ) (catalog : List Entry) (s : Sources) (Wanted : ℕ
    → Type 0) (before mid now : Counted) (place : ℕ) (o : Opening)
    → MovesAt (mid (entry_at catalog place).place) (now (entry_at catalog place).place) → IsOpening lists versions catalog s Wanted before mid place o → IsOpening lists versions catalog s Wanted before now place o
opening_on lists versions catalog s Wanted before mid now place Closed moves is = λ wanted. trouble_on (before (entry_at catalog place).place) (mid (entry_at catalog place).place) (now (entry_at catalog place).place) (is wanted) moves
opening_on lists versions catalog s Wanted before mid now place (Open size source version) moves is = is

-- the shelf went on
pub so_far_on : (lists : List ℕ → Option (List Row)) (versions : List ℕ → Option ℕ) (catalog : List Entry) (Wanted : ℕ → Type 0) (before mid now : Counted)
    (openings : List Opening) (s : Sources) → ((place : List ℕ) → MovesAt (mid place) (now place))
    → OpensSoFar lists versions catalog Wanted before mid openings s → OpensSoFar lists versions catalog Wanted before now openings s
so_far_on lists versions catalog Wanted before mid now openings s moves are = record {
  each = λ place within. opening_on lists versions catalog s Wanted before mid now place (opening_at openings place) (moves (entry_at catalog place).place) (are.each place within);
  numbered = are.numbered;
  many_told = are.many_told;
  many_versions = are.many_versions;
  many_counts = are.many_counts;
  small = are.small;
}

-- a source that has a number stands among the openings
pub numbered_within : (catalog : List Entry) (openings : List Opening) (place source : ℕ) → IsNumbered catalog openings place source → place < length openings
numbered_within catalog openings place source is = elim (cases_lt place (length openings)) [
  | inl within ↦ within
  | inr past ↦ let closed : opening_at openings place ≡ Closed = get_or_past openings place Closed past in absurd (open_closed is.size source is.version (sym is.open_as ∙ closed))
]
  where
    open_closed : (size source version : ℕ) → Open size source version ≡ Closed → ⊥
    open_closed size source version e = cc

numbered_on : (catalog : List Entry) (openings : List Opening) (o : Opening) (place source : ℕ) → IsNumbered catalog openings place source
    → IsNumbered catalog (openings ++ o ∷ []) place source
numbered_on catalog openings o place source is = record {
  within = is.within;
  size = is.size;
  version = is.version;
  open_as = get_or_append_left openings (o ∷ []) Closed place (numbered_within catalog openings place source is) ∙ is.open_as;
}

last_or : (place n : ℕ) → place < n + 1 → (place < n) ⊎ (place ≡ n)
last_or place n h = elim (cases_lt place n) [ inl less ↦ inl less | inr more ↦ inr (omega (arith, more)) ]

-- the next source isn't open
pub so_far_closed : (lists : List ℕ → Option (List Row)) (versions : List ℕ → Option ℕ) (catalog : List Entry) (Wanted : ℕ
    → Type 0) (before now : Counted) (openings : List Opening) (s : Sources) (next : ℕ)
    → OpensSoFar lists versions catalog Wanted before now openings s → length openings ≡ next → (Wanted next → TroubleAt (before (entry_at catalog next).place) (now (entry_at catalog next).place))
    → OpensSoFar lists versions catalog Wanted before now (openings ++ Closed ∷ []) s
so_far_closed lists versions catalog Wanted before now openings s next are long trouble = record {
  each = λ place within.
      let inside : place < length openings + 1 = omega (arith, within, length-append openings (Closed ∷ [])) in
      elim (last_or place (length openings) inside) [
        | inl old ↦ subst (IsOpening lists versions catalog s Wanted before now place) (sym (get_or_append_left openings (Closed ∷ []) Closed place old)) (are.each place old)
        | inr new ↦
            let here : opening_at (openings ++ Closed ∷ []) place ≡ Closed = get_or_push openings Closed Closed place (sym new) in
            let same : next ≡ place = sym long ∙ sym new in
            subst (IsOpening lists versions catalog s Wanted before now place) (sym here) (subst (λ p. Wanted p → TroubleAt (before (entry_at catalog p).place) (now (entry_at catalog p).place)) same trouble)
      ];
  numbered = λ source within. numbered_on catalog openings Closed (slice_index_or s.places source 0) source (are.numbered source within);
  many_told = are.many_told;
  many_versions = are.many_versions;
  many_counts = are.many_counts;
  small = are.small;
}

-- the sources with one more
abbrev pub more_sources : Sources → Option (List Row) → ℕ → ℕ → ℕ → Sources
more_sources s told held place count =
    record { told = s.told ++ told ∷ []; versions = s.versions ++ held ∷ []; places = s.places ++ place ∷ []; counts = s.counts ++ count ∷ [] }

source_on : (lists : List ℕ → Option (List Row)) (versions : List ℕ → Option ℕ) (catalog : List Entry) (s : Sources) (told : Option (List Row)) (held next count place size source version : ℕ)
    → length s.told ≡ length s.places → length s.versions ≡ length s.places → length s.counts ≡ length s.places
    → IsSource lists versions catalog s place size source version → IsSource lists versions catalog (more_sources s told held next count) place size source version
source_on lists versions catalog s told held next count place size source version many_told many_versions many_counts is = record {
  within = omega (arith, is.within, length-append s.places (next ∷ []));
  stands = get_or_append_left s.places (next ∷ []) 0 source is.within ∙ is.stands;
  counted = get_or_append_left s.counts (count ∷ []) 0 source (omega (arith, is.within, many_counts)) ∙ is.counted;
  told = subst (λ t. IsToldAs (entry_told lists catalog place) t size) (sym (get_or_append_left s.told (told ∷ []) None source (omega (arith, is.within, many_told)))) is.told;
  at = subst (λ h. IsAtVersion (entry_told versions catalog place) h version) (sym (get_or_append_left s.versions (held ∷ []) 0 source (omega (arith, is.within, many_versions)))) is.at;
}

still_opening : (lists : List ℕ → Option (List Row)) (versions : List ℕ → Option ℕ) (catalog : List Entry) (s : Sources) (told : Option (List Row)) (held next count : ℕ) (Wanted : ℕ
    → Type 0) (before now : Counted) (place : ℕ) (o : Opening)
    → length s.told ≡ length s.places → length s.versions ≡ length s.places → length s.counts ≡ length s.places
    → IsOpening lists versions catalog s Wanted before now place o → IsOpening lists versions catalog (more_sources s told held next count) Wanted before now place o
still_opening lists versions catalog s told held next count Wanted before now place Closed many_told many_versions many_counts is = is
still_opening lists versions catalog s told held next count Wanted before now place (Open size source version) many_told many_versions many_counts is =
    (is.0, source_on lists versions catalog s told held next count place size source version many_told many_versions many_counts is.1)

run_count_small : (size : ℕ) → run_count size ≤ MAX_OBJECTS
run_count_small size = small (nat_le size MAX_OBJECTS) (leb-true size MAX_OBJECTS)
  where
    small : (b : Bool) → (b ≡ true → size ≤ MAX_OBJECTS) → cond b size 0 ≤ MAX_OBJECTS
    small true is = is refl
    small false is = omega arith

-- how many entries have a place, with one entry more
pub standing_more : (catalog : List Entry) (entries : List ℕ) (entry : ℕ) (place : List ℕ)
    → standing catalog (entries ++ entry ∷ []) place ≡ standing catalog entries place + one_at (entry_at catalog entry).place place
standing_more catalog [] entry place = go (bytes_eq (entry_at catalog entry).place place)
  where
    go : (b : Bool) → (if b then 1 else 0) ≡ 0 + (if b then 1 else 0)
    go true = omega arith
    go false = omega arith
standing_more catalog (e ∷ entries) entry place = go (bytes_eq (entry_at catalog e).place place) (standing_more catalog entries entry place)
  where
    go : (b : Bool) → standing catalog (entries ++ entry ∷ []) place ≡ standing catalog entries place + one_at (entry_at catalog entry).place place
        → (if b then suc (standing catalog (entries ++ entry ∷ []) place) else standing catalog (entries ++ entry ∷ []) place)
        ≡ (if b then suc (standing catalog entries place) else standing catalog entries place) + one_at (entry_at catalog entry).place place
    go true e = omega (arith, e)
    go false e = e

-- the next source is open
pub so_far_open : (lists : List ℕ → Option (List Row)) (versions : List ℕ → Option ℕ) (catalog : List Entry) (Wanted : ℕ → Type 0) (before now : Counted)
    (openings : List Opening) (s : Sources) (next size version held : ℕ) (told : Option (List Row))
    → OpensSoFar lists versions catalog Wanted before now openings s → length openings ≡ next → next < length catalog → Wanted next
    → IsToldAs (entry_told lists catalog next) told size → IsAtVersion (entry_told versions catalog next) held version
    → OpensSoFar lists versions catalog Wanted before now (openings ++ Open size (length s.places) version ∷ []) (more_sources s told held next (run_count size))
so_far_open lists versions catalog Wanted before now openings s next size version held told are long inside wanted is_told is_at =
    let o = Open size (length s.places) version in
    record {
      each = λ place within.
          let within_more : place < length openings + 1 = omega (arith, within, length-append openings (o ∷ [])) in
          elim (last_or place (length openings) within_more) [
            | inl old ↦ subst (IsOpening lists versions catalog (more_sources s told held next (run_count size)) Wanted before now place) (sym (get_or_append_left openings (o ∷ []) Closed place old))
                (still_opening lists versions catalog s told held next (run_count size) Wanted before now place (opening_at openings place) are.many_told are.many_versions are.many_counts
                (are.each place old))
            | inr new ↦
                let here : opening_at (openings ++ o ∷ []) place ≡ o = get_or_push openings o Closed place (sym new) in
                let same : next ≡ place = sym long ∙ sym new in
                subst (IsOpening lists versions catalog (more_sources s told held next (run_count size)) Wanted before now place) (sym here) (
                  subst Wanted same wanted,
                  record {
                    within = omega (arith, length-append s.places (next ∷ []));
                    stands = get_or_push s.places next 0 (length s.places) refl ∙ same;
                    counted = get_or_push s.counts (run_count size) 0 (length s.places) are.many_counts;
                    told = subst (λ p. IsToldAs (entry_told lists catalog p) (slice_index_or (s.told ++ told ∷ []) (length s.places) None) size) same
                        (subst (λ t. IsToldAs (entry_told lists catalog next) t size) (sym (get_or_push s.told told None (length s.places) are.many_told)) is_told);
                    at = subst (λ p. IsAtVersion (entry_told versions catalog p) (slice_index_or (s.versions ++ held ∷ []) (length s.places) 0) version) same
                        (subst (λ h. IsAtVersion (entry_told versions catalog next) h version) (sym (get_or_push s.versions held 0 (length s.places) are.many_versions)) is_at);
                  },
                )
          ];
      numbered = λ source within.
          let within_more : source < length s.places + 1 = omega (arith, within, length-append s.places (next ∷ [])) in
          elim (last_or source (length s.places) within_more) [
            | inl old ↦ subst (λ p. IsNumbered catalog (openings ++ o ∷ []) p source) (sym (get_or_append_left s.places (next ∷ []) 0 source old))
                (numbered_on catalog openings o (slice_index_or s.places source 0) source (are.numbered source old))
            | inr new ↦ subst (λ p. IsNumbered catalog (openings ++ o ∷ []) p source) (sym (get_or_push s.places next 0 source (sym new))) (record {
              within = inside;
              size = size;
              version = version;
              open_as = get_or_push openings o Closed next long ∙ ap (λ n. Open size n version) (sym new);
            })
          ];
      many_told = omega (arith, length-append s.told (told ∷ []), length-append s.places (next ∷ []), are.many_told);
      many_versions = omega (arith, length-append s.versions (held ∷ []), length-append s.places (next ∷ []), are.many_versions);
      many_counts = omega (arith, length-append s.counts (run_count size ∷ []), length-append s.places (next ∷ []), are.many_counts);
      small = All-push (λ count. count ≤ MAX_OBJECTS) s.counts (run_count size) are.small (run_count_small size);
    }

-- the entry at a place
pub entry_place : (catalog : List Entry) (place : ℕ) (one : Entry) (text : List ℕ) → Some one ≡ slice_get catalog place → text ≡ one.place
    → (entry_at catalog place).place ≡ text
entry_place catalog place one text found is = ap (λ (e : Entry). e.place) (get_or_from_slice_get catalog place one no_entry (sym found)) ∙ sym is

-- an option that is known
pub match_none : {X : Type 0} (o : Option X) (P : Type 0) (Q : X → Type 0) → MatchOption o P Q → o ≡ None → P
match_none None P Q h e = h
match_none (Some x) P Q h e = absurd cc

pub match_some : {X : Type 0} (o : Option X) (P : Type 0) (Q : X → Type 0) (x : X) → MatchOption o P Q → o ≡ Some x → Q x
match_some None P Q x h e = absurd cc
match_some (Some y) P Q x h e = subst Q (same_Some y x e) h

-- the same in other words
pub sources_as : (told told_now : List (Option (List Row))) (held held_now places places_now counts counts_now : List ℕ) → told_now ≡ told → held_now ≡ held → places_now ≡ places
    → counts_now ≡ counts → sources_by told_now held_now places_now counts_now ≡ sources_by told held places counts
sources_as told told_now held held_now places places_now counts counts_now t h p c = λ i. sources_by (t i) (h i) (p i) (c i)

-- sources count at their places
pub known_on : (catalog : List Entry) (before now : List ℕ → Bool) (places : List ℕ) → ((other : List ℕ) → before other ≡ true → now other ≡ true)
    → All (IsKnownAt catalog before) places → All (IsKnownAt catalog now) places
known_on catalog before now places on all = All-weaker (IsKnownAt catalog before) (IsKnownAt catalog now) (λ place is. record { within = is.within; known = on (entry_at catalog place).place is.known }) places all

-- a source that is asked tells the list of its place
pub told_as : (told one tells : Option (List Row)) (size : ℕ) → IfSome told (λ rows. one ≡ Some rows) → tells ≡ one → IfSome one (λ rows. size ≡ length rows)
    → IsToldAs told tells size
told_as None one tells size list same stated = tt
told_as (Some rows) one tells size list same stated = (same ∙ list, subst (λ o. IfSome o (λ rows. size ≡ length rows)) list stated)

-- which sources are wanted, in other words
opening_for : (lists : List ℕ → Option (List Row)) (versions : List ℕ → Option ℕ) (catalog : List Entry) (s : Sources) (W V : ℕ → Type 0) (before now : Counted) (place : ℕ)
    (o : Opening) → (W place → V place) → (V place → W place) → IsOpening lists versions catalog s W before now place o → IsOpening lists versions catalog s V before now place o
opening_for lists versions catalog s W V before now place Closed to from is = λ wanted. is (from wanted)
opening_for lists versions catalog s W V before now place (Open size source version) to from is = (to is.0, is.1)

pub so_far_for : (lists : List ℕ → Option (List Row)) (versions : List ℕ → Option ℕ) (catalog : List Entry) (W V : ℕ → Type 0) (before now : Counted) (openings : List Opening)
    (s : Sources) → ((place : ℕ) → W place → V place) → ((place : ℕ) → V place → W place) → OpensSoFar lists versions catalog W before now openings s
    → OpensSoFar lists versions catalog V before now openings s
so_far_for lists versions catalog W V before now openings s to from are = record {
  each = λ place within. opening_for lists versions catalog s W V before now place (opening_at openings place) (to place) (from place) (are.each place within);
  numbered = are.numbered;
  many_told = are.many_told;
  many_versions = are.many_versions;
  many_counts = are.many_counts;
  small = are.small;
}
