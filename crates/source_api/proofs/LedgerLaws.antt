-- Counts by place: a look-up, a new entry and an entry in place of another.
use Rattle.std.proofs.Common.{◌≡◌, ◌≢◌, ◌≤◌, ◌<◌, ◌+◌, ℕ, zero, suc, Bool, true, false, cond, not, ◌||◌, List, [], ◌∷◌, ◌++◌, length, set, get_or, Option, Some, None, refl, sym, ap, ◌∙◌, subst, arith}
use Rattle.std.specs.Prelude.{nat_lt}
use Rattle.std.specs.List.{position, position_or_len}
use Rattle.std.specs.Option.{is_some}
use Rattle.std.specs.Str.{bytes_eq}
use Rattle.std.proofs.lemmas.Bool.{ltb-false}
use Rattle.std.proofs.lemmas.List.{map-append}
use Rattle.std.proofs.lemmas.List.Quantifiers.{position-Some}
use Rattle.std.proofs.lemmas.Slice.Eq.{bytes_eq-Decides}
use Rattle.source_api.specs.declared.ledger.Entry.{Entry}
use Rattle.source_api.specs.Places.{Noted, nothing_at, counts_at, is_known}
use Rattle.source_api.specs.Entries.{noted, noted_entries}

-- whether an entry is of the place
abbrev pub is_of : List ℕ → Entry → Bool
is_of place entry = bytes_eq entry.place.items place

-- the first entry of the place stands here
pub record IsAt (entries : List Entry) (place : List ℕ) (at : ℕ) : Type 0 where
  pub within : at < length entries
  pub here : (d : Entry) → is_of place (get_or entries at d) ≡ true
  pub before : (d : Entry) (k : ℕ) → k < at → is_of place (get_or entries k d) ≡ false

pub at_position : (entries : List Entry) (place : List ℕ) (at : ℕ) (e : Entry) → position (is_of place) entries ≡ Some at → IsAt entries place at
at_position entries place at e is = record {
  within = (position-Some (is_of place) entries at e is).0;
  here = λ d. (position-Some (is_of place) entries at d is).1;
  before = λ d k l. (position-Some (is_of place) entries at d is).2 k l;
}

-- what a look-up among the same entries, by the same text, found
pub found : (looked entries : List Entry) (text place : List ℕ) (at : ℕ) (e : Entry) → looked ≡ entries → text ≡ place
    → Some at ≡ position (is_of text) looked → IsAt entries place at
found looked entries text place at e same_entries same_text is =
    subst (λ es. IsAt es place at) same_entries (subst (λ t. IsAt looked t at) same_text (at_position looked text at e (sym is)))

-- the same below the first entry
below : (first : Entry) (entries : List Entry) (place : List ℕ) (at : ℕ) → IsAt (first ∷ entries) place (suc at) → IsAt entries place at
below first entries place at h = record {
  within = let w = h.within in omega arith;
  here = λ d. h.here d;
  before = λ d k l. h.before d (suc k) (omega arith);
}

pub counts_found : (entries : List Entry) (place : List ℕ) (at : ℕ) (d : Entry) → IsAt entries place at
    → counts_at (noted_entries entries) place ≡ (get_or entries at d).counts
counts_found [] place at d h = let w = h.within in absurd (omega arith)
counts_found (first ∷ entries) place zero d h = rw (h.here d) refl
counts_found (first ∷ entries) place (suc at) d h = rw (h.before d 0 (omega arith)) (counts_found entries place at d (below first entries place at h))

pub known_found : (entries : List Entry) (place : List ℕ) (at : ℕ) (d : Entry) → IsAt entries place at → is_known (noted_entries entries) place ≡ true
known_found [] place at d h = let w = h.within in absurd (omega arith)
known_found (first ∷ entries) place zero d h = rw (h.here d) refl
known_found (first ∷ entries) place (suc at) d h = rw (h.before d 0 (omega arith)) (known_found entries place at d (below first entries place at h))

nowhere : (entries : List Entry) (place : List ℕ) → length entries ≤ position_or_len (is_of place) entries → is_known (noted_entries entries) place ≡ false
nowhere [] place l = refl
nowhere (first ∷ entries) place l = by (is_of place first) refl l (nowhere entries place)
  where
    by : (b : Bool) → is_of place first ≡ b → suc (length entries) ≤ cond (not b) (1 + position_or_len (is_of place) entries) 0
        → (length entries ≤ position_or_len (is_of place) entries → is_known (noted_entries entries) place ≡ false)
        → (b || is_known (noted_entries entries) place) ≡ false
    by true e l more = absurd (omega arith)
    by false e l more = more (omega arith)

pub unknown : (entries : List Entry) (place : List ℕ) → position (is_of place) entries ≡ None → is_known (noted_entries entries) place ≡ false
unknown entries place is = by (nat_lt (position_or_len (is_of place) entries) (length entries)) refl is
  where
    by : (b : Bool) → nat_lt (position_or_len (is_of place) entries) (length entries) ≡ b
        → cond b (Some (position_or_len (is_of place) entries)) None ≡ None → is_known (noted_entries entries) place ≡ false
    by true e h = absurd (cc)
    by false e h = nowhere entries place (ltb-false _ _ e)

pub not_found : (looked entries : List Entry) (text place : List ℕ) → looked ≡ entries → text ≡ place → None ≡ position (is_of text) looked
    → is_known (noted_entries entries) place ≡ false
not_found looked entries text place same_entries same_text is =
    subst (λ es. is_known (noted_entries es) place ≡ false) same_entries (subst (λ t. is_known (noted_entries looked) t ≡ false) same_text (unknown looked text (sym is)))

-- a look-up that found something
some_known : (looked : List Entry) (text : List ℕ) (o : Option ℕ) → o ≡ position (is_of text) looked → is_some o ≡ true
    → is_known (noted_entries looked) text ≡ true
some_known looked text None is some = absurd (cc)
some_known [] text (Some at) is some = absurd (cc)
some_known (first ∷ more) text (Some at) is some = known_found (first ∷ more) text at first (at_position (first ∷ more) text at first (sym is))

pub found_some : (looked entries : List Entry) (text place : List ℕ) (o : Option ℕ) → looked ≡ entries → text ≡ place
    → o ≡ position (is_of text) looked → is_some o ≡ true → is_known (noted_entries entries) place ≡ true
found_some looked entries text place o same_entries same_text is some =
    subst (λ es. is_known (noted_entries es) place ≡ true) same_entries (subst (λ t. is_known (noted_entries looked) t ≡ true) same_text (some_known looked text o is some))

-- whether a look-up found something
pub found_known : (looked entries : List Entry) (text place : List ℕ) (o : Option ℕ) → looked ≡ entries → text ≡ place → o ≡ position (is_of text) looked
    → is_some o ≡ is_known (noted_entries entries) place
found_known looked entries text place None same_entries same_text is = sym (not_found looked entries text place same_entries same_text is)
found_known looked entries text place (Some at) same_entries same_text is = sym (found_some looked entries text place (Some at) same_entries same_text is refl)

pub counts_unknown : (ns : List Noted) (place : List ℕ) → is_known ns place ≡ false → counts_at ns place ≡ nothing_at
counts_unknown [] place h = refl
counts_unknown (n ∷ ns) place h = by (bytes_eq n.place place) h (counts_unknown ns place)
  where
    by : (b : Bool) → (b || is_known ns place) ≡ false → (is_known ns place ≡ false → counts_at ns place ≡ nothing_at)
        → cond b n.counts (counts_at ns place) ≡ nothing_at
    by true h more = absurd (cc)
    by false h more = more h

-- ---- a new entry, of which nothing is counted

abbrev pub begun : List ℕ → Noted
begun place = record { place = place; counts = nothing_at }

pub begun_of : (entry : Entry) (place : List ℕ) → entry.place.items ≡ place → entry.counts ≡ nothing_at → noted entry ≡ begun place
begun_of entry place is none = ap (λ p. let n : Noted = record { place = p; counts = entry.counts } in n) is ∙ ap (λ c. let n : Noted = record { place = place; counts = c } in n) none

pub counts_push : (ns : List Noted) (place other : List ℕ) → counts_at (ns ++ begun place ∷ []) other ≡ counts_at ns other
counts_push [] place other = by (bytes_eq place other)
  where
    by : (b : Bool) → cond b nothing_at nothing_at ≡ nothing_at
    by true = refl
    by false = refl
counts_push (n ∷ ns) place other = ap (cond (bytes_eq n.place other) n.counts) (counts_push ns place other)

pub known_push : (ns : List Noted) (place other : List ℕ) → is_known (ns ++ begun place ∷ []) other ≡ (is_known ns other || bytes_eq place other)
known_push [] place other = by (bytes_eq place other)
  where
    by : (b : Bool) → (b || false) ≡ b
    by true = refl
    by false = refl
known_push (n ∷ ns) place other = by (bytes_eq n.place other) (known_push ns place other)
  where
    by : (b : Bool) → is_known (ns ++ begun place ∷ []) other ≡ (is_known ns other || bytes_eq place other)
        → (b || is_known (ns ++ begun place ∷ []) other) ≡ ((b || is_known ns other) || bytes_eq place other)
    by true h = refl
    by false h = h

-- one more entry at the end
pub pushed : (entries now : List Entry) (y : Entry) (place : List ℕ) → now ≡ entries ++ y ∷ [] → noted y ≡ begun place
    → noted_entries now ≡ noted_entries entries ++ begun place ∷ []
pushed entries now y place is new = ap noted_entries is ∙ (map-append noted entries (y ∷ []) ∙ ap (λ n. noted_entries entries ++ n ∷ []) new)

pub push_known : (ns now : List Noted) (place : List ℕ) → now ≡ ns ++ begun place ∷ [] → is_known now place ≡ true
push_known ns now place is = ap (λ n. is_known n place) is ∙ (known_push ns place place ∙ or_true (is_known ns place) (bytes_eq place place) ((bytes_eq-Decides place place).1 refl))
  where
    or_true : (a b : Bool) → b ≡ true → (a || b) ≡ true
    or_true true b e = refl
    or_true false b e = e

-- ---- an entry in place of another

pub counts_set : (entries : List Entry) (place : List ℕ) (at : ℕ) (y : Entry) → IsAt entries place at → is_of place y ≡ true
    → counts_at (noted_entries (set entries at y)) place ≡ y.counts
counts_set [] place at y h same = let w = h.within in absurd (omega arith)
counts_set (first ∷ entries) place zero y h same = rw same refl
counts_set (first ∷ entries) place (suc at) y h same = rw (h.before y 0 (omega arith)) (counts_set entries place at y (below first entries place at h) same)

pub counts_elsewhere : (entries : List Entry) (other : List ℕ) (at : ℕ) (y d : Entry) → is_of other y ≡ false → is_of other (get_or entries at d) ≡ false
    → counts_at (noted_entries (set entries at y)) other ≡ counts_at (noted_entries entries) other
counts_elsewhere [] other at y d h was = refl
counts_elsewhere (first ∷ entries) other zero y d h was = rw (h, was) refl
counts_elsewhere (first ∷ entries) other (suc at) y d h was = ap (cond (is_of other first) first.counts) (counts_elsewhere entries other at y d h was)

pub known_set : (entries : List Entry) (other : List ℕ) (at : ℕ) (y d : Entry) → is_of other y ≡ is_of other (get_or entries at d) → at < length entries
    → is_known (noted_entries (set entries at y)) other ≡ is_known (noted_entries entries) other
known_set [] other at y d same l = refl
known_set (first ∷ entries) other zero y d same l = ap (λ b. b || is_known (noted_entries entries) other) same
known_set (first ∷ entries) other (suc at) y d same l = ap (λ b. is_of other first || b) (known_set entries other at y d same (omega arith))

-- two places that differ
pub apart : (place other : List ℕ) → other ≢ place → bytes_eq place other ≡ false
apart place other ne = by (bytes_eq place other) refl
  where
    by : (b : Bool) → bytes_eq place other ≡ b → b ≡ false
    by true e = absurd (ne (sym ((bytes_eq-Decides place other).0 e)))
    by false e = refl

-- an entry of one place isn't of another
pub of_another : (entry : Entry) (place other : List ℕ) → is_of place entry ≡ true → other ≢ place → is_of other entry ≡ false
of_another entry place other is ne = subst (λ p. bytes_eq p other ≡ false) (sym ((bytes_eq-Decides entry.place.items place).0 is)) (apart place other ne)
