-- Which sources lines want, with one line more.
use Rattle.std.proofs.Common.{◌≡◌, ℕ, ◌+◌, ◌<◌, ◌≤◌, zero, suc, Bool, false, List, [], ◌∷◌, ◌++◌, All, Contains, map, take, length, length-append, replicate, get_or, slice_get, slice_set, true, inl, inr, None, Some, Ok, refl, sym, ap, ◌∙◌, subst, length-take-le, arith}
use Rattle.std.specs.List.{AllByRecursion}
use Rattle.std.specs.Str.{bytes_eq}
use Rattle.std.proofs.lemmas.Bool.{cases_eq, cases_lt, false≢true}
use Rattle.std.proofs.lemmas.Option.{slice_get-get_or, slice_get_within, get_or_from_slice_get, slice_get_past, same_Some}
use Rattle.std.proofs.lemmas.List.{get_or-set_other, get_or-set_same, get_or_past, get_or_push, get_or-replicate, length-replicate, map-append, take_more}
use Rattle.std.proofs.lemmas.List.Elements.{All-from_recursion, Contains-append_left, Contains-push, Contains-push_cases}
use Rattle.std.proofs.lemmas.List.Quantifiers.{position-Some}
use Rattle.topk_theory.proofs.AgreementLists.{get_front}
use Rattle.query_text.specs.declared.query.Query.{Query}
use Rattle.query_text.specs.Reading.{Reads}
use Rattle.cert_text.specs.declared.refusal.Refusal.{Refusal}
use Rattle.query_admission.specs.View.{View}
use Rattle.query_admission.specs.Causes.{most_queries}
use Rattle.query_admission.specs.Admission.{IsReadAs}
use Rattle.query_admission.specs.declared.reading.ReadLine.{ReadLine}
use Rattle.query_admission.specs.declared.reading.ReadLine.TheVariants.{Refused as NotRead}
use Rattle.query_admission.proofs.Admitting.{read_once, refused_unread}
use Rattle.catalog_text.specs.Catalog.{Listed as Entry}
use Rattle.catalog_open.specs.Views.{entry_named}
use Rattle.catalog_open.specs.Wanted.{AreRead, Wants, AreMarked, MarksMore}
use Rattle.catalog_open.specs.Entries.{is_marked}

-- the places of names are known one way
pub places_once : (xs ys : List ℕ) → map Some xs ≡ map Some ys → xs ≡ ys
places_once [] [] e = refl
places_once [] (y ∷ ys) e = absurd cc
places_once (x ∷ xs) [] e = absurd cc
places_once (x ∷ xs) (y ∷ ys) e =
    let here : x ≡ y = cc in
    let rest : map Some xs ≡ map Some ys = cc in
    ap (λ p. p ∷ xs) here ∙ ap (λ ps. y ∷ ps) (places_once xs ys rest)

-- the places that names have are of the catalog
pub places_within : (catalog : List Entry) (names : List (List ℕ)) (places : List ℕ) → map (entry_named catalog) names ≡ map Some places
    → All (λ place. place < length catalog) places
places_within catalog names places e = All-from_recursion (λ place. place < length catalog) places (go names places e)
  where
    go : (names : List (List ℕ)) (places : List ℕ) → map (entry_named catalog) names ≡ map Some places → AllByRecursion (λ place. place < length catalog) places
    go [] [] e = tt
    go [] (p ∷ ps) e = absurd cc
    go (n ∷ ns) [] e = tt
    go (n ∷ ns) (p ∷ ps) e =
        let here : entry_named catalog n ≡ Some p = cc in
        let rest : map (entry_named catalog) ns ≡ map Some ps = cc in
        ((position-Some (λ (entry : Entry). bytes_eq entry.name n) catalog p (record { name = []; place = []; random = false; sorted = false }) here).0, go ns ps rest)

-- a name without a place
pub unknown_among : (catalog : List Entry) (names : List (List ℕ)) (list : ℕ) (name : List ℕ) → slice_get names list ≡ Some name → entry_named catalog name ≡ None
    → (places : List ℕ) → ¬ (map (entry_named catalog) names ≡ map Some places)
unknown_among catalog [] list name found none places e = absurd cc
unknown_among catalog (n ∷ ns) zero name found none [] e = absurd cc
unknown_among catalog (n ∷ ns) zero name found none (p ∷ ps) e =
    let same : n ≡ name = cc in
    let here : entry_named catalog n ≡ Some p = cc in
    let gone : entry_named catalog n ≡ None = ap (entry_named catalog) same ∙ none in
    absurd cc
unknown_among catalog (n ∷ ns) (suc list) name found none [] e = absurd cc
unknown_among catalog (n ∷ ns) (suc list) name found none (p ∷ ps) e =
    let rest : map (entry_named catalog) ns ≡ map Some ps = cc in
    unknown_among catalog ns list name found none ps rest

abbrev no_lines : List (List ℕ)
no_lines = []

none_some : (bytes : List ℕ) → None ≡ Some bytes → ⊥
none_some bytes e = cc

no_line : (at : ℕ) (bytes : List ℕ) → slice_get no_lines at ≡ Some bytes → ⊥
no_line at bytes e = none_some bytes (sym (slice_get_past no_lines at (omega arith)) ∙ e)

nowhere : (n place : ℕ) → is_marked (replicate n false) place ≡ false
nowhere n place = elim (cases_lt place n) [
  | inl within ↦ get_or-replicate n place false false within
  | inr past ↦ get_or_past (replicate n false) place false (omega (arith, past, length-replicate n false))
]

-- nothing is marked
pub marked_none : (catalog : List Entry) (marks : List Bool) → marks ≡ replicate (length catalog) false → AreMarked catalog no_lines marks
marked_none catalog marks e = record {
  many = ap length e ∙ length-replicate (length catalog) false;
  wanted = λ place is. absurd (false≢true (sym (ap (λ m. is_marked m place) e ∙ nowhere (length catalog) place) ∙ is));
  marked = λ place is. absurd (no_line is.at is.bytes is.line);
}

-- what one line more wants is marked too
pub marked_more : (catalog : List Entry) (lines : List (List ℕ)) (bytes : List ℕ) (number : ℕ) (before now : List Bool) → AreMarked catalog lines before
    → number ≡ length lines + 1
    → length now ≡ length catalog → MarksMore (Wants catalog number bytes) before now → AreMarked catalog (lines ++ bytes ∷ []) now
marked_more catalog lines bytes number before now are is many more = record {
  many = many;
  wanted = λ place marked. elim (more.others place marked) [
    | inl old ↦
        let w = are.wanted place old in
        record { at = w.at; bytes = w.bytes; line = get_front lines (bytes ∷ []) w.at (slice_get_within lines w.at w.bytes w.line) ∙ w.line; wants = w.wants }
    | inr new ↦ record {
      at = length lines;
      bytes = bytes;
      line = slice_get-get_or (lines ++ bytes ∷ []) (length lines) bytes (omega (arith, length-append lines (bytes ∷ []))) ∙ ap Some (get_or_push lines bytes bytes (length lines) refl);
      wants = subst (λ n. Wants catalog n bytes place) is new;
    }
  ];
  marked = λ place w. elim (cases_lt w.at (length lines)) [
    | inl old ↦ more.kept place (are.marked place (record { at = w.at; bytes = w.bytes; line = sym (get_front lines (bytes ∷ []) w.at old) ∙ w.line; wants = w.wants }))
    | inr last ↦
        let within = slice_get_within (lines ++ bytes ∷ []) w.at w.bytes w.line in
        let at : w.at ≡ length lines = omega (arith, last, within, length-append lines (bytes ∷ [])) in
        let read : slice_get (lines ++ bytes ∷ []) w.at ≡ Some bytes = slice_get-get_or (lines ++ bytes ∷ []) w.at bytes within ∙ ap Some (get_or_push lines bytes bytes w.at (sym at)) in
        let same : w.bytes ≡ bytes = same_Some w.bytes bytes (sym w.line ∙ read) in
        let numbered : w.at + 1 ≡ number = ap (λ n. n + 1) at ∙ sym is in
        more.marked place (subst (λ n. Wants catalog n bytes place) numbered (subst (λ b. Wants catalog (w.at + 1) b place) same w.wants))
  ];
}

-- nothing more is marked
pub marks_same : (These : ℕ → Type 0) (marks : List Bool) → ((place : ℕ) → ¬ These place) → MarksMore These marks marks
marks_same These marks none = record { kept = λ place is. is; marked = λ place is. absurd (none place is); others = λ place is. inl is }

-- a line that is refused before its lists are looked at, and one that names a list that the catalog hasn't, want nothing
pub wants_read : (catalog : List Entry) (number : ℕ) (bytes : List ℕ) (refusal : Refusal) → IsReadAs number bytes (NotRead refusal) → (place : ℕ)
    → ¬ Wants catalog number bytes place
wants_read catalog number bytes refusal is place w =
    let view : View = record { listed = λ name. None; told = λ name. None } in
    refused_unread (record { view = view; number = number; bytes = bytes }) refusal w.query (is view) w.few w.reads

pub wants_known : (catalog : List Entry) (number : ℕ) (bytes : List ℕ) (query : Query) → Reads bytes (Ok query)
    → ((places : List ℕ) → ¬ (map (entry_named catalog) query.names ≡ map Some places))
    → (place : ℕ) → ¬ Wants catalog number bytes place
wants_known catalog number bytes query reads none place w =
    let same : w.query ≡ query = read_once bytes w.query query w.reads reads in
    none w.places (subst (λ (q : Query). map (entry_named catalog) q.names ≡ map Some w.places) same w.known)

-- the places of the lists of a line's query are those that it wants
pub marks_wanted : (catalog : List Entry) (number : ℕ) (bytes : List ℕ) (query : Query) (places : List ℕ) (before now : List Bool) → number ≤ most_queries
    → Reads bytes (Ok query)
    → map (entry_named catalog) query.names ≡ map Some places → MarksMore (Contains places) before now → MarksMore (Wants catalog number bytes) before now
marks_wanted catalog number bytes query places before now few reads known more = record {
  kept = more.kept;
  marked = λ place w.
      let same : w.query ≡ query = read_once bytes w.query query w.reads reads in
      let at : w.places ≡ places = places_once w.places places (sym w.known ∙ (ap (λ (q : Query). map (entry_named catalog) q.names) same ∙ known)) in
      more.marked place (subst (λ ps. Contains ps place) at w.named);
  others = λ place is. elim (more.others place is) [
    | inl old ↦ inl old
    | inr new ↦ inr (record { few = few; query = query; reads = reads; places = places; known = known; named = new })
  ];
}

-- the place of one name more
pub places_next : (catalog : List Entry) (names : List (List ℕ)) (list : ℕ) (name : List ℕ) (place : ℕ) (places now : List ℕ)
    → slice_get names list ≡ Some name → entry_named catalog name ≡ Some place
    → map (entry_named catalog) (take list names) ≡ map Some places → now ≡ places ++ place ∷ [] → map (entry_named catalog) (take (list + 1) names) ≡ map Some now
places_next catalog names list name place places now found at so_far pushed =
    let within = slice_get_within names list name found in
    let read : get_or names list [] ≡ name = get_or_from_slice_get names list name [] found in
    ap (map (entry_named catalog)) (take_more names list [] within)
    ∙ map-append (entry_named catalog) (take list names) (get_or names list [] ∷ [])
    ∙ ap (λ os. os ++ entry_named catalog (get_or names list []) ∷ []) so_far
    ∙ ap (λ o. map Some places ++ o ∷ []) (ap (entry_named catalog) read ∙ at)
    ∙ sym (map-append Some places (place ∷ []))
    ∙ ap (map Some) (sym pushed)

-- one place more is marked
pub mark_more : (places : List ℕ) (i d : ℕ) (before now : List Bool) → i < length places → get_or places i d < length now
    → MarksMore (Contains (take i places)) before now → MarksMore (Contains (take (i + 1) places)) before (slice_set now (get_or places i d) true)
mark_more places i d before now within fits more =
    let p : ℕ = get_or places i d in
    let marks : List Bool = slice_set now p true in
    let there : (q : ℕ) → q ≡ p → is_marked marks q ≡ true = λ q same. subst (λ x. is_marked marks x ≡ true) (sym same) (get_or-set_same now p true false fits) in
    let other : (q : ℕ) → (q ≡ p → ⊥) → is_marked marks q ≡ is_marked now q = λ q apart. get_or-set_other now p q true false apart in
    let all : MarksMore (Contains (take i places ++ p ∷ [])) before marks = record {
      kept = λ q is. elim (cases_eq q p) [ inl same ↦ there q same | inr apart ↦ other q apart ∙ more.kept q is ];
      marked = λ q c. elim (cases_eq q p) [
        | inl same ↦ there q same
        | inr apart ↦ other q apart ∙ more.marked q (elim (Contains-push_cases (take i places) p q c) [ inl old ↦ old | inr new ↦ absurd (apart (sym new)) ])
      ];
      others = λ q is. elim (cases_eq q p) [
        | inl same ↦ inr (subst (Contains (take i places ++ p ∷ [])) (sym same) (Contains-push (take i places) p))
        | inr apart ↦ elim (more.others q (sym (other q apart) ∙ is)) [ inl old ↦ inl old | inr new ↦ inr (Contains-append_left (take i places) (p ∷ []) q new) ]
      ];
    } in
    subst (λ ps. MarksMore (Contains ps) before marks) (sym (take_more places i d within)) all

-- the next of the lines that were read
pub marked_next : (catalog : List Entry) (lines : List (List ℕ)) (read : List ReadLine) (i : ℕ) (line : ReadLine) (before now : List Bool) → i < length read
    → slice_get read i ≡ Some line → AreRead lines read → AreMarked catalog (take i lines) before → length now ≡ length catalog
    → ((number : ℕ) → (bytes : List ℕ) → IsReadAs number bytes line → MarksMore (Wants catalog number bytes) before now)
    → AreMarked catalog (take (i + 1) lines) now
marked_next catalog lines read i line before now is here are marked many more =
    let within : i < length lines = omega (arith, is, are.many) in
    let bytes = get_or lines i [] in
    let long : length (take i lines) ≡ i = length-take-le i lines (omega (arith, within)) in
    subst (λ ls. AreMarked catalog ls now) (sym (take_more lines i [] within))
    (marked_more catalog (take i lines) bytes (i + 1) before now marked (omega (arith, long)) many
    (more (i + 1) bytes (are.each i bytes line (slice_get-get_or lines i [] within) here)))
