-- A text with a record at fault is no catalog.
use Rattle.std.proofs.Common.{◌≡◌, ◌<◌, ◌≤◌, ◌+◌, ℕ, suc, Bool, List, [], ◌∷◌, ◌++◌, length, map, drop, get_or, refl, sym, ap, ◌∙◌, subst, arith, length-append}
use Rattle.std.specs.List.{All, AllPairs, Contains}
use Rattle.std.proofs.lemmas.List.{length-map, get_or_append_left}
use Rattle.std.proofs.Math.ListN.{get_or-map}
use Rattle.std.proofs.Math.Seq.{get_or-append_seam}
use Rattle.catalog_text.specs.Catalog.{Listed, header, spelled, IsListed, IsCatalog}
use Rattle.catalog_text.specs.Judging.{HasForm, RepeatsName, name_in, IsBroken, IsRepeated}
use Rattle.catalog_text.proofs.TakingLaws.{names_of}

-- a record among those of sources, and the sources before and after it
record Split (wide : Bool) (above : List (List (List ℕ))) (here : List (List ℕ)) (sources : List Listed) : Type 0 where
  pub front : List Listed
  pub source : Listed
  pub rest : List Listed
  pub whole : sources ≡ front ++ source ∷ rest
  pub before : above ≡ map (spelled wide) front
  pub spelling : here ≡ spelled wide source

split : (wide : Bool) (above : List (List (List ℕ))) (here : List (List ℕ)) (after : List (List (List ℕ))) (sources : List Listed)
    → above ++ here ∷ after ≡ map (spelled wide) sources → Split wide above here sources
split wide [] here after [] e = absurd (cc)
split wide (first ∷ above) here after [] e = absurd (cc)
split wide [] here after (source ∷ sources) e = record {
  front = [];
  source = source;
  rest = sources;
  whole = refl;
  before = refl;
  spelling = ap (λ l. get_or l 0 []) e;
}
split wide (first ∷ above) here after (source ∷ sources) e =
    let more = split wide above here after sources (ap (drop 1) e) in record {
      front = source ∷ more.front;
      source = more.source;
      rest = more.rest;
      whole = ap (λ l. source ∷ l) more.whole;
      before = ap (λ f. f ∷ above) (ap (λ l. get_or l 0 []) e) ∙ ap (λ l. spelled wide source ∷ l) more.before;
      spelling = more.spelling;
    }

front_length : (wide : Bool) (above : List (List (List ℕ))) (here : List (List ℕ)) (sources : List Listed) (s : Split wide above here sources) → length above ≡ length s.front
front_length wide above here sources s = ap length s.before ∙ length-map s.front (spelled wide)

sources_length : (wide : Bool) (above : List (List (List ℕ))) (here : List (List ℕ)) (sources : List Listed) (s : Split wide above here sources)
    → length sources ≡ length s.front + suc (length s.rest)
sources_length wide above here sources s = ap length s.whole ∙ length-append s.front (s.source ∷ s.rest)

has_form : (wide : Bool) (before : List (List (List ℕ))) (here : List (List ℕ)) (after : List (List (List ℕ))) (sources : List Listed)
    → before ++ here ∷ after ≡ header wide ∷ map (spelled wide) sources
    → All (IsListed wide) sources → length sources ≤ 64 → HasForm before here
has_form wide [] here after sources e each few = (wide, ap (λ l. get_or l 0 []) e)
has_form wide (first ∷ above) here after sources e each few =
    let s = split wide above here after sources (ap (drop 1) e) in
    let long = front_length wide above here sources s in
    let all_long = sources_length wide above here sources s in
    let at : get_or sources (length s.front) s.source ≡ s.source = ap (λ l. get_or l (length s.front) s.source) s.whole ∙ get_or-append_seam s.front s.source s.rest s.source in
    (omega arith, wide, ap (λ l. get_or l 0 []) e, s.source, subst (IsListed wide) at (each (length s.front) s.source (omega arith)), s.spelling)

has_no_other : (wide : Bool) (before : List (List (List ℕ))) (here : List (List ℕ)) (after : List (List (List ℕ))) (sources : List Listed)
    → before ++ here ∷ after ≡ header wide ∷ map (spelled wide) sources
    → AllPairs (λ (above : Listed) (below : Listed). above.name ≡ below.name → ⊥) sources → RepeatsName before here → ⊥
has_no_other wide [] here after sources e distinct held = held
has_no_other wide (first ∷ above) here after sources e distinct held =
    let s = split wide above here after sources (ap (drop 1) e) in
    let all_long = sources_length wide above here sources s in
    let name : Listed → List ℕ = λ x. x.name in
    let among : Contains (map (λ (x : Listed). x.name) s.front) s.source.name =
    subst (Contains (map (λ (x : Listed). x.name) s.front)) (ap name_in s.spelling) (subst (λ l. Contains l (name_in here)) (ap (map name_in) s.before ∙ names_of wide s.front) held) in
    let short : among.0 < length s.front = omega (arith, among.1, length-map s.front name) in
    let at : get_or sources (length s.front) s.source ≡ s.source = ap (λ l. get_or l (length s.front) s.source) s.whole ∙ get_or-append_seam s.front s.source s.rest s.source in
    let earlier : get_or sources among.0 s.source ≡ get_or s.front among.0 s.source = ap (λ l. get_or l among.0 s.source) s.whole ∙ get_or_append_left s.front (s.source ∷ s.rest) s.source among.0 short in
    distinct among.0 (length s.front) s.source short (omega arith)
    (ap name earlier ∙ (sym (get_or-map name s.front among.0 s.source) ∙ (among.2 ∙ sym (ap name at))))

pub broken_is_none : (records : List (List (List ℕ))) (sources : List Listed) (line : ℕ) → IsCatalog records sources → IsBroken records line → ⊥
broken_is_none records sources line h fault =
    let at = fault.0 in
    let whole = h.1.whole in
    fault.1 (has_form h.0 at.before at.here at.after sources (sym at.whole ∙ whole) h.1.each h.1.few)

pub repeated_is_none : (records : List (List (List ℕ))) (sources : List Listed) (line : ℕ) → IsCatalog records sources → IsRepeated records line → ⊥
repeated_is_none records sources line h fault =
    let at = fault.0 in
    let whole = h.1.whole in
    has_no_other h.0 at.before at.here at.after sources (sym at.whole ∙ whole) h.1.distinct fault.2
