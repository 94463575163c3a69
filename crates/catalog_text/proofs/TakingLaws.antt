-- Taking the records of a catalog in, one after another.
use Rattle.std.proofs.Common.{◌≡◌, ◌<◌, ◌+◌, ℕ, zero, suc, Bool, true, false, List, [], ◌∷◌, ◌++◌, length, map, get_or, Option, Some, None, inl, inr, refl, sym, ap, ◌∙◌, subst, append_assoc, arith}
use Rattle.std.specs.Option.{is_some, option_map}
use Rattle.std.specs.List.{Contains}
use Rattle.std.proofs.lemmas.List.{map-append, length-map, length_push}
use Rattle.std.proofs.lemmas.List.Elements.{All-push}
use Rattle.std.proofs.lemmas.List.Quantifiers.{all_pairs_push}
use Rattle.catalog_text.specs.declared.catalog.CatalogFault.{CatalogFault}
use Rattle.catalog_text.specs.declared.catalog.CatalogFault.TheVariants.{CatalogLine, SameName, Memory}
use Rattle.catalog_text.specs.declared.fields.Parts.{Parts}
use Rattle.catalog_text.specs.Catalog.{Listed, header, spelled, IsListed, IsCatalogOf}
use Rattle.catalog_text.specs.Judging.{HasForm, RepeatsName, name_in, Reaches, IsBroken, IsRepeated}
use Rattle.catalog_text.specs.Listed.{listed_parts, ReadsSource}
use Rattle.catalog_text.specs.Taking.{IsFault, IsTakenBy, FindsFault}

-- ---- a fault stays

abbrev reaches_more : (records : List (List (List ℕ))) (fields : List (List ℕ)) (line : ℕ) → Reaches records line → Reaches (records ++ fields ∷ []) line
reaches_more records fields line h = record {
  before = h.before;
  here = h.here;
  after = h.after ++ fields ∷ [];
  whole = ap (λ r. r ++ fields ∷ []) h.whole ∙ append_assoc h.before (h.here ∷ h.after) (fields ∷ []);
  counted = h.counted;
  sound = h.sound;
}

fault_more : (records : List (List (List ℕ))) (fields : List (List ℕ)) (fault : CatalogFault) → IsFault records fault → IsFault (records ++ fields ∷ []) fault
fault_more records fields (CatalogLine line) h = (reaches_more records fields line h.0, h.1)
fault_more records fields (SameName line) h = (reaches_more records fields line h.0, h.1, h.2)
fault_more records fields Memory h = absurd h

pub stays : (started wide : Bool) (sources : List Listed) (o : Option CatalogFault) (records : List (List (List ℕ))) (fields : List (List ℕ)) → is_some o ≡ true
    → IsTakenBy started wide sources o records → IsTakenBy started wide sources o (records ++ fields ∷ [])
stays started wide sources None records fields some h = absurd (cc)
stays started wide sources (Some fault) records fields some h = fault_more records fields fault h

-- ---- the first record

pub takes_header : (started wide now : Bool) (sources : List Listed) (o : Option CatalogFault) (records : List (List (List ℕ))) (fields : List (List ℕ))
    → is_some o ≡ false → started ≡ false
    → IsTakenBy started wide sources o records → fields ≡ header now → IsTakenBy true now sources o (records ++ fields ∷ [])
takes_header true wide now sources o records fields none new h is = absurd (cc)
takes_header false wide now sources (Some fault) records fields none new h is = absurd (cc)
takes_header false wide now sources None records fields none new h is =
    subst (λ s. IsCatalogOf now (records ++ fields ∷ []) s) (sym h.1) (record {
      whole = ap (λ r. r ++ fields ∷ []) h.0 ∙ ap (λ f. f ∷ []) is;
      each = λ k d l. absurd (omega arith);
      distinct = λ i j d l m e. absurd (omega arith);
      few = omega arith;
    })

pub lacks_header : (started wide : Bool) (sources : List Listed) (o : Option CatalogFault) (records : List (List (List ℕ))) (fields : List (List ℕ))
    → is_some o ≡ false → started ≡ false
    → IsTakenBy started wide sources o records → ((w : Bool) → fields ≡ header w → ⊥) → IsTakenBy started wide sources (Some (CatalogLine 1)) (records ++ fields ∷ [])
lacks_header true wide sources o records fields none new h other = absurd (cc)
lacks_header false wide sources (Some fault) records fields none new h other = absurd (cc)
lacks_header false wide sources None records fields none new h other = (
  record {
    before = [];
    here = fields;
    after = [];
    whole = ap (λ r. r ++ fields ∷ []) h.0;
    counted = omega arith;
    sound = inl refl;
  },
  λ form. other form.0 form.1,
)

-- ---- a further record

-- the names of the records of sources
pub names_of : (wide : Bool) (sources : List Listed) → map name_in (map (spelled wide) sources) ≡ map (λ (s : Listed). s.name) sources
names_of wide [] = refl
names_of wide (source ∷ sources) = ap (λ names. source.name ∷ names) (names_of wide sources)

-- a header tells whether there is a fourth field
pub header_once : (wide other : Bool) → header wide ≡ header other → wide ≡ other
header_once true true e = refl
header_once true false e = let long = ap length e in absurd (cc)
header_once false true e = let long = ap length e in absurd (cc)
header_once false false e = refl

abbrev reaches_next : (wide : Bool) (records : List (List (List ℕ))) (sources : List Listed) (fields : List (List ℕ)) → IsCatalogOf wide records sources
    → Reaches (records ++ fields ∷ []) (length sources + 2)
reaches_next wide records sources fields h =
    let long : length records ≡ suc (length (map (spelled wide) sources)) = ap length h.whole in record {
      before = records;
      here = fields;
      after = [];
      whole = refl;
      counted = omega (arith, length-map sources (spelled wide));
      sound = inr (sources, (wide, h));
    }

-- the form of a record that comes after sources
record Follows (wide : Bool) (sources : List Listed) (fields : List (List ℕ)) : Type 0 where
  pub room : length sources < 64
  pub source : Listed
  pub listed : IsListed wide source
  pub spelling : fields ≡ spelled wide source

form_follows : (wide : Bool) (records : List (List (List ℕ))) (sources : List Listed) (fields : List (List ℕ)) → IsCatalogOf wide records sources
    → HasForm records fields → Follows wide sources fields
form_follows wide records sources fields h form =
    let at = subst (λ r. HasForm r fields) h.whole form in
    let same : at.1 ≡ wide = sym (header_once wide at.1 at.2) in record {
      room = omega (arith, at.0, length-map sources (spelled wide));
      source = at.3;
      listed = subst (λ w. IsListed w at.3) same at.4;
      spelling = subst (λ w. fields ≡ spelled w at.3) same at.5;
    }

follows_form : (wide : Bool) (records : List (List (List ℕ))) (sources : List Listed) (fields : List (List ℕ)) (source : Listed) → IsCatalogOf wide records sources
    → length sources < 64 → IsListed wide source → fields ≡ spelled wide source
    → HasForm records fields
follows_form wide records sources fields source h room ok is =
    subst (λ r. HasForm r fields) (sym h.whole) (omega (arith, length-map sources (spelled wide)), wide, refl, source, ok, is)

pub named_at : (sources : List Listed) (k : ℕ) (d : Listed) (name : List ℕ) → k < length sources → (get_or sources k d).name ≡ name
    → Contains (map (λ (s : Listed). s.name) sources) name
named_at [] k d name l e = absurd (omega arith)
named_at (source ∷ sources) zero d name l e = (0, omega arith, e)
named_at (source ∷ sources) (suc k) d name l e = let more = named_at sources k d name (omega arith) e in (suc more.0, omega (arith, more.1), more.2)

takes_source : (wide : Bool) (records : List (List (List ℕ))) (sources : List Listed) (fields : List (List ℕ)) (source : Listed) → IsCatalogOf wide records sources
    → length sources < 64 → IsListed wide source → fields ≡ spelled wide source
    → (Contains (map (λ (s : Listed). s.name) sources) source.name → ⊥) → IsCatalogOf wide (records ++ fields ∷ []) (sources ++ source ∷ [])
takes_source wide records sources fields source h room ok is new = record {
  whole = ap (λ r. r ++ fields ∷ []) h.whole ∙ (ap (λ f. (header wide ∷ map (spelled wide) sources) ++ f ∷ []) is
      ∙ ap (λ r. header wide ∷ r) (sym (map-append (spelled wide) sources (source ∷ []))));
  each = All-push (IsListed wide) sources source h.each ok;
  distinct = all_pairs_push (λ (above : Listed) (below : Listed). above.name ≡ below.name → ⊥) sources source h.distinct (λ k d l e. new (named_at sources k d source.name l e));
  few = omega (arith, length_push sources source);
}

line_in : Option CatalogFault → ℕ
line_in None = 0
line_in (Some (CatalogLine line)) = line
line_in (Some (SameName line)) = line
line_in (Some Memory) = 0

line_of : (line n : ℕ) → Some (CatalogLine line) ≡ Some (CatalogLine n) → line ≡ n
unfolding line_in
line_of line n e = ap line_in e

-- the record at fault
pub faulted : (started wide : Bool) (sources : List Listed) (o : Option CatalogFault) (records : List (List (List ℕ))) (fields : List (List ℕ))
    (read : Option Parts) (found : Option CatalogFault)
    → is_some o ≡ false → started ≡ true → IsTakenBy started wide sources o records → ReadsSource wide fields read
    → FindsFault sources (option_map listed_parts read) found → is_some found ≡ true
    → IsTakenBy started wide sources found (records ++ fields ∷ [])
faulted false wide sources o records fields read found none new h reads finds some = absurd (cc)
faulted true wide sources (Some fault) records fields read found none new h reads finds some = absurd (cc)
faulted true wide sources None records fields read None none new h reads finds some = absurd (cc)
faulted true wide sources None records fields None (Some (CatalogLine line)) none new h reads finds some =
    let same : line ≡ length sources + 2 = line_of line (length sources + 2) finds in
    subst (λ n. IsBroken (records ++ fields ∷ []) n) (sym same) (reaches_next wide records sources fields h, λ form. let f = form_follows wide records sources fields h form in reads f.source f.listed f.spelling)
faulted true wide sources None records fields None (Some (SameName line)) none new h reads finds some = absurd (cc)
faulted true wide sources None records fields None (Some Memory) none new h reads finds some = absurd (cc)
faulted true wide sources None records fields (Some parts) (Some (CatalogLine line)) none new h reads finds some =
    subst (λ n. IsBroken (records ++ fields ∷ []) n) (sym finds.1) (reaches_next wide records sources fields h, λ form. let f = form_follows wide records sources fields h form in let room = f.room in omega (arith, finds.0))
faulted true wide sources None records fields (Some parts) (Some (SameName line)) none new h reads finds some =
    subst (λ n. IsRepeated (records ++ fields ∷ []) n) (sym finds.2) (
      reaches_next wide records sources fields h,
      follows_form wide records sources fields (listed_parts parts) h finds.0 reads.0 reads.1,
      subst (λ r. RepeatsName r fields) (sym h.whole)
          (subst (λ names. Contains names (name_in fields)) (sym (names_of wide sources)) (subst (Contains (map (λ (s : Listed). s.name) sources)) (sym (ap name_in reads.1)) finds.1)),
    )
faulted true wide sources None records fields (Some parts) (Some Memory) none new h reads finds some = absurd finds

-- the record of a further source
pub added : (started wide : Bool) (sources : List Listed) (o : Option CatalogFault) (records : List (List (List ℕ))) (fields : List (List ℕ)) (parts : Parts)
    → is_some o ≡ false → started ≡ true → IsTakenBy started wide sources o records → ReadsSource wide fields (Some parts)
    → FindsFault sources (Some (listed_parts parts)) None
    → IsTakenBy started wide (sources ++ listed_parts parts ∷ []) o (records ++ fields ∷ [])
added false wide sources o records fields parts none new h reads finds = absurd (cc)
added true wide sources (Some fault) records fields parts none new h reads finds = absurd (cc)
added true wide sources None records fields parts none new h reads finds = takes_source wide records sources fields (listed_parts parts) h finds.0 reads.0 reads.1 finds.1

pub added_by : (started wide : Bool) (sources now : List Listed) (o : Option CatalogFault) (records : List (List (List ℕ))) (fields : List (List ℕ)) (parts : Parts)
    (read : Option Parts) (found : Option CatalogFault)
    → is_some o ≡ false → started ≡ true → read ≡ Some parts → is_some found ≡ false → ReadsSource wide fields read
    → FindsFault sources (option_map listed_parts read) found → now ≡ sources ++ listed_parts parts ∷ []
    → IsTakenBy started wide sources o records → IsTakenBy started wide now o (records ++ fields ∷ [])
added_by started wide sources now o records fields parts read (Some fault) none new is fine reads finds more h = absurd (cc)
added_by started wide sources now o records fields parts read None none new is fine reads finds more h =
    subst (λ s. IsTakenBy started wide s o (records ++ fields ∷ [])) (sym more)
    (added started wide sources o records fields parts none new h (subst (ReadsSource wide fields) is reads)
    (subst (λ r. FindsFault sources (option_map listed_parts r) None) is finds))
