-- What the record of a source, and a header, are read as.
use Rattle.std.proofs.Common.{◌≡◌, ℕ, Bool, true, false, not, List, [], get_or, length, Option, Some, None, refl, sym, ap, ◌∙◌, subst, codes}
use Rattle.std.specs.Prelude.{IsTrue, ◌||◌}
use Rattle.std.specs.Option.{option_map}
use Rattle.std.specs.Borrow.{Bor}
use Rattle.std.specs.Str.{bytes_eq}
use Rattle.std.proofs.lemmas.Slice.Eq.{bytes_eq-Decides}
use Rattle.topk_base.specs.Names.{IsName}
use Rattle.catalog_text.specs.Catalog.{Listed, IsPlace, AllowsAccess, header, spelled, fields_in, yes_or_no}
use Rattle.catalog_text.specs.declared.fields.Parts.{Parts}
use Rattle.catalog_text.specs.Listed.{ReadsAccess, ReadsSorted, ReadsHeader, ReadsSource}
use Rattle.catalog_text.proofs.FieldLaws.{given, row, row_is}

-- ---- headers

pub no_fields : (fields : List (List ℕ)) → None ≡ fields_in fields → ReadsHeader fields None
no_fields fields h true is = let e : None ≡ fields_in (header true) = subst (λ f. None ≡ fields_in f) is h in absurd (cc)
no_fields fields h false is = let e : None ≡ fields_in (header false) = subst (λ f. None ≡ fields_in f) is h in absurd (cc)

-- the first three fields of a header
pub record AreHeader (a b c : List ℕ) : Type 0 where
  pub name : a ≡ codes "name"
  pub place : b ≡ codes "place"
  pub random : c ≡ codes "random"

header_is : (a b c : List ℕ) (fourth : Option (List ℕ)) (wide : Bool) → row a b c fourth ≡ header wide → AreHeader a b c
header_is a b c fourth wide e = record {
  name = ap (λ f. get_or f 0 []) e;
  place = ap (λ f. get_or f 1 []) e;
  random = ap (λ f. get_or f 2 []) e;
}

pub header_none : (fields : List (List ℕ)) (read : Option Bool) → ReadsHeader fields read → read ≡ None → (wide : Bool) → fields ≡ header wide → ⊥
header_none fields read h is = subst (ReadsHeader fields) is h

pub other_header : (fields : List (List ℕ)) (a b c : List ℕ) (fourth : Option (List ℕ)) → given a b c fourth ≡ fields_in fields
    → (AreHeader a b c → ⊥) → ReadsHeader fields None
other_header fields a b c fourth h other wide is = other (header_is a b c fourth wide (sym (row_is fields a b c fourth h) ∙ is))

pub other_fourth : (fields : List (List ℕ)) (a b c d : List ℕ) → given a b c (Some d) ≡ fields_in fields
    → (d ≡ codes "sorted" → ⊥) → ReadsHeader fields None
other_fourth fields a b c d h other true is = other (ap (λ f. get_or f 3 []) (sym (row_is fields a b c (Some d) h) ∙ is))
other_fourth fields a b c d h other false is = let e = ap length (sym (row_is fields a b c (Some d) h) ∙ is) in absurd (cc)

pub is_header : (fields : List (List ℕ)) (a b c : List ℕ) → given a b c None ≡ fields_in fields → a ≡ codes "name" → b ≡ codes "place"
    → c ≡ codes "random" → ReadsHeader fields (Some false)
is_header fields a b c h name place random =
    row_is fields a b c None h
    ∙ (ap (λ p. row p b c None) name ∙ (ap (λ p. row (codes "name") p c None) place ∙ ap (λ p. row (codes "name") (codes "place") p None) random))

pub is_wide_header : (fields : List (List ℕ)) (a b c d : List ℕ) → given a b c (Some d) ≡ fields_in fields → a ≡ codes "name" → b ≡ codes "place"
    → c ≡ codes "random" → d ≡ codes "sorted" → ReadsHeader fields (Some true)
is_wide_header fields a b c d h name place random sorted =
    row_is fields a b c (Some d) h
    ∙ (ap (λ p. row p b c (Some d)) name
    ∙ (ap (λ p. row (codes "name") p c (Some d)) place
    ∙ (ap (λ p. row (codes "name") (codes "place") p (Some d)) random
    ∙ ap (λ p. row (codes "name") (codes "place") (codes "random") (Some p)) sorted)))

-- ---- sources

pub no_row : (wide : Bool) (fields : List (List ℕ)) → None ≡ fields_in fields → ReadsSource wide fields None
no_row true fields h source ok is = let e : None ≡ fields_in (spelled true source) = subst (λ f. None ≡ fields_in f) is h in absurd (cc)
no_row false fields h source ok is = let e : None ≡ fields_in (spelled false source) = subst (λ f. None ≡ fields_in f) is h in absurd (cc)

-- the fourth field of a source's record
abbrev last_field : Bool → Listed → Option (List ℕ)
last_field true source = Some (yes_or_no source.sorted)
last_field false source = None

pub record AreFields (wide : Bool) (a b c : List ℕ) (fourth : Option (List ℕ)) (source : Listed) : Type 0 where
  pub name : a ≡ source.name
  pub place : b ≡ source.place
  pub random : c ≡ yes_or_no source.random
  pub sorted : fourth ≡ last_field wide source

fields_are : (wide : Bool) (a b c : List ℕ) (fourth : Option (List ℕ)) (source : Listed) → row a b c fourth ≡ spelled wide source
    → AreFields wide a b c fourth source
fields_are true a b c (Some d) source e = record {
  name = ap (λ f. get_or f 0 []) e;
  place = ap (λ f. get_or f 1 []) e;
  random = ap (λ f. get_or f 2 []) e;
  sorted = ap Some (ap (λ f. get_or f 3 []) e);
}
fields_are true a b c None source e = let long = ap length e in absurd (cc)
fields_are false a b c (Some d) source e = let long = ap length e in absurd (cc)
fields_are false a b c None source e = record {
  name = ap (λ f. get_or f 0 []) e;
  place = ap (λ f. get_or f 1 []) e;
  random = ap (λ f. get_or f 2 []) e;
  sorted = refl;
}

pub no_name : (wide : Bool) (fields : List (List ℕ)) (a b c : List ℕ) (fourth : Option (List ℕ)) → given a b c fourth ≡ fields_in fields → (IsName a → ⊥)
    → ReadsSource wide fields None
no_name wide fields a b c fourth h none source ok is =
    let f = fields_are wide a b c fourth source (sym (row_is fields a b c fourth h) ∙ is) in
    none (subst IsName (sym f.name) ok.name)

pub no_place : (wide : Bool) (fields : List (List ℕ)) (a b c : List ℕ) (fourth : Option (List ℕ)) → given a b c fourth ≡ fields_in fields → (IsPlace b → ⊥)
    → ReadsSource wide fields None
no_place wide fields a b c fourth h none source ok is =
    let f = fields_are wide a b c fourth source (sym (row_is fields a b c fourth h) ∙ is) in
    none (subst IsPlace (sym f.place) ok.place)

pub no_random : (wide : Bool) (fields : List (List ℕ)) (a b c : List ℕ) (fourth : Option (List ℕ)) → given a b c fourth ≡ fields_in fields
    → ReadsAccess c None → ReadsSource wide fields None
no_random wide fields a b c fourth h none source ok is =
    let f = fields_are wide a b c fourth source (sym (row_is fields a b c fourth h) ∙ is) in
    none source.random f.random

-- a fourth field that is read as nothing is that of no source
sorted_none : (wide : Bool) (fourth : Option (List ℕ)) (source : Listed) → ReadsSorted wide fourth None → fourth ≡ last_field wide source → ⊥
sorted_none true (Some field) source none is = none source.sorted (ap (λ (o : Option (List ℕ)). elim o as (λ p. List ℕ) [ None ↦ [] | Some x ↦ x ]) is)
sorted_none true None source none is = absurd (cc)
sorted_none false (Some field) source none is = absurd (cc)
sorted_none false None source none is = absurd (cc)

pub no_sorted : (wide : Bool) (fields : List (List ℕ)) (a b c : List ℕ) (fourth : Option (List ℕ)) → given a b c fourth ≡ fields_in fields
    → ReadsSorted wide fourth None → ReadsSource wide fields None
no_sorted wide fields a b c fourth h none source ok is =
    let f = fields_are wide a b c fourth source (sym (row_is fields a b c fourth h) ∙ is) in
    sorted_none wide fourth source none f.sorted

-- a word stands for one answer
pub yes_once : (a b : Bool) → yes_or_no a ≡ yes_or_no b → a ≡ b
yes_once true true e = refl
yes_once true false e = absurd (cc)
yes_once false true e = absurd (cc)
yes_once false false e = refl

neither : (a b : Bool) → IsTrue (a || b) → (a || b) ≡ false → ⊥
neither a b e f = let both : true ≡ false = sym e ∙ f in absurd (cc)

opened : (a b : Bool) → (a || b) ≡ false → b ≡ true → ⊥
opened true b e f = absurd (cc)
opened false b e f = let both : true ≡ false = sym f ∙ e in absurd (cc)

-- without either access that was read there is none
denied : (wide : Bool) (fourth : Option (List ℕ)) (source : Listed) (random sorted : Bool) → ReadsSorted wide fourth (Some sorted) → random ≡ source.random
    → (random || sorted) ≡ false → AllowsAccess wide source.random source.sorted → fourth ≡ last_field wide source → ⊥
denied true (Some field) source random sorted reads same shut access is =
    let word : yes_or_no sorted ≡ yes_or_no source.sorted = sym reads ∙ ap (λ (o : Option (List ℕ)). elim o as (λ p. List ℕ) [ None ↦ [] | Some x ↦ x ]) is in
    neither source.random source.sorted access (ap (λ r. r || source.sorted) (sym same) ∙ (ap (λ s. random || s) (sym (yes_once sorted source.sorted word)) ∙ shut))
denied true None source random sorted reads same shut access is = absurd (cc)
denied false (Some field) source random sorted reads same shut access is = absurd (cc)
denied false None source random sorted reads same shut access is = let e : Some sorted ≡ Some true = reads in opened random sorted shut cc

pub no_access : (wide : Bool) (fields : List (List ℕ)) (a b c : List ℕ) (fourth : Option (List ℕ)) (random sorted has : Bool)
    → given a b c fourth ≡ fields_in fields → ReadsAccess c (Some random)
    → ReadsSorted wide fourth (Some sorted) → has ≡ (random || sorted) → has ≡ false → ReadsSource wide fields None
no_access wide fields a b c fourth random sorted has h word reads which shut source ok is =
    let f = fields_are wide a b c fourth source (sym (row_is fields a b c fourth h) ∙ is) in
    denied wide fourth source random sorted reads (yes_once random source.random (sym word ∙ f.random)) (sym which ∙ shut) ok.access f.sorted

-- the access that a record tells of
allowed : (wide : Bool) (fourth : Option (List ℕ)) (random sorted : Bool) → ReadsSorted wide fourth (Some sorted) → (random || sorted) ≡ true
    → AllowsAccess wide random sorted
allowed true fourth random sorted reads some = some
allowed false (Some field) random sorted reads some = absurd (cc)
allowed false None random sorted reads some = let e : Some sorted ≡ Some true = reads in cc

spelling : (wide : Bool) (a b c : List ℕ) (fourth : Option (List ℕ)) (source : Listed) → AreFields wide a b c fourth source → row a b c fourth ≡ spelled wide source
spelling wide a b c fourth source f =
    ap (λ p. row p b c fourth) f.name
    ∙ (ap (λ p. row source.name p c fourth) f.place
    ∙ (ap (λ p. row source.name source.place p fourth) f.random ∙ (ap (row source.name source.place (yes_or_no source.random)) f.sorted ∙ last wide)))
  where
    last : (w : Bool) → row source.name source.place (yes_or_no source.random) (last_field w source) ≡ spelled w source
    last true = refl
    last false = refl

fourth_is : (wide : Bool) (fourth : Option (List ℕ)) (source : Listed) → ReadsSorted wide fourth (Some source.sorted) → fourth ≡ last_field wide source
fourth_is true (Some field) source reads = ap Some reads
fourth_is true None source reads = absurd (cc)
fourth_is false (Some field) source reads = absurd (cc)
fourth_is false None source reads = refl

pub reads_source : (wide : Bool) (fields : List (List ℕ)) (a b c : List ℕ) (fourth : Option (List ℕ)) (parts : Parts)
    → given a b c fourth ≡ fields_in fields → parts.name.now ≡ a → IsName a → parts.place.now ≡ b → IsPlace b
    → ReadsAccess c (Some parts.random) → ReadsSorted wide fourth (Some parts.sorted) → (parts.random || parts.sorted) ≡ true
    → ReadsSource wide fields (Some parts)
reads_source wide fields a b c fourth parts h name named place placed random sorted some =
    let source : Listed = record { name = parts.name.now; place = parts.place.now; random = parts.random; sorted = parts.sorted } in (
      record {
        name = subst IsName (sym name) named;
        place = subst IsPlace (sym place) placed;
        access = allowed wide fourth parts.random parts.sorted sorted some;
      },
      row_is fields a b c fourth h ∙ spelling wide a b c fourth source (record {
        name = sym name;
        place = sym place;
        random = random;
        sorted = fourth_is wide fourth source sorted;
      }),
    )

-- ---- what the tests of fields found

-- fields that weren't found to differ are the same
pub same_field : (a b : List ℕ) (differs : Bool) → differs ≡ not (bytes_eq a b) → differs ≡ false → a ≡ b
same_field a b differs is none = (bytes_eq-Decides a b).0 (by (bytes_eq a b) (sym is ∙ none))
  where
    by : (same : Bool) → not same ≡ false → same ≡ true
    by true e = refl
    by false e = absurd (cc)

pub none_fourth : (fields : List (List ℕ)) (a b c : List ℕ) (fourth : Option (Bor (List ℕ))) → given a b c (option_map (λ s. s.now) fourth) ≡ fields_in fields
    → fourth ≡ None → given a b c None ≡ fields_in fields
none_fourth fields a b c fourth h is = subst (λ (o : Option (Bor (List ℕ))). given a b c (option_map (λ s. s.now) o) ≡ fields_in fields) is h
