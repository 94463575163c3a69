-- Names looked up among the sources of a catalog.
use Rattle.std.proofs.Common.{◌≡◌, ◌<◌, ◌≤◌, ◌+◌, ℕ, zero, suc, Bool, true, false, cond, not, List, [], ◌∷◌, length, map, get_or, Option, Some, None, refl, sym, ap, ◌∙◌, subst, arith}
use Rattle.std.specs.Prelude.{nat_lt}
use Rattle.std.specs.Option.{is_some, option_map}
use Rattle.std.specs.List.{Contains, position, position_or_len}
use Rattle.std.specs.Str.{bytes_eq}
use Rattle.std.proofs.lemmas.Bool.{both_ways, ltb-false}
use Rattle.std.proofs.lemmas.List.{length-map}
use Rattle.std.proofs.lemmas.List.Quantifiers.{position-Some}
use Rattle.std.proofs.lemmas.Slice.Eq.{bytes_eq-Decides}
use Rattle.catalog_text.specs.declared.catalog.CatalogFault.TheVariants.{SameName}
use Rattle.catalog_text.specs.declared.catalog.Entry.{Entry}
use Rattle.catalog_text.specs.declared.fields.Parts.{Parts}
use Rattle.catalog_text.specs.Catalog.{Listed}
use Rattle.catalog_text.specs.Listed.{listed, listed_parts}
use Rattle.catalog_text.specs.Taking.{FindsFault}
use Rattle.catalog_text.proofs.TakingLaws.{named_at}

abbrev pub is_named : List ℕ → Listed → Bool
is_named name source = bytes_eq source.name name

abbrev pub is_entry_named : List ℕ → Entry → Bool
is_entry_named name entry = bytes_eq entry.name.items name

-- ---- among entries, as among the sources that they are

abbrev found_at : ℕ → ℕ → Option ℕ
found_at k n = cond (nat_lt k n) (Some k) None

place_map : (entries : List Entry) (name : List ℕ) → position_or_len (is_named name) (map listed entries) ≡ position_or_len (is_entry_named name) entries
place_map [] name = refl
place_map (entry ∷ entries) name = ap (λ k. cond (not (bytes_eq entry.name.items name)) (1 + k) 0) (place_map entries name)

pub position_map : (entries : List Entry) (name : List ℕ) → position (is_named name) (map listed entries) ≡ position (is_entry_named name) entries
position_map entries name =
    ap (λ k. found_at k (length (map listed entries))) (place_map entries name) ∙ ap (found_at (position_or_len (is_entry_named name) entries)) (length-map entries listed)

-- ---- a name that is there, and one that isn't

no_source : Listed
no_source = record { name = []; place = []; random = false; sorted = false }

has_name : (sources : List Listed) (name : List ℕ) (o : Option ℕ) → o ≡ position (is_named name) sources → is_some o ≡ true
    → Contains (map (λ (s : Listed). s.name) sources) name
has_name sources name None is some = absurd (cc)
has_name sources name (Some k) is some =
    let at = position-Some (is_named name) sources k no_source (sym is) in
    named_at sources k no_source name at.0 ((bytes_eq-Decides (get_or sources k no_source).name name).0 at.1)

lacks : (sources : List Listed) (name : List ℕ) → length sources ≤ position_or_len (is_named name) sources
    → Contains (map (λ (s : Listed). s.name) sources) name → ⊥
lacks [] name l held = let none : held.0 < 0 = held.1 in absurd (omega arith)
lacks (source ∷ sources) name l held = by (bytes_eq source.name name) refl l held.0 held.1 held.2 (lacks sources name)
  where
    by : (b : Bool) → bytes_eq source.name name ≡ b → suc (length sources) ≤ cond (not b) (1 + position_or_len (is_named name) sources) 0 → (k : ℕ)
        → k < suc (length (map (λ (s : Listed). s.name) sources)) → get_or (source.name ∷ map (λ (s : Listed). s.name) sources) k name ≡ name
        → (length sources ≤ position_or_len (is_named name) sources → Contains (map (λ (s : Listed). s.name) sources) name → ⊥) → ⊥
    by true e l k m at more = absurd (omega arith)
    by false e l zero m at more = both_ways (bytes_eq source.name name) e ((bytes_eq-Decides source.name name).1 at)
    by false e l (suc k) m at more = more (omega arith) (k, omega arith, at)

lacks_name : (sources : List Listed) (name : List ℕ) (o : Option ℕ) → o ≡ position (is_named name) sources → is_some o ≡ false
    → Contains (map (λ (s : Listed). s.name) sources) name → ⊥
lacks_name sources name (Some k) is none held = absurd (cc)
lacks_name sources name None is none held = by (nat_lt (position_or_len (is_named name) sources) (length sources)) refl is
  where
    by : (b : Bool) → nat_lt (position_or_len (is_named name) sources) (length sources) ≡ b
        → None ≡ cond b (Some (position_or_len (is_named name) sources)) None → ⊥
    by true e h = absurd (cc)
    by false e h = lacks sources name (ltb-false _ _ e) held

-- ---- the fault of a source

pub repeats : (sources : List Listed) (read : Option Parts) (parts : Parts) (o : Option ℕ) (line : ℕ) → read ≡ Some parts → length sources < 64
    → o ≡ position (is_named parts.name.now) sources → is_some o ≡ true → line ≡ length sources + 2
    → FindsFault sources (option_map listed_parts read) (Some (SameName line))
repeats sources read parts o line is room found some counted =
    subst (λ r. FindsFault sources (option_map listed_parts r) (Some (SameName line))) (sym is) (room, has_name sources parts.name.now o found some, counted)

pub is_new : (sources : List Listed) (read : Option Parts) (parts : Parts) (o : Option ℕ) → read ≡ Some parts → length sources < 64
    → o ≡ position (is_named parts.name.now) sources → is_some o ≡ false → FindsFault sources (option_map listed_parts read) None
is_new sources read parts o is room found none =
    subst (λ r. FindsFault sources (option_map listed_parts r) None) (sym is) (room, lacks_name sources parts.name.now o found none)
