-- Taking the records of a list file in, one after another.
use Rattle.std.proofs.Common.{◌≡◌, ℕ, Bool, true, false, cond, not, ◌&&◌, ◌||◌, List, [], ◌∷◌, ◌++◌, map, Option, Some, None, refl, sym, ap, ◌∙◌}
use Rattle.std.specs.Option.{is_none}
use Rattle.std.specs.List.{list_any}
use Rattle.std.proofs.lemmas.Bool.{both_ways}
use Rattle.std.proofs.lemmas.List.{map-append}
use Rattle.std.proofs.lemmas.List.Folds.{list_any-append}
use Rattle.ranked_list.specs.declared.row.Row.{Row}
use Rattle.file_source.specs.declared.list_file.Reading.{Reading}
use Rattle.file_source.specs.ListFile.{row_of, is_header, without_header}
use Rattle.file_source.specs.Taking.{IsTaken, Puts, has_some}

-- the same reading, of which a record was read
abbrev pub begun : Reading → Reading
begun r = record r { started = true }

or_is_none : (b : Bool) (row : Option Row) → (b || is_none row) ≡ (b || (is_none row || false))
or_is_none true row = refl
or_is_none false None = refl
or_is_none false (Some row) = refl

broken_push : (before now : Reading) (row : Option Row) → before.broken ≡ list_any is_none before.records.items → Puts (begun before) now row
    → now.broken ≡ list_any is_none now.records.items
broken_push before now row h p =
    p.broken ∙ (ap (λ b. b || is_none row) h ∙ (or_is_none (list_any is_none before.records.items) row ∙ (sym (list_any-append is_none before.records.items (row ∷ [])) ∙ ap (list_any is_none) (sym p.rows))))

has_more : (records : List (List (List ℕ))) (fields : List (List ℕ)) → has_some (records ++ fields ∷ []) ≡ true
has_more [] fields = refl
has_more (first ∷ records) fields = refl

-- the header
pub takes_header : (before : Reading) (records : List (List (List ℕ))) (fields : List (List ℕ)) → IsTaken before records → before.started ≡ false
    → is_header fields ≡ true → IsTaken (begun before) (records ++ fields ∷ [])
takes_header before [] fields h new header = record {
  started = refl;
  rows = h.rows ∙ ap (map row_of) (ap (λ b. cond b [] (fields ∷ [])) (sym header));
  broken = h.broken;
}
takes_header before (first ∷ records) fields h new header = absurd (both_ways before.started new h.started)

pub pushed : (records : List (List (List ℕ))) (fields : List (List ℕ)) → (has_some records ≡ false → is_header fields ≡ false)
    → map row_of (without_header (records ++ fields ∷ [])) ≡ map row_of (without_header records) ++ row_of fields ∷ []
pushed [] fields other = ap (map row_of) (ap (λ b. cond b [] (fields ∷ [])) (other refl))
pushed (first ∷ records) fields other = by (is_header first)
  where
    by : (b : Bool)
        → map row_of (cond b (records ++ fields ∷ []) (first ∷ (records ++ fields ∷ []))) ≡ map row_of (cond b records (first ∷ records)) ++ row_of fields ∷ []
    by true = map-append row_of records (fields ∷ [])
    by false = map-append row_of (first ∷ records) (fields ∷ [])

-- another record
pub takes_record : (before now : Reading) (records : List (List (List ℕ))) (fields : List (List ℕ)) → IsTaken before records
    → Puts (begun before) now (row_of fields)
    → (before.started ≡ false → is_header fields ≡ false) → IsTaken now (records ++ fields ∷ [])
takes_record before now records fields h p other = record {
  started = p.started ∙ sym (has_more records fields);
  rows = p.rows ∙ (ap (λ rs. rs ++ row_of fields ∷ []) h.rows ∙ sym (pushed records fields (λ none. other (h.started ∙ none))));
  broken = broken_push before now (row_of fields) h.broken p;
}

-- what isn't skipped is no header at the beginning
pub not_skipped : (started header skipped : Bool) → skipped ≡ (not started && header) → skipped ≡ false → started ≡ false → header ≡ false
not_skipped true header skipped is off new = absurd (cc)
not_skipped false header skipped is off new = sym is ∙ off

-- what is skipped is a header, and no record was read before it
pub skipped_first : (started header skipped : Bool) → skipped ≡ (not started && header) → skipped ≡ true → (started ≡ false) × (header ≡ true)
skipped_first true header skipped is on = absurd (cc)
skipped_first false header skipped is on = (refl, sym is ∙ on)
