-- What a shelf of files and of lists that hosts serve is, and what it tells.
use Rattle.std.specs.Prelude.{ℕ, List, Option, Some, None, refl, if◌then◌else◌}
use Rattle.std.specs.Coded.{Coded, code_by, coded×}
use Rattle.ranked_list.specs.declared.row.Row.{Row}
use Rattle.source_api.specs.Places.{Noted}
use Rattle.file_source.specs.Shelved.{rows_at}
use Rattle.catalog_text.specs.Places.{is_remote}

-- the files, what makes dials, and what is counted by place
pub record PlacesShelved (F M : Type 0) : Type 0 where
  pub files : F
  pub dials : M
  pub ledger : List Noted

-- it is stored as its fields in a row
abbrev pub places_code : {F M : Type 0} → Coded F → Coded M → Coded (List Noted) → Coded (PlacesShelved F M)
places_code {F} {M} files dials ledger =
    code_by (F × (M × List Noted)) (coded× files (coded× dials ledger)) (λ s. (s.files, (s.dials, s.ledger)))
    (λ p. record { files = p.0; dials = p.1.0; ledger = p.1.1 }) (λ _. refl)

-- the list that is told of a place: that of its file's bytes; what hosts serve isn't told
abbrev pub list_at : (List ℕ → Option (List ℕ)) → List ℕ → Option (List Row)
list_at contents place = if is_remote place then None else rows_at contents place

-- the version that is told of a place: 0 of a file
abbrev pub version_at : List ℕ → Option ℕ
version_at place = if is_remote place then None else Some 0
