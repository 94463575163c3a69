-- What a shelf tells of a place is what the source of the place tells.
use Rattle.std.proofs.Common.{◌≡◌, ℕ, List, Option, Some, None, refl, ap}
use Rattle.std.specs.Prelude.{IfOk, IfSome}
use Rattle.std.specs.declared.result.Result.{Result}
use Rattle.std.specs.declared.result.Result.TheVariants.{Ok, Err}
use Rattle.std.specs.Option.{option_and_then}
use Rattle.ranked_list.specs.declared.row.Row.{Row}
use Rattle.source_api.specs.Counting.{no_counts}
use Rattle.file_source.specs.FileLists.{told_list}
use Rattle.file_source.specs.Filed.{Filed}
use Rattle.file_source.specs.ListFile.{list_records, told_records}
use Rattle.file_source.specs.Shelved.{told_rows}
use Rattle.http_source.specs.Served.{counts_with}
use Rattle.catalog_text.proofs.AddressLaws.{address_is_remote}
use Rattle.place_shelf.specs.declared.place_source.PlaceSource.{PlaceSource}
use Rattle.place_shelf.specs.declared.place_source.PlaceSource.TheVariants.{File, Http}
use Rattle.place_shelf.specs.Sources.{list_of, counts_of, version_of, states_of, IsSourceOf}
use Rattle.place_shelf.specs.Shelved.{list_at, version_at}

-- it has counted nothing
pub source_is_fresh : {D L : Type 0} (contents : List ℕ → Option (List ℕ)) (Makes : D → Type 0) (faults : D → ℕ) (place : List ℕ) (s : PlaceSource D L)
    → IsSourceOf contents Makes faults place s → counts_of faults s ≡ no_counts
source_is_fresh contents Makes faults place (File f) is = is.fresh
source_is_fresh contents Makes faults place (Http s) is = λ i. counts_with (is.unfailed i) (is.fresh i)

-- it has answered no size
pub source_is_unasked : {D L : Type 0} (contents : List ℕ → Option (List ℕ)) (Makes : D → Type 0) (faults : D → ℕ) (place : List ℕ) (s : PlaceSource D L)
    → IsSourceOf contents Makes faults place s → version_of s ≡ 0
source_is_unasked contents Makes faults place (File f) is = refl
source_is_unasked contents Makes faults place (Http s) is = is.version

-- the version of a file is told, and it is the one that its source states
pub source_states : {D L : Type 0} (contents : List ℕ → Option (List ℕ)) (Makes : D → Type 0) (faults : D → ℕ) (place : List ℕ) (s : PlaceSource D L)
    → IsSourceOf contents Makes faults place s → IfSome (version_at place) (λ told. states_of s ≡ Some told)
source_states contents Makes faults place (File f) is = rw is.path refl
source_states contents Makes faults place (Http s) is = rw (address_is_remote place s.host s.port s.path is.address) tt

-- the list of a file is that of its bytes
file_tells : (bytes : Option (List ℕ)) (f : Filed) → IfSome bytes (λ told. f.records ≡ list_records told)
    → IfSome (option_and_then told_rows bytes) (λ told. told_list f ≡ Some told)
file_tells None f is = tt
file_tells (Some text) f is = by (told_rows text) (ap told_records is)
  where
    by : (rows : Option (List Row)) → told_list f ≡ rows → IfSome rows (λ told. told_list f ≡ Some told)
    by None same = tt
    by (Some rows) same = same

pub source_lists : {D L : Type 0} (contents : List ℕ → Option (List ℕ)) (Makes : D → Type 0) (faults : D → ℕ) (place : List ℕ) (s : PlaceSource D L)
    → IsSourceOf contents Makes faults place s → IfSome (list_at contents place) (λ told. list_of s ≡ Some told)
source_lists contents Makes faults place (File f) is = rw is.path (file_tells (contents place) f is.records)
source_lists contents Makes faults place (Http s) is = rw (address_is_remote place s.host s.port s.path is.address) tt

-- what holds of each source of a place holds of one that was opened
pub of_opened : {A E : Type 0} (P Q : A → Type 0) (result : Result A E) → ((a : A) → P a → Q a) → IfOk result P → IfOk result Q
of_opened P Q (Ok a) goes is = goes a is
of_opened P Q (Err e) goes is = tt
