-- What the source of a place is, by whether it is over a file or over a list that a host serves.
use Rattle.std.specs.Prelude.{◌≡◌, false, ℕ, List, Option, Some, None, IfSome}
use Rattle.ranked_list.specs.declared.row.Row.{Row}
use Rattle.source_api.specs.declared.counts.Counts.{Counts}
use Rattle.source_api.specs.Counting.{no_counts}
use Rattle.source_api.specs.Told.{HasEachOnce}
use Rattle.file_source.specs.FileLists.{told_list, told_has_each_once}
use Rattle.file_source.specs.ListFile.{list_records}
use Rattle.file_source.specs.Filed.{Filed}
use Rattle.http_source.specs.Served.{Served, counts_with}
use Rattle.catalog_text.specs.Places.{is_remote, IsAddress}
use Rattle.place_shelf.specs.declared.place_source.PlaceSource.{PlaceSource}
use Rattle.place_shelf.specs.declared.place_source.PlaceSource.TheVariants.{File, Http}

-- the list that it tells: that of a file
abbrev pub list_of : {D L : Type 0} → PlaceSource D L → Option (List Row)
list_of (File f) = told_list f
list_of (Http s) = None

-- what it has counted; over a dial its faults are those of the dial
abbrev pub counts_of : {D L : Type 0} → (D → ℕ) → PlaceSource D L → Counts
counts_of faults (File f) = f.counts
counts_of faults (Http s) = counts_with (faults s.dial) s.counted

-- the version at hand: 0 of a file
abbrev pub version_of : {D L : Type 0} → PlaceSource D L → ℕ
version_of (File f) = 0
version_of (Http s) = s.version

-- the version that all replies state: 0 of a file
abbrev pub states_of : {D L : Type 0} → PlaceSource D L → Option ℕ
states_of (File f) = Some 0
states_of (Http s) = None

-- no object comes twice in a list that is told
pub list_has_each_once : {D L : Type 0} (s : PlaceSource D L) → IfSome (list_of s) HasEachOnce
list_has_each_once (File f) = told_has_each_once f
list_has_each_once (Http s) = tt

-- a source over all bytes of the place's file, which has counted nothing
pub record IsFileOf (contents : List ℕ → Option (List ℕ)) (place : List ℕ) (f : Filed) : Type 0 where
  pub path : is_remote place ≡ false
  pub records : IfSome (contents place) (λ told. f.records ≡ list_records told)
  pub fresh : f.counts ≡ no_counts

-- a source over a dial that was made for it and of which no call failed, at the place's address; it has answered no size and counted nothing
pub record IsServedAt {D : Type 0} (Makes : D → Type 0) (faults : D → ℕ) (place : List ℕ) (s : Served D) : Type 0 where
  pub address : IsAddress place s.host s.port s.path
  pub dial : Makes s.dial
  pub unfailed : faults s.dial ≡ 0
  pub version : s.version ≡ 0
  pub fresh : s.counted ≡ no_counts

-- the source of a place: over its file, or over a dial to its address
abbrev pub IsSourceOf : {D L : Type 0} → (List ℕ → Option (List ℕ)) → (D → Type 0) → (D → ℕ) → List ℕ → PlaceSource D L → Type 0
IsSourceOf contents Makes faults place (File f) = IsFileOf contents place f
IsSourceOf contents Makes faults place (Http s) = IsServedAt Makes faults place s

-- the source of a file, before it is known what makes dials
abbrev pub IsOverFile : {D L : Type 0} → (List ℕ → Option (List ℕ)) → List ℕ → PlaceSource D L → Type 0
IsOverFile contents place (File f) = IsFileOf contents place f
IsOverFile contents place (Http s) = ⊥

-- the source over this dial to this address; it has answered no size and counted nothing
abbrev pub IsOverDial : {D L : Type 0} → D → List ℕ → ℕ → List ℕ → PlaceSource D L → Type 0
IsOverDial dial host port path (File f) = ⊥
IsOverDial dial host port path (Http s) = s ≡ record { dial = dial; host = host; port = port; path = path; version = 0; counted = no_counts }
