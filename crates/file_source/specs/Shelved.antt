-- What a shelf of files is, and what it tells.
use Rattle.std.specs.Prelude.{◌≡◌, ℕ, List, Option, Result, Ok, Err, refl, ◌⊎◌}
use Rattle.std.specs.Coded.{Coded, code_by, coded×}
use Rattle.std.specs.Global.{Vec}
use Rattle.std.specs.Option.{option_and_then}
use Rattle.ranked_list.specs.declared.row.Row.{Row}
use Rattle.source_api.specs.declared.source.Trouble.{Trouble}
use Rattle.source_api.specs.declared.source.FailKind.TheVariants.{Failed, Memory}
use Rattle.source_api.specs.declared.source.Trouble.TheVariants.{Fail}
use Rattle.source_api.specs.Places.{Noted, text_limit}
use Rattle.tk_io.specs.Whole.{GaveAll, StopsReading}
use Rattle.tk_io.specs.declared.whole.ReadError.TheVariants as stop
use Rattle.file_source.specs.ListFile.{list_records, told_records}

-- the files, and what is counted by place
pub record FilesShelved (F : Type 0) : Type 0 where
  pub files : F
  pub ledger : List Noted

-- it is stored as the pair of its fields
abbrev pub shelved_code : {F : Type 0} → Coded F → Coded (List Noted) → Coded (FilesShelved F)
shelved_code {F} files ledger =
    code_by (F × List Noted) (coded× files ledger) (λ s. (s.files, s.ledger)) (λ p. record { files = p.0; ledger = p.1 }) (λ _. refl)

-- the list that a list file of these bytes tells
abbrev pub told_rows : List ℕ → Option (List Row)
told_rows text = told_records (list_records text)

-- the list that is told of a place: that of its file's bytes
abbrev pub rows_at : (List ℕ → Option (List ℕ)) → List ℕ → Option (List Row)
rows_at contents place = option_and_then told_rows (contents place)

-- how a list's text is read from a stream: whole, to its end; or a read failed, or more came than a text may have; or memory was refused
abbrev pub ReadsList : Option (List ℕ) → Option (List ℕ) → ℕ → ℕ → Result (Vec ℕ) Trouble → Type 0
ReadsList before now faults faults_now (Ok text) = GaveAll text_limit before now text.items × (faults_now ≡ faults)
ReadsList before now faults faults_now (Err (Fail Failed)) =
    StopsReading text_limit before now faults faults_now stop.Failed ⊎ StopsReading text_limit before now faults faults_now stop.Long
ReadsList before now faults faults_now (Err (Fail Memory)) = StopsReading text_limit before now faults faults_now stop.Memory
ReadsList _ _ _ _ (Err _) = ⊥

-- a call on a file fails, or wants memory
abbrev pub IsFileTrouble : Trouble → Type 0
IsFileTrouble (Fail Failed) = Unit {0}
IsFileTrouble (Fail Memory) = Unit {0}
IsFileTrouble _ = ⊥
