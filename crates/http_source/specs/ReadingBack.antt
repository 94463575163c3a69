-- What a call gives whose link brings a body that says this.
use Rattle.std.specs.Prelude.{◌≡◌, ◌≢◌, ◌<◌, ℕ, List, Option, Result, Ok, Err, length, ⊤}
use Rattle.std.specs.Global.{Vec}
use Rattle.ranked_list.specs.declared.row.Row.{Row}
use Rattle.source_api.specs.declared.source.Trouble.{Trouble}
use Rattle.source_api.specs.declared.source.FailKind.TheVariants.{Failed, Garbled, Memory}
use Rattle.source_api.specs.declared.source.Trouble.TheVariants.{Fail, Moved}
use Rattle.page_json.specs.declared.object.Versioned.{Versioned}
use Rattle.http_source.specs.Exchanges.{IsUnanswered}

-- the size that is said, at the version that is said from then on
abbrev pub GivesSize : Versioned ℕ → ℕ → Result ℕ Trouble → Type 0
GivesSize said version (Ok size) = (size ≡ said.body) × (version ≡ said.version)
GivesSize said version (Err why) = IsUnanswered {T = ℕ} (Err why)

-- the rows that are said, where the version at hand is stated and they are no more than were asked for; else that the list moved to the
-- version that is stated, or that they are too many
abbrev pub GivesPage : Versioned (List Row) → ℕ → ℕ → Result (Vec Row) Trouble → Type 0
GivesPage said version count (Ok page) = (page.items ≡ said.body) × (version ≡ said.version)
GivesPage said version count (Err (Fail Failed)) = ⊤
GivesPage said version count (Err (Fail Garbled)) = (said.version ≡ version) × (count < length said.body)
GivesPage said version count (Err (Fail Memory)) = ⊤
GivesPage said version count (Err (Moved had now)) = (had ≡ version) × (now ≡ said.version) × (now ≢ version)

-- the grade that is said, where the version at hand is stated; else that the list moved to the version that is stated
abbrev pub GivesGrade : Versioned (Option ℕ) → ℕ → Result (Option ℕ) Trouble → Type 0
GivesGrade said version (Ok grade) = (grade ≡ said.body) × (version ≡ said.version)
GivesGrade said version (Err (Fail Failed)) = ⊤
GivesGrade said version (Err (Fail Garbled)) = ⊥
GivesGrade said version (Err (Fail Memory)) = ⊤
GivesGrade said version (Err (Moved had now)) = (had ≡ version) × (now ≡ said.version) × (now ≢ version)
