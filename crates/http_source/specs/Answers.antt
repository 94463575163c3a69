-- What a call answers, by what is said. The cases of each definition exclude each other, so that each answer but Failed and Memory comes
-- exactly where its case holds.
use Rattle.std.specs.Prelude.{◌≡◌, ◌≢◌, ◌<◌, ◌≤◌, ℕ, List, Option, Result, Ok, Err, length, vec_len, ⊤}
use Rattle.std.specs.Global.{Vec}
use Rattle.ranked_list.specs.declared.row.Row.{Row}
use Rattle.source_api.specs.declared.source.Trouble.{Trouble}
use Rattle.source_api.specs.declared.source.FailKind.TheVariants.{Failed, Garbled, Memory}
use Rattle.source_api.specs.declared.source.Trouble.TheVariants.{Fail, Moved}
use Rattle.page_json.specs.declared.object.Versioned.{Versioned}
use Rattle.http_source.specs.Replies.{SaysSize, SaysPage, SaysGrade}

-- a size is the one that is said, at the version from then on; it is garbled where none is said
abbrev pub SizeBy : (Versioned ℕ → Type 0) → ℕ → Result ℕ Trouble → Type 0
SizeBy IsSaid version (Ok size) = IsSaid (record { version = version; body = size })
SizeBy IsSaid version (Err (Fail Failed)) = ⊤
SizeBy IsSaid version (Err (Fail Garbled)) = (said : Versioned ℕ) → ¬ IsSaid said
SizeBy IsSaid version (Err (Fail Memory)) = ⊤
SizeBy IsSaid version (Err (Moved had now)) = ⊥

-- a page is the rows that are said at the version at hand, at most so many; it moved where another version is stated, however many rows are said;
-- it is garbled where no rows are said, or too many at the version at hand
abbrev pub PageBy : (Versioned (List Row) → Type 0) → ℕ → ℕ → Result (Vec Row) Trouble → Type 0
PageBy IsSaid version count (Ok page) = IsSaid (record { version = version; body = page.items }) × (vec_len page ≤ count)
PageBy IsSaid version count (Err (Fail Failed)) = ⊤
PageBy IsSaid version count (Err (Fail Garbled)) = (said : Versioned (List Row)) → IsSaid said → (said.version ≡ version) × (count < length said.body)
PageBy IsSaid version count (Err (Fail Memory)) = ⊤
PageBy IsSaid version count (Err (Moved had now)) = (had ≡ version) × (now ≢ version) × (rows : List Row) × IsSaid (record { version = now; body = rows })

-- a grade is the one that is said at the version at hand; it moved where another version is stated; it is garbled where none is said
abbrev pub GradeBy : (Versioned (Option ℕ) → Type 0) → ℕ → Result (Option ℕ) Trouble → Type 0
GradeBy IsSaid version (Ok grade) = IsSaid (record { version = version; body = grade })
GradeBy IsSaid version (Err (Fail Failed)) = ⊤
GradeBy IsSaid version (Err (Fail Garbled)) = (said : Versioned (Option ℕ)) → ¬ IsSaid said
GradeBy IsSaid version (Err (Fail Memory)) = ⊤
GradeBy IsSaid version (Err (Moved had now)) = (had ≡ version) × (now ≢ version) × (grade : Option ℕ) × IsSaid (record { version = now; body = grade })

-- what a call for the size answers by the bytes of its link, where this is the version from then on
abbrev pub AnswersSize : List ℕ → ℕ → Result ℕ Trouble → Type 0
AnswersSize bytes version result = SizeBy (SaysSize bytes) version result

-- what a call for at most so many rows answers by the bytes of its link, where this is the version at hand
abbrev pub AnswersPage : List ℕ → ℕ → ℕ → Result (Vec Row) Trouble → Type 0
AnswersPage bytes version count result = PageBy (SaysPage bytes) version count result

-- what a call for a grade answers by the bytes of its link, where this is the version at hand
abbrev pub AnswersGrade : List ℕ → ℕ → Result (Option ℕ) Trouble → Type 0
AnswersGrade bytes version result = GradeBy (SaysGrade bytes) version result
