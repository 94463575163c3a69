-- What a body says is what the bytes say that bring it.
use Rattle.std.proofs.Common.{◌≡◌, ◌≤◌, ℕ, List, Option, Some, None, Result, Ok, Err, sym, ◌∙◌}
use Rattle.std.specs.Prelude.{IfSome, IfErr, IfOk, vec_len}
use Rattle.std.specs.Global.{Vec}
use Rattle.ranked_list.specs.declared.row.Row.{Row}
use Rattle.source_api.specs.Counting.{MovedHasCause, IsNoMove}
use Rattle.source_api.specs.declared.source.Trouble.{Trouble}
use Rattle.source_api.specs.declared.source.FailKind.TheVariants.{Failed, Garbled, Memory}
use Rattle.source_api.specs.declared.source.Trouble.TheVariants.{Fail, Moved}
use Rattle.page_json.specs.Bodies.{IsSizeBody, IsPageBody, IsGradeBody}
use Rattle.page_json.specs.declared.object.Versioned.{Versioned}
use Rattle.http_source.specs.Replies.{Brings}
use Rattle.http_source.specs.Answers.{SizeBy, PageBy, GradeBy, AnswersSize, AnswersPage, AnswersGrade}
use Rattle.http_source.specs.Asking.{AnswersBody}
use Rattle.http_source.proofs.OnlyLaws.{OneBody, said_by}

-- ---- where a body came

pub size_said_by : OneBody → (told : Option (List ℕ)) (body : List ℕ) (version : ℕ) (result : Result ℕ Trouble) → IfSome told (λ bytes. Brings bytes body)
    → SizeBy (IsSizeBody body) version result → IfSome told (λ bytes. AnswersSize bytes version result)
size_said_by law None body version result brings by = tt
size_said_by law (Some bytes) body version (Ok size) brings by = (body, brings, by)
size_said_by law (Some bytes) body version (Err (Fail Failed)) brings by = tt
size_said_by law (Some bytes) body version (Err (Fail Garbled)) brings by = λ said says. by said (said_by law IsSizeBody bytes body said brings says)
size_said_by law (Some bytes) body version (Err (Fail Memory)) brings by = tt
size_said_by law (Some bytes) body version (Err (Moved had now)) brings by = by

pub page_said_by : OneBody → (told : Option (List ℕ)) (body : List ℕ) (version count : ℕ) (result : Result (Vec Row) Trouble) → IfSome told (λ bytes. Brings bytes body)
    → PageBy (IsPageBody body) version count result → IfSome told (λ bytes. AnswersPage bytes version count result)
page_said_by law None body version count result brings by = tt
page_said_by law (Some bytes) body version count (Ok page) brings by = ((body, brings, by.0), by.1)
page_said_by law (Some bytes) body version count (Err (Fail Failed)) brings by = tt
page_said_by law (Some bytes) body version count (Err (Fail Garbled)) brings by = λ said says. by said (said_by law IsPageBody bytes body said brings says)
page_said_by law (Some bytes) body version count (Err (Fail Memory)) brings by = tt
page_said_by law (Some bytes) body version count (Err (Moved had now)) brings by = (by.0, by.1, by.2, (body, brings, by.3))

pub grade_said_by : OneBody → (told : Option (List ℕ)) (body : List ℕ) (version : ℕ) (result : Result (Option ℕ) Trouble) → IfSome told (λ bytes. Brings bytes body)
    → GradeBy (IsGradeBody body) version result → IfSome told (λ bytes. AnswersGrade bytes version result)
grade_said_by law None body version result brings by = tt
grade_said_by law (Some bytes) body version (Ok grade) brings by = (body, brings, by)
grade_said_by law (Some bytes) body version (Err (Fail Failed)) brings by = tt
grade_said_by law (Some bytes) body version (Err (Fail Garbled)) brings by = λ said says. by said (said_by law IsGradeBody bytes body said brings says)
grade_said_by law (Some bytes) body version (Err (Fail Memory)) brings by = tt
grade_said_by law (Some bytes) body version (Err (Moved had now)) brings by = (by.0, by.1, by.2, (body, brings, by.3))

-- ---- where none came

pub size_refused : (told : Option (List ℕ)) (version : ℕ) (why : Trouble) → IfSome told (λ bytes. AnswersBody bytes (Err why)) → IfSome told (λ bytes. AnswersSize bytes version (Err why))
size_refused None version why none = tt
size_refused (Some bytes) version (Fail Failed) none = tt
size_refused (Some bytes) version (Fail Garbled) none = λ said says. none says.0 says.1
size_refused (Some bytes) version (Fail Memory) none = tt
size_refused (Some bytes) version (Moved had now) none = none

pub page_refused : (told : Option (List ℕ)) (version count : ℕ) (why : Trouble) → IfSome told (λ bytes. AnswersBody bytes (Err why))
    → IfSome told (λ bytes. AnswersPage bytes version count (Err why))
page_refused None version count why none = tt
page_refused (Some bytes) version count (Fail Failed) none = tt
page_refused (Some bytes) version count (Fail Garbled) none = λ said says. absurd (none says.0 says.1)
page_refused (Some bytes) version count (Fail Memory) none = tt
page_refused (Some bytes) version count (Moved had now) none = absurd none

pub grade_refused : (told : Option (List ℕ)) (version : ℕ) (why : Trouble) → IfSome told (λ bytes. AnswersBody bytes (Err why))
    → IfSome told (λ bytes. AnswersGrade bytes version (Err why))
grade_refused None version why none = tt
grade_refused (Some bytes) version (Fail Failed) none = tt
grade_refused (Some bytes) version (Fail Garbled) none = λ said says. none says.0 says.1
grade_refused (Some bytes) version (Fail Memory) none = tt
grade_refused (Some bytes) version (Moved had now) none = absurd none

-- ---- whatever is told

pub size_unmoved : (IsSaid : Versioned ℕ → Type 0) (version : ℕ) (result : Result ℕ Trouble) → SizeBy IsSaid version result → IfErr result IsNoMove
size_unmoved IsSaid version (Ok size) by = tt
size_unmoved IsSaid version (Err (Fail what)) by = tt
size_unmoved IsSaid version (Err (Moved had now)) by = by

pub page_moved : (IsSaid : Versioned (List Row) → Type 0) (version count : ℕ) (result : Result (Vec Row) Trouble) → PageBy IsSaid version count result → IfErr result (MovedHasCause version None)
page_moved IsSaid version count (Ok page) by = tt
page_moved IsSaid version count (Err (Fail what)) by = tt
page_moved IsSaid version count (Err (Moved had now)) by =
    let other : now ≡ had → ⊥ = λ same. by.1 (same ∙ by.0) in
    record { at_hand = by.0; stated = tt; differ = λ same. other (sym same) }

pub page_bound : (IsSaid : Versioned (List Row) → Type 0) (version count : ℕ) (result : Result (Vec Row) Trouble) → PageBy IsSaid version count result → IfOk result (λ page. vec_len page ≤ count)
page_bound IsSaid version count (Ok page) by = by.1
page_bound IsSaid version count (Err why) by = tt

pub grade_moved : (IsSaid : Versioned (Option ℕ) → Type 0) (version : ℕ) (result : Result (Option ℕ) Trouble) → GradeBy IsSaid version result → IfErr result (MovedHasCause version None)
grade_moved IsSaid version (Ok grade) by = tt
grade_moved IsSaid version (Err (Fail what)) by = tt
grade_moved IsSaid version (Err (Moved had now)) by =
    let other : now ≡ had → ⊥ = λ same. by.1 (same ∙ by.0) in
    record { at_hand = by.0; stated = tt; differ = λ same. other (sym same) }

-- a trouble that is no move needs no cause for one
pub unmoved_cause : (version : ℕ) (why : Trouble) → IsNoMove why → MovedHasCause version None why
unmoved_cause version (Fail what) still = tt
unmoved_cause version (Moved had now) still = absurd still
