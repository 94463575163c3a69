-- What a body says, as an answer.
use Rattle.std.proofs.Common.{◌≡◌, ℕ, List, Option, Some, Result, Ok, Err, refl, sym, subst, ◌∙◌}
use Rattle.std.specs.Global.{Vec}
use Rattle.ranked_list.specs.declared.row.Row.{Row}
use Rattle.source_api.specs.declared.source.Trouble.{Trouble}
use Rattle.source_api.specs.declared.source.FailKind.TheVariants.{Failed, Garbled, Memory}
use Rattle.source_api.specs.declared.source.Trouble.TheVariants.{Fail, Moved}
use Rattle.page_json.specs.Bodies.{IsSizeBody, IsPageBody, IsGradeBody}
use Rattle.page_json.specs.declared.fault.JsonFault.{JsonFault}
use Rattle.page_json.specs.declared.fault.JsonFault.TheVariants as json
use Rattle.page_json.specs.declared.object.Versioned.{Versioned}
use Rattle.http_source.specs.Answers.{SizeBy, PageBy, GradeBy}
use Rattle.http_source.specs.Asking.{IsNoFault, trouble_in}

-- ---- a body that says something

only_page : (body : List ℕ) (one other : Versioned (List Row)) → IsPageBody body one → IsPageBody body other → one ≡ other
only_page body one other a b =
    let same : Some one ≡ Some other = sym a.1 ∙ b.1 in
    cc

only_grade : (body : List ℕ) (one other : Versioned (Option ℕ)) → IsGradeBody body one → IsGradeBody body other → one ≡ other
only_grade body one other a b =
    let same : Some one ≡ Some other = sym a.1 ∙ b.1 in
    cc

pub page_from : (body : List ℕ) (said : Versioned (List Row)) (version count : ℕ) (result : Result (Vec Row) Trouble) → IsPageBody body said
    → PageBy (λ (other : Versioned (List Row)). other ≡ said) version count result → PageBy (IsPageBody body) version count result
page_from body said version count (Ok page) is by = (subst (IsPageBody body) (sym by.0) is, by.1)
page_from body said version count (Err (Fail Failed)) is by = tt
page_from body said version count (Err (Fail Garbled)) is by = λ other says. by other (only_page body other said says is)
page_from body said version count (Err (Fail Memory)) is by = tt
page_from body said version count (Err (Moved had now)) is by = (by.0, by.1, by.2, subst (IsPageBody body) (sym by.3) is)

pub grade_from : (body : List ℕ) (said : Versioned (Option ℕ)) (version : ℕ) (result : Result (Option ℕ) Trouble) → IsGradeBody body said
    → GradeBy (λ (other : Versioned (Option ℕ)). other ≡ said) version result → GradeBy (IsGradeBody body) version result
grade_from body said version (Ok grade) is by = subst (IsGradeBody body) (sym by) is
grade_from body said version (Err (Fail Failed)) is by = tt
grade_from body said version (Err (Fail Garbled)) is by = λ other says. by other (only_grade body other said says is)
grade_from body said version (Err (Fail Memory)) is by = tt
grade_from body said version (Err (Moved had now)) is by = (by.0, by.1, by.2, subst (IsGradeBody body) (sym by.3) is)

-- ---- a body that says nothing

pub size_fault : (body : List ℕ) (version : ℕ) (fault : JsonFault) → (fault ≡ json.NotABody → (said : Versioned ℕ) → ¬ IsSizeBody body said)
    → SizeBy (IsSizeBody body) version (Err (trouble_in fault))
size_fault body version json.NotABody none = none refl
size_fault body version json.Memory none = tt

pub page_fault : (body : List ℕ) (version count : ℕ) (fault : JsonFault) → (fault ≡ json.NotABody → (said : Versioned (List Row)) → ¬ IsPageBody body said)
    → PageBy (IsPageBody body) version count (Err (trouble_in fault))
page_fault body version count json.NotABody none = λ said says. absurd (none refl said says)
page_fault body version count json.Memory none = tt

pub grade_fault : (body : List ℕ) (version : ℕ) (fault : JsonFault) → (fault ≡ json.NotABody → (said : Versioned (Option ℕ)) → ¬ IsGradeBody body said)
    → GradeBy (IsGradeBody body) version (Err (trouble_in fault))
grade_fault body version json.NotABody none = none refl
grade_fault body version json.Memory none = tt

pub fault_calm : (T : Type 0) (fault : JsonFault) → IsNoFault {T = T} (Err (trouble_in fault))
fault_calm T json.NotABody = tt
fault_calm T json.Memory = tt
