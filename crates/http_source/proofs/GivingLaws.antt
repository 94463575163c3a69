-- What a call gives whose link brings a body that says this.
use Rattle.std.proofs.Common.{◌≡◌, ℕ, List, Option, Result, Ok, Err, ap}
use Rattle.std.specs.Global.{Vec}
use Rattle.ranked_list.specs.declared.row.Row.{Row}
use Rattle.source_api.specs.declared.source.Trouble.{Trouble}
use Rattle.source_api.specs.declared.source.FailKind.TheVariants.{Failed, Garbled, Memory}
use Rattle.source_api.specs.declared.source.Trouble.TheVariants.{Fail, Moved}
use Rattle.page_json.specs.declared.object.Versioned.{Versioned}
use Rattle.http_source.specs.Replies.{SaysSize, SaysPage, SaysGrade}
use Rattle.http_source.specs.Answers.{AnswersSize, AnswersPage, AnswersGrade}
use Rattle.http_source.specs.ReadingBack.{GivesSize, GivesPage, GivesGrade}

pub gives_size : ((bytes : List ℕ) (one other : Versioned ℕ) → SaysSize bytes one → SaysSize bytes other → one ≡ other)
    → (bytes : List ℕ) (said : Versioned ℕ) (version : ℕ) (result : Result ℕ Trouble) → SaysSize bytes said → AnswersSize bytes version result → GivesSize said version result
gives_size only bytes said version (Ok size) says answers =
    let same = only bytes (record { version = version; body = size }) said answers says in
    (ap (λ (v : Versioned ℕ). v.body) same, ap (λ (v : Versioned ℕ). v.version) same)
gives_size only bytes said version (Err (Fail Failed)) says answers = tt
gives_size only bytes said version (Err (Fail Garbled)) says answers = answers said says
gives_size only bytes said version (Err (Fail Memory)) says answers = tt
gives_size only bytes said version (Err (Moved had now)) says answers = answers

pub gives_page : ((bytes : List ℕ) (one other : Versioned (List Row)) → SaysPage bytes one → SaysPage bytes other → one ≡ other)
    → (bytes : List ℕ) (said : Versioned (List Row)) (version count : ℕ) (result : Result (Vec Row) Trouble) → SaysPage bytes said → AnswersPage bytes version count result
    → GivesPage said version count result
gives_page only bytes said version count (Ok page) says answers =
    let same = only bytes (record { version = version; body = page.items }) said answers.0 says in
    (ap (λ (v : Versioned (List Row)). v.body) same, ap (λ (v : Versioned (List Row)). v.version) same)
gives_page only bytes said version count (Err (Fail Failed)) says answers = tt
gives_page only bytes said version count (Err (Fail Garbled)) says answers = answers said says
gives_page only bytes said version count (Err (Fail Memory)) says answers = tt
gives_page only bytes said version count (Err (Moved had now)) says answers =
    let same = only bytes (record { version = now; body = answers.2 }) said answers.3 says in
    (answers.0, ap (λ (v : Versioned (List Row)). v.version) same, answers.1)

pub gives_grade : ((bytes : List ℕ) (one other : Versioned (Option ℕ)) → SaysGrade bytes one → SaysGrade bytes other → one ≡ other)
    → (bytes : List ℕ) (said : Versioned (Option ℕ)) (version : ℕ) (result : Result (Option ℕ) Trouble) → SaysGrade bytes said → AnswersGrade bytes version result
    → GivesGrade said version result
gives_grade only bytes said version (Ok grade) says answers =
    let same = only bytes (record { version = version; body = grade }) said answers says in
    (ap (λ (v : Versioned (Option ℕ)). v.body) same, ap (λ (v : Versioned (Option ℕ)). v.version) same)
gives_grade only bytes said version (Err (Fail Failed)) says answers = tt
gives_grade only bytes said version (Err (Fail Garbled)) says answers = answers said says
gives_grade only bytes said version (Err (Fail Memory)) says answers = tt
gives_grade only bytes said version (Err (Moved had now)) says answers =
    let same = only bytes (record { version = now; body = answers.2 }) said answers.3 says in
    (answers.0, ap (λ (v : Versioned (Option ℕ)). v.version) same, answers.1)
