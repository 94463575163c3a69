-- What is read of a node's answers.
use Rattle.std.proofs.Common.{◌≡◌, ◌<◌, ◌≤◌, ◌^◌, ℕ, List, length, take, drop, Option, Some, None, Result, Ok, Err, sym, ap, ◌∙◌, subst, arith}
use Rattle.std.specs.Prelude.{IfSome, All}
use Rattle.std.specs.Global.{Global, Vec}
use Rattle.std.proofs.lemmas.List.{length-take}
use Rattle.std.proofs.lemmas.List.Elements.{All-contains, All-drop, All-take}
use Rattle.topk_base.specs.declared.TheConstants.{MAX_BODY, MAX_PAGE}
use Rattle.ranked_list.specs.declared.row.Row.{Row}
use Rattle.source_api.specs.Told.{IsGrade}
use Rattle.source_api.specs.declared.source.Trouble.{Trouble}
use Rattle.source_api.specs.declared.source.FailKind.TheVariants.{Failed, Garbled, Memory}
use Rattle.source_api.specs.declared.source.Trouble.TheVariants.{Fail, Moved}
use Rattle.page_json.specs.Bodies.{Fits}
use Rattle.page_json.specs.declared.object.Versioned.{Versioned}
use Rattle.http_source.specs.Answers.{AnswersSize, AnswersPage, AnswersGrade}
use Rattle.http_source.specs.ReadingBack.{GivesSize, GivesPage, GivesGrade}
use Rattle.http_source.specs.Replies.{Brings, SaysSize, SaysPage, SaysGrade, json_reply}
use Rattle.source_node.specs.Serving.{text_of, IsTrueOf}
use Rattle.source_node.specs.ReadingBack.{IsSmall, Says}
use Rattle.source_node.specs.declared.answer.Answer.{Answer}
use Rattle.source_node.specs.declared.answer.Answer.TheVariants.{Count, Rows, Grade}
use Rattle.source_node.specs.declared.asked.Asked.{Asked}
use Rattle.source_node.specs.declared.asked.Asked.TheVariants as asked
use Rattle.source_node.proofs.ReplyBack.{whole_reply}
use Rattle.topk_top.specs.ReadBack.{AnswersOver, ReadsSize, ReadsRows, ReadsGrade}

-- a body says its answer and is short; what is said is given
pub record Laws : Type 0 where
  pub says : (version : ℕ) (answer : Answer) → version < 2 ^ 64 → IsSmall answer → Says version answer (text_of version answer)
  pub short : (version : ℕ) (answer : Answer) → version < 2 ^ 64 → IsSmall answer → length (text_of version answer) ≤ MAX_BODY
  pub size : (bytes : List ℕ) (said : Versioned ℕ) (version : ℕ) (result : Result ℕ Trouble)
      → SaysSize bytes said → AnswersSize bytes version result → GivesSize said version result
  pub page : (bytes : List ℕ) (said : Versioned (List Row)) (version count : ℕ) (result : Result (Vec Row) Trouble)
      → SaysPage bytes said → AnswersPage bytes version count result → GivesPage said version count result
  pub grade : (bytes : List ℕ) (said : Versioned (Option ℕ)) (version : ℕ) (result : Result (Option ℕ) Trouble)
      → SaysGrade bytes said → AnswersGrade bytes version result → GivesGrade said version result

-- the reply brings its body
brings : (heap : Global) (text : List ℕ) → length text ≤ MAX_BODY → Brings (json_reply text) text
brings heap text few = let whole = whole_reply heap text few in record { reply = whole.0; whole = whole.1; status = whole.2; body = whole.3 }

-- what is true of the told list
true_of : (what : Asked) (answer : Answer) (told : Option (List Row)) (list : List Row) → told ≡ Some list → IfSome told (IsTrueOf what answer) → IsTrueOf what answer list
true_of what answer told list is h = subst (λ t. IfSome t (IsTrueOf what answer)) is h

-- a size
size_given : (count version at_hand : ℕ) (result : Result ℕ Trouble) → GivesSize (record { version = version; body = count }) at_hand result
    → ReadsSize count version at_hand result
size_given count version at_hand (Ok size) h = h
size_given count version at_hand (Err (Fail Failed)) h = tt
size_given count version at_hand (Err (Fail Garbled)) h = h
size_given count version at_hand (Err (Fail Memory)) h = tt
size_given count version at_hand (Err (Moved had now)) h = h

size_by : Laws → Global → (list : List Row) (version at_hand : ℕ) (body : List ℕ) (result : Result ℕ Trouble) (answer : Answer) → length list < 2 ^ 64
    → version < 2 ^ 64 → body ≡ text_of version answer → IsTrueOf asked.Size answer list → AnswersSize (json_reply body) at_hand result
    → ReadsSize (length list) version at_hand result
size_by laws heap list version at_hand body result (Count count) few small text told answers =
    let fits : count < 2 ^ 64 = omega (arith, told, few) in
    let said = laws.says version (Count count) small fits in
    let bytes = text_of version (Count count) in
    let given = laws.size (json_reply bytes) (record { version = version; body = count }) at_hand result (bytes, brings heap bytes (laws.short version (Count count) small fits), said)
    (subst (λ b. AnswersSize (json_reply b) at_hand result) text answers) in
    subst (λ n. ReadsSize n version at_hand result) told (size_given count version at_hand result given)
size_by laws heap list version at_hand body result (Rows rows) few small text told answers = absurd told
size_by laws heap list version at_hand body result (Grade grade) few small text told answers = absurd told

pub size_read : Laws → Global → (list : List Row) (version at_hand : ℕ) (body : List ℕ) (result : Result ℕ Trouble) → length list < 2 ^ 64
    → AnswersOver asked.Size list version body → AnswersSize (json_reply body) at_hand result → ReadsSize (length list) version at_hand result
size_read laws heap list version at_hand body result few over answers =
    let answer = over.answered.answer in
    size_by laws heap list version at_hand body result answer few over.small (over.answered.text ∙ ap (λ v. text_of v answer) over.stated)
    (true_of asked.Size answer over.before.list list over.told over.answered.answers.told) answers

-- rows
rows_given : (rows : List Row) (version at_hand count : ℕ) (result : Result (Vec Row) Trouble) → length rows ≤ count
    → GivesPage (record { version = version; body = rows }) at_hand count result → ReadsRows rows version at_hand result
rows_given rows version at_hand count (Ok page) few h = h
rows_given rows version at_hand count (Err (Fail Failed)) few h = tt
rows_given rows version at_hand count (Err (Fail Garbled)) few h = omega (arith, few, h.1)
rows_given rows version at_hand count (Err (Fail Memory)) few h = tt
rows_given rows version at_hand count (Err (Moved had now)) few h = h

rows_by : Laws → Global → (list : List Row) (from count version at_hand : ℕ) (body : List ℕ) (result : Result (Vec Row) Trouble) (answer : Answer) → length list ≤ 2 ^ 32
    → All Fits list → count ≤ MAX_PAGE → version < 2 ^ 64 → body ≡ text_of version answer → IsTrueOf (asked.Page from count) answer list
    → AnswersPage (json_reply body) at_hand count result → ReadsRows (take count (drop from list)) version at_hand result
rows_by laws heap list from count version at_hand body result (Count n) short fit few small text told answers = absurd told
rows_by laws heap list from count version at_hand body result (Rows rows) short fit few small text told answers =
    let is : rows.items ≡ take count (drop from list) = told short in
    let most : length rows.items ≤ count = omega (arith, ap length is ∙ length-take count (drop from list)) in
    let fits : All Fits rows.items = subst (All Fits) (sym is) (All-take Fits count (drop from list) (All-drop Fits from list fit)) in
    let little : length rows.items ≤ MAX_PAGE = omega (arith, most, few) in
    let said = laws.says version (Rows rows) small (little, fits) in
    let bytes = text_of version (Rows rows) in
    let given = laws.page (json_reply bytes) (record { version = version; body = rows.items }) at_hand count result (bytes, brings heap bytes (laws.short version (Rows rows) small (little, fits)), said)
    (subst (λ b. AnswersPage (json_reply b) at_hand count result) text answers) in
    subst (λ rs. ReadsRows rs version at_hand result) is (rows_given rows.items version at_hand count result most given)
rows_by laws heap list from count version at_hand body result (Grade grade) short fit few small text told answers = absurd told

pub rows_read : Laws → Global → (list : List Row) (from count version at_hand : ℕ) (body : List ℕ) (result : Result (Vec Row) Trouble) → length list ≤ 2 ^ 32
    → All Fits list → count ≤ MAX_PAGE → AnswersOver (asked.Page from count) list version body → AnswersPage (json_reply body) at_hand count result
    → ReadsRows (take count (drop from list)) version at_hand result
rows_read laws heap list from count version at_hand body result short fit few over answers =
    let answer = over.answered.answer in
    rows_by laws heap list from count version at_hand body result answer short fit few over.small (over.answered.text ∙ ap (λ v. text_of v answer) over.stated)
    (true_of (asked.Page from count) answer over.before.list list over.told over.answered.answers.told) answers

-- a grade
grade_given : (list : List Row) (object version at_hand : ℕ) (grade : Option ℕ) (result : Result (Option ℕ) Trouble) → IsGrade list object grade
    → GivesGrade (record { version = version; body = grade }) at_hand result → ReadsGrade list object version at_hand result
grade_given list object version at_hand grade (Ok found) told h = (subst (IsGrade list object) (sym h.0) told, h.1)
grade_given list object version at_hand grade (Err (Fail Failed)) told h = tt
grade_given list object version at_hand grade (Err (Fail Garbled)) told h = h
grade_given list object version at_hand grade (Err (Fail Memory)) told h = tt
grade_given list object version at_hand grade (Err (Moved had now)) told h = h

grade_fits : (list : List Row) (object : ℕ) (grade : Option ℕ) → All Fits list → IsGrade list object grade → IfSome grade (λ g. g < 2 ^ 32)
grade_fits list object None fit told = tt
grade_fits list object (Some grade) fit told = (All-contains Fits list (record { object = object; grade = grade }) fit told).1

grade_by : Laws → Global → (list : List Row) (object version at_hand : ℕ) (body : List ℕ) (result : Result (Option ℕ) Trouble) (answer : Answer) → All Fits list
    → version < 2 ^ 64 → body ≡ text_of version answer → IsTrueOf (asked.Grade object) answer list → AnswersGrade (json_reply body) at_hand result
    → ReadsGrade list object version at_hand result
grade_by laws heap list object version at_hand body result (Count n) fit small text told answers = absurd told
grade_by laws heap list object version at_hand body result (Rows rows) fit small text told answers = absurd told
grade_by laws heap list object version at_hand body result (Grade grade) fit small text told answers =
    let fits : IfSome grade (λ g. g < 2 ^ 32) = grade_fits list object grade fit told in
    let said = laws.says version (Grade grade) small fits in
    let bytes = text_of version (Grade grade) in
    let given = laws.grade (json_reply bytes) (record { version = version; body = grade }) at_hand result (bytes, brings heap bytes (laws.short version (Grade grade) small fits), said)
    (subst (λ b. AnswersGrade (json_reply b) at_hand result) text answers) in
    grade_given list object version at_hand grade result told given

pub grade_read : Laws → Global → (list : List Row) (object version at_hand : ℕ) (body : List ℕ) (result : Result (Option ℕ) Trouble) → All Fits list
    → AnswersOver (asked.Grade object) list version body → AnswersGrade (json_reply body) at_hand result → ReadsGrade list object version at_hand result
grade_read laws heap list object version at_hand body result fit over answers =
    let answer = over.answered.answer in
    grade_by laws heap list object version at_hand body result answer fit over.small (over.answered.text ∙ ap (λ v. text_of v answer) over.stated)
    (true_of (asked.Grade object) answer over.before.list list over.told over.answered.answers.told) answers
