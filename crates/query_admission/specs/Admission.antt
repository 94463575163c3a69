-- What a query line comes to before it runs.
use Rattle.std.specs.Prelude.{◌≡◌, ◌≤◌, ◌<◌, ℕ, List, map, length, All, Option, None, Some, IfSome, Ok}
use Rattle.query_text.specs.declared.query.Query.{Query}
use Rattle.query_text.specs.Reading.{Reads}
use Rattle.cert_text.specs.declared.refusal.Refusal.{Refusal}
use Rattle.cert_text.specs.Refusal.{refused_lists}
use Rattle.cert_text.specs.Outcome.{names_of}
use Rattle.query_core.specs.declared.ready.Ready.{Ready}
use Rattle.query_core.specs.Ready.{IsReady}
use Rattle.query_admission.specs.View.{View, AreListed, versions_at, sorted_at, count_of}
use Rattle.query_admission.specs.Causes.{most_queries, QueryLine, Cause, text_causes, admission_causes, RefusesFor, NoneOf, IsFirstOf}
use Rattle.query_admission.specs.declared.lists.ListInfo.{ListInfo}
use Rattle.query_admission.specs.declared.reading.ReadLine.{ReadLine}
use Rattle.query_admission.specs.declared.reading.ReadLine.TheVariants.{Refused as NotRead, Query as IsQuery}
use Rattle.query_admission.specs.declared.admitted.Admitted.{Admitted}
use Rattle.query_admission.specs.declared.admitted.Admitted.TheVariants.{Ready as IsReadyNow, Refused}

-- the line is refused for the first of the causes that holds; the query beside is the line's, and has the lists that the refusal names
pub record RefusesLine (causes : List Cause) (x : QueryLine) (refusal : Refusal) (query : Option Query) : Type 0 where
  pub first : IsFirstOf (RefusesFor x) causes refusal
  pub reads : IfSome query (λ q. Reads x.bytes (Ok q))
  pub named : All (λ list. list < length (names_of query)) (refused_lists refusal)

-- what a line of this number comes to before its lists are looked at: whatever lists there are, it is refused for the first of the causes that lie in it alone;
-- or none of these holds, and it spells this query
abbrev pub IsReadAs : ℕ → List ℕ → ReadLine → Type 0
IsReadAs number bytes (NotRead refusal) = (view : View) → RefusesLine text_causes (record { view = view; number = number; bytes = bytes }) refusal None
IsReadAs number bytes (IsQuery query) = (number ≤ most_queries) × Reads bytes (Ok query)

-- nothing refuses the line before it runs; it is ready with its query, with the count of that, and with the sources, the versions and the
-- sorted accesses of its lists
pub record IsAdmitted (x : QueryLine) (ready : Ready) : Type 0 where
  pub unrefused : NoneOf (RefusesFor x) admission_causes
  pub sound : IsReady ready
  pub reads : Reads x.bytes (Ok ready.query)
  pub lists : List ListInfo
  pub listed : AreListed x.view ready.query lists
  pub count : count_of lists ≡ Some ready.count
  pub sources : map (λ list. list.source) lists ≡ ready.sources.items
  pub versions : versions_at lists ≡ ready.versions.items
  pub sorted : sorted_at lists ≡ ready.sorted.items

-- what admission answers
abbrev pub Admits : QueryLine → Admitted → Type 0
Admits x (IsReadyNow ready) = IsAdmitted x ready
Admits x (Refused refusal query) = RefusesLine admission_causes x refusal query
