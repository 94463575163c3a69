-- What the parts of admission answer.
use Rattle.std.specs.Prelude.{◌≡◌, ◌<◌, ◌⊎◌, ℕ, is_none, List, [], ◌∷◌, map, length, All, Option, None, Some, Result, Ok, Err}
use Rattle.std.specs.List.{position}
use Rattle.query_text.specs.declared.query.Query.{Query}
use Rattle.cert_text.specs.declared.refusal.Refusal.{Refusal}
use Rattle.cert_text.specs.declared.refusal.Refusal.TheVariants.{UnknownList}
use Rattle.cert_text.specs.Refusal.{refused_lists}
use Rattle.query_admission.specs.View.{View, AreListed, is_large, versions_at, sorted_at, count_of}
use Rattle.query_admission.specs.Causes.{Cause, ListsGive, NoneOf, IsFirstOf}
use Rattle.query_admission.specs.declared.lists.ListInfo.{ListInfo}
use Rattle.query_admission.specs.declared.admitted.Admitted.{Admitted}
use Rattle.query_admission.specs.declared.admitted.Admitted.TheVariants.{Ready as IsReadyNow, Refused}
use Rattle.query_admission.specs.declared.seek.Sought.{Sought}
use Rattle.query_admission.specs.declared.seek.Sought.TheVariants.{Known, Unknown}
use Rattle.query_admission.specs.declared.admission.Weighed.{Weighed}
use Rattle.query_admission.specs.declared.admission.Weighed.TheVariants.{Ready, Refused as NotReady}

-- the lists of names, or the first name that has none
abbrev pub IsSought : View → List (List ℕ) → Sought → Type 0
IsSought view names (Known lists) = map view.listed names ≡ map Some lists.items
IsSought view names (Unknown list) = position is_none (map view.listed names) ≡ Some list

-- the refusal that a cause gives, or none where it gives none
abbrev pub Decides : (Refusal → Type 0) → Option Refusal → Type 0
Decides Give (Some refusal) = Give refusal
Decides Give None = (refusal : Refusal) → ¬ Give refusal

-- the causes that lie in what a query's lists say of themselves, in their order
abbrev pub list_causes : List Cause
list_causes = Cause.not_opened ∷ Cause.too_large ∷ Cause.counts_differ ∷ Cause.k_above_count ∷ Cause.no_random ∷ Cause.no_sorted ∷ []

-- the first of these causes that holds refuses a query, and names lists of it; where none holds the count is had
abbrev pub Screens : Query → List ListInfo → Result ℕ Refusal → Type 0
Screens q lists (Ok count) = NoneOf (ListsGive q lists) list_causes × (count_of lists ≡ Some count) × (position is_large lists ≡ None)
Screens q lists (Err refusal) = IsFirstOf (ListsGive q lists) list_causes refusal × All (λ list. list < length lists) (refused_lists refusal)

-- these are the count, the sources, the versions and the sorted accesses of lists that fit a query
abbrev pub FitsOver : List ListInfo → ℕ → Weighed → Type 0
FitsOver lists n (Ready count sources versions sorted) =
    (count ≡ n) × (map (λ list. list.source) lists ≡ sources.items) × (versions_at lists ≡ versions.items) × (sorted_at lists ≡ sorted.items)
FitsOver lists n (NotReady refusal) = ⊥

-- what a query comes to over the lists of a view: a name has no list, or its lists are there and screened
abbrev pub Weighs : View → Query → Weighed → Type 0
Weighs view q (Ready count sources versions sorted) =
    (lists : List ListInfo) × AreListed view q lists × Screens q lists (Ok count) × (map (λ list. list.source) lists ≡ sources.items)
    × (versions_at lists ≡ versions.items) × (sorted_at lists ≡ sorted.items)
Weighs view q (NotReady refusal) =
    ((list : ℕ) × (refusal ≡ UnknownList list) × (position is_none (map view.listed q.names) ≡ Some list))
    ⊎ ((lists : List ListInfo) × AreListed view q lists × Screens q lists (Err refusal))

-- what a query that was weighed comes to, or the lack of memory
abbrev pub admitted_as : {Memory : Type 0} → Query → Result Weighed Memory → Result Admitted Memory
admitted_as query (Ok (Ready count sources versions sorted)) =
    Ok (IsReadyNow (record { query = query; count = count; sources = sources; versions = versions; sorted = sorted }))
admitted_as query (Ok (NotReady refusal)) = Ok (Refused refusal (Some query))
admitted_as query (Err memory) = Err memory
