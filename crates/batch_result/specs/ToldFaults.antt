-- Why a query is refused that reads a told list: the list has the fault, or hasn't the object.
use Rattle.std.specs.Prelude.{◌≡◌, ◌≢◌, ◌<◌, ℕ, Option, IfSome, List, [], ◌∷◌, ◌++◌, Contains, length}
use Rattle.std.specs.List.{slice_index_or}
use Rattle.ranked_list.specs.declared.row.Row.{Row}
use Rattle.ranked_list.specs.Table.{objects}
use Rattle.topk_theory.specs.Transcript.{Begins}
use Rattle.source_state.specs.declared.entry.SourceFault.{SourceFault}
use Rattle.source_state.specs.declared.entry.SourceFault.TheVariants.{OutOfOrder, TooHigh, Repeated, Clash, Above, ShortList, Moved}
use Rattle.source_state.specs.declared.look.LookFault.TheVariants as why
use Rattle.query_core.specs.declared.ready.Ready.{Ready}
use Rattle.query_run.specs.declared.ended.Ended.{Ended}
use Rattle.query_run.specs.declared.ended.Ended.TheVariants as ended
use Rattle.fetcher.specs.Causes.{IsAboveFront, IsTooHigh, Rises}
use Rattle.batch_result.specs.Numbered.{told_at}

-- some row of a list, behind those before it, is so
pub record HasRow (list : List Row) (Is : List Row → Row → Type 0) : Type 0 where
  pub before : List Row
  pub row : Row
  pub next : Begins (before ++ row ∷ []) list
  pub is : Is before row

-- a list has a fault: a row's grade rises or is too high; the grade of an object is above that of rows before it; it has fewer rows than are stated;
-- it was replaced by one of another version.
-- A list that is told has no object twice, so no row is repeated and no grade clashes
abbrev pub HasFault : List Row → SourceFault → Type 0
HasFault list (OutOfOrder place above below) = HasRow list (λ before row. Rises before row place above below)
HasFault list (TooHigh place grade) = HasRow list (λ before row. IsTooHigh before row place grade)
HasFault list (Above object grade bottom) = Contains list (record { object = object; grade = grade }) × IsAboveFront list object grade bottom
HasFault list (ShortList stated got) = (got ≡ length list) × (got < stated)
HasFault list (Repeated object place) = ⊥
HasFault list (Clash object sorted random) = ⊥
HasFault list (Moved had now) = had ≢ now

-- what is told of the list of a ready query with this number
abbrev pub told_list : List (Option (List Row)) → Ready → ℕ → Option (List Row)
told_list told ready list = told_at told (slice_index_or ready.sources.items list 0)

-- where a query is refused for a row or a grade of a list that is told, the list has this fault; where it is refused for an object, the list hasn't it
abbrev pub HasToldCause : List (Option (List Row)) → Ready → Ended → Type 0
HasToldCause told ready (ended.Look list (why.Source fault)) = IfSome (told_list told ready list) (λ rows. HasFault rows fault)
HasToldCause told ready (ended.Look list (why.Missing object)) = IfSome (told_list told ready list) (λ rows. ¬ Contains (objects rows) object)
HasToldCause told ready _ = Unit {0}
