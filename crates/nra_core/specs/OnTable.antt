-- Where a machine is in the run of the algorithm without random access on a table that agrees with its transcript.
use Rattle.std.specs.Prelude.{◌≡◌, ℕ, Bool, List, length, MatchBool}
use Rattle.ranked_list.specs.declared.row.Row.{Row}
use Rattle.topk_theory.specs.declared.access.Access.{Access}
use Rattle.topk_theory.specs.NoRandom.{is_quiet, nra_run_to, nra_run}
use Rattle.machine_base.specs.Depths.{IsReached, read_to}
use Rattle.nra_core.specs.declared.place.Place.{Place}

-- whether the algorithm is quiet at a depth
abbrev pub quiet_at : (List ℕ → ℕ) → ℕ → List (List Row) → ℕ → Bool
quiet_at V k D depth = is_quiet V k (length D) D (nra_run_to D depth)

-- the depths above are read, and of this one the lists before the next
pub record OnRow (V : List ℕ → ℕ) (k n : ℕ) (D : List (List Row)) (A : List Access) (place : Place) : Type 0 where
  pub at : IsReached (quiet_at V k D) n place.depth
  pub made : A ≡ read_to (nra_run_to D) D place.depth place.list

-- the machine is on the run of the table, or at its end
abbrev pub OnTable : (List ℕ → ℕ) → ℕ → ℕ → List (List Row) → List Access → Place → Type 0
OnTable V k n D A place = MatchBool place.done (A ≡ nra_run V k D) (OnRow V k n D A place)
