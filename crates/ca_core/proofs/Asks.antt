-- What is asked next of the first k is where the machine is in its run.
use Rattle.std.proofs.Common.{◌≡◌, ℕ, List, length, Option, Some, None}
use Rattle.ranked_list.specs.declared.row.Row.{Row}
use Rattle.topk_theory.specs.declared.access.Access.{Access}
use Rattle.topk_theory.specs.Threshold.{item_objects}
use Rattle.topk_theory.specs.NoRandom.{first_seen}
use Rattle.topk_theory.specs.Combined.{ca_blocks, ca_run}
use Rattle.machine_base.specs.declared.asking.Ask.{Ask}
use Rattle.machine_base.specs.Asking.{AsksNext, LeavesAsks}
use Rattle.ca_core.specs.Course.{finish_of}
use Rattle.ca_core.specs.OnTable.{OnTable}
use Rattle.ca_core.specs.Kept.{IsSound}

pub sound_finish : (m : ℕ) (A : List Access) (objects : List ℕ) (next : Option Ask) → AsksNext m A objects next → IsSound m A objects (finish_of next)
sound_finish m A objects None asks = asks
sound_finish m A objects (Some ask) asks = asks

pub on_finish : (V : List ℕ → ℕ) (k phase n : ℕ) (D : List (List Row)) (A : List Access) (objects : List ℕ) (next : Option Ask)
    → objects ≡ item_objects (first_seen V k (length D) (ca_blocks V k phase D)) → LeavesAsks D A objects (ca_run V k phase D) next
    → OnTable V k phase n D A objects (finish_of next)
on_finish V k phase n D A objects None first made = record { first = first; made = made }
on_finish V k phase n D A objects (Some ask) first made = record { first = first; made = made }
