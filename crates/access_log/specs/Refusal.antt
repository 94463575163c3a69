-- Why an access is refused.
use Rattle.std.specs.Prelude.{◌≡◌, ◌+◌, List, length}
use Rattle.ranked_list.specs.declared.row.Row.{Row}
use Rattle.topk_theory.specs.declared.access.Access.{Access}
use Rattle.access_log.specs.Log.{Log, AgreesWith, with_access, IsFirstNumber, HasNoRoom}
use Rattle.access_log.specs.declared.fault.PushFault.{PushFault}
use Rattle.access_log.specs.declared.fault.PushFault.TheVariants.{Inconsistent, Memory}

-- no table agrees with the log and this access after it, which has this number and is of this first kind; memory runs out only where no room is reserved
abbrev pub Refuses : Log → Access → PushFault → Type 0
Refuses log access (Inconsistent at kind) =
    (at ≡ length log.accesses + 1) × IsFirstNumber log access kind × ((D : List (List Row)) → ¬ AgreesWith D (with_access log access))
Refuses log access Memory = HasNoRoom log access
