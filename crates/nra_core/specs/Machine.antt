-- What a machine of the algorithm without random access makes and answers.
use Rattle.std.specs.Prelude.{◌≡◌, ◌≤◌, List, All}
use Rattle.ranked_list.specs.declared.row.Row.{Row}
use Rattle.ranked_list.specs.declared.item.Item.{Item}
use Rattle.monotone_fn.specs.Value.{value}
use Rattle.topk_theory.specs.Aggregate.{aggregate}
use Rattle.topk_theory.specs.Bounds.{low, high}
use Rattle.topk_theory.specs.Asked.{no_random_run, no_random_answer}
use Rattle.access_log.specs.Log.{AgreesWith}
use Rattle.machine_base.specs.Machine.{MachineState, MakesRun, IsAnswerBy}

-- the machine makes the run of the algorithm without random access
abbrev pub MakesItsRun : MachineState → Type 0
MakesItsRun t = MakesRun no_random_run t

-- the items are the answer of the algorithm without random access
abbrev pub IsAnswer : MachineState → List Item → Type 0
IsAnswer t items = IsAnswerBy no_random_answer t items

-- each item has the bounds that the transcript gives its object, and on every table that agrees its aggregate lies between them
pub record HaveTrueBounds (t : MachineState) (items : List Item) : Type 0 where
  pub lows : All (λ (item : Item). item.low ≡ low (value t.expr) t.log.lists t.log.accesses item.object) items
  pub highs : All (λ (item : Item). item.high ≡ high (value t.expr) t.log.lists t.log.accesses item.object) items
  pub hold : (D : List (List Row)) → AgreesWith D t.log
      → All (λ (item : Item). (item.low ≤ aggregate (value t.expr) D item.object) × (aggregate (value t.expr) D item.object ≤ item.high)) items
