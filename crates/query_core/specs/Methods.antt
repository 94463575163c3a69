-- By what a machine runs, and what that promises of its answers.
use Rattle.std.specs.Prelude.{ℕ, Bool, Option, Some, None, List, [], length}
use Rattle.ranked_list.specs.declared.row.Row.{Row}
use Rattle.ranked_list.specs.declared.item.Item.{Item}
use Rattle.topk_theory.specs.declared.access.Access.{Access}
use Rattle.topk_theory.specs.Aggregate.{IsTop}
use Rattle.topk_theory.specs.Asked.{Asked, Run, Answering}
use Rattle.topk_theory.specs.Fixes.{Fixes}
use Rattle.topk_theory.specs.Threshold.{item_objects}
use Rattle.algorithm_theory.specs.Within.{Factor, IsWithin, FixesWithin}
use Rattle.access_log.specs.Log.{AgreesWith}
use Rattle.machine_base.specs.Machine.{MachineState, asked_of, AreExact}
use Rattle.query_text.specs.declared.algorithm.Algorithm.{Algorithm}
use Rattle.query_text.specs.declared.algorithm.Algorithm.TheVariants.{Taz}
use Rattle.cert_text.specs.Guarantee.{guarantee_by}
use Rattle.query_core.specs.Algorithms.{run_by, items_by, IsNearBy}

-- by what a machine runs: its algorithm, and of each list whether it can be read in order, where the algorithm goes by that
pub record Method : Type 0 where
  pub algorithm : Algorithm
  pub sorted : List Bool

-- what an algorithm keeps of which lists can be read in order: only the threshold algorithm over restricted lists goes by it
abbrev pub kept_of : Algorithm → List Bool → List Bool
kept_of Taz sorted = sorted
kept_of _ sorted = []

-- the method of an algorithm over lists, of each of which it is told whether it can be read in order
abbrev pub method_with : Algorithm → List Bool → Method
method_with algorithm sorted = record { algorithm = algorithm; sorted = kept_of algorithm sorted }

-- the accesses that a method makes of what is asked and a table, and the items that it answers
abbrev pub run_with : Method → Run
run_with method = run_by method.algorithm method.sorted

abbrev pub items_with : Method → Answering
items_with method = items_by method.algorithm method.sorted

-- the objects Y are as good on a table as is guaranteed: a top k, or within a factor
abbrev pub IsGoodBy : Option Factor → Asked → List (List Row) → List ℕ → Type 0
IsGoodBy None asked D Y = IsTop asked.value asked.k D Y
IsGoodBy (Some factor) asked D Y = IsWithin asked.value asked.k factor D Y

-- how good the objects Y of an answer with the transcript A are on a table that agrees with it
abbrev pub IsGoodWith : Method → Asked → List Access → List (List Row) → List ℕ → Type 0
IsGoodWith method asked A D Y = IsGoodBy (guarantee_by method.algorithm asked.value (length D) A Y) asked D Y

-- the transcript A, over m lists of n objects, fixes that Y is as good as is guaranteed: it is so on every table that agrees
abbrev pub FixesBy : Option Factor → Asked → ℕ → ℕ → List Access → List ℕ → Type 0
FixesBy None asked m n A Y = Fixes asked.value asked.k m n A Y
FixesBy (Some factor) asked m n A Y = FixesWithin asked.value asked.k factor m n A Y

-- what A fixes of the objects Y of its answer
abbrev pub FixesWith : Method → Asked → ℕ → ℕ → List Access → List ℕ → Type 0
FixesWith method asked m n A Y = FixesBy (guarantee_by method.algorithm asked.value m A Y) asked m n A Y

-- how near the best A is
abbrev pub IsNearWith : Method → Asked → ℕ → ℕ → List Access → Type 0
IsNearWith method asked m n A = IsNearBy method.algorithm method.sorted asked m n A

-- the items are as good as the method guarantees on every table that agrees with the transcript
pub record AreGood (method : Method) (t : MachineState) (items : List Item) : Type 0 where
  pub on_each : (D : List (List Row)) → AgreesWith D t.log → IsGoodWith method (asked_of t) t.log.accesses D (item_objects items)

-- the items are what a machine of the method answers: its answer on every table that agrees with the transcript, as good as it guarantees,
-- and the transcript fixes that they are
pub record AnswersWith (method : Method) (t : MachineState) (items : List Item) : Type 0 where
  pub exact : AreExact (items_with method) t items
  pub good : AreGood method t items
  pub fixed : FixesWith method (asked_of t) t.log.lists t.log.count t.log.accesses (item_objects items)
