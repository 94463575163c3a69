-- The one run and the one answer of a query over its lists, and when an answer is right.
use Rattle.std.specs.Prelude.{◌≡◌, ◌<◌, ◌≤◌, ℕ, true, List, All, length, replicate, Some}
use Rattle.ranked_list.specs.declared.row.Row.{Row}
use Rattle.ranked_list.specs.declared.item.Item.{Item}
use Rattle.monotone_fn.specs.Shape.{list_count}
use Rattle.monotone_fn.specs.Value.{value}
use Rattle.topk_theory.specs.declared.access.Access.{Access}
use Rattle.topk_theory.specs.Aggregate.{aggregate}
use Rattle.topk_theory.specs.Asked.{Asked}
use Rattle.topk_theory.specs.Transcript.{seen_objects}
use Rattle.topk_theory.specs.Threshold.{item_objects}
use Rattle.machine_base.specs.declared.answer.Answer.{Answer}
use Rattle.access_log.specs.Log.{AgreesWith, IsConsistent}
use Rattle.query_text.specs.declared.query.Query.{Query}
use Rattle.query_text.specs.Costs.{costs_in_force}
use Rattle.query_core.specs.Methods.{Method, method_with, run_with, items_with, IsGoodWith, FixesWith, IsNearWith}

-- what a query asks of its algorithm
abbrev pub asked_by : Query → Asked
asked_by q = record { value = value q.expr; k = q.k; costs = costs_in_force q }

-- by what a machine of a query runs, all of whose lists can be read in order
abbrev pub method_for : Query → Method
method_for q = method_with q.algorithm (replicate (length q.names) true)

-- the one run of a query by a method on its lists, and the items of its one answer
abbrev pub one_run_with : Method → Query → List (List Row) → List Access
one_run_with method q D = run_with method (asked_by q) D

abbrev pub one_items_with : Method → Query → List (List Row) → List Item
one_items_with method q D = items_with method (asked_by q) D

-- the query states a room that is less than n, and less than the objects that its one run sees
pub record IsOverRoomWith (method : Method) (q : Query) (n : ℕ) (D : List (List Row)) (room : ℕ) : Type 0 where
  pub stated : q.room ≡ Some room
  pub short : room < n
  pub passed : room < length (seen_objects (one_run_with method q D))

-- the item's bounds are true on D: the aggregate of its object lies between them
abbrev pub HasTrueBounds : (List ℕ → ℕ) → List (List Row) → Item → Type 0
HasTrueBounds V D item = (item.low ≤ aggregate V D item.object) × (aggregate V D item.object ≤ item.high)

-- on every table that agrees with the answer's transcript the bounds of its items are true
abbrev pub HasTrueItems : (List ℕ → ℕ) → Answer → Type 0
HasTrueItems V answer = (D : List (List Row)) → AgreesWith D answer.transcript → All (HasTrueBounds V D) answer.items

-- the answer is the one answer on D, with the one run as its transcript; its objects are as good as the method promises, and their
-- bounds are true
pub record IsOneAnswerWith (method : Method) (q : Query) (D : List (List Row)) (answer : Answer) : Type 0 where
  pub items : answer.items ≡ one_items_with method q D
  pub run : answer.transcript.accesses ≡ one_run_with method q D
  pub top : IsGoodWith method (asked_by q) answer.transcript.accesses D (item_objects answer.items)
  pub bounds : All (HasTrueBounds (value q.expr) D) answer.items

-- an answer of a query over lists of n objects is right: some table agrees with its transcript, on every table that agrees it is the one
-- answer, the transcript fixes its objects, and is near the best
pub record IsAnsweredWith (method : Method) (q : Query) (n : ℕ) (answer : Answer) : Type 0 where
  pub lists : answer.transcript.lists ≡ list_count q.expr
  pub count : answer.transcript.count ≡ n
  pub some : IsConsistent answer.transcript
  pub every : (D : List (List Row)) → AgreesWith D answer.transcript → IsOneAnswerWith method q D answer
  pub fixed : FixesWith method (asked_by q) answer.transcript.lists answer.transcript.count answer.transcript.accesses (item_objects answer.items)
  pub near : IsNearWith method (asked_by q) answer.transcript.lists answer.transcript.count answer.transcript.accesses

-- the same of a query all of whose lists can be read in order
abbrev pub one_run : Query → List (List Row) → List Access
one_run q D = one_run_with (method_for q) q D

abbrev pub one_items : Query → List (List Row) → List Item
one_items q D = one_items_with (method_for q) q D

abbrev pub IsOverRoom : Query → ℕ → List (List Row) → ℕ → Type 0
IsOverRoom q n D room = IsOverRoomWith (method_for q) q n D room

abbrev pub IsOneAnswer : Query → List (List Row) → Answer → Type 0
IsOneAnswer q D answer = IsOneAnswerWith (method_for q) q D answer

abbrev pub IsAnswered : Query → ℕ → Answer → Type 0
IsAnswered q n answer = IsAnsweredWith (method_for q) q n answer
