-- What is known of a method: of its run and its answer on every table that is asked. A further algorithm gives one record of these.
use Rattle.std.proofs.Common.{◌≡◌, ℕ, ◌<◌, ◌≤◌, ◌^◌, List, length, All, Contains}
use Rattle.ranked_list.specs.declared.row.Row.{Row}
use Rattle.ranked_list.specs.declared.item.Item.{Item}
use Rattle.monotone_fn.specs.Value.{IsMonotone}
use Rattle.topk_theory.specs.declared.access.Access.{Access}
use Rattle.topk_theory.specs.Asked.{Asked}
use Rattle.topk_theory.specs.Transcript.{Agrees, IsTame, seen_objects, named_objects}
use Rattle.topk_theory.specs.Bounds.{bounded}
use Rattle.topk_theory.specs.Consistent.{SomeAgrees}
use Rattle.topk_theory.specs.Threshold.{IsAsked, item_objects}
use Rattle.algorithm_theory.specs.Optimal.{IsAlwaysRun}
use Rattle.query_core.specs.Methods.{Method, run_with, items_with, IsNearWith}
use Rattle.query_core.specs.OneAnswer.{HasTrueBounds}

-- something is so of each table that is asked
abbrev pub OnAsked : (Asked → ℕ → List (List Row) → Type 0) → Type 0
OnAsked P = (asked : Asked) (n : ℕ) (D : List (List Row)) → IsMonotone asked.value → IsAsked asked.k n D → P asked n D

-- A and the items are the run and the answer on a table that is asked
pub record IsRunOn (method : Method) (asked : Asked) (n : ℕ) (A : List Access) (items : List Item) (D : List (List Row)) : Type 0 where
  pub is_asked : IsAsked asked.k n D
  pub run : A ≡ run_with method asked D
  pub exact : items ≡ items_with method asked D

-- the run is what the table gives, is short, makes no wild guess, and saw the objects of its answer, whose bounds are true of the table and are
-- those that the run gives; and it is as near the best as the method promises
pub record AreFacts (method : Method) : Type 0 where
  pub agrees : OnAsked (λ asked n D. Agrees (length D) n D (run_with method asked D))
  pub short : OnAsked (λ asked n D. length D ≤ 8 → n ≤ 200000 → length (run_with method asked D) < 2 ^ 24)
  pub tame : OnAsked (λ asked n D. IsTame (run_with method asked D))
  pub seen : OnAsked (λ asked n D. All (Contains (seen_objects (run_with method asked D))) (item_objects (items_with method asked D)))
  pub bounds : OnAsked (λ asked n D. All (HasTrueBounds asked.value D) (items_with method asked D))
  pub given : (asked : Asked) (m n : ℕ) (A : List Access) (items : List Item) (item : Item) → 0 < m → SomeAgrees m n A
      → Contains (named_objects A) item.object → ((D : List (List Row)) → Agrees m n D A → IsRunOn method asked n A items D) → Contains items item
      → item ≡ bounded asked.value m A item.object
  pub near : (asked : Asked) (m n : ℕ) (A : List Access) → IsMonotone asked.value → IsAlwaysRun (run_with method asked) asked.k m n A
      → IsNearWith method asked m n A
