-- What a call of a source over a host reads of a node's reply.
use Rattle.std.specs.Prelude.{◌≡◌, ◌≢◌, ◌<◌, ◌^◌, ℕ, List, Option, Some, Result, Ok, Err, ⊤}
use Rattle.std.specs.Global.{Vec}
use Rattle.std.specs.Option.{unwrap_or}
use Rattle.ranked_list.specs.declared.row.Row.{Row}
use Rattle.source_api.specs.Told.{IsGrade}
use Rattle.source_api.specs.declared.source.Trouble.{Trouble}
use Rattle.source_api.specs.declared.source.FailKind.TheVariants.{Failed, Garbled, Memory}
use Rattle.source_api.specs.declared.source.Trouble.TheVariants.{Fail, Moved}
use Rattle.source_node.specs.Connections.{IsAnswered}
use Rattle.source_node.specs.Serving.{Seen}
use Rattle.source_node.specs.declared.asked.Asked.{Asked}

-- a node answered what was asked with this body, over this told list, and stated this version
pub record AnswersOver (asked : Asked) (list : List Row) (version : ℕ) (body : List ℕ) : Type 0 where
  pub wanted : Option ℕ
  pub before : Seen
  pub now : Seen
  pub told : before.list ≡ Some list
  pub answered : IsAnswered wanted asked before now body
  pub stated : unwrap_or wanted now.at_hand ≡ version
  pub small : version < 2 ^ 64

-- a list moved from the version at hand to the one that is stated, which is another
abbrev pub HasMoved : ℕ → ℕ → ℕ → ℕ → Type 0
HasMoved version at_hand had now = (had ≡ at_hand) × (now ≡ version) × (now ≢ at_hand)

-- this size is read, at the version that is stated from then on
abbrev pub ReadsSize : ℕ → ℕ → ℕ → Result ℕ Trouble → Type 0
ReadsSize count version at_hand (Ok size) = (size ≡ count) × (at_hand ≡ version)
ReadsSize count version at_hand (Err (Fail Failed)) = ⊤
ReadsSize count version at_hand (Err (Fail Garbled)) = ⊥
ReadsSize count version at_hand (Err (Fail Memory)) = ⊤
ReadsSize count version at_hand (Err (Moved had now)) = ⊥

-- these rows are read where the version that is stated is the one at hand; else the list moved
abbrev pub ReadsRows : List Row → ℕ → ℕ → Result (Vec Row) Trouble → Type 0
ReadsRows rows version at_hand (Ok page) = (page.items ≡ rows) × (at_hand ≡ version)
ReadsRows rows version at_hand (Err (Fail Failed)) = ⊤
ReadsRows rows version at_hand (Err (Fail Garbled)) = ⊥
ReadsRows rows version at_hand (Err (Fail Memory)) = ⊤
ReadsRows rows version at_hand (Err (Moved had now)) = HasMoved version at_hand had now

-- the object's grade in the list is read where the version that is stated is the one at hand; else the list moved
abbrev pub ReadsGrade : List Row → ℕ → ℕ → ℕ → Result (Option ℕ) Trouble → Type 0
ReadsGrade list object version at_hand (Ok grade) = IsGrade list object grade × (at_hand ≡ version)
ReadsGrade list object version at_hand (Err (Fail Failed)) = ⊤
ReadsGrade list object version at_hand (Err (Fail Garbled)) = ⊥
ReadsGrade list object version at_hand (Err (Fail Memory)) = ⊤
ReadsGrade list object version at_hand (Err (Moved had now)) = HasMoved version at_hand had now
