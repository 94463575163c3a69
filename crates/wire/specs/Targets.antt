-- The targets of requests, by their bytes.
use Rattle.std.specs.Prelude.{◌≡◌, ℕ, Bool, true, false, ◌||◌, ◌==◌, List, [], ◌∷◌, map, take, drop, codes, if◌then◌else◌, Option, Some, None, ⊤}
use Rattle.std.specs.List.{position_or_len}
use Rattle.std.specs.Option.{option_and_then, option_map_or}
use Rattle.std.specs.Str.{bytes_eq}
use Rattle.std.specs.Char.{to_ascii_lowercase}
use Rattle.topk_base.specs.Cuts.{cut_at}
use Rattle.wire.specs.declared.target.Target.{Target}

-- the path and the query part of a target
pub record Parts : Type 0 where
  pub path : List ℕ
  pub query : List ℕ

-- the same of what was read
abbrev pub shown : Target → Parts
shown target = record { path = target.path.now; query = target.query.now }

-- the bytes behind `http://`, in any letter case, where the target begins with it
abbrev pub behind_scheme : List ℕ → Option (List ℕ)
behind_scheme target = if bytes_eq (map to_ascii_lowercase (take 7 target)) (codes "http://") then Some (drop 7 target) else None

-- an authority ends before `/` and before `?`
abbrev pub ends_authority : ℕ → Bool
ends_authority byte = byte == 47 || byte == 63

-- the bytes behind an authority, where that isn't empty
abbrev pub behind_authority : List ℕ → Option (List ℕ)
behind_authority bytes = if position_or_len ends_authority bytes == 0 then None else Some (drop (position_or_len ends_authority bytes) bytes)

-- whether a text begins with `/`
abbrev pub is_rooted : List ℕ → Bool
is_rooted [] = false
is_rooted (byte ∷ bytes) = byte == 47

-- a text with a `/` before it where it doesn't begin with one
abbrev pub rooted : List ℕ → List ℕ
rooted text = if is_rooted text then text else 47 ∷ text

-- what a target is read as: one in absolute form as what follows its authority, where that isn't empty, and any other as it stands
abbrev pub origin_form : List ℕ → List ℕ
origin_form target = option_map_or rooted (option_and_then behind_authority (behind_scheme target)) target

-- the two sides of a cut, or all before it
abbrev pub sides : List ℕ → Option (List ℕ × List ℕ) → Parts
sides text None = record { path = text; query = [] }
sides text (Some cut) = record { path = cut.0; query = cut.1 }

-- the path of a text ends before the first `?`, and the query part stands behind it
abbrev pub cut_query : List ℕ → Parts
cut_query text = sides text (cut_at 63 text)

-- the path and the query part of a target, where what it is read as begins with `/`
abbrev pub parts_of : List ℕ → Option Parts
parts_of target = if is_rooted (origin_form target) then Some (cut_query (origin_form target)) else None

-- what follows an authority is nothing, or begins with what ends it
abbrev pub IsBehind : Option (List ℕ) → Type 0
IsBehind None = ⊤
IsBehind (Some []) = ⊤
IsBehind (Some (byte ∷ bytes)) = ends_authority byte ≡ true
