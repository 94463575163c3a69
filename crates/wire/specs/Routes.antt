-- Paths that are routes, as a router keeps them.
use Rattle.std.specs.Prelude.{◌≡◌, ℕ, Bool, true, nat_lt, List, [], ◌∷◌, Option, option_map, ⊤}
use Rattle.std.specs.List.{list_all}
use Rattle.matchit.specs.Rows.{RowsOf}
use Rattle.matchit.specs.Router.{RouteOf}
use Rattle.matchit.specs.Seek.{first}

-- a byte that stands before `{`
abbrev pub is_plain_byte : ℕ → Bool
is_plain_byte byte = nat_lt byte 123

-- the patterns of these rows are plain bytes, with no parameter
abbrev pub ArePlain : {K : Type 0} → RowsOf K → Type 0
ArePlain [] = ⊤
ArePlain ((pattern, key) ∷ rows) = (list_all is_plain_byte pattern ≡ true) × ArePlain rows

-- the value of the route that a path matches
abbrev pub value_at : {T : Type 0} → RowsOf (RouteOf T) → List ℕ → Option T
value_at rows path = option_map (λ route. route.value) (first rows path)
