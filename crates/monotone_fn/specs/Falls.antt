-- How deep the trees of a list nest.
use Rattle.std.specs.Prelude.{ℕ, List, map}
use Rattle.monotone_fn.specs.Tree.{Tree}
use Rattle.monotone_fn.specs.Shape.{depth, greatest}

-- how deep the deepest of some trees nests
abbrev pub deepest : List Tree → ℕ
deepest ts = greatest (map depth ts)

-- how deep the deepest tree of some terms nests
abbrev pub deepest_term : List (ℕ × Tree) → ℕ
deepest_term us = greatest (map (λ u. depth u.1) us)
