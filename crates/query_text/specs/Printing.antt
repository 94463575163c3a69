-- What is written of a query.
use Rattle.std.specs.Prelude.{ℕ, List, [], ◌++◌, codes, Option, option_map, decimal, ◌==◌, if◌then◌else◌}
use Rattle.monotone_fn.specs.Tree.{Trees, Terms}
use Rattle.monotone_fn.specs.declared.costs.Costs.{Costs}
use Rattle.query_text.specs.Pieces.{text_of}
use Rattle.query_text.specs.Shape.{argument_pieces, named_pieces, cost_pieces, room_pieces}
use Rattle.query_text.specs.Query.{arguments, weighted, named_as, cost_digits}
use Rattle.query_text.specs.declared.algorithm.Algorithm.{Algorithm}

-- an operator over expressions, and a weighted sum
abbrev pub nodes_text : List (List ℕ) → List ℕ → Trees → List ℕ
nodes_text names opening nodes = opening ++ (text_of (argument_pieces (arguments names nodes)) ++ codes ")")

abbrev pub terms_text : List (List ℕ) → Terms → List ℕ
terms_text names terms = codes "wsum(" ++ (text_of (argument_pieces (weighted names terms)) ++ codes ")")

-- an algorithm
abbrev pub algorithm_text : Algorithm → List ℕ
algorithm_text algorithm = text_of (named_pieces (named_as algorithm))

-- the options
abbrev pub cost_text : Option Costs → List ℕ
cost_text cost = text_of (cost_pieces (option_map cost_digits cost))

abbrev pub room_text : Option ℕ → List ℕ
room_text room = text_of (room_pieces (option_map decimal room))

-- the comma before an argument, but before the first
abbrev pub comma_text : ℕ → List ℕ
comma_text place = if place == 0 then [] else codes ","
