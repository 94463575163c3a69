-- The query that is made from a number, over lists that are named `l1`, `l2` and so on.
use Rattle.std.specs.Prelude.{ℕ, ◌+◌, ◌%◌, ◌==◌, min, List, map, Some, None, if◌then◌else◌}
use Rattle.std.specs.List.{range_with_len}
use Rattle.monotone_fn.specs.Tree.{Tree, trees, terms}
use Rattle.query_text.specs.declared.algorithm.Algorithm.{Algorithm}
use Rattle.query_text.specs.declared.algorithm.Algorithm.TheVariants.{Ta, Nra, Ca}
use Rattle.query_text.specs.declared.query.Query.{Query}
use Rattle.bundle_text.specs.Numbered.{list_names}

-- the grades in each of so many lists; the same with the weights 1, 2 and so on
abbrev pub list_trees : ℕ → List Tree
list_trees lists = map Tree.Grade (range_with_len 0 lists)

abbrev pub list_terms : ℕ → List (ℕ × Tree)
list_terms lists = map (λ list. (list + 1, Tree.Grade list)) (range_with_len 0 lists)

-- the expressions in turn: the least, the greatest, the sum, the median and the weighted sum of the grades
abbrev pub made_tree : ℕ → ℕ → Tree
made_tree number lists =
    if number % 5 == 0 then Tree.Min (trees (list_trees lists))
    else (if number % 5 == 1 then Tree.Max (trees (list_trees lists))
    else (if number % 5 == 2 then Tree.Sum (trees (list_trees lists))
    else (if number % 5 == 3 then Tree.Median (trees (list_trees lists))
    else Tree.Wsum (terms (list_terms lists)))))

-- the algorithms in turn
abbrev pub made_algorithm : ℕ → Algorithm
made_algorithm number = if number % 3 == 0 then Ta else (if number % 3 == 1 then Nra else Ca)

-- the query with this number, from 0, over so many lists of so many objects
abbrev pub made_query : ℕ → ℕ → ℕ → Query
made_query number count lists = record {
  k = 1 + number % min count 10;
  names = list_names lists;
  expr = made_tree number lists;
  algorithm = made_algorithm number;
  cost = Some (record { sorted = 1; random = 1 + number % 4 });
  room = None;
}
