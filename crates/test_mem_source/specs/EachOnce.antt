-- A list that a source in memory tells has no object twice.
use Rattle.std.specs.Prelude.{List, [], ◌∷◌, Option, IfSome}
use Rattle.ranked_list.specs.declared.row.Row.{Row}
use Rattle.source_api.specs.Told.{HasEachOnce, told_of}
use Rattle.source_api.specs.EachOnce.{told_law}
use Rattle.test_mem_source.specs.InMemory.{told_list, told_unless}
use Rattle.test_mem_source.specs.Editions.{Edition}
use Rattle.test_mem_source.specs.Stored.{Stored}

pub told_has_each_once : (m : Stored) → IfSome (told_list m) HasEachOnce
told_has_each_once m = by m.later (told_of m.stated m.lies m.rows) (told_law m.stated m.lies m.rows)
  where
    by : (later : List Edition) (told : Option (List Row)) → IfSome told HasEachOnce → IfSome (told_unless later told) HasEachOnce
    by [] told h = h
    by (next ∷ later) told h = tt
