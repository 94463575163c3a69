-- The list that a source over a list file tells, and that it has no object twice.
use Rattle.std.specs.Prelude.{Bool, true, false, List, [], Option, None, IfSome, if◌then◌else◌}
use Rattle.ranked_list.specs.declared.row.Row.{Row}
use Rattle.source_api.specs.Told.{HasEachOnce, told_of}
use Rattle.source_api.specs.EachOnce.{told_law}
use Rattle.file_source.specs.ListFile.{are_rows, rows_among, told_records}
use Rattle.file_source.specs.Filed.{Filed}

abbrev pub told_list : Filed → Option (List Row)
told_list f = told_records f.records

pub told_has_each_once : (f : Filed) → IfSome (told_list f) HasEachOnce
told_has_each_once f = by (are_rows f.records)
  where
    by : (b : Bool) → IfSome (if b then told_of None [] (rows_among f.records) else None) HasEachOnce
    by true = told_law None [] (rows_among f.records)
    by false = tt
