use Rattle.std.proofs.Common.{◌≡◌, take}
use Rattle.std.specs.Prelude.{nat_eq}
use Rattle.std.specs.HashSet.{contains}
use Rattle.ranked_list.specs.Table.{IsRanked}
use Rattle.ranked_list.specs.Rows.{last_row, TellsObjects}
use Rattle.ranked_list.proofs.table.put_objects.Given as goal

abbrev pub invariant-loop-place : goal.invariant-loop-place
invariant-loop-place l = record {
  ranked : IsRanked (take l.place l.rows);
  last : l.last ≡ last_row (take l.place l.rows);
  tells : TellsObjects (contains nat_eq l.set) (take l.place l.rows);
}
