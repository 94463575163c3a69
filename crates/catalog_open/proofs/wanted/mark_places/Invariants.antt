use Rattle.std.proofs.Common.{◌≡◌, length, take, Contains}
use Rattle.catalog_open.specs.Wanted.{MarksMore}
use Rattle.catalog_open.proofs.wanted.mark_places.Given as goal

-- the places so far are marked
abbrev pub invariant-loop-place : goal.invariant-loop-place
invariant-loop-place l = record {
  long : length l.marks.items ≡ length l.fn.marks.items;
  more : MarksMore (Contains (take l.place-index l.places)) l.fn.marks.items l.marks.items;
}
