use Rattle.std.proofs.Common.{◌≡◌, map, take}
use Rattle.catalog_open.specs.Wanted.{AreRead}
use Rattle.catalog_open.proofs.reading.read_into.Given as goal

-- the lines so far are read
abbrev pub invariant-loop-line : goal.invariant-loop-line
invariant-loop-line l = record {
  number : l.number ≡ l.line-index;
  are : AreRead (map (λ line. line.now) (take l.line-index l.lines)) l.read.items;
}
