use Rattle.std.proofs.Common.{◌≡◌, ℕ, List, length, take}
use Rattle.catalog_open.specs.Wanted.{AreMarked, AreRead}
use Rattle.catalog_open.proofs.wanted.mark_wanted.Given as goal

-- what the lines so far want is marked
abbrev pub invariant-loop-line : goal.invariant-loop-line
invariant-loop-line l = record {
  many : length l.marks.items ≡ length l.catalog;
  marks : (lines : List (List ℕ)) → AreRead lines l.read → AreMarked l.catalog (take l.line-index lines) l.marks.items;
}
