use Rattle.std.proofs.Common.{◌≡◌, drop}
use Rattle.test_mem_source.specs.Shelved.{source_at}
use Rattle.test_mem_source.specs.OnShelf.{placed_sources}
use Rattle.test_mem_source.proofs.mem_shelf.source_of.Given as goal

-- nothing so far is of the place
abbrev pub invariant-loop-held : goal.invariant-loop-held
invariant-loop-held l = source_at (placed_sources l.sources) l.place ≡ source_at (placed_sources (drop l.held-index l.sources)) l.place
