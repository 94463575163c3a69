use Rattle.std.proofs.Common.{◌≡◌, take}
use Rattle.test_mem_source.specs.Editions.{editions_of}
use Rattle.test_mem_source.proofs.source_in_memory.copy_later.Given as goal

-- the first ones are copied so far
abbrev pub invariant-loop-held : goal.invariant-loop-held
invariant-loop-held l = editions_of l.copy.items ≡ editions_of (take l.held-index l.later)
