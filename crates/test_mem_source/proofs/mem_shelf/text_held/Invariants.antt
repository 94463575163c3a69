use Rattle.std.proofs.Common.{◌≡◌, drop}
use Rattle.test_mem_source.specs.Shelved.{text_at}
use Rattle.test_mem_source.specs.OnShelf.{placed_texts}
use Rattle.test_mem_source.proofs.mem_shelf.text_held.Given as goal

-- nothing so far is of the place
abbrev pub invariant-loop-held : goal.invariant-loop-held
invariant-loop-held l = text_at (placed_texts l.texts) l.place ≡ text_at (placed_texts (drop l.held-index l.texts)) l.place
