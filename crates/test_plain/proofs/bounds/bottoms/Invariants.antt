use Rattle.std.proofs.Common.{◌≡◌, map, take, length}
use Rattle.topk_theory.specs.Transcript.{list_numbers, bottom_of}
use Rattle.test_plain.proofs.bounds.bottoms.Given as goal

abbrev pub invariant-loop-list : goal.invariant-loop-list
invariant-loop-list l = (length l.bottoms ≡ 8) × (take l.list l.bottoms ≡ map (λ list. bottom_of list l.accesses) (list_numbers l.list))
