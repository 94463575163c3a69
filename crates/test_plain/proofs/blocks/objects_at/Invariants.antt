use Rattle.std.proofs.Common.{◌≡◌, map, take}
use Rattle.topk_theory.specs.Transcript.{each_once}
use Rattle.topk_theory.specs.Threshold.{row_at}
use Rattle.test_plain.proofs.blocks.objects_at.Given as goal

abbrev pub invariant-loop-rows : goal.invariant-loop-rows
invariant-loop-rows l = l.objects.items ≡ each_once (map (λ rows. (row_at rows l.depth).object) (take l.rows-index l.lists))
