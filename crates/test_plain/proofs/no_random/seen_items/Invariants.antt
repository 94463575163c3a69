use Rattle.std.proofs.Common.{◌≡◌, map, take}
use Rattle.monotone_fn.specs.Shape.{list_count}
use Rattle.monotone_fn.specs.Value.{value}
use Rattle.topk_theory.specs.Bounds.{bounded}
use Rattle.test_plain.proofs.no_random.seen_items.Given as goal

abbrev pub invariant-loop-object : goal.invariant-loop-object
invariant-loop-object l = l.items.items ≡ map (bounded (value l.expr) (list_count l.expr) l.accesses) (take l.object-index l.object-items)
