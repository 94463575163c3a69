use Rattle.std.proofs.Common.{is_some, ap, ◌∙◌}
use Rattle.containers.proofs.heap.IndexedHeap.contains.Goals as goal

pub returns : goal.returns
returns g c = c.is_some.ensures ∙ ap is_some c.get.ensures
