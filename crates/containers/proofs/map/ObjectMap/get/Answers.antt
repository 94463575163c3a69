use Rattle.std.proofs.Common.{None, slice_index_or, ap, ◌∙◌}
use Rattle.containers.proofs.Found.{found_far}
use Rattle.containers.proofs.map.ObjectMap.get.Goals as goal

pub returns-in-None : goal.returns-in-None
returns-in-None g c =
    found_far c.args.self.now c.self.inside.near.items c.self.inside.far.entries _ c.args.object c.value_near.result c.value_far.result c.self.view_is
    (c.value_near.ensures ∙ ap (λ xs. slice_index_or xs c.args.object None) c.deref.ensures.value) c.in-None.is c.value_far.ensures
