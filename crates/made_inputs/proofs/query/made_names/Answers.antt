use Rattle.std.proofs.Common.{◌+◌, arith}
use Rattle.bundle_text.specs.Numbered.{list_name}
use Rattle.made_inputs.proofs.Growing.{grown}
use Rattle.made_inputs.proofs.query.made_names.Goals as goal

pub loop-list-preserved : goal.loop-list-preserved
loop-list-preserved c =
    let kept = c.loop-list.invariant in
    let many = kept.many in
    let room = kept.room in
    record {
      names = grown (λ name. name.items) list_name 1 c.loop-list.list (c.loop-list.list + 1) c.loop-list.names.items c.push_reserved.new.self.items _ (omega arith) kept.names c.push_reserved.ensures.items c.in_ok-name.ensures;
      many = omega (arith, many, c.push_reserved.ensures.len);
      room = omega (arith, room, c.push_reserved.ensures.capacity);
    }

pub from_vec-requires : goal.from_vec-requires
from_vec-requires c = omega (arith, c.loop-list.invariant.many, c.requires, c.loop-list.auto.list-end)
