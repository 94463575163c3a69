use Rattle.std.proofs.Common.{◌≡◌, ◌∙◌, List, length, sym, ap, subst, arith}
use Rattle.std.proofs.lemmas.List.{with_items_is}
use Rattle.containers.specs.declared.tree.Ranked.{Ranked}
use Rattle.containers.specs.Tree.{ranks_of, Keeps}
use Rattle.containers.proofs.Placing.{room_left, added_at, loose_at, settled}
use Rattle.containers.proofs.changes.add.Goals as goal

pub push_reserved-requires : goal.push_reserved-requires
push_reserved-requires g c =
    let left = room_left g.T.Ord.cmp c.args.nodes.now.items c.args.places.now c.args.node c.requires.keeps c.requires.within c.requires.absent in
    omega (arith, c.requires.room, c.args.nodes.now.ok.0)

pub settle-requires-clause-placed : goal.settle-requires-clause-placed
settle-requires-clause-placed g c =
    (added_at g.T.Ord.cmp c.args.nodes.now.items c.args.places.now c.args.node c.deref_mut.result.now c.len-place.result c.requires.keeps c.requires.within c.requires.absent
    (c.deref_mut.ensures.value ∙ c.push_reserved.ensures.items) (omega (arith, c.len-place.ensures, c.args.nodes.now.ok.0))).placed

pub settle-requires-clause-loose : goal.settle-requires-clause-loose
settle-requires-clause-loose g c =
    loose_at g.T.Ord.cmp c.args.nodes.now.items c.args.places.now c.args.node g.met.T.Ord.total c.deref_mut.result.now c.len-place.result c.requires.keeps.heap
    (c.deref_mut.ensures.value ∙ c.push_reserved.ensures.items) (omega (arith, c.len-place.ensures, c.args.nodes.now.ok.0))

pub returns-clause-keeps : goal.returns-clause-keeps
returns-clause-keeps g c =
    let with =
    added_at g.T.Ord.cmp c.args.nodes.now.items c.args.places.now c.args.node c.deref_mut.result.now c.len-place.result c.requires.keeps c.requires.within c.requires.absent
    (c.deref_mut.ensures.value ∙ c.push_reserved.ensures.items) (omega (arith, c.len-place.ensures, c.args.nodes.now.ok.0)) in
    let size : length c.settle.new.nodes ≡ c.push_reserved.new.self.len = c.settle.ensures.moved.nodes ∙ ap length c.deref_mut.ensures.value ∙ sym c.push_reserved.new.self.ok.0 in
    subst (λ (ns : List (Ranked g.row.T.Denot)). Keeps g.T.Ord.cmp ns c.settle.new.places) (sym (with_items_is c.push_reserved.new.self c.settle.new.nodes size))
    (settled g.T.Ord.cmp c.deref_mut.result.now c.settle.new.nodes _ c.settle.new.places _ with c.settle.ensures.heap c.settle.ensures.moved).0

pub returns-clause-ranks : goal.returns-clause-ranks
returns-clause-ranks g c =
    let with =
    added_at g.T.Ord.cmp c.args.nodes.now.items c.args.places.now c.args.node c.deref_mut.result.now c.len-place.result c.requires.keeps c.requires.within c.requires.absent
    (c.deref_mut.ensures.value ∙ c.push_reserved.ensures.items) (omega (arith, c.len-place.ensures, c.args.nodes.now.ok.0)) in
    let size : length c.settle.new.nodes ≡ c.push_reserved.new.self.len = c.settle.ensures.moved.nodes ∙ ap length c.deref_mut.ensures.value ∙ sym c.push_reserved.new.self.ok.0 in
    ap (λ (ns : List (Ranked g.row.T.Denot)). ranks_of ns c.settle.new.places) (with_items_is c.push_reserved.new.self c.settle.new.nodes size)
    ∙ (settled g.T.Ord.cmp c.deref_mut.result.now c.settle.new.nodes _ c.settle.new.places _ with c.settle.ensures.heap c.settle.ensures.moved).1
