use Rattle.std.proofs.Common.{◌≡◌, ◌∙◌, List, length, is_some, sym, ap, subst, arith}
use Rattle.std.specs.List.{count_by}
use Rattle.std.proofs.lemmas.List.{with_items_is}
use Rattle.containers.specs.declared.tree.Ranked.{Ranked}
use Rattle.containers.specs.Tree.{ranks_of, IsLoose, IsPlaced, IsMoved, Keeps}
use Rattle.containers.proofs.Placing.{settled}
use Rattle.containers.proofs.changes.take_out.Goals as goal

pub settle-requires-clause-placed : goal.settle-requires-clause-placed
settle-requires-clause-placed g c =
    subst (λ (ns : List (Ranked g.row.T.Denot)). IsPlaced ns c.drop_node.new.places) (sym c.deref_mut.ensures.value) c.drop_node.ensures.left.placed

pub settle-requires-clause-loose : goal.settle-requires-clause-loose
settle-requires-clause-loose g c =
    subst (λ (ns : List (Ranked g.row.T.Denot)). IsLoose g.T.Ord.cmp c.args.place ns) (sym c.deref_mut.ensures.value)
    (c.drop_node.ensures.loose (omega (arith, c.len.ensures, c.if-place-len.true, c.drop_node.new.nodes.ok.0)))

pub returns-then-place-len-clause-keeps : goal.returns-then-place-len-clause-keeps
returns-then-place-len-clause-keeps g c =
    let moved =
    subst (λ (ns : List (Ranked g.row.T.Denot)). IsMoved ns c.settle.new.nodes c.drop_node.new.places c.settle.new.places) c.deref_mut.ensures.value c.settle.ensures.moved in
    let size : length c.settle.new.nodes ≡ c.drop_node.new.nodes.len = moved.nodes ∙ sym c.drop_node.new.nodes.ok.0 in
    subst (λ (ns : List (Ranked g.row.T.Denot)). Keeps g.T.Ord.cmp ns c.settle.new.places) (sym (with_items_is c.drop_node.new.nodes c.settle.new.nodes size))
    (settled g.T.Ord.cmp c.drop_node.new.nodes.items c.settle.new.nodes c.drop_node.new.places c.settle.new.places _ c.drop_node.ensures.left c.settle.ensures.heap moved).0

pub returns-then-place-len-clause-ranks : goal.returns-then-place-len-clause-ranks
returns-then-place-len-clause-ranks g c =
    let moved =
    subst (λ (ns : List (Ranked g.row.T.Denot)). IsMoved ns c.settle.new.nodes c.drop_node.new.places c.settle.new.places) c.deref_mut.ensures.value c.settle.ensures.moved in
    let size : length c.settle.new.nodes ≡ c.drop_node.new.nodes.len = moved.nodes ∙ sym c.drop_node.new.nodes.ok.0 in
    ap (λ (ns : List (Ranked g.row.T.Denot)). ranks_of ns c.settle.new.places) (with_items_is c.drop_node.new.nodes c.settle.new.nodes size)
    ∙ (settled g.T.Ord.cmp c.drop_node.new.nodes.items c.settle.new.nodes c.drop_node.new.places c.settle.new.places _ c.drop_node.ensures.left c.settle.ensures.heap moved).1

pub returns-else-place-len-clause-keeps : goal.returns-else-place-len-clause-keeps
returns-else-place-len-clause-keeps g c =
    let left = c.drop_node.ensures.left in
    record {
      placed = left.placed;
      heap = c.drop_node.ensures.heap (omega (arith, c.len.ensures, c.if-place-len.false, c.drop_node.new.nodes.ok.0));
      count = left.count ∙ ap (count_by is_some) (sym left.ranks);
    }
