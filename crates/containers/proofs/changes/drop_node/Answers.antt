use Rattle.std.proofs.Common.{◌≡◌, ◌<◌, ◌-◌, ◌∙◌, List, length, sym, ap, subst, arith}
use Rattle.std.proofs.lemmas.List.{with_items_is, length-set}
use Rattle.containers.specs.declared.tree.Ranked.{Ranked}
use Rattle.containers.specs.Tree.{IsPlaced}
use Rattle.containers.proofs.Placing.{dropped, key_within}
use Rattle.containers.proofs.Putting.{place_here}
use Rattle.containers.proofs.changes.drop_node.Goals as goal

pub overflow_sub-last : goal.overflow_sub-last
overflow_sub-last g c =
    let here = place_here g.T.Ord.cmp c.args.key c.args.place c.args.nodes.now.items c.args.places.now c.requires.keeps c.requires.there in
    omega (arith, c.args.nodes.now.ok.0, c.len-last.ensures)

pub exchange-requires-clause-placed : goal.exchange-requires-clause-placed
exchange-requires-clause-placed g c =
    subst (λ (ns : List (Ranked g.row.T.Denot)). IsPlaced ns c.args.places.now) (sym c.deref_mut.ensures.value) c.requires.keeps.placed

pub exchange-requires-clause-one : goal.exchange-requires-clause-one
exchange-requires-clause-one g c =
    let here = place_here g.T.Ord.cmp c.args.key c.args.place c.args.nodes.now.items c.args.places.now c.requires.keeps c.requires.there in
    let same = ap length c.deref_mut.ensures.value in
    omega arith

pub exchange-requires-clause-other : goal.exchange-requires-clause-other
exchange-requires-clause-other g c =
    let here = place_here g.T.Ord.cmp c.args.key c.args.place c.args.nodes.now.items c.args.places.now c.requires.keeps c.requires.there in
    let same = ap length c.deref_mut.ensures.value in
    omega (arith, c.args.nodes.now.ok.0, c.len-last.ensures)

pub offset_bounds-places-key : goal.offset_bounds-places-key
offset_bounds-places-key g c =
    let small = c.exchange.ensures.moved.placed.small in
    let here = key_within c.args.places.now c.args.key c.args.place c.requires.there in
    let same = c.exchange.ensures.moved.places in
    omega arith

pub bounds-places-key : goal.bounds-places-key
bounds-places-key g c =
    let here = key_within c.args.places.now c.args.key c.args.place c.requires.there in
    let same = c.exchange.ensures.moved.places in
    omega arith

pub returns-clause-left : goal.returns-clause-left
returns-clause-left g c =
    let nodes = c.args.nodes.now.items in
    let size : length c.exchange.new.nodes ≡ c.args.nodes.now.len = c.exchange.ensures.moved.nodes ∙ ap length c.deref_mut.ensures.value ∙ sym c.args.nodes.now.ok.0 in
    let here = place_here g.T.Ord.cmp c.args.key c.args.place nodes c.args.places.now c.requires.keeps c.requires.there in
    let some : 0 < c.args.nodes.now.len = omega (arith, c.args.nodes.now.ok.0) in
    (dropped g.T.Ord.cmp g.met.T.Ord.total nodes c.deref_mut.result.now c.exchange.new.nodes c.pop.new.self.items c.args.places.now c.exchange.new.places
    c.args.place (c.len-last.result - 1) c.args.key c.args.nodes.now.len c.pop.new.self.len c.pop.result c.requires.keeps c.requires.there c.deref_mut.ensures.value
    c.exchange.ensures.exchanged c.exchange.ensures.moved c.args.nodes.now.ok.0 some (ap (λ n. n - 1) c.len-last.ensures)
    (sym (with_items_is c.args.nodes.now c.exchange.new.nodes size) ∙ c.pop.ensures.items) c.pop.ensures.cases).0

pub returns-clause-loose : goal.returns-clause-loose
returns-clause-loose g c =
    let nodes = c.args.nodes.now.items in
    let size : length c.exchange.new.nodes ≡ c.args.nodes.now.len = c.exchange.ensures.moved.nodes ∙ ap length c.deref_mut.ensures.value ∙ sym c.args.nodes.now.ok.0 in
    let here = place_here g.T.Ord.cmp c.args.key c.args.place nodes c.args.places.now c.requires.keeps c.requires.there in
    let some : 0 < c.args.nodes.now.len = omega (arith, c.args.nodes.now.ok.0) in
    (dropped g.T.Ord.cmp g.met.T.Ord.total nodes c.deref_mut.result.now c.exchange.new.nodes c.pop.new.self.items c.args.places.now c.exchange.new.places
    c.args.place (c.len-last.result - 1) c.args.key c.args.nodes.now.len c.pop.new.self.len c.pop.result c.requires.keeps c.requires.there c.deref_mut.ensures.value
    c.exchange.ensures.exchanged c.exchange.ensures.moved c.args.nodes.now.ok.0 some (ap (λ n. n - 1) c.len-last.ensures)
    (sym (with_items_is c.args.nodes.now c.exchange.new.nodes size) ∙ c.pop.ensures.items) c.pop.ensures.cases).1

pub returns-clause-heap : goal.returns-clause-heap
returns-clause-heap g c =
    let nodes = c.args.nodes.now.items in
    let size : length c.exchange.new.nodes ≡ c.args.nodes.now.len = c.exchange.ensures.moved.nodes ∙ ap length c.deref_mut.ensures.value ∙ sym c.args.nodes.now.ok.0 in
    let here = place_here g.T.Ord.cmp c.args.key c.args.place nodes c.args.places.now c.requires.keeps c.requires.there in
    let some : 0 < c.args.nodes.now.len = omega (arith, c.args.nodes.now.ok.0) in
    (dropped g.T.Ord.cmp g.met.T.Ord.total nodes c.deref_mut.result.now c.exchange.new.nodes c.pop.new.self.items c.args.places.now c.exchange.new.places
    c.args.place (c.len-last.result - 1) c.args.key c.args.nodes.now.len c.pop.new.self.len c.pop.result c.requires.keeps c.requires.there c.deref_mut.ensures.value
    c.exchange.ensures.exchanged c.exchange.ensures.moved c.args.nodes.now.ok.0 some (ap (λ n. n - 1) c.len-last.ensures)
    (sym (with_items_is c.args.nodes.now c.exchange.new.nodes size) ∙ c.pop.ensures.items) c.pop.ensures.cases).2

pub returns-clause-places : goal.returns-clause-places
returns-clause-places g c = length-set c.exchange.new.places c.args.key _ ∙ c.exchange.ensures.moved.places
