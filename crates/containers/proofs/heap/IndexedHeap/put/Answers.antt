use Rattle.std.proofs.Common.{◌∙◌, List, Option, Some, length, set, sym, ap, ap₂, subst, arith}
use Rattle.std.specs.Prelude.{vec_capacity}
use Rattle.std.specs.Vec.{with_items}
use Rattle.std.proofs.lemmas.List.{with_items_is}
use Rattle.containers.specs.declared.tree.Ranked.{Ranked}
use Rattle.containers.specs.Ranks.{ranks_within}
use Rattle.containers.specs.Tree.{place_of_key, ranks_of, Keeps, IsFilled}
use Rattle.containers.proofs.Putting.{reached, shows_written, place_here}
use Rattle.containers.proofs.heap.IndexedHeap.put.Goals as goal

pub change-requires-clause-keeps : goal.change-requires-clause-keeps
change-requires-clause-keeps g c =
    let i = c.self.inside in
    let long =
    reached g.T.Ord.cmp i.room i.nodes.items i.places.items c.args.self.now c.args.key i.nodes.cap i.places.cap c.reach.new.places.items c.self.invariant c.self.view_is c.requires
    c.reach.ensures.items in
    subst (λ (ns : List (Ranked g.row.T.Denot)). Keeps g.T.Ord.cmp ns c.deref_mut-in-Some.result.now) (sym c.deref_mut.ensures.value)
    (subst (λ (ps : List (Option _)). Keeps g.T.Ord.cmp i.nodes.items ps) (sym c.deref_mut-in-Some.ensures.value) long.keeps)

pub change-requires-clause-there : goal.change-requires-clause-there
change-requires-clause-there g c =
    ap (λ (ps : List (Option _)). place_of_key ps c.args.key) c.deref_mut-in-Some.ensures.value
    ∙ sym (c.in-Some.ensures ∙ ap (λ ps. place_of_key ps c.args.key) c.deref.ensures.value)

pub change-requires-clause-within : goal.change-requires-clause-within
change-requires-clause-within g c =
    let i = c.self.inside in
    let long =
    reached g.T.Ord.cmp i.room i.nodes.items i.places.items c.args.self.now c.args.key i.nodes.cap i.places.cap c.reach.new.places.items c.self.invariant c.self.view_is c.requires
    c.reach.ensures.items in
    let there = sym (c.in-Some.ensures ∙ ap (λ ps. place_of_key ps c.args.key) c.deref.ensures.value) in
    let here = place_here g.T.Ord.cmp c.args.key c.in-Some.place i.nodes.items c.reach.new.places.items long.keeps there in
    let same = ap length c.deref_mut.ensures.value in
    omega arith

pub add-requires-clause-keeps : goal.add-requires-clause-keeps
add-requires-clause-keeps g c =
    let i = c.self.inside in
    let long =
    reached g.T.Ord.cmp i.room i.nodes.items i.places.items c.args.self.now c.args.key i.nodes.cap i.places.cap c.reach.new.places.items c.self.invariant c.self.view_is c.requires
    c.reach.ensures.items in
    subst (λ (ps : List (Option _)). Keeps g.T.Ord.cmp i.nodes.items ps) (sym c.deref_mut-in-None.ensures.value) long.keeps

pub add-requires-clause-within : goal.add-requires-clause-within
add-requires-clause-within g c =
    let i = c.self.inside in
    let long =
    reached g.T.Ord.cmp i.room i.nodes.items i.places.items c.args.self.now c.args.key i.nodes.cap i.places.cap c.reach.new.places.items c.self.invariant c.self.view_is c.requires
    c.reach.ensures.items in
    let here = long.here in
    let same = ap length c.deref_mut-in-None.ensures.value in
    omega arith

pub add-requires-clause-absent : goal.add-requires-clause-absent
add-requires-clause-absent g c =
    ap (λ (ps : List (Option _)). place_of_key ps c.args.key) c.deref_mut-in-None.ensures.value
    ∙ sym (c.in-None.ensures ∙ ap (λ ps. place_of_key ps c.args.key) c.deref.ensures.value)

pub add-requires-clause-room : goal.add-requires-clause-room
add-requires-clause-room g c =
    let i = c.self.inside in
    let long =
    reached g.T.Ord.cmp i.room i.nodes.items i.places.items c.args.self.now c.args.key i.nodes.cap i.places.cap c.reach.new.places.items c.self.invariant c.self.view_is c.requires
    c.reach.ensures.items in
    let within = long.within in
    let fits = c.self.invariant.nodes in
    let same = ap length c.deref_mut-in-None.ensures.value in
    omega arith

pub invariant_of-self : goal.invariant_of-self
invariant_of-self g c =
    let i = c.self.inside in
    let long =
    reached g.T.Ord.cmp i.room i.nodes.items i.places.items c.args.self.now c.args.key i.nodes.cap i.places.cap c.reach.new.places.items c.self.invariant c.self.view_is c.requires
    c.reach.ensures.items in
    let filled = c.self.invariant in
    let nodes_is =
    with_items_is i.nodes c.change.new.nodes (c.change.ensures.nodes ∙ ap length c.deref_mut.ensures.value ∙ sym i.nodes.ok.0) in
    let places_is =
    with_items_is c.reach.new.places c.change.new.places (c.change.ensures.places ∙ ap length c.deref_mut-in-Some.ensures.value ∙ sym c.reach.new.places.ok.0) in
    let shows =
    shows_written g.T.Ord.cmp i.room c.args.key i.nodes.cap c.reach.new.places.cap i.nodes.items c.change.new.nodes i.places.items c.reach.new.places.items c.change.new.places
    c.args.self.now (Some c.args.rank) long c.change.ensures.keeps
    (c.change.ensures.ranks ∙ ap₂ (λ (ns : List (Ranked g.row.T.Denot)) (ps : List (Option _)). set (ranks_of ns ps) c.args.key (Some c.args.rank)) c.deref_mut.ensures.value c.deref_mut-in-Some.ensures.value)
    filled.few filled.nodes (omega (arith, filled.places, c.reach.ensures.capacity)) in
    subst (λ (ps : List (Option _)). IsFilled g.T.Ord.cmp i.room (with_items i.nodes c.change.new.nodes).items ps i.nodes.cap c.reach.new.places.cap) (sym places_is)
    (subst (λ (ns : List (Ranked g.row.T.Denot)). IsFilled g.T.Ord.cmp i.room ns c.change.new.places i.nodes.cap c.reach.new.places.cap) (sym nodes_is) shows.filled)

pub returns-in-Some : goal.returns-in-Some
returns-in-Some g c =
    let i = c.self.inside in
    let long =
    reached g.T.Ord.cmp i.room i.nodes.items i.places.items c.args.self.now c.args.key i.nodes.cap i.places.cap c.reach.new.places.items c.self.invariant c.self.view_is c.requires
    c.reach.ensures.items in
    let filled = c.self.invariant in
    let nodes_is =
    with_items_is i.nodes c.change.new.nodes (c.change.ensures.nodes ∙ ap length c.deref_mut.ensures.value ∙ sym i.nodes.ok.0) in
    let places_is =
    with_items_is c.reach.new.places c.change.new.places (c.change.ensures.places ∙ ap length c.deref_mut-in-Some.ensures.value ∙ sym c.reach.new.places.ok.0) in
    let shows =
    shows_written g.T.Ord.cmp i.room c.args.key i.nodes.cap c.reach.new.places.cap i.nodes.items c.change.new.nodes i.places.items c.reach.new.places.items c.change.new.places
    c.args.self.now (Some c.args.rank) long c.change.ensures.keeps
    (c.change.ensures.ranks ∙ ap₂ (λ (ns : List (Ranked g.row.T.Denot)) (ps : List (Option _)). set (ranks_of ns ps) c.args.key (Some c.args.rank)) c.deref_mut.ensures.value c.deref_mut-in-Some.ensures.value)
    filled.few filled.nodes (omega (arith, filled.places, c.reach.ensures.capacity)) in
    ap₂ (λ (ns : List (Ranked g.row.T.Denot)) (ps : List (Option _)). ranks_within i.room (ranks_of ns ps)) nodes_is places_is ∙ shows.is

pub invariant_of-self-in-None : goal.invariant_of-self-in-None
invariant_of-self-in-None g c =
    let i = c.self.inside in
    let long =
    reached g.T.Ord.cmp i.room i.nodes.items i.places.items c.args.self.now c.args.key i.nodes.cap i.places.cap c.reach.new.places.items c.self.invariant c.self.view_is c.requires
    c.reach.ensures.items in
    let filled = c.self.invariant in
    let places_is =
    with_items_is c.reach.new.places c.add.new.places (c.add.ensures.places ∙ ap length c.deref_mut-in-None.ensures.value ∙ sym c.reach.new.places.ok.0) in
    let shows =
    shows_written g.T.Ord.cmp i.room c.args.key (vec_capacity c.add.new.nodes) c.reach.new.places.cap i.nodes.items c.add.new.nodes.items i.places.items c.reach.new.places.items c.add.new.places
    c.args.self.now (Some c.args.rank) long c.add.ensures.keeps
    (c.add.ensures.ranks ∙ ap (λ (ps : List (Option _)). set (ranks_of i.nodes.items ps) c.args.key (Some c.args.rank)) c.deref_mut-in-None.ensures.value)
    filled.few (omega (arith, filled.nodes, c.add.ensures.capacity)) (omega (arith, filled.places, c.reach.ensures.capacity)) in
    subst (λ (ps : List (Option _)). IsFilled g.T.Ord.cmp i.room c.add.new.nodes.items ps (vec_capacity c.add.new.nodes) c.reach.new.places.cap) (sym places_is) shows.filled

pub returns-in-None : goal.returns-in-None
returns-in-None g c =
    let i = c.self.inside in
    let long =
    reached g.T.Ord.cmp i.room i.nodes.items i.places.items c.args.self.now c.args.key i.nodes.cap i.places.cap c.reach.new.places.items c.self.invariant c.self.view_is c.requires
    c.reach.ensures.items in
    let filled = c.self.invariant in
    let places_is =
    with_items_is c.reach.new.places c.add.new.places (c.add.ensures.places ∙ ap length c.deref_mut-in-None.ensures.value ∙ sym c.reach.new.places.ok.0) in
    let shows =
    shows_written g.T.Ord.cmp i.room c.args.key (vec_capacity c.add.new.nodes) c.reach.new.places.cap i.nodes.items c.add.new.nodes.items i.places.items c.reach.new.places.items c.add.new.places
    c.args.self.now (Some c.args.rank) long c.add.ensures.keeps
    (c.add.ensures.ranks ∙ ap (λ (ps : List (Option _)). set (ranks_of i.nodes.items ps) c.args.key (Some c.args.rank)) c.deref_mut-in-None.ensures.value)
    filled.few (omega (arith, filled.nodes, c.add.ensures.capacity)) (omega (arith, filled.places, c.reach.ensures.capacity)) in
    ap (λ (ps : List (Option _)). ranks_within i.room (ranks_of c.add.new.nodes.items ps)) places_is ∙ shows.is
