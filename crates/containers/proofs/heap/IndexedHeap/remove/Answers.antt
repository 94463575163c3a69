use Rattle.std.proofs.Common.{◌∙◌, List, Option, None, length, set, sym, ap, subst, arith}
use Rattle.std.specs.Prelude.{vec_capacity}
use Rattle.std.proofs.lemmas.List.{with_items_is}
use Rattle.containers.specs.Ranks.{ranks_within}
use Rattle.containers.specs.Tree.{place_of_key, ranks_of, Keeps}
use Rattle.containers.proofs.Putting.{reached_here, shows_written, shown_unset}
use Rattle.containers.proofs.heap.IndexedHeap.remove.Goals as goal

pub take_out-requires-clause-keeps : goal.take_out-requires-clause-keeps
take_out-requires-clause-keeps g c =
    subst (λ (ps : List (Option _)). Keeps g.T.Ord.cmp c.self.inside.nodes.items ps) (sym c.deref_mut.ensures.value) c.self.invariant.keeps

pub take_out-requires-clause-there : goal.take_out-requires-clause-there
take_out-requires-clause-there g c =
    ap (λ (ps : List (Option _)). place_of_key ps c.args.key) c.deref_mut.ensures.value
    ∙ sym (c.in-Some.ensures ∙ ap (λ ps. place_of_key ps c.args.key) c.deref.ensures.value)

pub returns-in-Some : goal.returns-in-Some
returns-in-Some g c =
    let i = c.self.inside in
    let filled = c.self.invariant in
    let there = sym (c.in-Some.ensures ∙ ap (λ ps. place_of_key ps c.args.key) c.deref.ensures.value) in
    let here = reached_here g.T.Ord.cmp i.room i.nodes.items i.places.items c.args.self.now c.args.key c.in-Some.place i.nodes.cap i.places.cap filled c.self.view_is there in
    let places_is = with_items_is i.places c.take_out.new.places (c.take_out.ensures.places ∙ ap length c.deref_mut.ensures.value ∙ sym i.places.ok.0) in
    let shows =
    shows_written g.T.Ord.cmp i.room c.args.key (vec_capacity c.take_out.new.nodes) i.places.cap i.nodes.items c.take_out.new.nodes.items i.places.items i.places.items c.take_out.new.places
    c.args.self.now None here c.take_out.ensures.keeps
    (c.take_out.ensures.ranks ∙ ap (λ (ps : List (Option _)). set (ranks_of i.nodes.items ps) c.args.key None) c.deref_mut.ensures.value)
    filled.few (omega (arith, filled.nodes, c.take_out.ensures.capacity)) filled.places in
    ap (λ (ps : List (Option _)). ranks_within i.room (ranks_of c.take_out.new.nodes.items ps)) places_is ∙ shows.is

pub returns-in_default : goal.returns-in_default
returns-in_default g c =
    let i = c.self.inside in
    shown_unset i.room c.args.key i.nodes.items i.places.items c.args.self.now c.self.view_is (sym (c.in_default.ensures ∙ ap (λ ps. place_of_key ps c.args.key) c.deref.ensures.value))
