use Rattle.std.proofs.Common.{◌∙◌, length, refl, sym, ap, arith}
use Rattle.std.proofs.lemmas.Option.{slice_get_read}
use Rattle.containers.specs.Tree.{place_of_key}
use Rattle.containers.proofs.Putting.{place_here, shown_rank}
use Rattle.containers.proofs.heap.IndexedHeap.get.Goals as goal

pub index-requires : goal.index-requires
index-requires g c =
    let i = c.self.inside in
    let there = sym (c.in_ok-place.ensures ∙ ap (λ ps. place_of_key ps c.args.key) c.deref.ensures.value) in
    let within = place_here g.T.Ord.cmp c.args.key c.in_ok-place.place i.nodes.items i.places.items c.self.invariant.keeps there in
    omega (arith, i.nodes.ok.0)

pub returns : goal.returns
returns g c =
    let i = c.self.inside in
    let there = sym (c.in_ok-place.ensures ∙ ap (λ ps. place_of_key ps c.args.key) c.deref.ensures.value) in
    let within = place_here g.T.Ord.cmp c.args.key c.in_ok-place.place i.nodes.items i.places.items c.self.invariant.keeps there in
    shown_rank g.T.Ord.cmp i.room c.args.key c.in_ok-place.place i.nodes.items i.places.items c.args.self.now c.index.result.now c.self.view_is there
    (slice_get_read i.nodes.items (length i.nodes.items) c.in_ok-place.place c.index.result.now refl within c.index.ensures)
