use Rattle.std.proofs.Common.{length, Some, refl, arith}
use Rattle.std.proofs.lemmas.List.{length-set}
use Rattle.std.proofs.lemmas.Option.{slice_get_read}
use Rattle.containers.proofs.Placing.{key_within, exchanged_by, moved}
use Rattle.containers.proofs.tree.exchange.Goals as goal

pub bounds-nodes-one : goal.bounds-nodes-one
bounds-nodes-one g c = c.requires.one

pub bounds-nodes-other : goal.bounds-nodes-other
bounds-nodes-other g c = c.requires.other

pub bounds-nodes-one-2 : goal.bounds-nodes-one-2
bounds-nodes-one-2 g c = c.requires.one

pub overflow_cast-places : goal.overflow_cast-places
overflow_cast-places g c =
    let few = c.requires.placed.few in
    let one = c.requires.one in
    omega arith

pub overflow_cast-places-3 : goal.overflow_cast-places-3
overflow_cast-places-3 g c =
    let few = c.requires.placed.few in
    let other = c.requires.other in
    omega arith

pub overflow_cast-places-2 : goal.overflow_cast-places-2
overflow_cast-places-2 g c =
    let placed = c.requires.placed in
    let small = placed.small in
    let there = slice_get_read c.args.nodes.now (length c.args.nodes.now) c.args.other c.index-nodes-other.result refl c.requires.other c.index-nodes-other.is in
    let inside = key_within c.args.places.now c.index-nodes-other.result.key c.args.other (placed.of_node c.args.other c.index-nodes-other.result there) in
    omega arith

pub offset_bounds-places-second : goal.offset_bounds-places-second
offset_bounds-places-second g c =
    let placed = c.requires.placed in
    let small = placed.small in
    let there = slice_get_read c.args.nodes.now (length c.args.nodes.now) c.args.other c.index-nodes-other.result refl c.requires.other c.index-nodes-other.is in
    let inside = key_within c.args.places.now c.index-nodes-other.result.key c.args.other (placed.of_node c.args.other c.index-nodes-other.result there) in
    omega arith

pub bounds-places-second : goal.bounds-places-second
bounds-places-second g c =
    let there = slice_get_read c.args.nodes.now (length c.args.nodes.now) c.args.other c.index-nodes-other.result refl c.requires.other c.index-nodes-other.is in
    key_within c.args.places.now c.index-nodes-other.result.key c.args.other (c.requires.placed.of_node c.args.other c.index-nodes-other.result there)

pub overflow_cast-first : goal.overflow_cast-first
overflow_cast-first g c =
    let placed = c.requires.placed in
    let small = placed.small in
    let there = slice_get_read c.args.nodes.now (length c.args.nodes.now) c.args.one c.index-nodes-one.result refl c.requires.one c.index-nodes-one.is in
    let inside = key_within c.args.places.now c.index-nodes-one.result.key c.args.one (placed.of_node c.args.one c.index-nodes-one.result there) in
    omega arith

pub offset_bounds-places-first : goal.offset_bounds-places-first
offset_bounds-places-first g c =
    let placed = c.requires.placed in
    let small = placed.small in
    let there = slice_get_read c.args.nodes.now (length c.args.nodes.now) c.args.one c.index-nodes-one.result refl c.requires.one c.index-nodes-one.is in
    let inside = key_within c.args.places.now c.index-nodes-one.result.key c.args.one (placed.of_node c.args.one c.index-nodes-one.result there) in
    omega arith

pub bounds-places-first : goal.bounds-places-first
bounds-places-first g c =
    let there = slice_get_read c.args.nodes.now (length c.args.nodes.now) c.args.one c.index-nodes-one.result refl c.requires.one c.index-nodes-one.is in
    let inside = key_within c.args.places.now c.index-nodes-one.result.key c.args.one (c.requires.placed.of_node c.args.one c.index-nodes-one.result there) in
    let size = length-set c.args.places.now c.index-nodes-other.result.key (Some c.args.one) in
    omega arith

pub returns-clause-exchanged : goal.returns-clause-exchanged
returns-clause-exchanged g c =
    let nodes = c.args.nodes.now in
    exchanged_by nodes c.args.one c.args.other c.index-nodes-one.result c.index-nodes-other.result c.requires.one c.requires.other
    (slice_get_read nodes (length nodes) c.args.one c.index-nodes-one.result refl c.requires.one c.index-nodes-one.is)
    (slice_get_read nodes (length nodes) c.args.other c.index-nodes-other.result refl c.requires.other c.index-nodes-other.is)

pub returns-clause-moved : goal.returns-clause-moved
returns-clause-moved g c =
    let nodes = c.args.nodes.now in
    moved nodes _ c.args.places.now c.args.one c.args.other c.index-nodes-one.result c.index-nodes-other.result c.requires.placed
    (slice_get_read nodes (length nodes) c.args.one c.index-nodes-one.result refl c.requires.one c.index-nodes-one.is)
    (slice_get_read nodes (length nodes) c.args.other c.index-nodes-other.result refl c.requires.other c.index-nodes-other.is)
    (returns-clause-exchanged g c)
