use Rattle.std.proofs.Common.{◌≡◌, ◌≤◌, ◌-◌, ◌++◌, ◌∙◌, ℕ, List, Option, None, length, replicate, is_some, sym, ap, ap₂, subst, arith}
use Rattle.std.specs.Prelude.{vec_capacity}
use Rattle.std.proofs.lemmas.List.Sums.{count_by-le-length}
use Rattle.containers.specs.declared.tree.Ranked.{Ranked}
use Rattle.containers.specs.Ranks.{ranks_within}
use Rattle.containers.specs.Tree.{ranks_of, IsFilled}
use Rattle.containers.proofs.Placing.{length-ranks_of}
use Rattle.containers.proofs.Within.{length-within, wider_within}
use Rattle.containers.proofs.heap.IndexedHeap.widen.Goals as goal

pub overflow_sub-room : goal.overflow_sub-room
overflow_sub-room g c =
    let i = c.self.inside in
    let ranks = ranks_of i.nodes.items i.places.items in
    let count = c.self.invariant.keeps.count in
    let most = count_by-le-length is_some ranks in
    let size = length-ranks_of i.nodes.items i.places.items in
    let within = c.self.invariant.within in
    omega (arith, c.len.ensures, i.nodes.ok.0, c.if-room-self.false)

pub invariant_of-self : goal.invariant_of-self
invariant_of-self g c =
    let i = c.self.inside in
    let filled = c.self.invariant in
    subst (λ (ns : List (Ranked g.row.T.Denot)). IsFilled g.T.Ord.cmp i.room ns i.places.items (vec_capacity c.reserve.new.self) i.places.cap) (sym c.reserve.ensures.items)
    (record { keeps = filled.keeps; few = filled.few; within = filled.within; nodes = omega (arith, filled.nodes, c.reserve.ensures.capacity); places = filled.places })

pub returns-in_default-clause-err : goal.returns-in_default-clause-err
returns-in_default-clause-err g c =
    let i = c.self.inside in
    ap (λ (ns : List (Ranked g.row.T.Denot)). ranks_within i.room (ranks_of ns i.places.items)) c.reserve.ensures.items ∙ c.self.view_is

pub overflow_sub-room-2 : goal.overflow_sub-room-2
overflow_sub-room-2 g c =
    let within = c.self.invariant.within in
    omega (arith, c.len-2.ensures, c.self.inside.places.ok.0, c.if-room-self.false)

pub invariant_of-self-in_default-reserve : goal.invariant_of-self-in_default-reserve
invariant_of-self-in_default-reserve g c =
    let i = c.self.inside in
    let filled = c.self.invariant in
    let ns_room = vec_capacity c.reserve.new.self in
    let ps_room = vec_capacity c.reserve-2.new.self in
    subst (λ (ps : List (Option ℕ)). IsFilled g.T.Ord.cmp i.room c.reserve.new.self.items ps ns_room ps_room) (sym c.reserve-2.ensures.items)
    (subst (λ (ns : List (Ranked g.row.T.Denot)). IsFilled g.T.Ord.cmp i.room ns i.places.items ns_room ps_room) (sym c.reserve.ensures.items)
    (record {
      keeps = filled.keeps;
      few = filled.few;
      within = filled.within;
      nodes = omega (arith, filled.nodes, c.reserve.ensures.capacity);
      places = omega (arith, filled.places, c.reserve-2.ensures.capacity);
    }))

pub returns-in_default-reserve-clause-err : goal.returns-in_default-reserve-clause-err
returns-in_default-reserve-clause-err g c =
    let i = c.self.inside in
    ap₂ (λ (ns : List (Ranked g.row.T.Denot)) (ps : List (Option ℕ)). ranks_within i.room (ranks_of ns ps)) c.reserve.ensures.items c.reserve-2.ensures.items ∙ c.self.view_is

pub returns-clause-ok : goal.returns-clause-ok
returns-clause-ok g c =
    let i = c.self.inside in
    let ranks = ranks_of i.nodes.items i.places.items in
    let filled = c.self.invariant in
    let within = filled.within in
    let few : length ranks ≤ i.room = omega (arith, length-ranks_of i.nodes.items i.places.items) in
    let size : i.room ≡ length c.args.self.now = sym (length-within i.room ranks few) ∙ ap length c.self.view_is in
    let wider : i.room ≤ c.args.room = omega (arith, c.if-room-self.false) in
    ap₂ (λ (ns : List (Ranked g.row.T.Denot)) (ps : List (Option ℕ)). ranks_within c.args.room (ranks_of ns ps)) c.reserve.ensures.items c.reserve-2.ensures.items
    ∙ wider_within i.room c.args.room ranks few wider
    ∙ ap₂ (λ (rs : List (Option g.row.T.Denot)) (n : ℕ). rs ++ replicate (c.args.room - n) None) c.self.view_is size
