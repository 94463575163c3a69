use Rattle.std.proofs.Common.{rules, ◌≡◌, [], length, arith, sym, ◌∙◌}
use Rattle.source_pool.proofs.Walks.{joined_none, joined_as, joined_own, other_free, joined_step}
use Rattle.source_pool.proofs.sharing.join_all.Goals as goal

pub join_one-requires-clause-other : goal.join_one-requires-clause-other
join_one-requires-clause-other c =
    let at : c.len-place.result ≡ length c.pop.new.self.items = omega (arith, c.len-place.ensures, c.pop.new.self.ok.0) in
    other_free c.args.locks.now.items c.args.holds.now.items c.args.others.now.items c.loop-other.holds.items c.pop.new.self.items c.in-Some.other c.index.result.now c.len-place.result c.requires.other
    (joined_as _ _ _ _ _ c.in-Some.ensures.items c.loop-other.invariant) at c.index.ensures

pub loop-other-preserved : goal.loop-other-preserved
loop-other-preserved c =
    let at : c.len-place.result ≡ length c.pop.new.self.items = omega (arith, c.len-place.ensures, c.pop.new.self.ok.0) in
    joined_step c.args.locks.now.items c.args.holds.now.items c.args.others.now.items c.loop-other.holds.items c.pop.new.self.items c.in-Some.other c.index_mut.result.now c.join_one.new.hold c.len-place.result
    c.requires.own c.requires.other (joined_as _ _ _ _ _ c.in-Some.ensures.items c.loop-other.invariant) at c.index_mut.ensures.value
    (record { is = c.join_one.ensures.joined; follows = c.join_one.ensures.follows; knows = c.join_one.ensures.knows; name = c.join_one.ensures.name })

pub loop-other-init : goal.loop-other-init
loop-other-init c = joined_none c.args.holds.now.items c.args.others.now.items (c.requires.other.size ∙ sym c.requires.own.size)

pub returns-clause-own : goal.returns-clause-own
returns-clause-own c =
    let none : c.loop-other.others.items ≡ [] = search rules in
    joined_own c.args.locks.now.items c.args.holds.now.items c.args.others.now.items c.loop-other.holds.items [] c.requires.own c.requires.other
    (joined_as _ _ _ _ _ none c.loop-other.invariant)
