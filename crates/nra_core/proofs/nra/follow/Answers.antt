use Rattle.std.proofs.Common.{ap, refl, ◌∙◌, arith}
use Rattle.monotone_fn.specs.Value.{value}
use Rattle.nra_core.specs.Quiet.{is_quiet_seen}
use Rattle.nra_core.proofs.Feeds.{place_made, place_below}
use Rattle.nra_core.proofs.nra.follow.Goals as goal

pub is_quiet-requires-clause-lists : goal.is_quiet-requires-clause-lists
is_quiet-requires-clause-lists c = c.requires.held.posed.lists

pub is_quiet-requires-clause-agrees : goal.is_quiet-requires-clause-agrees
is_quiet-requires-clause-agrees c = c.requires.held.agreeing

pub is_quiet-requires-clause-kept : goal.is_quiet-requires-clause-kept
is_quiet-requires-clause-kept c = c.requires.late

pub returns-then-is_quiet-clause-place : goal.returns-then-is_quiet-clause-place
returns-then-is_quiet-clause-place c =
    let base = c.args.base.now in
    let t = base.transcript in
    place_made t.lists (is_quiet_seen (value base.expr) base.k t.lists t.count t.accesses) c.args.place (let last = c.if-place-lists.false in omega (arith, c.lists.ensures.lists))
    (c.if-is_quiet.ensures.quiet ∙ ap (λ k. is_quiet_seen (value base.expr) k t.lists t.count t.accesses) c.requires.asked)

pub returns-clause-place : goal.returns-clause-place
returns-clause-place c =
    let base = c.args.base.now in
    let t = base.transcript in
    place_below t.lists (is_quiet_seen (value base.expr) base.k t.lists t.count t.accesses) c.args.place _ (let last = c.if-place-lists.false in omega (arith, c.lists.ensures.lists))
    (c.if-is_quiet.ensures.quiet ∙ ap (λ k. is_quiet_seen (value base.expr) k t.lists t.count t.accesses) c.requires.asked) refl
