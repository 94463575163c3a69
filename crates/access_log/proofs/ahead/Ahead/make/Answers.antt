use Rattle.std.proofs.Common.{◌≡◌, [], List, ℕ, Option, length, replicate, ap, ◌∙◌, arith}
use Rattle.std.proofs.lemmas.List.{length-replicate}
use Rattle.access_log.proofs.AheadKept.{ahead_none, none_more}
use Rattle.access_log.proofs.ahead.Ahead.make.Goals as goal

pub loop-list-init : goal.loop-list-init
loop-list-init c = record { none = c.in_ok-heaps.ensures.items; room = c.in_ok-heaps.ensures.capacity }

pub push_reserved-requires : goal.push_reserved-requires
push_reserved-requires c =
    let before = c.loop-list.invariant in
    omega (arith, c.loop-list.heaps.ok.0, ap (length {A = List (Option ℕ)}) before.none, length-replicate {A = List (Option ℕ)} c.loop-list.list [], c.loop-list-test.true, before.room)

pub loop-list-preserved : goal.loop-list-preserved
loop-list-preserved c =
    let before = c.loop-list.invariant in
    record {
      none = none_more c.loop-list.list _ _ c.in_ok-make.field-0 c.push_reserved.ensures.items before.none c.in_ok-make.ensures;
      room = omega (arith, before.room, c.push_reserved.ensures.capacity);
    }

pub returns : goal.returns
returns c =
    let done : c.loop-list.list ≡ c.args.lists = omega (arith, c.loop-list-test.false, c.loop-list.auto.list-end) in
    record { empty = ahead_none c.args.lists _ (c.loop-list.invariant.none ∙ ap (λ n. replicate {A = List (Option ℕ)} n []) done) }
