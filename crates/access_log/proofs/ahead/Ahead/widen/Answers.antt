use Rattle.std.proofs.Common.{ℕ, ◌<◌, List, Option, length, arith}
use Rattle.access_log.proofs.AheadKept.{wider_same, wider_then, is_as_wide, is_wider, one_wider, one_more_has_room}
use Rattle.access_log.proofs.ahead.Ahead.widen.Goals as goal

pub loop-list-init : goal.loop-list-init
loop-list-init c = record { wider = wider_same c.args.self.now.heaps.items; room = λ k h. absurd (omega (arith, h)) }

pub loop-list-preserved : goal.loop-list-preserved
loop-list-preserved c =
    let room = c.args.room in
    let old = c.args.self.now.heaps in
    let heaps : List (List (Option ℕ)) = c.loop-list.self.heaps.items in
    let list = c.loop-list.list in
    let heap = c.index_mut.result.now in
    let now = c.widen.new.self in
    let before = c.loop-list.invariant in
    let within : list < length heaps = omega (arith, c.loop-list-test.true, c.len-list-end.ensures, old.ok.0, before.wider.sized) in
    record {
      wider = wider_then old.items heaps _ before.wider (one_wider heaps list heap _ now within c.index_mut.ensures.value (is_wider room heap now c.in_ok-widen.ensures.ok));
      room = one_more_has_room room heaps list heap now within c.in_ok-widen.ensures.ok before.room;
    }

pub returns-in_err-widen-clause-wider : goal.returns-in_err-widen-clause-wider
returns-in_err-widen-clause-wider c =
    let old = c.args.self.now.heaps in
    let heaps : List (List (Option ℕ)) = c.loop-list.self.heaps.items in
    let list = c.loop-list.list in
    let heap = c.index_mut.result.now in
    let now = c.widen.new.self in
    let before = c.loop-list.invariant in
    let within : list < length heaps = omega (arith, c.loop-list-test.true, c.len-list-end.ensures, old.ok.0, before.wider.sized) in
    wider_then old.items heaps _ before.wider (one_wider heaps list heap _ now within c.index_mut.ensures.value (is_as_wide heap now c.in_err-widen.ensures.err))

pub returns-clause-wider : goal.returns-clause-wider
returns-clause-wider c = c.loop-list.invariant.wider

pub returns-clause-room : goal.returns-clause-room
returns-clause-room c = λ list h.
    let old = c.args.self.now.heaps in
    let before = c.loop-list.invariant in
    before.room list (omega (arith, h, c.loop-list-test.false, c.len-list-end.ensures, old.ok.0, before.wider.sized))
