use Rattle.std.proofs.Common.{◌≡◌, ◌+◌, ◌<◌, ◌∷◌, [], ◌++◌, List, All, false, vec_len, sym, ap, subst, ◌∙◌, arith}
use Rattle.turn_lock.specs.Known.{all_parts}
use Rattle.test_parts.specs.declared.journal.Reader.{Reader}
use Rattle.test_parts.specs.Readers.{IsReady}
use Rattle.test_parts.proofs.PassLaws.{split_more}
use Rattle.test_parts.proofs.readers.split_readers.Goals as goal

pub returns-then-is_err-clause-own : goal.returns-then-is_err-clause-own
returns-then-is_err-clause-own c = c.loop-made.invariant.0

pub returns-then-is_err-clause-parts : goal.returns-then-is_err-clause-parts
returns-then-is_err-clause-parts c =
    let parts = c.loop-made.invariant.1 in
    let made = c.loop-made.invariant.2 in
    let same = c.reserve.ensures.len in
    omega (arith, parts, made, same)

pub returns-then-is_err-clause-ready : goal.returns-then-is_err-clause-ready
returns-then-is_err-clause-ready c = subst (All (IsReady c.args.lock.now)) (sym c.reserve.ensures.items) c.loop-made.invariant.3

pub loop-made-preserved : goal.loop-made-preserved
loop-made-preserved c =
    let reader : Reader = record { pass = c.split.result; turns = 0; entries = 0; fell = false } in
    let test = c.loop-made-test.true in
    let most = c.requires.readers.1 in
    let below : c.loop-made.made < all_parts = omega (arith, test, most) in
    let same = c.reserve.ensures.len in
    let more = c.push_reserved.ensures.len in
    let longer : vec_len c.push_reserved.new.self ≡ vec_len c.loop-made.readers + 1 = omega (arith, same, more) in
    split_more c.args.lock.now c.loop-made.pass c.split.new.pass c.loop-made.made (vec_len c.loop-made.readers) (vec_len c.push_reserved.new.self)
    c.loop-made.readers.items c.push_reserved.new.self.items reader c.split.ensures.kept c.split.ensures.given below
    c.loop-made.invariant.0 c.loop-made.invariant.1 c.loop-made.invariant.2 c.loop-made.invariant.3 longer
    (c.push_reserved.ensures.items ∙ ap (λ (readers : List Reader). readers ++ reader ∷ []) c.reserve.ensures.items)

pub returns-clause-own : goal.returns-clause-own
returns-clause-own c = c.loop-made.invariant.0

pub returns-clause-parts : goal.returns-clause-parts
returns-clause-parts c =
    let parts = c.loop-made.invariant.1 in
    let made = c.loop-made.invariant.2 in
    omega (arith, parts, made)

pub returns-clause-ready : goal.returns-clause-ready
returns-clause-ready c = c.loop-made.invariant.3
