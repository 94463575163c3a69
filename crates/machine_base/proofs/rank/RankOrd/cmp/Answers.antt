use Rattle.std.proofs.Common.{◌≢◌, sym, ap, ◌∙◌}
use Rattle.std.specs.Ordering.{ordering_then, nat_cmp}
use Rattle.machine_base.proofs.Comparing.{first_decides, second_decides}
use Rattle.machine_base.proofs.rank.RankOrd.cmp.Goals as goal

pub returns-then-self-other : goal.returns-then-self-other
returns-then-self-other c =
    let one = c.args.self.now in
    let other = c.args.other.now in
    let by_object = nat_cmp one.object other.object in
    let differ : other.low ≢ one.low = λ e. c.if-self-other.true (sym e) in
    c.cmp.ensures ∙ first_decides other.low one.low by_object differ
    ∙ ap (λ o. ordering_then o by_object) (first_decides other.low one.low (nat_cmp other.high one.high) differ)

pub returns-then-self-other-2 : goal.returns-then-self-other-2
returns-then-self-other-2 c =
    let one = c.args.self.now in
    let other = c.args.other.now in
    let by_object = nat_cmp one.object other.object in
    c.cmp-then-self-other-2.ensures ∙ first_decides other.high one.high by_object (λ e. c.if-self-other-2.true (sym e))
    ∙ ap (λ o. ordering_then o by_object) (second_decides other.low one.low (nat_cmp other.high one.high) (sym c.if-self-other.false))

pub returns : goal.returns
returns c =
    let one = c.args.self.now in
    let other = c.args.other.now in
    let by_object = nat_cmp one.object other.object in
    c.cmp-2.ensures ∙ second_decides other.high one.high by_object (sym c.if-self-other-2.false)
    ∙ ap (λ o. ordering_then o by_object) (second_decides other.low one.low (nat_cmp other.high one.high) (sym c.if-self-other.false))
