use Rattle.std.proofs.Common.{sym, ap, ◌∙◌, arith}
use Rattle.std.proofs.lemmas.Option.{same_Some}
use Rattle.containers.specs.declared.slots.Entry.{Entry}
use Rattle.nra_core.proofs.late.least_low.Goals as goal

pub returns : goal.returns
returns c =
    let least = c.in_ok-least.ensures in
    let less = c.if-len-k.false in
    let len = c.len.ensures.len in
    record {
      enough = omega arith;
      slot = c.in_ok-least.least;
      least = least;
      is = ap (λ (x : Entry). x.rank) (same_Some least.entry c.get.result (sym least.there ∙ c.get.ensures));
    }
