use Rattle.std.proofs.Common.{◌+◌, sym}
use Rattle.std.proofs.lemmas.List.{take_rest}
use Rattle.topk_base.proofs.CutLaws.{cut_at_place, cut_nowhere}
use Rattle.topk_base.proofs.cuts.cut_at.Goals as goal

pub returns-in_err-place : goal.returns-in_err-place
returns-in_err-place c = rw c.from_residual.ensures (sym (cut_nowhere c.args.byte c.args.text.now (sym (c.in_err-place.ensures))))

pub returns : goal.returns
returns c =
    let e = cut_at_place c.args.byte c.args.text.now c.in_ok-place.place (sym (c.in_ok-place.ensures)) in
    rw (take_rest c.args.text.now (c.in_ok-place.place + 1)) (sym e)
