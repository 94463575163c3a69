use Rattle.std.proofs.Common.{◌≢◌, ◌<◌, get_or, arith}
use Rattle.std.proofs.lemmas.List.{take_rest}
use Rattle.topk_base.proofs.FrontLaws.{begins}
use Rattle.topk_base.proofs.fronts.number_before.Goals.{else-place-gt1-via-then-place-gt1+else-text-eq48, else-place-gt1-via-else-place-gt1}
use Rattle.topk_base.proofs.fronts.number_before.Goals as goal

pub returns : goal.returns
returns c =
    let text = c.args.text.now in
    let no_zero : 1 < c.args.place → get_or text 0 0 ≢ 48 = elim c.else-place-gt1.branch [
      | else-place-gt1-via-then-place-gt1+else-text-eq48 w ↦ λ _. w.if-text-eq48.false
      | else-place-gt1-via-else-place-gt1 w ↦ λ more. absurd (omega (arith, w.if-place-gt1.false))
    ] in
    rw (take_rest text c.args.place) (begins text c.args.place c.args.value c.requires (omega (arith, c.if-place-eq0.false)) (omega (arith, c.if-value-gt-MOST.false)) no_zero)
