use Rattle.std.proofs.Common.{◌≡◌, ◌-◌, slice_get, ap, ◌∙◌, arith}
use Rattle.bundle_calls.proofs.told.ToldList.row.Goals as goal

pub returns : goal.returns
returns c =
    let above : c.saturating_sub.result ≡ c.args.depth - 1 = omega arith in
    c.get.ensures ∙ ap (slice_get c.self.inside.rows.now) above ∙ ap (λ rows. slice_get rows (c.args.depth - 1)) c.self.view_is
