use Rattle.std.proofs.Common.{◌≡◌, ◌-◌, ap, ◌∙◌, arith}
use Rattle.topk_theory.specs.Transcript.{sorted_count, random_count}
use Rattle.access_log.specs.Log.{Log}
use Rattle.access_log.proofs.Readers.{counts}
use Rattle.access_log.proofs.transcript.Transcript.random.Goals as goal

pub returns : goal.returns
returns c =
    let sum = counts c.self.inside.accesses.items in
    let sorted : c.self.inside.ends.sorted ≡ sorted_count c.self.inside.accesses.items = c.self.invariant.ends.sorted in
    let counted : c.len.result - c.self.inside.ends.sorted ≡ random_count c.self.inside.accesses.items = omega (arith, c.self.inside.accesses.ok.0, c.len.ensures) in
    counted ∙ ap (λ (z : Log). random_count z.accesses) c.self.view_is
