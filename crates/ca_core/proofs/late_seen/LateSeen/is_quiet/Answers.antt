use Rattle.std.proofs.Common.{ap, ◌∙◌}
use Rattle.monotone_fn.specs.Value.{value}
use Rattle.nra_core.specs.Quiet.{is_quiet_seen}
use Rattle.ca_core.proofs.Renewing.{seen_tested}
use Rattle.ca_core.proofs.late_seen.LateSeen.is_quiet.Goals as goal

pub returns-clause-quiet : goal.returns-clause-quiet
returns-clause-quiet c =
    let b = c.args.base.now in
    c.is_quiet.ensures.quiet ∙ ap (λ k. is_quiet_seen (value b.expr) k b.transcript.lists b.transcript.count b.transcript.accesses) c.requires.before.same_k

pub returns-clause-kept : goal.returns-clause-kept
returns-clause-kept c = seen_tested c.args.base.now c.args.self.now c.is_quiet.new.self c.requires.before c.is_quiet.ensures.k c.is_quiet.ensures.room c.is_quiet.ensures.kept
