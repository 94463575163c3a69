use Rattle.std.proofs.Common.{◌∙◌}
use Rattle.monotone_fn.specs.Value.{value}
use Rattle.topk_theory.specs.Combined.{phase_length, ca_depth}
use Rattle.test_plain.proofs.Capped.{run_capped}
use Rattle.test_plain.proofs.combined.ca_run.Goals as goal

pub finish-requires-clause-capped : goal.finish-requires-clause-capped
finish-requires-clause-capped c =
    run_capped (value c.args.expr.now) c.args.k (phase_length c.args.costs.sorted c.args.costs.random) c.args.lists.now c.args.expr.now (ca_depth (value c.args.expr.now) c.args.k (phase_length c.args.costs.sorted c.args.costs.random) c.args.lists.now) _ c.requires.posed (c.deref.ensures.value ∙ c.in_ok-accesses.ensures)
