use Rattle.std.proofs.Common.{sym, ◌∙◌}
use Rattle.machine_base.proofs.BoardCounts.{kth_passes}
use Rattle.ta_core.specs.Halting.{passes_by}
use Rattle.ta_core.proofs.following.has_enough.Goals as goal

pub returns-in-Some : goal.returns-in-Some
returns-in-Some c =
    c.passes.ensures
    ∙ sym (kth_passes c.args.board.now.k (passes_by c.args.halting c.args.depth c.args.threshold) c.args.board.now.items c.in-Some.low (c.requires.upward c.args.depth c.args.threshold) c.in-Some.ensures.by_count)
