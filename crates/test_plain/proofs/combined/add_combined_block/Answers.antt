use Rattle.std.proofs.Common.{◌∙◌}
use Rattle.test_plain.proofs.Capped.{row_read_capped}
use Rattle.test_plain.proofs.combined.add_combined_block.Goals as goal

pub phase_after-requires-clause-capped : goal.phase_after-requires-clause-capped
phase_after-requires-clause-capped c =
    row_read_capped c.args.lists.now c.args.expr.now c.args.accesses.now.items _ c.args.depth c.requires.posed c.requires.capped (c.deref.ensures.value ∙ c.in_ok-add_sorted_block.ensures)
