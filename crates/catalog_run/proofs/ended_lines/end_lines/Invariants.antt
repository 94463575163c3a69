use Rattle.std.proofs.Common.{◌+◌, ◌≤◌, length, vec_len, vec_capacity}
use Rattle.catalog_run.proofs.EndedLines.{EndsFrom}
use Rattle.catalog_run.proofs.ended_lines.end_lines.Given as goal

-- the outcomes of the lines behind those that are left, for which there is room
abbrev pub invariant-loop-line : goal.invariant-loop-line
invariant-loop-line l = record {
  from : EndsFrom l.fn.admissions.outcomes.items l.lines.items l.fn.admissions.readies.items l.readies.items l.fn.endings.items l.endings.items l.outcomes.items;
  room : vec_len l.outcomes + vec_len l.lines ≤ vec_capacity l.outcomes;
}

abbrev pub decreases-loop-line : goal.decreases-loop-line
decreases-loop-line l = length l.lines.items
