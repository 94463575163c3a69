use Rattle.std.proofs.Common.{◌+◌, ◌≤◌, length, vec_len, vec_capacity}
use Rattle.catalog_open.specs.Views.{view_over, nothing_told}
use Rattle.catalog_open.proofs.Admits.{AdmitsFrom}
use Rattle.catalog_open.proofs.admissions.admit_all.Given as goal

-- what the lines come to behind those that are left, for which there is room
abbrev pub invariant-loop-line : goal.invariant-loop-line
invariant-loop-line l = record {
  from : AdmitsFrom (view_over l.lists.catalog.now l.lists.openings.now nothing_told) l.fn.read.items l.read.items l.outcomes.items l.readies.items;
  room : vec_len l.outcomes + vec_len l.read ≤ vec_capacity l.outcomes;
}

abbrev pub decreases-loop-line : goal.decreases-loop-line
decreases-loop-line l = length l.read.items
