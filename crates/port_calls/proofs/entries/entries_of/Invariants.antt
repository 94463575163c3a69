use Rattle.std.proofs.Common.{◌≤◌, length, vec_capacity}
use Rattle.port_calls.proofs.ListLaws.{EntriesTo}
use Rattle.port_calls.proofs.entries.entries_of.Given as goal

abbrev pub invariant-loop-place : goal.invariant-loop-place
invariant-loop-place l = EntriesTo l.place l.openings l.entries.items × (length l.openings ≤ vec_capacity l.entries)
