use Rattle.std.proofs.Common.{◌≡◌, ◌<◌, ℕ, true, slice_index_or}
use Rattle.query_run.specs.declared.running_query.RunningQuery.{RunningQuery}
use Rattle.query_run.specs.Inquiries.{is_ended}
use Rattle.test_worlds.proofs.lawful.are_ended.Given as goal

-- the queries so far have ended
abbrev pub invariant-loop-place : goal.invariant-loop-place
invariant-loop-place l = (place : ℕ) (d : RunningQuery) → place < l.place → is_ended (slice_index_or l.queries place d) ≡ true
