use Rattle.std.proofs.Common.{◌≡◌, vec_len}
use Rattle.catalog_run.proofs.texts.places.Given as goal

-- each place so far stands
abbrev pub invariant-loop-place : goal.invariant-loop-place
invariant-loop-place l = vec_len l.texts ≡ l.place
