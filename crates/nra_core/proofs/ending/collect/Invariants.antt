use Rattle.std.proofs.Common.{◌≡◌, ◌≤◌, length}
use Rattle.std.specs.Prelude.{vec_capacity}
use Rattle.monotone_fn.specs.Value.{value}
use Rattle.nra_core.proofs.Collected.{collected}
use Rattle.nra_core.proofs.ending.collect.Given as goal

abbrev pub invariant-loop-place : goal.invariant-loop-place
invariant-loop-place l = record {
  items : l.items.items ≡ collected (value l.expr) l.transcript.lists l.transcript.accesses l.bound l.place;
  few : length l.items.items ≤ l.place;
  capacity : vec_capacity l.items ≡ vec_capacity l.fn.items;
}
