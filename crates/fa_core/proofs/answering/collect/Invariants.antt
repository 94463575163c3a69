use Rattle.std.proofs.Common.{◌≡◌, ◌≤◌, length, map, take}
use Rattle.std.specs.Prelude.{vec_capacity}
use Rattle.monotone_fn.specs.Value.{value}
use Rattle.topk_theory.specs.Transcript.{seen_objects}
use Rattle.fa_core.specs.Course.{valued}
use Rattle.fa_core.proofs.answering.collect.Given as goal

abbrev pub invariant-loop-place : goal.invariant-loop-place
invariant-loop-place l = record {
  items : l.items.items ≡ map (valued (value l.expr) l.transcript.lists l.transcript.accesses) (take l.place (seen_objects l.transcript.accesses));
  few : length l.items.items ≤ l.place;
  capacity : vec_capacity l.items ≡ vec_capacity l.fn.items;
}
