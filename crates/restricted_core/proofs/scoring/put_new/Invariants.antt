use Rattle.std.proofs.Common.{◌≡◌, ◌≤◌, length, drop}
use Rattle.monotone_fn.specs.Value.{value}
use Rattle.topk_theory.specs.Transcript.{seen_objects}
use Rattle.restricted_core.specs.Course.{items_with}
use Rattle.restricted_core.proofs.scoring.put_new.Given as goal

abbrev pub invariant-loop-at : goal.invariant-loop-at
invariant-loop-at l = record {
  items : items_with (value l.base.expr) l.base.transcript.lists l.base.transcript.accesses (drop l.at (seen_objects l.base.transcript.accesses)) l.board.items
      ≡ items_with (value l.base.expr) l.base.transcript.lists l.base.transcript.accesses (drop l.fn.place (seen_objects l.base.transcript.accesses)) l.fn.board.items;
  few : length l.board.items ≤ l.at;
  same_k : l.board.k ≡ l.fn.board.k;
  same_room : l.board.room ≡ l.fn.board.room;
}
