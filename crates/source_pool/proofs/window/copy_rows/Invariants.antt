use Rattle.std.proofs.Common.{◌≡◌, ◌≤◌, ◌-◌, take, drop, vec_len, vec_capacity}
use Rattle.source_state.specs.Log.{rows_in}
use Rattle.source_pool.specs.Windows.{most_rows}
use Rattle.source_pool.proofs.window.copy_rows.Given as goal

-- the rows before a place are copied
abbrev pub invariant-loop-place : goal.invariant-loop-place
invariant-loop-place l = record {
  copied : l.rows.items ≡ take l.place (drop (l.depth - 1) (rows_in l.state.log));
  many : vec_len l.rows ≡ l.place;
  room : most_rows ≤ vec_capacity l.rows;
}
