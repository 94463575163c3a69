use Rattle.std.proofs.Common.{◌≡◌, ◌≤◌, ◌+◌, All, vec_len, vec_capacity}
use Rattle.source_pool.specs.Remembering.{nothing}
use Rattle.source_pool.proofs.Walks.{SplitTo}
use Rattle.source_pool.proofs.sharing.split_all.Given as goal

abbrev pub invariant-loop-place : goal.invariant-loop-place
invariant-loop-place l = record {
  split : SplitTo l.place l.fn.holds.items l.holds.items l.given.items;
  room : vec_len l.locks ≤ vec_capacity l.given;
  left : vec_len l.made + l.place ≡ vec_len l.locks;
  empty : All (λ one. one ≡ nothing) l.made.items;
}
