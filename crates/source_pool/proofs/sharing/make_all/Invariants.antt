use Rattle.std.proofs.Common.{◌≡◌, ◌≤◌, ◌-◌, All, vec_len, vec_capacity}
use Rattle.source_pool.specs.Remembering.{nothing}
use Rattle.source_pool.proofs.sharing.make_all.Given as goal

-- what is made remembers nothing
abbrev pub invariant-loop-alloc : goal.invariant-loop-alloc
invariant-loop-alloc l = record {
  few : vec_len l.made ≤ vec_len l.holds;
  room : vec_len l.holds ≤ vec_capacity l.made;
  empty : All (λ one. one ≡ nothing) l.made.items;
}

abbrev pub decreases-loop-alloc : goal.decreases-loop-alloc
decreases-loop-alloc l = vec_len l.holds - vec_len l.made
