use Rattle.std.proofs.Common.{◌≡◌, ◌≤◌, length, map, take, Some, vec_capacity}
use Rattle.query_admission.proofs.seek.find_all.Given as goal

-- what is known of the lists of the names so far, with room for those of all
abbrev pub invariant-loop-name : goal.invariant-loop-name
invariant-loop-name g l = record {
  known : map (g.L.Lists.view l.lists).listed (take (length l.yielded) l.names) ≡ map Some l.known.items;
  room : length l.names ≤ vec_capacity l.known;
}
