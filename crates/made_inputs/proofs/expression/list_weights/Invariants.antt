use Rattle.std.proofs.Common.{◌≡◌, ◌≤◌, map, vec_len, vec_capacity}
use Rattle.monotone_fn.specs.Shown.{term_of}
use Rattle.made_inputs.specs.MadeQueries.{list_terms}
use Rattle.made_inputs.proofs.expression.list_weights.Given as goal

abbrev pub invariant-loop-list : goal.invariant-loop-list
invariant-loop-list l = record {
  terms : map term_of l.weights.items ≡ list_terms l.list;
  many : vec_len l.weights ≡ l.list;
  room : l.lists ≤ vec_capacity l.weights;
}
