use Rattle.std.proofs.Common.{◌≡◌, map, take, vec_len}
use Rattle.monotone_fn.specs.Shown.{tree_of, term_of}
use Rattle.monotone_fn.proofs.copies.+copy.Given as goal

abbrev pub invariant-copy_nodes-loop-node : goal.invariant-copy_nodes-loop-node
invariant-copy_nodes-loop-node l = record {
  many : vec_len l.items ≡ l.node-index;
  trees : map tree_of l.items.items ≡ map tree_of (take l.node-index l.node-items);
}

abbrev pub invariant-copy_terms-loop-term : goal.invariant-copy_terms-loop-term
invariant-copy_terms-loop-term l = record {
  many : vec_len l.items ≡ l.term-index;
  terms : map term_of l.items.items ≡ map term_of (take l.term-index l.term-items);
}
