use Rattle.std.proofs.Common.{◌≡◌, ◌≤◌, vec_len, vec_capacity}
use Rattle.query_text.specs.Bytes.{bytes_of}
use Rattle.bundle_text.specs.Numbered.{list_names}
use Rattle.made_inputs.proofs.query.made_names.Given as goal

abbrev pub invariant-loop-list : goal.invariant-loop-list
invariant-loop-list l = record {
  names : bytes_of l.names.items ≡ list_names l.list;
  many : vec_len l.names ≡ l.list;
  room : l.lists ≤ vec_capacity l.names;
}
