use Rattle.std.proofs.Common.{refl}
use Rattle.topk_top.proofs.laws.limits_are_stated.Goals as goal

pub returns : goal.returns
returns c = record {
  objects = refl;
  grade = refl;
  bundle_lists = refl;
  input = refl;
  list_text = refl;
  lists = refl;
  nodes = refl;
  depth = refl;
  value = refl;
  weight = refl;
  line = refl;
  number = refl;
  start = refl;
  sources = refl;
  queries = refl;
  conns = refl;
  version = refl;
  page = refl;
  host = refl;
  head = refl;
  headers = refl;
  chunk_line = refl;
  body = refl;
}
