use Rattle.std.proofs.Common.{rules}
use Rattle.test_server.proofs.Answering.{are_entries}
use Rattle.test_server.proofs.desk.open_lists.Goals as goal

pub make-requires : goal.make-requires
make-requires c = are_entries _ _ (search rules) (search rules)
