use Rattle.bundle_calls.proofs.Replying.{as_printed}
use Rattle.bundle_calls.proofs.lists.lists_are_replied_to_as_printed.Goals as goal

pub returns : goal.returns
returns c = as_printed
