use Rattle.bundle_calls.proofs.CompareLaws.{compared_answered}
use Rattle.bundle_calls.proofs.comparing.compared_are_those_of_one.Goals as goal

pub returns : goal.returns
returns c = compared_answered
