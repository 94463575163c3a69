use Rattle.bundle_text.specs.Bundle.{content}
use Rattle.bundle_calls.proofs.CompareLaws.{compares_ready}
use Rattle.bundle_calls.proofs.comparing.compare_ready.Goals as goal

pub returns-in-Ok : goal.returns-in-Ok
returns-in-Ok c = compares_ready (content c.args.bundle.now) c.args.ready c.in-Ok.compared c.requires.bundle c.requires.admitted c.in-Ok.ensures
