use Rattle.std.proofs.Common.{rules}
use Rattle.source_node.proofs.ServingLaws.{served_once}
use Rattle.source_node.proofs.serving.serve_link.Goals as goal

pub returns-clause-serves : goal.returns-clause-serves
returns-clause-serves g c = served_once _ _ _ _ _ _ _ _ _ _ _ _ c.requires.fresh c.hang_up.ensures.closed (search rules) (search rules)
