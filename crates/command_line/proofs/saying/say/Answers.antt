use Rattle.command_line.proofs.Ending.{said}
use Rattle.command_line.proofs.saying.say.Goals as goal

pub returns-clause-says : goal.returns-clause-says
returns-clause-says g c =
    said _ _ _ _ c.args.text.now c.args.status c.ended.result c.write_text-written.result c.write_text-written.ensures.whole c.write_text-written.ensures.front c.write_text-written.ensures.cause c.ended.ensures
