use Rattle.fetcher.proofs.BringLaws.{page_may}
use Rattle.fetcher.proofs.fetch.tell_page.Goals as goal

pub tell-requires-clause-may : goal.tell-requires-clause-may
tell-requires-clause-may g c = page_may c.args.rows c.args.feeder.now.pass.1 c.requires.may
