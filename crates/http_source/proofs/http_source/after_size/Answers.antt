use Rattle.source_api.proofs.CountLaws.{none_fell_same}
use Rattle.http_source.proofs.http_source.after_size.Goals as goal

pub returns-in-Ok-clause-later : goal.returns-in-Ok-clause-later
returns-in-Ok-clause-later c = none_fell_same c.args.counted
