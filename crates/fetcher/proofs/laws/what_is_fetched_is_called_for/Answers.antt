use Rattle.fetcher.proofs.ClosedLaws.{called_for}
use Rattle.fetcher.proofs.laws.what_is_fetched_is_called_for.Goals as goal

pub returns : goal.returns
returns c = λ page ahead fetched counts now before after pass state some metered closed. called_for page ahead fetched counts now before after pass state some metered closed
