use Rattle.std.proofs.Common.{rules, tests}
use Rattle.std.proofs.lemmas.Iterator.{YieldsList-from_slice}
use Rattle.std.proofs.lemmas.Iterator.Search.{any_from_yields_List}
use Rattle.catalog_run.specs.Texts.{is_long}
use Rattle.catalog_run.proofs.texts.any_long.Goals as goal

pub returns : goal.returns
returns c = any_from_yields_List (λ o. is_long o.outcome) _ _ c.any.result c.any.ensures.ran (YieldsList-from_slice c.args.outcomes.now cc) (λ x b q k. search (rules, tests))
