use Rattle.std.proofs.Common.{unwrap_or, ap, ◌∙◌}
use Rattle.query_text.specs.declared.algorithm.Algorithm.TheVariants.{Ta}
use Rattle.query_text.proofs.TakeLaws.{takes_algorithm}
use Rattle.query_text.proofs.draft.Draft.take_algorithm.Goals as goal

pub returns-clause-taken : goal.returns-clause-taken
returns-clause-taken c =
    takes_algorithm c.args.self.now _ c.args.word.now (c.unwrap_or-self.ensures ∙ ap (λ o. unwrap_or o Ta) c.algorithm_of.ensures) c.requires
