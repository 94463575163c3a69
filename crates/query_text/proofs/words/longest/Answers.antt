use Rattle.std.proofs.Common.{[], ◌∷◌, codes}
use Rattle.query_text.proofs.LongestLaws.{longest_either}
use Rattle.query_text.proofs.words.longest.Goals as goal

pub returns-in-Options : goal.returns-in-Options
returns-in-Options c =
    rw (c.in-Options.is, c.max.ensures) (longest_either c.args.text.now (codes " cost ") (codes " room " ∷ []) _ _ c.common-in-Options.ensures c.common-in-Options-2.ensures)
