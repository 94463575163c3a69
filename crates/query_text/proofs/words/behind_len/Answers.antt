use Rattle.std.proofs.Common.{[], ◌∷◌, codes}
use Rattle.query_text.proofs.LongestLaws.{longest_either}
use Rattle.query_text.proofs.words.behind_len.Goals as goal

pub returns-then-inside : goal.returns-then-inside
returns-then-inside c =
    rw (c.if-inside.true, c.max.ensures) (longest_either c.args.text.now (codes ",") (codes ")" ∷ []) _ _ c.common.ensures c.common-then-inside.ensures)
