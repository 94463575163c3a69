use Rattle.machine_base.proofs.KeptLaws.{kept_none, no_items}
use Rattle.machine_base.proofs.board.Board.make.Goals as goal

pub invariant_of-result : goal.invariant_of-result
invariant_of-result c =
    let ranking = c.in_ok-ranking.ranking in (
      kept_none c.in-Ok-make.places ranking.k c.args.room ranking.top ranking.rest c.in-Ok-make.ensures c.requires.room c.in_ok-ranking.ensures.halved c.in_ok-ranking.ensures.empty,
      c.in-Ok.ensures.items,
    )

pub returns-clause-empty : goal.returns-clause-empty
returns-clause-empty c = no_items _ c.args.room c.in_ok-ranking.ensures.empty

pub returns-clause-same_k : goal.returns-clause-same_k
returns-clause-same_k c = c.in_ok-ranking.ensures.same_k
