use Rattle.std.proofs.Common.{sym, subst}
use Rattle.access_log.specs.RecordsKept.{IsGreatestAhead}
use Rattle.access_log.proofs.GreatestAhead.{no_greatest, is_greatest}
use Rattle.access_log.proofs.ahead.Ahead.greatest.Goals as goal

pub returns-in_err-top : goal.returns-in_err-top
returns-in_err-top c = λ m A l h. subst (IsGreatestAhead A c.args.list) (sym c.from_residual.ensures) (no_greatest m c.args.list A c.args.self.now.heaps.items c.index.result.now l h c.index.ensures c.in_err-top.ensures.none)

pub returns : goal.returns
returns c = λ m A l h. is_greatest m c.args.list A c.args.self.now.heaps.items c.index.result.now c.in_ok-top.top.key c.in_ok-top.top.rank l h c.index.ensures c.in_ok-top.ensures.greatest.there c.in_ok-top.ensures.greatest.none_above
