use Rattle.std.proofs.Common.{sym, ap, ◌∙◌}
use Rattle.machine_base.specs.Held.{Held, has_object}
use Rattle.topk_theory.specs.Order.{first_k}
use Rattle.machine_base.proofs.BoardLaws.{top_is, no_top, has_object-all, HaveOnePlace-joined}
use Rattle.machine_base.proofs.Placing.{position_at, position_none, none_at}
use Rattle.machine_base.specs.Halves.{joined}
use Rattle.machine_base.proofs.board.Board.is_top.Goals as goal

pub returns-in-Some-clause-by_order : goal.returns-in-Some-clause-by_order
returns-in-Some-clause-by_order c =
    let ranking = c.self.inside.ranking in
    let kept = c.self.invariant.0 in
    let keys = c.self.inside.places.keys in
    let apart = HaveOnePlace-joined keys (joined ranking.top ranking.rest) kept.fits.distinct kept.ranks in
    c.contains.ensures
    ∙ top_is ranking.k ranking.top ranking.rest kept.halved apart keys c.args.object c.in-Some.place kept.fits.distinct kept.ranks (position_at c.args.object keys c.in-Some.place (sym c.place.ensures ∙ c.in-Some.is))
    ∙ ap (λ (v : Held). has_object c.args.object (first_k v.k v.items)) c.self.view_is

pub returns-in-Some-clause-all_of_few : goal.returns-in-Some-clause-all_of_few
returns-in-Some-clause-all_of_few c = λ few.
    returns-in-Some-clause-by_order c ∙ has_object-all c.args.object c.args.self.now.k c.args.self.now.items few

pub returns-in-None-clause-by_order : goal.returns-in-None-clause-by_order
returns-in-None-clause-by_order c =
    let ranking = c.self.inside.ranking in
    let kept = c.self.invariant.0 in
    let keys = c.self.inside.places.keys in
    let apart = HaveOnePlace-joined keys (joined ranking.top ranking.rest) kept.fits.distinct kept.ranks in
    let none = position_none c.args.object keys (sym c.place.ensures ∙ c.in-None.is) in
    no_top ranking.k ranking.top ranking.rest kept.halved apart keys c.args.object kept.ranks (λ place at. none_at c.args.object keys place none at)
    ∙ ap (λ (v : Held). has_object c.args.object (first_k v.k v.items)) c.self.view_is

pub returns-in-None-clause-all_of_few : goal.returns-in-None-clause-all_of_few
returns-in-None-clause-all_of_few c = λ few.
    returns-in-None-clause-by_order c ∙ has_object-all c.args.object c.args.self.now.k c.args.self.now.items few
