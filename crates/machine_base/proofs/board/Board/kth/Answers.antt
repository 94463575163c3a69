use Rattle.std.proofs.Common.{◌<◌, Some, None, length, ap, ◌∙◌, subst}
use Rattle.machine_base.specs.Held.{Held}
use Rattle.machine_base.specs.Halves.{joined}
use Rattle.topk_theory.specs.Order.{kth_low, lows, IsKthLargest}
use Rattle.machine_base.proofs.BoardLaws.{kth_is, kth_counts, HaveOnePlace-joined}
use Rattle.machine_base.proofs.board.Board.kth.Goals as goal

pub returns-in-Some-clause-by_order : goal.returns-in-Some-clause-by_order
returns-in-Some-clause-by_order c =
    let ranking = c.self.inside.ranking in
    let kept = c.self.invariant.0 in
    let apart = HaveOnePlace-joined c.self.inside.places.keys (joined ranking.top ranking.rest) kept.fits.distinct kept.ranks in
    kth_is ranking.k ranking.top ranking.rest kept.halved apart (Some c.in-Some.last) c.in-Some.ensures ∙ ap (λ (v : Held). kth_low v.k v.items) c.self.view_is

pub returns-in-Some-clause-by_count : goal.returns-in-Some-clause-by_count
returns-in-Some-clause-by_count c =
    let ranking = c.self.inside.ranking in
    let kept = c.self.invariant.0 in
    let apart = HaveOnePlace-joined c.self.inside.places.keys (joined ranking.top ranking.rest) kept.fits.distinct kept.ranks in
    subst (λ (v : Held). IsKthLargest v.k (lows v.items) c.in-Some.last.low) c.self.view_is
    (kth_counts ranking.k ranking.top ranking.rest kept.halved apart (Some c.in-Some.last) c.in-Some.ensures)

pub returns-in-None-clause-by_order : goal.returns-in-None-clause-by_order
returns-in-None-clause-by_order c =
    let ranking = c.self.inside.ranking in
    let kept = c.self.invariant.0 in
    let apart = HaveOnePlace-joined c.self.inside.places.keys (joined ranking.top ranking.rest) kept.fits.distinct kept.ranks in
    kth_is ranking.k ranking.top ranking.rest kept.halved apart None c.in-None.ensures ∙ ap (λ (v : Held). kth_low v.k v.items) c.self.view_is

pub returns-in-None-clause-by_count : goal.returns-in-None-clause-by_count
returns-in-None-clause-by_count c =
    let ranking = c.self.inside.ranking in
    let kept = c.self.invariant.0 in
    let apart = HaveOnePlace-joined c.self.inside.places.keys (joined ranking.top ranking.rest) kept.fits.distinct kept.ranks in
    subst (λ (v : Held). length v.items < v.k) c.self.view_is (kth_counts ranking.k ranking.top ranking.rest kept.halved apart None c.in-None.ensures)
