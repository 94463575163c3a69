use Rattle.std.proofs.Common.{refl}
use Rattle.fetcher.proofs.ServeLaws.{served_more}
use Rattle.fetcher.proofs.serving.serve_turn.Goals as goal

pub returns : goal.returns
returns g c before served =
    served_more g.S.Source.list g.S.Source.counts g.S.Source.calls g.S.Source.at_hand g.S.Source.states c.args.pool.now c.args.page c.args.ahead before c.args.slot.now _ c.in-Some.feeder
    c.fetch_turn-turned.new.feeder c.fetch_turn-turned.result served c.in-Some.is refl c.fetch_turn-turned.ensures.own
    c.fetch_turn-turned.ensures.source c.fetch_turn-turned.ensures.feeds c.fetch_turn-turned.ensures.list c.fetch_turn-turned.ensures.at_hand
    c.fetch_turn-turned.ensures.states c.fetch_turn-turned.ensures.later
    c.fetch_turn-turned.ensures.brings c.fetch_turn-turned.ensures.moved c.fetch_turn-turned.ensures.calls c.counted-slot.ensures
