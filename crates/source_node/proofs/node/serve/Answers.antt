use Rattle.std.proofs.Common.{ℕ, Vec, Global}
use Rattle.std.specs.Result.{result_map_both}
use Rattle.source_node.specs.Serving.{seen}
use Rattle.wire.specs.declared.refusal.Refusal.{Refusal}
use Rattle.source_node.proofs.EndLaws.{serves_asked, serves_refused}
use Rattle.source_node.proofs.node.serve.Goals as goal

pub returns-in-Ok-clause-serves : goal.returns-in-Ok-clause-serves
returns-in-Ok-clause-serves g c =
    serves_asked c.args.routes.now c.args.head.now.method c.args.head.now.target.items c.args.version
    (seen (g.S.Source.list c.args.source.now) (g.S.Source.counts c.args.source.now) (g.S.Source.calls c.args.source.now) (g.S.Source.at_hand c.args.source.now) (g.S.Source.states c.args.source.now))
    (seen (g.S.Source.list c.serve_asked.new.source) (g.S.Source.counts c.serve_asked.new.source) (g.S.Source.calls c.serve_asked.new.source) (g.S.Source.at_hand c.serve_asked.new.source) (g.S.Source.states c.serve_asked.new.source))
    c.in-Ok.asked (result_map_both (λ (body : Vec ℕ Global). body.items) (λ (why : Refusal). why) c.serve_asked.result)
    c.in-Ok.ensures.asks c.in-Ok.ensures.count c.serve_asked.ensures.serves

pub returns-in-Err-clause-serves : goal.returns-in-Err-clause-serves
returns-in-Err-clause-serves g c =
    serves_refused c.args.routes.now c.args.head.now.method c.args.head.now.target.items c.args.version
    (seen (g.S.Source.list c.args.source.now) (g.S.Source.counts c.args.source.now) (g.S.Source.calls c.args.source.now) (g.S.Source.at_hand c.args.source.now) (g.S.Source.states c.args.source.now))
    c.in-Err.why c.in-Err.ensures.asks
