use Rattle.query_server.proofs.WorkerLaws.{all_may_answer}
use Rattle.query_server.proofs.SourceLaws.{keeps_fetched, versions_fetched}
use Rattle.query_server.proofs.generation.serve_workers.Goals as goal

pub serve_sides-served-requires-clause-workers : goal.serve_sides-served-requires-clause-workers
serve_sides-served-requires-clause-workers g c κs within =
    let new = c.requires.new in
    all_may_answer c.args.catalog.now new.0 c.args.worker_pool.now new.1.new_workers new.3

pub returns-clause-kept : goal.returns-clause-kept
returns-clause-kept g c =
    keeps_fetched g.S.Source.list g.S.Source.counts g.S.Source.calls g.S.Source.at_hand c.args.worker_pool.now.pool c.args.settings c.args.worker_pool.now.feeders.items c.take_back.new.feeders.items c.args.slots.now.items
    c.lend.new.slots.items c.serve_sides-served.new.slots.items c.take_back.new.slots.items c.lend.ensures.lent c.serve_sides-served.ensures c.take_back.ensures.back

pub returns-clause-versions : goal.returns-clause-versions
returns-clause-versions g c =
    versions_fetched g.S.Source.list g.S.Source.counts g.S.Source.calls g.S.Source.at_hand c.args.worker_pool.now.pool c.args.settings c.args.worker_pool.now.feeders.items c.take_back.new.feeders.items
    c.args.slots.now.items c.lend.new.slots.items c.serve_sides-served.new.slots.items c.take_back.new.slots.items c.lend.ensures.lent c.serve_sides-served.ensures c.take_back.ensures.back
