use Rattle.std.proofs.Common.{length, sym, subst, ◌∙◌}
use Rattle.workers.specs.Sides.{AreHandles}
use Rattle.workers.proofs.SideLaws.{still_handles}
use Rattle.batch_run.specs.declared.work.Worker.{Worker}
use Rattle.server_conn.specs.Entries.{MayAnswer}
use Rattle.batch_run.proofs.HandleLaws.{all_given, all_served, none_fetched}
use Rattle.query_server.proofs.sides.serve_sides.Goals as goal

pub returns-in_default : goal.returns-in_default
returns-in_default g c =
    none_fetched g.S.Source.list g.S.Source.counts g.S.Source.calls g.S.Source.at_hand g.S.Source.states c.args.pool.now c.args.settings c.args.slots.now.items c.open_sides.new.slots.items
    c.open_sides.ensures.fresh c.in_default.ensures.stay.1

pub work_all-requires-clause-workers : goal.work_all-requires-clause-workers
work_all-requires-clause-workers g c κs within =
    all_given (λ (worker : Worker). MayAnswer c.args.catalog.now c.args.pool.now worker.pass) c.args.workers.now.items c.in-Some.handles.workers.items c.in-Some.ensures.workers c.requires.workers

pub close_sides-requires-clause-handles : goal.close_sides-requires-clause-handles
close_sides-requires-clause-handles g c κs within =
    let did = c.work_all.ensures in
    subst (λ n. AreHandles c.in-Some.table.lock n c.work_all.new.handles) (sym c.in-Some.ensures.table.size)
    (still_handles c.in-Some.table.lock (length c.args.pool.now) c.in-Some.handles c.work_all.new.handles c.in-Some.ensures.handles did.keep did.fetchers did.first)

pub close_sides-requires-clause-size : goal.close_sides-requires-clause-size
close_sides-requires-clause-size g c κs within = c.in-Some.ensures.table.size ∙ sym c.in-Some.ensures.table.many

pub returns : goal.returns
returns g c =
    all_served g.S.Source.list g.S.Source.counts g.S.Source.calls g.S.Source.at_hand g.S.Source.states c.in-Some.table c.args.pool.now c.args.settings c.args.slots.now.items c.close_sides.new.slots.items
    c.in-Some.ensures.table c.in-Some.ensures.began c.close_sides.ensures.served
