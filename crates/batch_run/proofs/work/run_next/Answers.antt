use Rattle.std.proofs.Common.{◌++◌, ◌∷◌, [], ◌∙◌, ap, refl, sym, subst}
use Rattle.tickets.specs.declared.placing.Done.{Done}
use Rattle.query_run.specs.declared.ended.Ended.{Ended}
use Rattle.query_run.specs.Advancing.{HasSourcesIn}
use Rattle.batch_run.proofs.WorkLaws.{drew_one, drew_short}
use Rattle.batch_run.proofs.work.run_next.Goals as goal

pub run_and_fetch-requires-clause-sources : goal.run_and_fetch-requires-clause-sources
run_and_fetch-requires-clause-sources g c κs within =
    subst (HasSourcesIn c.args.worker.now.pass) (sym c.index-queries-place.is)
    (c.requires.work.sources c.in-Some.number c.index-queries-place.result c.in-Some.ensures.some.0)

pub returns-in-Ok-clause-worked : goal.returns-in-Ok-clause-worked
returns-in-Ok-clause-worked g c =
    let done : Done Ended = record { place = c.in-Some.number; answer = c.in-Ok.answer } in
    drew_one c.args.pool.now c.args.tickets.now c.args.queries.now c.args.worker.now _ c.in-Some.number c.in-Some.number c.index-queries-place.result c.in-Ok.answer
    c.in-Some.ensures.some.1 refl c.in-Some.ensures.some.0 c.index-queries-place.is
    (record { own = c.run_and_fetch.ensures.own; rests = c.run_and_fetch.ensures.rests; advances = c.run_and_fetch.ensures.advances }) c.in-Ok.ensures.ran c.in-Ok.ensures.right
    (c.push_reserved.ensures.items ∙ ap (λ es. es ++ done ∷ []) c.reserve.ensures.items) c.requires.work

pub returns-in-Err-clause-worked : goal.returns-in-Err-clause-worked
returns-in-Err-clause-worked g c =
    drew_short c.args.pool.now c.args.tickets.now c.args.queries.now c.args.worker.now _ c.in-Some.number c.in-Some.number c.index-queries-place.result
    c.in-Some.ensures.some.1 refl c.in-Some.ensures.some.0 c.index-queries-place.is
    (record { own = c.run_and_fetch.ensures.own; rests = c.run_and_fetch.ensures.rests; advances = c.run_and_fetch.ensures.advances }) c.in-Err.ensures.short
    c.reserve.ensures.items c.requires.work
