use Rattle.std.proofs.Common.{refl, sym, subst, ◌∙◌, arith}
use Rattle.std.proofs.lemmas.Result.{IfOk-weaker}
use Rattle.query_run.proofs.Stops.{failed_too}
use Rattle.batch_result.specs.Batches.{IsBatch}
use Rattle.batch_result.specs.Cut.{IsCut}
use Rattle.batch_run.specs.Slots.{states_of}
use Rattle.batch_run.specs.Finishing.{slots_run, CanFinish}
use Rattle.batch_run.proofs.WorkerLaws.{all_at_work}
use Rattle.batch_run.proofs.SlotLaws.{all_fed, all_fresh, all_full}
use Rattle.batch_run.proofs.RunLaws.{run_is, failed_so, has_run, kept_lists, kept_versions, kept_counts, counts_same}
use Rattle.batch_run.proofs.UncalledLaws.{cut_uncalled}
use Rattle.batch_run.proofs.run.run_all.Goals as goal

pub returns-in_err-worker_pool-clause-later : goal.returns-in_err-worker_pool-clause-later
returns-in_err-worker_pool-clause-later g c = counts_same g.S.Source.list g.S.Source.counts g.S.Source.calls g.S.Source.at_hand c.args.sources.now.items

pub returns-in_err-worker_pool-clause-cut : goal.returns-in_err-worker_pool-clause-cut
returns-in_err-worker_pool-clause-cut g c =
    failed_too c.from_residual.result (cut_uncalled g.S.Source.list g.S.Source.counts g.S.Source.calls g.S.Source.at_hand c.args.settings c.args.counts.now c.args.queries.now c.args.sources.now.items
    ((g.met.S.Source g.world.𝓛 g.world.𝓜 g.world.𝓡 ((λ s x. x), (λ x. x), (λ x. x), λ x. x)).distinct) c.requires.sources c.requires.counts)

pub run_sides-requires-clause-workers : goal.run_sides-requires-clause-workers
run_sides-requires-clause-workers g c κs within =
    let new = c.in_ok-worker_pool.ensures in
    let worker_pool = c.in_ok-worker_pool.worker_pool in
    all_at_work worker_pool.pool worker_pool.tickets c.args.counts.now worker_pool.pass worker_pool.draws worker_pool.workers.items c.args.queries.now new.new_workers c.requires.ready

pub run_sides-requires-clause-feeders : goal.run_sides-requires-clause-feeders
run_sides-requires-clause-feeders g c κs within =
    let new = c.in_ok-worker_pool.ensures in
    let worker_pool = c.in_ok-worker_pool.worker_pool in
    let feeders = new.feeders.size in
    let size = new.new_workers.base.size in
    let many = c.requires.sources in
    all_fed g.S.Source.list g.S.Source.counts g.S.Source.calls g.S.Source.at_hand worker_pool.pool worker_pool.feeders.items c.args.sources.now.items c.lend.new.slots.items
    (omega (arith, feeders, size, many)) new.feeders
    c.lend.ensures.lent

pub run_sides-requires-clause-fresh : goal.run_sides-requires-clause-fresh
run_sides-requires-clause-fresh g c κs within =
    all_fresh g.S.Source.list g.S.Source.counts g.S.Source.calls g.S.Source.at_hand c.in_ok-worker_pool.worker_pool.feeders.items c.args.sources.now.items c.lend.new.slots.items
    c.lend.ensures.lent

pub run_sides-requires-clause-many : goal.run_sides-requires-clause-many
run_sides-requires-clause-many g c κs within =
    let new = c.in_ok-worker_pool.ensures in
    let size = new.new_workers.base.size in
    let many = c.requires.sources in
    let given = c.lend.ensures.lent in
    given.size ∙ (sym many ∙ sym size)

pub take_back-requires-clause-full : goal.take_back-requires-clause-full
take_back-requires-clause-full g c κs within =
    all_full g.S.Source.list g.S.Source.counts g.S.Source.calls g.S.Source.at_hand c.in_ok-worker_pool.worker_pool.pool c.args.settings _ c.run_sides.new.slots.items c.run_sides.ensures.fetched

pub returns-clause-lists : goal.returns-clause-lists
returns-clause-lists g c =
    let ran = has_run g.S.Source.list g.S.Source.counts g.S.Source.calls g.S.Source.at_hand c.args.settings c.args.counts.now c.args.queries.now c.in_ok-worker_pool.worker_pool (record c.in_ok-worker_pool.worker_pool { feeders = c.take_back.new.feeders; workers = c.run_sides.new.workers })
    c.args.sources.now.items c.lend.new.slots.items c.run_sides.new.slots.items c.take_back.new.slots.items
    c.in_ok-worker_pool.ensures c.requires.sources
    c.lend.ensures.lent
    c.run_sides.ensures.fetched
    c.take_back.ensures.back
    c.run_sides.ensures.worked refl in
    kept_lists g.S.Source.list g.S.Source.counts g.S.Source.calls g.S.Source.at_hand c.args.settings c.args.counts.now c.args.queries.now c.args.sources.now.items c.take_back.new.slots.items _ ran

pub returns-clause-versions : goal.returns-clause-versions
returns-clause-versions g c =
    let ran = has_run g.S.Source.list g.S.Source.counts g.S.Source.calls g.S.Source.at_hand c.args.settings c.args.counts.now c.args.queries.now c.in_ok-worker_pool.worker_pool (record c.in_ok-worker_pool.worker_pool { feeders = c.take_back.new.feeders; workers = c.run_sides.new.workers })
    c.args.sources.now.items c.lend.new.slots.items c.run_sides.new.slots.items c.take_back.new.slots.items
    c.in_ok-worker_pool.ensures c.requires.sources
    c.lend.ensures.lent
    c.run_sides.ensures.fetched
    c.take_back.ensures.back
    c.run_sides.ensures.worked refl in
    kept_versions g.S.Source.list g.S.Source.counts g.S.Source.calls g.S.Source.at_hand c.args.settings c.args.counts.now c.args.queries.now c.args.sources.now.items c.take_back.new.slots.items _ ran

pub returns-clause-later : goal.returns-clause-later
returns-clause-later g c =
    let ran = has_run g.S.Source.list g.S.Source.counts g.S.Source.calls g.S.Source.at_hand c.args.settings c.args.counts.now c.args.queries.now c.in_ok-worker_pool.worker_pool (record c.in_ok-worker_pool.worker_pool { feeders = c.take_back.new.feeders; workers = c.run_sides.new.workers })
    c.args.sources.now.items c.lend.new.slots.items c.run_sides.new.slots.items c.take_back.new.slots.items
    c.in_ok-worker_pool.ensures c.requires.sources
    c.lend.ensures.lent
    c.run_sides.ensures.fetched
    c.take_back.ensures.back
    c.run_sides.ensures.worked refl in
    kept_counts g.S.Source.list g.S.Source.counts g.S.Source.calls g.S.Source.at_hand c.args.settings c.args.counts.now c.args.queries.now c.args.sources.now.items c.take_back.new.slots.items _ ran

pub finish-requires-after_bounds : goal.finish-requires-after_bounds
finish-requires-after_bounds g c κs within =
    let ran = has_run g.S.Source.list g.S.Source.counts g.S.Source.calls g.S.Source.at_hand c.args.settings c.args.counts.now c.args.queries.now c.in_ok-worker_pool.worker_pool (record c.in_ok-worker_pool.worker_pool { feeders = c.take_back.new.feeders; workers = c.run_sides.new.workers })
    c.args.sources.now.items c.lend.new.slots.items c.run_sides.new.slots.items c.take_back.new.slots.items
    c.in_ok-worker_pool.ensures c.requires.sources
    c.lend.ensures.lent
    c.run_sides.ensures.fetched
    c.take_back.ensures.back
    c.run_sides.ensures.worked refl in
    let before = states_of g.S.Source.list g.S.Source.counts g.S.Source.calls g.S.Source.at_hand c.args.sources.now.items in
    let can : CanFinish c.args.settings c.args.counts.now c.args.queries.now before (states_of g.S.Source.list g.S.Source.counts g.S.Source.calls g.S.Source.at_hand c.take_back.new.slots.items) (record c.in_ok-worker_pool.worker_pool { feeders = c.take_back.new.feeders; workers = c.run_sides.new.workers }) =
    record { settings_are = c.requires.settings; ran = ran; few = (c.requires.few_queries, c.requires.few_sources) } in
    let lent = subst (λ slots. CanFinish c.args.settings c.args.counts.now c.args.queries.now before (states_of g.S.Source.list g.S.Source.counts g.S.Source.calls g.S.Source.at_hand slots) (record c.in_ok-worker_pool.worker_pool { feeders = c.take_back.new.feeders; workers = c.run_sides.new.workers }))
    (sym c.deref.ensures.value) can in
    (c.args.settings, c.args.counts.now, c.args.queries.now, before, lent)

pub returns-clause-cut : goal.returns-clause-cut
returns-clause-cut g c =
    let ran = has_run g.S.Source.list g.S.Source.counts g.S.Source.calls g.S.Source.at_hand c.args.settings c.args.counts.now c.args.queries.now c.in_ok-worker_pool.worker_pool (record c.in_ok-worker_pool.worker_pool { feeders = c.take_back.new.feeders; workers = c.run_sides.new.workers })
    c.args.sources.now.items c.lend.new.slots.items c.run_sides.new.slots.items c.take_back.new.slots.items
    c.in_ok-worker_pool.ensures c.requires.sources
    c.lend.ensures.lent
    c.run_sides.ensures.fetched
    c.take_back.ensures.back
    c.run_sides.ensures.worked refl in
    let before = states_of g.S.Source.list g.S.Source.counts g.S.Source.calls g.S.Source.at_hand c.args.sources.now.items in
    let can : CanFinish c.args.settings c.args.counts.now c.args.queries.now before (states_of g.S.Source.list g.S.Source.counts g.S.Source.calls g.S.Source.at_hand c.take_back.new.slots.items) (record c.in_ok-worker_pool.worker_pool { feeders = c.take_back.new.feeders; workers = c.run_sides.new.workers }) =
    record { settings_are = c.requires.settings; ran = ran; few = (c.requires.few_queries, c.requires.few_sources) } in
    let lent = subst (λ slots. CanFinish c.args.settings c.args.counts.now c.args.queries.now before (states_of g.S.Source.list g.S.Source.counts g.S.Source.calls g.S.Source.at_hand slots) (record c.in_ok-worker_pool.worker_pool { feeders = c.take_back.new.feeders; workers = c.run_sides.new.workers }))
    (sym c.deref.ensures.value) can in
    failed_so c.finish.result
    (λ h.
    subst IsCut (sym (run_is g.S.Source.list g.S.Source.counts g.S.Source.calls g.S.Source.at_hand c.args.settings c.args.counts.now c.args.queries.now c.args.sources.now.items c.take_back.new.slots.items))
    (subst (λ slots. IsCut (slots_run c.args.settings c.args.counts.now c.args.queries.now before (states_of g.S.Source.list g.S.Source.counts g.S.Source.calls g.S.Source.at_hand slots))) c.deref.ensures.value
    (h c.args.settings c.args.counts.now c.args.queries.now before lent)))
    c.finish.ensures.cut

pub returns-clause-batch : goal.returns-clause-batch
returns-clause-batch g c =
    let ran = has_run g.S.Source.list g.S.Source.counts g.S.Source.calls g.S.Source.at_hand c.args.settings c.args.counts.now c.args.queries.now c.in_ok-worker_pool.worker_pool (record c.in_ok-worker_pool.worker_pool { feeders = c.take_back.new.feeders; workers = c.run_sides.new.workers })
    c.args.sources.now.items c.lend.new.slots.items c.run_sides.new.slots.items c.take_back.new.slots.items
    c.in_ok-worker_pool.ensures c.requires.sources
    c.lend.ensures.lent
    c.run_sides.ensures.fetched
    c.take_back.ensures.back
    c.run_sides.ensures.worked refl in
    let before = states_of g.S.Source.list g.S.Source.counts g.S.Source.calls g.S.Source.at_hand c.args.sources.now.items in
    let can : CanFinish c.args.settings c.args.counts.now c.args.queries.now before (states_of g.S.Source.list g.S.Source.counts g.S.Source.calls g.S.Source.at_hand c.take_back.new.slots.items) (record c.in_ok-worker_pool.worker_pool { feeders = c.take_back.new.feeders; workers = c.run_sides.new.workers }) =
    record { settings_are = c.requires.settings; ran = ran; few = (c.requires.few_queries, c.requires.few_sources) } in
    let lent = subst (λ slots. CanFinish c.args.settings c.args.counts.now c.args.queries.now before (states_of g.S.Source.list g.S.Source.counts g.S.Source.calls g.S.Source.at_hand slots) (record c.in_ok-worker_pool.worker_pool { feeders = c.take_back.new.feeders; workers = c.run_sides.new.workers }))
    (sym c.deref.ensures.value) can in
    IfOk-weaker c.finish.result _ _
    (λ batch h.
    subst (λ r. IsBatch r batch) (sym (run_is g.S.Source.list g.S.Source.counts g.S.Source.calls g.S.Source.at_hand c.args.settings c.args.counts.now c.args.queries.now c.args.sources.now.items c.take_back.new.slots.items))
    (subst (λ slots. IsBatch (slots_run c.args.settings c.args.counts.now c.args.queries.now before (states_of g.S.Source.list g.S.Source.counts g.S.Source.calls g.S.Source.at_hand slots)) batch) c.deref.ensures.value
    (h c.args.settings c.args.counts.now c.args.queries.now before lent)))
    c.finish.ensures.batch

pub returns-clause-right : goal.returns-clause-right
returns-clause-right g c =
    let ran = has_run g.S.Source.list g.S.Source.counts g.S.Source.calls g.S.Source.at_hand c.args.settings c.args.counts.now c.args.queries.now c.in_ok-worker_pool.worker_pool (record c.in_ok-worker_pool.worker_pool { feeders = c.take_back.new.feeders; workers = c.run_sides.new.workers })
    c.args.sources.now.items c.lend.new.slots.items c.run_sides.new.slots.items c.take_back.new.slots.items
    c.in_ok-worker_pool.ensures c.requires.sources
    c.lend.ensures.lent
    c.run_sides.ensures.fetched
    c.take_back.ensures.back
    c.run_sides.ensures.worked refl in
    let before = states_of g.S.Source.list g.S.Source.counts g.S.Source.calls g.S.Source.at_hand c.args.sources.now.items in
    let can : CanFinish c.args.settings c.args.counts.now c.args.queries.now before (states_of g.S.Source.list g.S.Source.counts g.S.Source.calls g.S.Source.at_hand c.take_back.new.slots.items) (record c.in_ok-worker_pool.worker_pool { feeders = c.take_back.new.feeders; workers = c.run_sides.new.workers }) =
    record { settings_are = c.requires.settings; ran = ran; few = (c.requires.few_queries, c.requires.few_sources) } in
    let lent = subst (λ slots. CanFinish c.args.settings c.args.counts.now c.args.queries.now before (states_of g.S.Source.list g.S.Source.counts g.S.Source.calls g.S.Source.at_hand slots) (record c.in_ok-worker_pool.worker_pool { feeders = c.take_back.new.feeders; workers = c.run_sides.new.workers }))
    (sym c.deref.ensures.value) can in
    IfOk-weaker c.finish.result _ _ (λ batch h. (h c.args.settings c.args.counts.now c.args.queries.now before lent).right) c.finish.ensures.batch
