use Rattle.std.proofs.Common.{◌≡◌, ◌<◌, Some, None, length, slice_index_or, take, drop, ◌++◌, ap, sym, subst, ◌∙◌, arith}
use Rattle.std.specs.List.{flat_map}
use Rattle.std.proofs.lemmas.List.{length-map, length-replicate}
use Rattle.source_pool.specs.Closed.{HaveAll, AreClosed}
use Rattle.batch_result.specs.Batches.{IsBatch}
use Rattle.batch_run.specs.declared.work.Worker.{Worker}
use Rattle.batch_run.specs.Slots.{states_of}
use Rattle.batch_run.specs.Finishing.{slots_run}
use Rattle.batch_run.proofs.SlotLaws.{states_long}
use Rattle.batch_run.proofs.GatherLaws.{placed_back}
use Rattle.batch_run.proofs.FinishLaws.{all_drawn, have_all, is_batch, is_cut, kept_within, situated}
use Rattle.batch_run.proofs.finish.finish.Goals as goal

pub rejoin-requires-clause-others : goal.rejoin-requires-clause-others
rejoin-requires-clause-others g c = λ i d l. let at = (c.requires.4.ran.each i d l).at_work in (at.own, at.draws.0)

pub rejoin-requires-clause-within : goal.rejoin-requires-clause-within
rejoin-requires-clause-within g c = λ i d l.
    let can = c.requires.4 in
    let long = ap length (c.deref_mut.ensures.value ∙ can.ran.places) ∙ length-replicate (length c.requires.2) None in
    kept_within (length c.deref_mut.result.now) c.requires.2 (slice_index_or c.args.worker_pool.workers.items i d) (sym long) (can.ran.each i d l).at_work.worked

pub close-requires-clause-whole : goal.close-requires-clause-whole
close-requires-clause-whole g c =
    let can = c.requires.4 in
    all_drawn c.args.worker_pool.pool c.args.worker_pool.tickets c.requires.1 c.requires.2 c.args.worker_pool.workers.items c.args.worker_pool.draws c.rejoin.new.draws.1 can.ran.first can.ran.each c.rejoin.ensures.whole.1

pub close-states-requires-clause-whole : goal.close-states-requires-clause-whole
close-states-requires-clause-whole g c =
    let can = c.requires.4 in
    subst (HaveAll c.args.worker_pool.pool c.rejoin.new.pass) (sym c.from_vec.ensures)
    (have_all c.args.worker_pool.pool c.requires.1 c.args.worker_pool.workers.items c.args.worker_pool.pass c.rejoin.new.pass c.args.worker_pool.feeders.items can.ran.base c.rejoin.ensures.joined
    (λ i d l. (can.ran.each i d l).parts) (λ source l. (can.ran.fetched source l).feeds.parts))

pub use_all-requires-clause-states : goal.use_all-requires-clause-states
use_all-requires-clause-states g c κs within =
    let can = c.requires.4 in
    c.close-states.ensures.size ∙ (can.ran.base.size ∙ (sym can.ran.slots.1 ∙ states_long g.S.Source.list g.S.Source.counts g.S.Source.calls g.S.Source.at_hand c.args.slots.now))

pub use_all-requires-clause-room : goal.use_all-requires-clause-room
use_all-requires-clause-room g c κs within =
    let can = c.requires.4 in
    let room = can.ran.uses.1 in
    let many = can.ran.slots.1 in
    let long = states_long g.S.Source.list g.S.Source.counts g.S.Source.calls g.S.Source.at_hand c.args.slots.now in
    omega (arith, room, many, long)

pub returns-then-not-gather-clause-cut : goal.returns-then-not-gather-clause-cut
returns-then-not-gather-clause-cut g c settings counts readies before can =
    let worker_pool = c.args.worker_pool in
    let after = states_of g.S.Source.list g.S.Source.counts g.S.Source.calls g.S.Source.at_hand c.args.slots.now in
    let long = states_long g.S.Source.list g.S.Source.counts g.S.Source.calls g.S.Source.at_hand c.args.slots.now in
    let situation = situated settings counts readies before after worker_pool c.rejoin.new.pass c.rejoin.new.draws.1 c.close.result c.close-states.result c.use_all.new.uses.items can
    c.rejoin.ensures.joined c.rejoin.ensures.drawn c.close.ensures
    (subst (λ feeds. AreClosed worker_pool.pool c.rejoin.new.pass feeds c.close-states.result) c.from_vec.ensures c.close-states.ensures)
    (c.use_all.ensures.size ∙ sym long) (λ source l. c.use_all.ensures.each source (subst (λ n. source < n) long l)) in
    is_cut worker_pool.pool worker_pool.tickets settings counts readies before after worker_pool.workers.items worker_pool.pass c.rejoin.new.pass worker_pool.feeders.items c.close-states.result c.use_all.new.uses.items situation

pub make-requires-clause-endings : goal.make-requires-clause-endings
make-requires-clause-endings g c =
    let can = c.requires.4 in
    let worker_pool = c.args.worker_pool in
    let placed = placed_back (length c.requires.2) worker_pool.places.len (flat_map (λ (w : Worker). w.ended.items) worker_pool.workers.items) worker_pool.places.items c.deref_mut.result.now c.rejoin.new.places
    can.ran.places worker_pool.places.ok.0 c.deref_mut.ensures.value c.rejoin.ensures.size c.rejoin.ensures.placed in
    let long : length c.gather.new.endings.items ≡ length c.requires.2 =
    sym (length-map c.gather.new.endings.items Some) ∙ (ap length (sym (c.gather.ensures.moved c.if-not-gather.false)) ∙ placed.size) in
    let few = can.few.0 in
    let items = c.gather.new.endings.ok.0 in
    omega (arith, long, few, items)

pub returns-clause-batch : goal.returns-clause-batch
returns-clause-batch g c settings counts readies before can =
    let worker_pool = c.args.worker_pool in
    let after = states_of g.S.Source.list g.S.Source.counts g.S.Source.calls g.S.Source.at_hand c.args.slots.now in
    let long = states_long g.S.Source.list g.S.Source.counts g.S.Source.calls g.S.Source.at_hand c.args.slots.now in
    let situation = situated settings counts readies before after worker_pool c.rejoin.new.pass c.rejoin.new.draws.1 c.close.result c.close-states.result c.use_all.new.uses.items can
    c.rejoin.ensures.joined c.rejoin.ensures.drawn c.close.ensures
    (subst (λ feeds. AreClosed worker_pool.pool c.rejoin.new.pass feeds c.close-states.result) c.from_vec.ensures c.close-states.ensures)
    (c.use_all.ensures.size ∙ sym long) (λ source l. c.use_all.ensures.each source (subst (λ n. source < n) long l)) in
    let kept = flat_map (λ (w : Worker). w.ended.items) worker_pool.workers.items in
    let placed = placed_back (length readies) worker_pool.places.len kept worker_pool.places.items c.deref_mut.result.now c.rejoin.new.places can.ran.places worker_pool.places.ok.0 c.deref_mut.ensures.value
    c.rejoin.ensures.size c.rejoin.ensures.placed in
    subst (IsBatch (slots_run settings counts readies before after)) (sym c.make.ensures)
    (is_batch worker_pool.pool worker_pool.tickets settings counts readies before after worker_pool.workers.items worker_pool.pass c.rejoin.new.pass worker_pool.feeders.items c.close-states.result c.use_all.new.uses.items
    situation (take worker_pool.places.len (c.rejoin.new.places ++ drop (length c.rejoin.new.places) worker_pool.places.items)) c.gather.new.endings.items placed.each (c.gather.ensures.moved c.if-not-gather.false) placed.size)
