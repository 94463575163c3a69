use Rattle.std.proofs.Common.{◌++◌, ◌∷◌, [], ◌∙◌, ap, refl, sym, slice_index_or}
use Rattle.source_state.specs.State.{opened}
use Rattle.query_run.specs.Made.{opened_from}
use Rattle.query_run.proofs.Lists.{take_whole}
use Rattle.test_worlds.proofs.Making.{opened_so_far, opened_more}
use Rattle.test_worlds.proofs.world.open_all.Goals as goal

pub loop-place-init : goal.loop-place-init
loop-place-init c = c.requires.none

pub loop-place-preserved : goal.loop-place-preserved
loop-place-preserved c =
    let count = slice_index_or c.args.counts.now c.loop-place.place 0 in
    let long = opened_so_far c.loop-place.states.items c.args.counts.now c.loop-place.place c.loop-place.auto.place-end c.loop-place.invariant in
    let added = c.push_reserved.ensures.items ∙ ap (λ ss. ss ++ c.in-Ok-open.state ∷ []) c.reserve.ensures.items in
    opened_more c.loop-place.states.items c.push_reserved.new.self.items c.args.counts.now c.loop-place.place count c.loop-place-test.true refl c.loop-place.invariant
    (added ∙ ap (λ s. c.loop-place.states.items ++ s ∷ []) (c.in-Ok-open.ensures ∙ ap (λ number. opened number count) (sym long)))

pub returns : goal.returns
returns c = c.loop-place.invariant ∙ ap (opened_from 0) (take_whole c.args.counts.now c.loop-place.place c.loop-place-test.false)
