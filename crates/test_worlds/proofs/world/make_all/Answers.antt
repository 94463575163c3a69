use Rattle.std.proofs.Common.{◌++◌, ◌∷◌, [], take, ap, sym, subst, ◌∙◌, arith}
use Rattle.std.specs.List.{AllZip}
use Rattle.std.proofs.lemmas.Slice.Zip.{all_zipped_more}
use Rattle.query_run.specs.Made.{IsFresh}
use Rattle.query_run.proofs.Lists.{take_more, take_whole}
use Rattle.test_worlds.proofs.world.make_all.Goals as goal

pub loop-place-init : goal.loop-place-init
loop-place-init c = subst (AllZip IsFresh []) (sym c.requires.none) tt

pub push_reserved-requires : goal.push_reserved-requires
push_reserved-requires c = omega (arith, c.in-Ok.ensures.ok)

pub loop-place-preserved : goal.loop-place-preserved
loop-place-preserved c =
    let ready = c.index-readies-place.result in
    let front = take c.loop-place.place c.args.readies.now in
    let added = c.push_reserved.ensures.items ∙ ap (λ qs. qs ++ c.in_ok-query.query ∷ []) c.reserve.ensures.items in
    subst (λ xs. AllZip IsFresh xs c.push_reserved.new.self.items)
    (ap (λ x. front ++ x ∷ []) c.index-readies-place.is ∙ sym (take_more c.args.readies.now c.loop-place.place ready c.loop-place-test.true))
    (subst (AllZip IsFresh (front ++ ready ∷ [])) (sym added) (all_zipped_more IsFresh front c.loop-place.queries.items ready c.in_ok-query.query c.loop-place.invariant c.in_ok-query.ensures))

pub returns : goal.returns
returns c = subst (λ xs. AllZip IsFresh xs c.loop-place.queries.items) (take_whole c.args.readies.now c.loop-place.place c.loop-place-test.false) c.loop-place.invariant
