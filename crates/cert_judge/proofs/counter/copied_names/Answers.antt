use Rattle.std.proofs.Common.{◌∙◌, length, Some, ap, sym, arith}
use Rattle.std.specs.Slice.Iter.{iter_rest}
use Rattle.std.proofs.lemmas.Iterator.Consumers.{YieldsList-turn, YieldsList-end}
use Rattle.std.proofs.lemmas.List.{length_push, take_all}
use Rattle.std.proofs.lemmas.Option.{slice_get-get_or}
use Rattle.query_text.specs.Bytes.{bytes_of}
use Rattle.query_text.proofs.NamesPassed.{names_given}
use Rattle.cert_judge.proofs.Telling.{copied_more}
use Rattle.cert_judge.proofs.counter.copied_names.Goals as goal

pub loop-name-preserved : goal.loop-name-preserved
loop-name-preserved c =
    let names = c.args.names.now in
    let place = length c.loop-name.yielded in
    let t = YieldsList-turn (names_given names (ap (λ i. bytes_of (iter_rest i)) c.into_iter-name-iterator.ensures.into_iter_gives ∙ c.iter-name-items.ensures.rest)) c.loop-name.yielded _ c.loop-name.yielded_by _ _ c.in-Some.name c.in-Some.is c.next.ensures.steps in
    rw (length_push c.loop-name.yielded c.in-Some.name)
    (copied_more c.loop-name.copied.items c.push.new.self.items c.in-Ok.bytes names place c.in-Some.name.now.items c.loop-name.invariant
    (slice_get-get_or names place c.in-Some.name.now.items t.0 ∙ ap Some (sym t.1)) (c.in-Ok.ensures ∙ c.deref.ensures.value) c.in-Ok-push.ensures.items)

pub returns : goal.returns
returns c =
    let names = c.args.names.now in
    let t = YieldsList-end (names_given names (ap (λ i. bytes_of (iter_rest i)) c.into_iter-name-iterator.ensures.into_iter_gives ∙ c.iter-name-items.ensures.rest)) c.loop-name.yielded _ c.loop-name.yielded_by _ _ c.in-None.is c.next.ensures.steps in
    c.loop-name.invariant ∙ take_all (length c.loop-name.yielded) names (omega (arith, t.1))
