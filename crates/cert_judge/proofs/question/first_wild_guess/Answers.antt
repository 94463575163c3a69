use Rattle.std.specs.Prelude.{MatchOption}
use Rattle.std.proofs.Common.{◌≡◌, ◌+◌, nat_eq, position, length, Some, slice_get, ap, sym, subst, ◌∙◌, arith}
use Rattle.std.proofs.lemmas.List.{length_push}
use Rattle.std.proofs.lemmas.Option.{slice_get-get_or}
use Rattle.std.proofs.lemmas.Iterator.{YieldsList-from_slice}
use Rattle.std.proofs.lemmas.Iterator.Consumers.{YieldsList-turn, YieldsList-end}
use Rattle.topk_theory.specs.Transcript.{seen_objects}
use Rattle.cert_judge.specs.Deciding.{IsFirstWildGuess}
use Rattle.cert_judge.specs.Question.{HasWalked}
use Rattle.cert_judge.proofs.Tame.{walked, walked_none, walked_all}
use Rattle.cert_judge.proofs.question.first_wild_guess.Goals as goal

pub loop-place-init : goal.loop-place-init
loop-place-init c = record { place = omega arith; walked = walked_none c.args.transcript.now.accesses }

pub seen_after-requires : goal.seen_after-requires
seen_after-requires c =
    let accesses = c.args.transcript.now.accesses in
    let t = YieldsList-turn (YieldsList-from_slice accesses c.iter-access-items.ensures.rest) c.loop-place.yielded _ c.loop-place.yielded_by _ _ c.in-Some.access c.in-Some.is c.next.ensures.steps in
    omega (arith, t.0, c.loop-place.invariant.place, c.loop-place.invariant.walked.few, ap length c.iter-access-items.ensures.rest, c.iter-access-items.ensures.few)

pub returns-in_default-clause-guess : goal.returns-in_default-clause-guess
returns-in_default-clause-guess c =
    let accesses = c.args.transcript.now.accesses in
    let place = c.loop-place.place in
    let t = YieldsList-turn (YieldsList-from_slice accesses c.iter-access-items.ensures.rest) c.loop-place.yielded _ c.loop-place.yielded_by _ _ c.in-Some.access c.in-Some.is c.next.ensures.steps in
    let at : slice_get accesses place ≡ Some c.in-Some.access.now = rw c.loop-place.invariant.place (slice_get-get_or accesses (length c.loop-place.yielded) c.in-Some.access.now t.0 ∙ ap Some (sym t.1)) in
    subst (λ o. MatchOption o (IsFirstWildGuess accesses (place + 1)) (HasWalked accesses (place + 1))) c.in_default.is
    (walked accesses place c.loop-place.seen c.in-Some.access.now c.sight_of-sight.result c.is_sorted.result c.seen_after.result c.loop-place.invariant.walked at
    (c.sight_of-sight.ensures ∙ ap (λ o. position (nat_eq o) (seen_objects accesses)) c.object.ensures) c.is_sorted.ensures c.seen_after.ensures)

pub loop-place-preserved : goal.loop-place-preserved
loop-place-preserved c =
    let accesses = c.args.transcript.now.accesses in
    let place = c.loop-place.place in
    let t = YieldsList-turn (YieldsList-from_slice accesses c.iter-access-items.ensures.rest) c.loop-place.yielded _ c.loop-place.yielded_by _ _ c.in-Some.access c.in-Some.is c.next.ensures.steps in
    let at : slice_get accesses place ≡ Some c.in-Some.access.now = rw c.loop-place.invariant.place (slice_get-get_or accesses (length c.loop-place.yielded) c.in-Some.access.now t.0 ∙ ap Some (sym t.1)) in
    record {
      place = omega (arith, c.loop-place.invariant.place, length_push c.loop-place.yielded c.in-Some.access);
      walked = subst (λ o. MatchOption o (IsFirstWildGuess accesses (place + 1)) (HasWalked accesses (place + 1))) c.in-Some-seen_after.is
          (walked accesses place c.loop-place.seen c.in-Some.access.now c.sight_of-sight.result c.is_sorted.result c.seen_after.result c.loop-place.invariant.walked at
          (c.sight_of-sight.ensures ∙ ap (λ o. position (nat_eq o) (seen_objects accesses)) c.object.ensures) c.is_sorted.ensures c.seen_after.ensures);
    }

pub returns-clause-guess : goal.returns-clause-guess
returns-clause-guess c =
    let accesses = c.args.transcript.now.accesses in
    let t = YieldsList-end (YieldsList-from_slice accesses c.iter-access-items.ensures.rest) c.loop-place.yielded _ c.loop-place.yielded_by _ _ c.in-None.is c.next.ensures.steps in
    walked_all accesses c.loop-place.place c.loop-place.seen (omega (arith, t.1, c.loop-place.invariant.place)) c.loop-place.invariant.walked
