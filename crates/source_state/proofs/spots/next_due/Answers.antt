use Rattle.std.proofs.Common.{◌<◌, ◌≤◌, sym, subst, arith}
use Rattle.std.proofs.lemmas.List.{length-map}
use Rattle.source_state.specs.Asks.{is_due}
use Rattle.source_state.specs.ObjectKeeping.{standing, standings}
use Rattle.source_state.proofs.Caching.{stop_more, stop_here, place_end}
use Rattle.source_state.proofs.spots.next_due.Goals as goal

pub loop-place-preserved : goal.loop-place-preserved
loop-place-preserved c =
    stop_more (standings c.args.spots.now c.args.requests.now) c.loop-place.place c.loop-place.invariant
    (subst (λ n. c.loop-place.place < n) (sym (length-map c.args.requests.now (standing c.args.spots.now))) (omega arith)) c.if-not-stops_at.ensures

pub returns-else-not-stops_at : goal.returns-else-not-stops_at
returns-else-not-stops_at c =
    stop_here (standings c.args.spots.now c.args.requests.now) c.loop-place.place c.loop-place.invariant
    (subst (λ n. c.loop-place.place < n) (sym (length-map c.args.requests.now (standing c.args.spots.now))) (omega arith)) c.if-not-stops_at.ensures

pub returns-after-loop-place : goal.returns-after-loop-place
returns-after-loop-place c =
    place_end is_due (standings c.args.spots.now c.args.requests.now) c.loop-place.place c.loop-place.invariant
    (subst (λ n. n ≤ c.loop-place.place) (sym (length-map c.args.requests.now (standing c.args.spots.now))) (omega arith))
