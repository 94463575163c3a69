use Rattle.std.proofs.Common.{◌≡◌, false, refl, arith, ◌∙◌, sym, length}
use Rattle.std.proofs.lemmas.Bool.{eqb-true}
use Rattle.std.proofs.lemmas.List.{take_rest}
use Rattle.tk_io.proofs.Putting.{Goes, goes_sent, goes_filled, goes_all, goes_stopped, sends_failed, sends_seen, seen_waiting, seen_failed, failed_is, sent_is}
use Rattle.tk_io.proofs.pieces.Pieces.put.Goals as goal
use Rattle.tk_io.proofs.pieces.Pieces.put.Goals.{then-is_full+else-is_err, else-is_full}

pub returns-then-self-clause-sends : goal.returns-then-self-clause-sends
returns-then-self-clause-sends g c =
    let seen = seen_failed c.self.inside.failed c.self.inside.waiting.items c.if-self.true ∙ c.self.view_is in
    (sends_seen 8192 _ _ _ _ _ _ _ _ _ seen seen (sends_failed 8192 _ _ c.args.text.now)).0

pub returns-then-self-clause-waits : goal.returns-then-self-clause-waits
returns-then-self-clause-waits g c =
    let seen = seen_failed c.self.inside.failed c.self.inside.waiting.items c.if-self.true ∙ c.self.view_is in
    (sends_seen 8192 (g.K.Sink.held c.args.out.now) (g.K.Sink.held c.args.out.now) (g.K.Sink.faults c.args.out.now) (g.K.Sink.faults c.args.out.now) _ _ _ _ _ seen seen (sends_failed 8192 _ _ c.args.text.now)).1

pub returns-then-is_err-clause-sends : goal.returns-then-is_err-clause-sends
returns-then-is_err-clause-sends g c =
    let seen = seen_waiting c.self.inside.failed c.self.inside.waiting.items c.if-self.false ∙ c.self.view_is in
    let failed = failed_is _ _ _ _ _ c.send.result (sym c.is_err.ensures.value ∙ c.if-is_err.true) c.send.ensures.front c.send.ensures.cause in
    let full : length c.loop-done.self-inside.waiting.items ≡ 8192 = eqb-true _ _ (sym c.is_full.ensures.value ∙ c.if-is_full.true) in
    (sends_seen 8192 _ _ _ _ _ _ _ _ _ seen refl (goes_stopped 8192 _ _ _ _ _ _ _ _ _ c.loop-done.done c.loop-done.invariant.1 full c.loop-done-test.true failed.0 failed.1 failed.2)).0

pub returns-then-is_err-clause-waits : goal.returns-then-is_err-clause-waits
returns-then-is_err-clause-waits g c =
    let seen = seen_waiting c.self.inside.failed c.self.inside.waiting.items c.if-self.false ∙ c.self.view_is in
    let failed = failed_is _ _ _ _ _ c.send.result (sym c.is_err.ensures.value ∙ c.if-is_err.true) c.send.ensures.front c.send.ensures.cause in
    let full : length c.loop-done.self-inside.waiting.items ≡ 8192 = eqb-true _ _ (sym c.is_full.ensures.value ∙ c.if-is_full.true) in
    (sends_seen 8192 _ _ _ _ _ _ _ _ _ seen refl (goes_stopped 8192 _ _ _ _ _ _ _ _ _ c.loop-done.done c.loop-done.invariant.1 full c.loop-done-test.true failed.0 failed.1 failed.2)).1

pub loop-done-preserved : goal.loop-done-preserved
loop-done-preserved g c =
    let mid : (c.if-is_full.self-inside.failed ≡ false)
    × Goes 8192 (g.K.Sink.held c.args.out.now) (g.K.Sink.held c.if-is_full.out) (g.K.Sink.faults c.args.out.now) (g.K.Sink.faults c.if-is_full.out) c.self.inside.waiting.items c.if-is_full.self-inside.waiting.items c.args.text.now c.loop-done.done
    × (g.K.Sink.aside c.if-is_full.out ≡ g.K.Sink.aside c.args.out.now) =
    elim c.if-is_full.branch [
      | then-is_full+else-is_err w ↦
          let sent = sent_is _ _ _ _ _ _ w.send.result (sym w.is_err.ensures.value ∙ w.if-is_err.false) w.send.ensures.whole w.send.ensures.empty w.send.ensures.cause in
          let full : length c.loop-done.self-inside.waiting.items ≡ 8192 = eqb-true _ _ (sym c.is_full.ensures.value ∙ w.if-is_full.true) in
          rw (w.out-is, w.self-inside-is) (c.loop-done.invariant.0, goes_sent 8192 _ _ _ _ _ _ _ _ _ _ c.loop-done.done c.loop-done.invariant.1 full c.loop-done-test.true sent.0 sent.2 sent.1, w.send.ensures.apart ∙ c.loop-done.invariant.2)
      | else-is_full w ↦ rw (w.out-is, w.self-inside-is) c.loop-done.invariant
    ] in
    let counted = c.fill-done.ensures.count in
    (mid.0, goes_filled 8192 _ _ _ _ _ _ _ _ _ c.loop-done.done c.fill-done.result mid.1 (take_rest c.args.text.now c.loop-done.done) (omega (arith, counted)) c.fill-done.ensures.filled, mid.2)

pub returns-clause-sends : goal.returns-clause-sends
returns-clause-sends g c =
    let seen = seen_waiting c.self.inside.failed c.self.inside.waiting.items c.if-self.false ∙ c.self.view_is in
    let seen_now = seen_waiting c.loop-done.self-inside.failed c.loop-done.self-inside.waiting.items c.loop-done.invariant.0 in
    (sends_seen 8192 _ _ _ _ _ _ _ _ _ seen seen_now (goes_all 8192 _ _ _ _ _ _ _ c.loop-done.done c.loop-done.invariant.1 c.loop-done-test.false)).0

pub returns-clause-waits : goal.returns-clause-waits
returns-clause-waits g c =
    let seen = seen_waiting c.self.inside.failed c.self.inside.waiting.items c.if-self.false ∙ c.self.view_is in
    let seen_now = seen_waiting c.loop-done.self-inside.failed c.loop-done.self-inside.waiting.items c.loop-done.invariant.0 in
    (sends_seen 8192 _ _ _ _ _ _ _ _ _ seen seen_now (goes_all 8192 _ _ _ _ _ _ _ c.loop-done.done c.loop-done.invariant.1 c.loop-done-test.false)).1
