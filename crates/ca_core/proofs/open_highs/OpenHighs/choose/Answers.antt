use Rattle.std.proofs.Common.{◌≡◌, false, Some, refl, sym, subst, ◌∙◌}
use Rattle.std.proofs.lemmas.Option.{none-some, same_Some}
use Rattle.monotone_fn.specs.Value.{value}
use Rattle.topk_theory.specs.Bounds.{high}
use Rattle.topk_theory.specs.NoRandom.{exceeds}
use Rattle.ca_core.specs.declared.kept_high.KeptHigh.{KeptHigh}
use Rattle.ca_core.proofs.Highest.{chosen_first, chosen_some, chosen_none, is_present, heights_fall, lowered_room}
use Rattle.ca_core.proofs.open_highs.OpenHighs.choose.Goals as goal

pub lower-first-requires-clause-fallen : goal.lower-first-requires-clause-fallen
lower-first-requires-clause-fallen c = record { kept = c.in-Some.top.rank; there = c.in-Some.ensures.there; object = refl; present = c.high-high.ensures }

pub returns-then-not-exceeds-clause-chosen : goal.returns-then-not-exceeds-clause-chosen
returns-then-not-exceeds-clause-chosen c = λ k is.
    let log = c.args.transcript.now in
    let before = c.loop-top.invariant in
    chosen_none (value c.args.expr.now) k log.lists log.accesses c.loop-top.self.highs c.loop-top.self.ties.heaps.items (Some c.in-Some.top.rank) c.args.bound before.kept
    c.in-Some.ensures.leads
    (λ list l place object has none. c.in-Some.ensures.passes (high (value c.args.expr.now) log.lists log.accesses object) object (before.first.leads list l place object has none))
    is
    (λ rank e. subst (λ (r : KeptHigh). exceeds c.args.bound r.high ≡ false) (same_Some c.in-Some.top.rank rank e) (sym c.exceeds.ensures ∙ c.if-not-exceeds.true))

pub returns-then-high-kept-clause-chosen : goal.returns-then-high-kept-clause-chosen
returns-then-high-kept-clause-chosen c = λ k is.
    let log = c.args.transcript.now in
    let before = c.loop-top.invariant in
    chosen_first (value c.args.expr.now) k log.lists log.accesses c.loop-top.self.highs c.loop-top.self.ties.heaps.items c.in-Some.top.rank c.args.bound before.kept
    c.in-Some.ensures.leads
    (λ list l place object has none. c.in-Some.ensures.passes (high (value c.args.expr.now) log.lists log.accesses object) object (before.first.leads list l place object has none))
    (is_present (value c.args.expr.now) log.lists log.accesses c.loop-top.self.highs c.loop-top.self.ties.heaps.items c.in-Some.top.key c.in-Some.top.rank before.kept c.in-Some.ensures.there
    (sym c.high-high.ensures ∙ c.if-high-kept.true))
    is (sym c.exceeds.ensures ∙ c.if-not-exceeds.false)

pub loop-top-smaller : goal.loop-top-smaller
loop-top-smaller c =
    let log = c.args.transcript.now in
    heights_fall (value c.args.expr.now) log.lists log.accesses c.loop-top.self.highs c.lower-first.new.self.highs c.loop-top.self.ties.heaps.items c.in-Some.top.key c.high-high.result
    c.in-Some.top.rank c.loop-top.invariant.kept c.in-Some.ensures.there c.high-high.ensures c.if-high-kept.false c.lower-first.ensures.lowered

pub loop-top-preserved : goal.loop-top-preserved
loop-top-preserved c = record {
  kept = c.lower-first.ensures.kept;
  room = lowered_room c.loop-top.self.highs c.lower-first.new.self.highs c.in-Some.top.key (record { high = c.high-high.result; object = c.in-Some.top.rank.object }) c.lower-first.ensures.lowered ∙ c.loop-top.invariant.room;
  first = c.lower-first.ensures.first;
}

pub returns-in_err-first-clause-chosen : goal.returns-in_err-first-clause-chosen
returns-in_err-first-clause-chosen c = λ k is.
    let log = c.args.transcript.now in
    let before = c.loop-top.invariant in
    c.from_residual.ensures ∙ chosen_none (value c.args.expr.now) k log.lists log.accesses c.loop-top.self.highs c.loop-top.self.ties.heaps.items c.loop-top.first c.args.bound before.kept
    c.in_default.ensures before.first.leads is (λ rank e. absurd (none-some rank (sym c.in_err-first.was ∙ e)))

pub returns-then-exceeds-clause-chosen : goal.returns-then-exceeds-clause-chosen
returns-then-exceeds-clause-chosen c = λ k is.
    let log = c.args.transcript.now in
    let before = c.loop-top.invariant in
    chosen_some (value c.args.expr.now) k log.lists log.accesses c.loop-top.self.highs c.loop-top.self.ties.heaps.items c.loop-top.first c.in_ok-first.first c.args.bound before.kept
    c.in_default.ensures before.first c.in_ok-first.was is (sym c.exceeds-2.ensures ∙ c.if-exceeds.true)

pub returns-else-exceeds-clause-chosen : goal.returns-else-exceeds-clause-chosen
returns-else-exceeds-clause-chosen c = λ k is.
    let log = c.args.transcript.now in
    let before = c.loop-top.invariant in
    chosen_none (value c.args.expr.now) k log.lists log.accesses c.loop-top.self.highs c.loop-top.self.ties.heaps.items c.loop-top.first c.args.bound before.kept
    c.in_default.ensures before.first.leads is
    (λ rank e. subst (λ (r : KeptHigh). exceeds c.args.bound r.high ≡ false) (same_Some c.in_ok-first.first rank (sym c.in_ok-first.was ∙ e)) (sym c.exceeds-2.ensures ∙ c.if-exceeds.false))
