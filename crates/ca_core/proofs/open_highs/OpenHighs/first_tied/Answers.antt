use Rattle.std.proofs.Common.{None, refl, ap, ◌∙◌}
use Rattle.monotone_fn.specs.Value.{value}
use Rattle.monotone_fn.proofs.Laws.{value-monotone}
use Rattle.ca_core.specs.Ties.{ties_of}
use Rattle.ca_core.specs.declared.kept_high.KeptHigh.{KeptHigh}
use Rattle.ca_core.proofs.AtPlaces.{place_within, tie_within, list_within, tie_list, fewer_ties}
use Rattle.ca_core.proofs.Capping.{leads_ties, tied_present}
use Rattle.ca_core.proofs.open_highs.OpenHighs.first_tied.Goals as goal

pub release-requires-clause-place : goal.release-requires-clause-place
release-requires-clause-place c =
    let log = c.args.transcript.now in
    let kept = c.loop-tied.invariant.kept in
    place_within (value c.args.expr.now) log.lists log.accesses c.loop-tied.self.highs c.loop-tied.self.ties.heaps.items c.in-Some.tied.place c.in-Some.tied.object kept
    (kept.tied c.args.list c.in-Some.tied.place c.in-Some.tied.object c.in-Some.ensures.there)

pub returns-then-is_capped-clause-present : goal.returns-then-is_capped-clause-present
returns-then-is_capped-clause-present c =
    let log = c.args.transcript.now in
    let rank : KeptHigh = record { high = c.high-high.result; object = c.in-Some.tied.object } in
    tied_present (value c.args.expr.now) log.lists log.accesses c.loop-tied.self.highs c.loop-tied.self.ties.heaps.items c.args.list c.in-Some.tied rank c.loop-tied.invariant.kept
    c.in-Some.ensures refl (c.is_capped.ensures c.if-is_capped.true) c.high-high.ensures

pub returns-then-is_capped-clause-leads : goal.returns-then-is_capped-clause-leads
returns-then-is_capped-clause-leads c =
    let log = c.args.transcript.now in
    let rank : KeptHigh = record { high = c.high-high.result; object = c.in-Some.tied.object } in
    leads_ties (value c.args.expr.now) log.lists log.count log.accesses c.loop-tied.self.ties.heaps.items c.args.list c.in-Some.tied rank (value-monotone c.args.expr.now) c.requires.agrees
    c.in-Some.ensures refl (c.is_capped.ensures c.if-is_capped.true)

pub loop-tied-preserved : goal.loop-tied-preserved
loop-tied-preserved c =
    let before = c.loop-tied.invariant in
    record {
      kept = c.release.ensures.kept (value c.args.expr.now) c.high-high.ensures before.kept;
      room = c.release.ensures.room ∙ before.room;
      others = λ other n. ap (λ hs. ties_of hs other) c.release.ensures.ties ∙ tie_list c.loop-tied.self.ties.heaps.items c.args.list c.in-Some.tied.place other None n ∙ before.others other n;
    }

pub loop-tied-smaller : goal.loop-tied-smaller
loop-tied-smaller c =
    let log = c.args.transcript.now in
    let kept = c.loop-tied.invariant.kept in
    let heaps = c.loop-tied.self.ties.heaps.items in
    fewer_ties heaps c.release.new.self.ties.heaps.items c.args.list c.in-Some.tied.place c.in-Some.tied.object
    (list_within (value c.args.expr.now) log.lists log.accesses c.loop-tied.self.highs heaps c.args.list kept c.requires.list)
    (tie_within (value c.args.expr.now) log.lists log.accesses c.loop-tied.self.highs heaps c.args.list c.in-Some.tied.place c.in-Some.tied.object kept c.requires.list
    (kept.tied c.args.list c.in-Some.tied.place c.in-Some.tied.object c.in-Some.ensures.there))
    c.in-Some.ensures.there c.release.ensures.ties
