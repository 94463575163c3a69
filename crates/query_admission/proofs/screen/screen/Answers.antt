use Rattle.std.proofs.Common.{[], ◌∷◌, sym, ◌∙◌, refl}
use Rattle.query_admission.specs.Causes.{Cause}
use Rattle.query_admission.proofs.Positions.{count_there}
use Rattle.query_admission.proofs.Screening.{first_cause, no_cause}
use Rattle.query_admission.proofs.screen.screen.Goals as goal

pub returns-in-Some : goal.returns-in-Some
returns-in-Some c =
    first_cause c.args.query.now c.args.lists.now Cause.not_opened [] (Cause.too_large ∷ Cause.counts_differ ∷ Cause.k_above_count ∷ Cause.no_random ∷ Cause.no_sorted ∷ []) c.in-Some.refusal refl c.requires.some
    tt (c.in-Some.ensures.why c.args.query.now)

pub returns-in-Some-too_large : goal.returns-in-Some-too_large
returns-in-Some-too_large c =
    first_cause c.args.query.now c.args.lists.now Cause.too_large (Cause.not_opened ∷ []) (Cause.counts_differ ∷ Cause.k_above_count ∷ Cause.no_random ∷ Cause.no_sorted ∷ []) c.in-Some-too_large.refusal refl c.requires.some
    (c.in_default.ensures.why c.args.query.now, tt) (c.in-Some-too_large.ensures.why c.args.query.now)

pub returns-in-Some-counts_differ : goal.returns-in-Some-counts_differ
returns-in-Some-counts_differ c =
    first_cause c.args.query.now c.args.lists.now Cause.counts_differ (Cause.not_opened ∷ Cause.too_large ∷ []) (Cause.k_above_count ∷ Cause.no_random ∷ Cause.no_sorted ∷ []) c.in-Some-counts_differ.refusal refl c.requires.some
    (c.in_default.ensures.why c.args.query.now, (c.in_default-too_large.ensures.why c.args.query.now, tt)) (c.in-Some-counts_differ.ensures c.args.query.now)

pub returns-in-Some-k_above_count : goal.returns-in-Some-k_above_count
returns-in-Some-k_above_count c =
    first_cause c.args.query.now c.args.lists.now Cause.k_above_count (Cause.not_opened ∷ Cause.too_large ∷ Cause.counts_differ ∷ []) (Cause.no_random ∷ Cause.no_sorted ∷ []) c.in-Some-k_above_count.refusal refl c.requires.some
    (c.in_default.ensures.why c.args.query.now, (c.in_default-too_large.ensures.why c.args.query.now, (c.in_default-counts_differ.ensures c.args.query.now, tt))) c.in-Some-k_above_count.ensures

pub returns-in-Some-no_random : goal.returns-in-Some-no_random
returns-in-Some-no_random c =
    first_cause c.args.query.now c.args.lists.now Cause.no_random (Cause.not_opened ∷ Cause.too_large ∷ Cause.counts_differ ∷ Cause.k_above_count ∷ []) (Cause.no_sorted ∷ []) c.in-Some-no_random.refusal refl c.requires.some
    (c.in_default.ensures.why c.args.query.now, (c.in_default-too_large.ensures.why c.args.query.now, (c.in_default-counts_differ.ensures c.args.query.now, (c.in_default-k_above_count.ensures, tt)))) c.in-Some-no_random.ensures

pub returns-in-Some-no_sorted : goal.returns-in-Some-no_sorted
returns-in-Some-no_sorted c =
    first_cause c.args.query.now c.args.lists.now Cause.no_sorted (Cause.not_opened ∷ Cause.too_large ∷ Cause.counts_differ ∷ Cause.k_above_count ∷ Cause.no_random ∷ []) []
    c.in-Some-no_sorted.refusal refl c.requires.some
    (c.in_default.ensures.why c.args.query.now, (c.in_default-too_large.ensures.why c.args.query.now, (c.in_default-counts_differ.ensures c.args.query.now, (c.in_default-k_above_count.ensures, (c.in_default-no_random.ensures, tt)))))
    c.in-Some-no_sorted.ensures

pub unreachable-requires : goal.unreachable-requires
unreachable-requires c = count_there c.args.lists.now c.requires.some c.in_default.ensures.none (sym c.count_of.ensures ∙ c.in_default-count_of.is)

pub returns : goal.returns
returns c = (
  no_cause c.args.query.now c.args.lists.now
      (c.in_default.ensures.why c.args.query.now, (c.in_default-too_large.ensures.why c.args.query.now, (c.in_default-counts_differ.ensures c.args.query.now, (c.in_default-k_above_count.ensures, (c.in_default-no_random.ensures, (c.in_default-no_sorted.ensures, tt)))))),
  sym c.count_of.ensures ∙ c.in-Some-count_of.is,
  c.in_default-too_large.ensures.none,
)
