use Rattle.std.proofs.Common.{sym, subst, ◌∙◌, arith}
use Rattle.bulk_run.specs.Endings.{AllEndInOne}
use Rattle.bulk_run.proofs.TableLaws.{slots_long, none_fed}
use Rattle.bulk_run.proofs.Readying.{all_counted, all_ready_for, counts_long, readies_long}
use Rattle.bulk_run.proofs.OneAnswers.{ran_in_one}
use Rattle.bulk_run.proofs.ReadsLaws.{cut_sparingly, ran_sparingly}
use Rattle.bulk_run.proofs.run.run_queries.Goals as goal

pub run_all-requires-clause-sources : goal.run_all-requires-clause-sources
run_all-requires-clause-sources g c κs within =
    let input = c.args.input in
    counts_long input c.args.counts.now c.requires.counts ∙ sym (slots_long input.start input.count input.lists c.args.slots.now.items c.requires.slots)

pub run_all-requires-clause-few_sources : goal.run_all-requires-clause-few_sources
run_all-requires-clause-few_sources g c κs within =
    let long = counts_long c.args.input c.args.counts.now c.requires.counts in
    let few = c.requires.input.few_lists in
    omega (arith, long, few)

pub run_all-requires-clause-counts : goal.run_all-requires-clause-counts
run_all-requires-clause-counts g c κs within = all_counted c.args.input c.args.counts.now c.requires.input c.requires.counts

pub run_all-requires-clause-few_queries : goal.run_all-requires-clause-few_queries
run_all-requires-clause-few_queries g c κs within =
    let many = readies_long c.args.input c.args.readies.now c.requires.readies in
    let few = c.requires.input.few_queries in
    omega (arith, many, few)

pub run_all-requires-clause-ready : goal.run_all-requires-clause-ready
run_all-requires-clause-ready g c κs within = all_ready_for c.args.input c.args.readies.now c.args.counts.now c.requires.counts c.requires.readies

pub run_all-requires-clause-empty : goal.run_all-requires-clause-empty
run_all-requires-clause-empty g c κs within = none_fed c.args.input.start c.args.input.count c.args.input.lists c.args.slots.now.items c.requires.slots

pub returns-in_default-clause-read : goal.returns-in_default-clause-read
returns-in_default-clause-read g c =
    cut_sparingly c.args.input c.args.settings c.args.counts.now c.args.readies.now c.args.slots.now.items c.run_all.new.sources.items c.requires.input
    c.requires.settings c.requires.counts c.requires.readies c.requires.slots c.run_all.ensures.lists c.told_tables_bound_a_cut_batch.ensures.within
    c.in_default.ensures.cut

pub returns-clause-read : goal.returns-clause-read
returns-clause-read g c =
    ran_sparingly c.args.input c.args.settings c.args.counts.now c.args.readies.now c.args.slots.now.items c.run_all.new.sources.items c.requires.input
    c.requires.settings c.requires.counts c.requires.readies c.requires.slots c.run_all.ensures.lists c.told_tables_bound_the_uses.ensures.within c.in-Ok.batch
    c.in-Ok.ensures.batch

pub returns-clause-ended : goal.returns-clause-ended
returns-clause-ended g c =
    subst (AllEndInOne c.args.input) (sym c.into_endings.ensures)
    (ran_in_one c.args.input c.args.settings c.args.counts.now c.args.readies.now c.args.slots.now.items c.run_all.new.sources.items c.in-Ok.batch c.requires.readies
    c.requires.slots c.told_tables_give_the_one_ending.ensures c.in-Ok.ensures.batch)
