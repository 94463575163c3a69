use Rattle.std.proofs.Common.{◌∙◌, ℕ, List, All, ap, arith, length, map, refl, sym, subst}
use Rattle.std.specs.List.{AllZip}
use Rattle.std.proofs.lemmas.List.{length-map}
use Rattle.std.proofs.lemmas.Result.{IfOk-weaker}
use Rattle.std.proofs.lemmas.Slice.Zip.{AllZip-long}
use Rattle.query_run.specs.Made.{IsReadyFor}
use Rattle.query_run.specs.Endings.{EndsAs, IsRight}
use Rattle.batch_result.specs.Batches.{BatchRun, IsBatch}
use Rattle.batch_result.specs.Cut.{IsCut}
use Rattle.catalog_open.specs.Admissions.{AreAdmitted}
use Rattle.catalog_open.specs.Views.{view_over, nothing_told}
use Rattle.catalog_open.specs.Wanted.{AreRead, IsWanted}
use Rattle.catalog_open.specs.Slots.{of_slot, sources_of}
use Rattle.catalog_run.specs.OpenSources.{batch_over}
use Rattle.catalog_run.proofs.Cuts.{cut_over, cut_whole, if_short, reads_unread}
use Rattle.catalog_run.proofs.EndedLines.{as_many_wait}
use Rattle.catalog_run.proofs.Readies.{all_own, all_ready, all_versions, readies_few}
use Rattle.catalog_run.proofs.Running.{as_many, same_batch}
use Rattle.catalog_run.proofs.Writable.{can_be_written}
use Rattle.catalog_run.proofs.lines.run_opened.Goals as goal

pub run_all-requires-clause-sources : goal.run_all-requires-clause-sources
run_all-requires-clause-sources g c κs within =
    let o = c.requires.opened in
    ap length c.deref-2.ensures.value ∙ o.5.many_counts ∙ sym o.5.many_told ∙ length-map c.args.sources.now.slots.items (of_slot g.S.Source.list)

pub run_all-requires-clause-ready : goal.run_all-requires-clause-ready
run_all-requires-clause-ready g c κs within =
    let o = c.requires.opened in
    let readies = c.in-Ok.admissions.readies.items in
    let outcomes = c.in-Ok.admissions.outcomes.items in
    let read = c.requires.read in
    let are = subst (λ os. AreAdmitted (view_over c.args.catalog.now os nothing_told) 1 read.0 outcomes readies) c.deref.ensures.value (c.in-Ok.ensures read.0 read.1) in
    let all : All (IsReadyFor c.args.sources.now.counts.items) readies =
    all_ready o.0 nothing_told o.1 c.args.catalog.now (IsWanted c.args.catalog.now o.2) o.3 o.4 c.args.sources.now.openings.items _ o.5 read.0 outcomes readies are in
    subst (λ lent. All (IsReadyFor c.deref-2.result.now) lent) (sym c.deref-3.ensures.value)
    (subst (λ counts. All (IsReadyFor counts) readies) (sym c.deref-2.ensures.value) all)

pub run_all-requires-clause-few_queries : goal.run_all-requires-clause-few_queries
run_all-requires-clause-few_queries g c κs within =
    let read = c.requires.read in
    let few = readies_few (view_over c.args.catalog.now c.deref.result.now nothing_told) 1 read.0 c.in-Ok.admissions.outcomes.items c.in-Ok.admissions.readies.items (c.in-Ok.ensures read.0 read.1) in
    let same = ap length c.deref-3.ensures.value in
    omega (arith, few, same)

pub end_lines-requires-clause-waiting : goal.end_lines-requires-clause-waiting
end_lines-requires-clause-waiting g c =
    let read = c.requires.read in
    as_many_wait _ 1 read.0 c.in-Ok.admissions.outcomes.items c.in-Ok.admissions.readies.items (c.in-Ok.ensures read.0 read.1)

pub end_lines-requires-clause-endings : goal.end_lines-requires-clause-endings
end_lines-requires-clause-endings g c =
    let many = AllZip-long IsRight c.deref-3.result.now c.in-Ok-run_all.batch.endings c.in-Ok-run_all.ensures.right in
    ap length c.into_endings.ensures ∙ many ∙ ap length c.deref-3.ensures.value

pub returns-in_default : goal.returns-in_default
returns-in_default g c =
    let o = c.requires.opened in
    record {
      same = refl;
      free = c.requires.free;
      ran = λ lines read. tt;
      cut = λ lines read.
          reads_unread g.S.Source.list g.S.Source.counts g.S.Source.calls g.S.Source.at_hand c.args.settings c.args.sources.now.slots.items c.args.sources.now.places.items c.args.sources.now.counts.items
          (view_over c.args.catalog.now c.args.sources.now.openings.items nothing_told) lines
          ((g.met.S.Source g.world.𝓛 g.world.𝓜 g.world.𝓡 ((λ s x. x), (λ x. x), (λ x. x), λ x. x)).distinct)
          (o.5.many_counts ∙ sym o.5.many_told ∙ length-map c.args.sources.now.slots.items (of_slot g.S.Source.list)) o.5.small;
      writable = tt;
    }

pub returns-in_default-run_all : goal.returns-in_default-run_all
returns-in_default-run_all g c =
    let begun = map (of_slot g.S.Source.counts) c.args.sources.now.slots.items in
    let now = map (of_slot g.S.Source.counts) c.run_all.new.sources.items in
    let made = map (of_slot g.S.Source.calls) c.args.sources.now.slots.items in
    let calls = map (of_slot g.S.Source.calls) c.run_all.new.sources.items in
    let sources = sources_of g.S.Source.list g.S.Source.at_hand c.args.sources.now in
    let readies = c.in-Ok.admissions.readies.items in
    let outcomes = c.in-Ok.admissions.outcomes.items in
    record {
      same = λ i. record sources { told = c.run_all.ensures.lists i; versions = c.run_all.ensures.versions i };
      free = c.run_all.ensures.empty;
      ran = λ lines read. tt;
      cut = λ lines read.
          cut_over c.args.settings sources begun now made calls (view_over c.args.catalog.now c.args.sources.now.openings.items nothing_told) lines outcomes readies
          (as_many (of_slot g.S.Source.counts) (of_slot g.S.Source.list) c.args.sources.now.slots.items) c.run_all.ensures.later
          (subst (λ os. AreAdmitted (view_over c.args.catalog.now os nothing_told) 1 lines outcomes readies) c.deref.ensures.value (c.in-Ok.ensures lines read))
          (subst IsCut (same_batch c.args.settings sources c.deref-2.result.now begun now made calls c.deref-3.result.now readies c.deref-2.ensures.value c.deref-3.ensures.value)
          c.in_default-run_all.ensures.cut);
      writable = tt;
    }

pub returns : goal.returns
returns g c =
    let o = c.requires.opened in
    let at = c.requires.read in
    let begun = map (of_slot g.S.Source.counts) c.args.sources.now.slots.items in
    let now = map (of_slot g.S.Source.counts) c.run_all.new.sources.items in
    let made = map (of_slot g.S.Source.calls) c.args.sources.now.slots.items in
    let calls = map (of_slot g.S.Source.calls) c.run_all.new.sources.items in
    let sources = sources_of g.S.Source.list g.S.Source.at_hand c.args.sources.now in
    let readies = c.in-Ok.admissions.readies.items in
    let admitted = c.in-Ok.admissions.outcomes.items in
    let batch = c.in-Ok-run_all.batch in
    let openings = c.args.sources.now.openings.items in
    let view = view_over c.args.catalog.now openings nothing_told in
    let ran = subst (λ (run : BatchRun). IsBatch run batch)
    (same_batch c.args.settings sources c.deref-2.result.now begun now made calls c.deref-3.result.now readies c.deref-2.ensures.value c.deref-3.ensures.value) c.in-Ok-run_all.ensures.batch in
    let ends = subst (AllZip EndsAs ran.queries) (sym c.into_endings.ensures) ran.ends in
    let right = subst (AllZip IsRight readies) (sym c.into_endings.ensures) ran.right in
    let are = λ (lines : List (List ℕ)) (read : AreRead lines c.args.read.items). subst (λ os. AreAdmitted (view_over c.args.catalog.now os nothing_told) 1 lines admitted readies) c.deref.ensures.value (c.in-Ok.ensures lines read) in
    let many = as_many (of_slot g.S.Source.counts) (of_slot g.S.Source.list) c.args.sources.now.slots.items in
    record {
      same = λ i. record sources { told = c.run_all.ensures.lists i; versions = c.run_all.ensures.versions i };
      free = c.run_all.ensures.empty;
      ran = λ lines read.
          let own = are lines read in
          IfOk-weaker c.end_lines.result _ _
          (λ outcomes ended. record {
            many = many;
            later = c.run_all.ensures.later;
            readies = readies;
            own = all_own view lines admitted readies own;
            ready = all_ready o.0 nothing_told o.1 c.args.catalog.now (IsWanted c.args.catalog.now o.2) o.3 o.4 openings sources o.5 lines admitted readies own;
            versions = all_versions o.0 nothing_told o.1 c.args.catalog.now (IsWanted c.args.catalog.now o.2) o.3 o.4 openings sources o.5 lines admitted readies own;
            batch = batch;
            ran = ran;
            outcomes_are = ended;
          }) (c.end_lines.ensures view lines ran.queries own ran.of ends right);
      cut = λ lines read.
          if_short c.end_lines.result
          (cut_over c.args.settings sources begun now made calls view lines admitted readies many c.run_all.ensures.later (are lines read)
          (cut_whole (batch_over c.args.settings sources begun now made calls readies) batch ran));
      writable = IfOk-weaker c.end_lines.result _ _ (λ outcomes ended. can_be_written view ran.states ran.queries 1 at.0 outcomes.items ran.served ended)
          (c.end_lines.ensures view at.0 ran.queries (are at.0 at.1) ran.of ends right);
    }
