use Rattle.std.proofs.Common.{◌≡◌, ◌∙◌, ℕ, List, Bor, Err, ap, arith, map, refl, subst, sym}
use Rattle.std.proofs.KnownBytes.{Keeps-refl}
use Rattle.topk_base.specs.Lines.{lines}
use Rattle.csv_records.specs.Records.{records_of}
use Rattle.source_api.specs.Places.{HasTextCause}
use Rattle.catalog_text.specs.Catalog.{IsCatalog}
use Rattle.catalog_text.specs.Judging.{Judges}
use Rattle.command_line.specs.Calls.{Call, call_at, output_as}
use Rattle.command_line.specs.Ends.{Says}
use Rattle.command_line.specs.Shelves.{Shelf, GivesText}
use Rattle.command_line.specs.declared.status.Status.TheVariants.{Memory}
use Rattle.command_line.proofs.Ending.{outside_at, shelf_at}
use Rattle.catalog_run.specs.RunEnds.{EndsRunning, RunsOverCatalog, from_shelf}
use Rattle.catalog_run.specs.Running.{lines_run, outcomes_text, run_status}
use Rattle.catalog_run.specs.Cut.{RanOutOfMemory}
use Rattle.catalog_run.specs.Runs.{IsRun}
use Rattle.catalog_run.proofs.Cuts.{cut_before}
use Rattle.catalog_run.proofs.RunEnding.{asks_text, ends_at_fault, ends_left, ends_lines, ends_on, ends_unread, ends_untold, takes_lines, takes_none, text_given}
use Rattle.catalog_run.proofs.command.run.Goals as goal

pub returns-in-Err-clause-ends : goal.returns-in-Err-clause-ends
returns-in-Err-clause-ends g c = λ words.
    let o = c.args.options.now in
    let before : Shelf = shelf_at (g.H.Shelf.texts c.args.shelf.now) (g.H.Shelf.lists c.args.shelf.now) (g.H.Shelf.versions c.args.shelf.now) (g.H.Shelf.at c.args.shelf.now) in
    let given : Shelf = shelf_at (g.H.Shelf.texts c.text.new.self) (g.H.Shelf.lists c.text.new.self) (g.H.Shelf.versions c.text.new.self) (g.H.Shelf.at c.text.new.self) in
    let call : Call = call_at words (outside_at (g.R.Intake.left c.args.input.now) (g.R.Intake.faults c.args.input.now) (g.K.Sink.held c.args.out.now) (g.K.Sink.faults c.args.out.now) before) (outside_at (g.R.Intake.left c.args.input.now) (g.R.Intake.faults c.args.input.now) (g.K.Sink.held c.args.out.now) (g.K.Sink.faults c.args.out.now) given) in
    subst (EndsRunning o call) (sym c.text_status.ensures)
    (ends_untold o call c.in-Err.trouble (asks_text o.catalog c.as_str.result.now before given c.as_str.ensures c.text.ensures.texts c.text.ensures.lists c.text.ensures.versions c.text.ensures.elsewhere c.text.ensures.counts)
    (subst (λ p. HasTextCause (before.at p) (given.at p) c.in-Err.trouble) c.as_str.ensures c.in-Err.ensures.cause)
    (record { left = Keeps-refl (g.R.Intake.left c.args.input.now); faults = refl })
    (record { held = Keeps-refl (g.K.Sink.held c.args.out.now); faults = refl }))

pub returns-in-Err-read-clause-ends : goal.returns-in-Err-read-clause-ends
returns-in-Err-read-clause-ends g c = λ words.
    let o = c.args.options.now in
    let before : Shelf = shelf_at (g.H.Shelf.texts c.args.shelf.now) (g.H.Shelf.lists c.args.shelf.now) (g.H.Shelf.versions c.args.shelf.now) (g.H.Shelf.at c.args.shelf.now) in
    let given : Shelf = shelf_at (g.H.Shelf.texts c.text.new.self) (g.H.Shelf.lists c.text.new.self) (g.H.Shelf.versions c.text.new.self) (g.H.Shelf.at c.text.new.self) in
    let call : Call = call_at words (outside_at (g.R.Intake.left c.args.input.now) (g.R.Intake.faults c.args.input.now) (g.K.Sink.held c.args.out.now) (g.K.Sink.faults c.args.out.now) before) (outside_at (g.R.Intake.left c.args.input.now) (g.R.Intake.faults c.args.input.now) (g.K.Sink.held c.refuse.new.out) (g.K.Sink.faults c.refuse.new.out) given) in
    let gives : GivesText o.catalog before given c.in-Ok.text.items = text_given o.catalog c.as_str.result.now before given c.in-Ok.text.items c.as_str.ensures c.text.ensures.texts c.text.ensures.lists c.text.ensures.versions c.text.ensures.elsewhere c.text.ensures.counts c.in-Ok.ensures.text (omega (arith, c.in-Ok.ensures.within, c.in-Ok.text.ok.0)) in
    let rest : Call = from_shelf given call in
    ends_on o call given c.in-Ok.text.items c.refuse.result gives
    (ends_at_fault o.settings c.in-Ok.text.items rest c.in-Err-read.fault c.refuse.result (subst (λ bytes. Judges (records_of bytes) (Err c.in-Err-read.fault)) c.deref.ensures.value c.in-Err-read.ensures) refl
    (record { left = Keeps-refl (g.R.Intake.left c.args.input.now); faults = refl }) c.refuse.ensures.says)

pub returns-in-Err-read_text-clause-ends : goal.returns-in-Err-read_text-clause-ends
returns-in-Err-read_text-clause-ends g c = λ words.
    let o = c.args.options.now in
    let before : Shelf = shelf_at (g.H.Shelf.texts c.args.shelf.now) (g.H.Shelf.lists c.args.shelf.now) (g.H.Shelf.versions c.args.shelf.now) (g.H.Shelf.at c.args.shelf.now) in
    let given : Shelf = shelf_at (g.H.Shelf.texts c.text.new.self) (g.H.Shelf.lists c.text.new.self) (g.H.Shelf.versions c.text.new.self) (g.H.Shelf.at c.text.new.self) in
    let call : Call = call_at words (outside_at (g.R.Intake.left c.args.input.now) (g.R.Intake.faults c.args.input.now) (g.K.Sink.held c.args.out.now) (g.K.Sink.faults c.args.out.now) before) (outside_at (g.R.Intake.left c.read_text.new.input) (g.R.Intake.faults c.read_text.new.input) (g.K.Sink.held c.args.out.now) (g.K.Sink.faults c.args.out.now) given) in
    let gives : GivesText o.catalog before given c.in-Ok.text.items = text_given o.catalog c.as_str.result.now before given c.in-Ok.text.items c.as_str.ensures c.text.ensures.texts c.text.ensures.lists c.text.ensures.versions c.text.ensures.elsewhere c.text.ensures.counts c.in-Ok.ensures.text (omega (arith, c.in-Ok.ensures.within, c.in-Ok.text.ok.0)) in
    let is = subst (λ bytes. IsCatalog (records_of bytes) c.in-Ok-read.catalog) c.deref.ensures.value c.in-Ok-read.ensures in
    let rest : Call = from_shelf given call in
    ends_on o call given c.in-Ok.text.items c.read_status.result gives
    (subst (RunsOverCatalog o.settings c.in-Ok.text.items rest) (sym c.read_status.ensures)
    (ends_unread o.settings c.in-Ok.text.items rest c.in-Err-read_text.error (record { catalog = c.in-Ok-read.catalog; is = is; shelf = refl }) c.in-Err-read_text.ensures.stopped
    (record { held = Keeps-refl (g.K.Sink.held c.args.out.now); faults = refl })))

pub returns-in_default-clause-ends : goal.returns-in_default-clause-ends
returns-in_default-clause-ends g c = λ words.
    let o = c.args.options.now in
    let before : Shelf = shelf_at (g.H.Shelf.texts c.args.shelf.now) (g.H.Shelf.lists c.args.shelf.now) (g.H.Shelf.versions c.args.shelf.now) (g.H.Shelf.at c.args.shelf.now) in
    let given : Shelf = shelf_at (g.H.Shelf.texts c.text.new.self) (g.H.Shelf.lists c.text.new.self) (g.H.Shelf.versions c.text.new.self) (g.H.Shelf.at c.text.new.self) in
    let call : Call = call_at words (outside_at (g.R.Intake.left c.args.input.now) (g.R.Intake.faults c.args.input.now) (g.K.Sink.held c.args.out.now) (g.K.Sink.faults c.args.out.now) before) (outside_at (g.R.Intake.left c.read_text.new.input) (g.R.Intake.faults c.read_text.new.input) (g.K.Sink.held c.args.out.now) (g.K.Sink.faults c.args.out.now) given) in
    let gives : GivesText o.catalog before given c.in-Ok.text.items = text_given o.catalog c.as_str.result.now before given c.in-Ok.text.items c.as_str.ensures c.text.ensures.texts c.text.ensures.lists c.text.ensures.versions c.text.ensures.elsewhere c.text.ensures.counts c.in-Ok.ensures.text (omega (arith, c.in-Ok.ensures.within, c.in-Ok.text.ok.0)) in
    let is = subst (λ bytes. IsCatalog (records_of bytes) c.in-Ok-read.catalog) c.deref.ensures.value c.in-Ok-read.ensures in
    let rest : Call = from_shelf given call in
    ends_on o call given c.in-Ok.text.items Memory gives
    (ends_left o.settings c.in-Ok.text.items rest
    (record {
      catalog = c.in-Ok-read.catalog;
      is = is;
      bytes = c.in-Ok-read_text.bytes.items;
      read = record { given = c.in-Ok-read_text.ensures.whole; faults = c.in-Ok-read_text.ensures.quiet };
      takes = takes_none c.in-Ok-read.catalog (lines c.in-Ok-read_text.bytes.items) given;
      cut = cut_before c.in-Ok-read.catalog (lines c.in-Ok-read_text.bytes.items) given.lists given.versions o.settings given.at;
    })
    (record { held = Keeps-refl (g.K.Sink.held c.args.out.now); faults = refl }))

pub returns-in_default-ran-clause-ends : goal.returns-in_default-ran-clause-ends
returns-in_default-ran-clause-ends g c = λ words.
    let o = c.args.options.now in
    let before : Shelf = shelf_at (g.H.Shelf.texts c.args.shelf.now) (g.H.Shelf.lists c.args.shelf.now) (g.H.Shelf.versions c.args.shelf.now) (g.H.Shelf.at c.args.shelf.now) in
    let given : Shelf = shelf_at (g.H.Shelf.texts c.text.new.self) (g.H.Shelf.lists c.text.new.self) (g.H.Shelf.versions c.text.new.self) (g.H.Shelf.at c.text.new.self) in
    let after : Shelf = shelf_at (g.H.Shelf.texts c.run_lines-ran.new.shelf) (g.H.Shelf.lists c.run_lines-ran.new.shelf) (g.H.Shelf.versions c.run_lines-ran.new.shelf) (g.H.Shelf.at c.run_lines-ran.new.shelf) in
    let call : Call = call_at words (outside_at (g.R.Intake.left c.args.input.now) (g.R.Intake.faults c.args.input.now) (g.K.Sink.held c.args.out.now) (g.K.Sink.faults c.args.out.now) before) (outside_at (g.R.Intake.left c.read_text.new.input) (g.R.Intake.faults c.read_text.new.input) (g.K.Sink.held c.args.out.now) (g.K.Sink.faults c.args.out.now) after) in
    let gives : GivesText o.catalog before given c.in-Ok.text.items = text_given o.catalog c.as_str.result.now before given c.in-Ok.text.items c.as_str.ensures c.text.ensures.texts c.text.ensures.lists c.text.ensures.versions c.text.ensures.elsewhere c.text.ensures.counts c.in-Ok.ensures.text (omega (arith, c.in-Ok.ensures.within, c.in-Ok.text.ok.0)) in
    let is = subst (λ bytes. IsCatalog (records_of bytes) c.in-Ok-read.catalog) c.deref.ensures.value c.in-Ok-read.ensures in
    let rest : Call = from_shelf given call in
    let same : map (λ line. line.now) c.deref-3.result.now ≡ lines c.in-Ok-read_text.bytes.items =
    ap (λ (found : List (Bor (List ℕ))). map (λ line. line.now) found) c.deref-3.ensures.value ∙ c.in-Ok-lines_of.ensures ∙ ap lines c.deref-2.ensures.value in
    let takes = takes_lines c.in-Ok-read.catalog _ (lines c.in-Ok-read_text.bytes.items) given after same c.run_lines-ran.ensures.texts c.run_lines-ran.ensures.lists c.run_lines-ran.ensures.versions c.run_lines-ran.ensures.moves c.run_lines-ran.ensures.few c.run_lines-ran.ensures.others in
    ends_on o call given c.in-Ok.text.items Memory gives
    (ends_left o.settings c.in-Ok.text.items rest
    (record {
      catalog = c.in-Ok-read.catalog;
      is = is;
      bytes = c.in-Ok-read_text.bytes.items;
      read = record { given = c.in-Ok-read_text.ensures.whole; faults = c.in-Ok-read_text.ensures.quiet };
      takes = takes;
      cut = subst (λ ls. RanOutOfMemory (lines_run o.settings c.in-Ok-read.catalog ls given after)) same c.in_default-ran.ensures.cut;
    })
    (record { held = Keeps-refl (g.K.Sink.held c.args.out.now); faults = refl }))

pub returns-clause-ends : goal.returns-clause-ends
returns-clause-ends g c = λ words.
    let o = c.args.options.now in
    let before : Shelf = shelf_at (g.H.Shelf.texts c.args.shelf.now) (g.H.Shelf.lists c.args.shelf.now) (g.H.Shelf.versions c.args.shelf.now) (g.H.Shelf.at c.args.shelf.now) in
    let given : Shelf = shelf_at (g.H.Shelf.texts c.text.new.self) (g.H.Shelf.lists c.text.new.self) (g.H.Shelf.versions c.text.new.self) (g.H.Shelf.at c.text.new.self) in
    let after : Shelf = shelf_at (g.H.Shelf.texts c.run_lines-ran.new.shelf) (g.H.Shelf.lists c.run_lines-ran.new.shelf) (g.H.Shelf.versions c.run_lines-ran.new.shelf) (g.H.Shelf.at c.run_lines-ran.new.shelf) in
    let call : Call = call_at words (outside_at (g.R.Intake.left c.args.input.now) (g.R.Intake.faults c.args.input.now) (g.K.Sink.held c.args.out.now) (g.K.Sink.faults c.args.out.now) before) (outside_at (g.R.Intake.left c.read_text.new.input) (g.R.Intake.faults c.read_text.new.input) (g.K.Sink.held c.write_outcomes-status.new.out) (g.K.Sink.faults c.write_outcomes-status.new.out) after) in
    let gives : GivesText o.catalog before given c.in-Ok.text.items = text_given o.catalog c.as_str.result.now before given c.in-Ok.text.items c.as_str.ensures c.text.ensures.texts c.text.ensures.lists c.text.ensures.versions c.text.ensures.elsewhere c.text.ensures.counts c.in-Ok.ensures.text (omega (arith, c.in-Ok.ensures.within, c.in-Ok.text.ok.0)) in
    let is = subst (λ bytes. IsCatalog (records_of bytes) c.in-Ok-read.catalog) c.deref.ensures.value c.in-Ok-read.ensures in
    let rest : Call = from_shelf given call in
    let same : map (λ line. line.now) c.deref-3.result.now ≡ lines c.in-Ok-read_text.bytes.items =
    ap (λ (found : List (Bor (List ℕ))). map (λ line. line.now) found) c.deref-3.ensures.value ∙ c.in-Ok-lines_of.ensures ∙ ap lines c.deref-2.ensures.value in
    let takes = takes_lines c.in-Ok-read.catalog _ (lines c.in-Ok-read_text.bytes.items) given after same c.run_lines-ran.ensures.texts c.run_lines-ran.ensures.lists c.run_lines-ran.ensures.versions c.run_lines-ran.ensures.moves c.run_lines-ran.ensures.few c.run_lines-ran.ensures.others in
    let outcomes = c.in-Ok-ran.outcomes.items in
    let ran = subst (λ ls. IsRun (lines_run o.settings c.in-Ok-read.catalog ls given after) outcomes) same c.in-Ok-ran.ensures.run in
    ends_on o call given c.in-Ok.text.items c.write_outcomes-status.result gives
    (ends_lines o.settings c.in-Ok.text.items (outcomes_text 1 outcomes) rest outcomes c.write_outcomes-status.result
    (record {
      bytes = c.in-Ok-read_text.bytes.items;
      read = record { given = c.in-Ok-read_text.ensures.whole; faults = c.in-Ok-read_text.ensures.quiet };
      replies = record {
        catalog = c.in-Ok-read.catalog;
        is = is;
        takes = takes;
        outcomes = outcomes;
        run = ran;
        status_is = refl;
        said_is = refl;
      };
    })
    (subst (λ os. Says (output_as g.K.Sink.held g.K.Sink.faults c.args.out.now) (output_as g.K.Sink.held g.K.Sink.faults c.write_outcomes-status.new.out) (outcomes_text 1 os) (run_status os) c.write_outcomes-status.result) c.deref-4.ensures.value c.write_outcomes-status.ensures.says))
