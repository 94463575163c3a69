use Rattle.std.proofs.Common.{rules, ◌≡◌, ◌∙◌, refl}
use Rattle.tk_io.proofs.Putting.{puts_written}
use Rattle.catalog_run.specs.Running.{outcomes_text, run_status}
use Rattle.command_line.proofs.Ending.{said, said_as}
use Rattle.catalog_run.proofs.line_outcomes.write_outcomes.Goals as goal

pub returns-clause-counts : goal.returns-clause-counts
returns-clause-counts g c =
    let same = c.put_outcomes.ensures.same ∙ c.make-writer.ensures.same_reference in
    let last : c.end-written.new.self.0 ≡ c.out-1.given.0 = search rules in
    (puts_written g.K.Sink.held g.K.Sink.faults g.K.Sink.aside c.args.out c.make-writer.result.out c.put_outcomes.new.out.out _ _ _ _ c.end-written.result (outcomes_text 1 c.args.outcomes.now)
    c.make-writer.ensures.begins c.make-writer.ensures.none c.put_outcomes.ensures c.end-written.ensures.ends last).cause.later

pub returns-clause-says : goal.returns-clause-says
returns-clause-says g c =
    let same = c.put_outcomes.ensures.same ∙ c.make-writer.ensures.same_reference in
    let last : c.end-written.new.self.0 ≡ c.out-1.given.0 = search rules in
    let written = puts_written g.K.Sink.held g.K.Sink.faults g.K.Sink.aside c.args.out c.make-writer.result.out c.put_outcomes.new.out.out _ _ _ _ c.end-written.result (outcomes_text 1 c.args.outcomes.now)
    c.make-writer.ensures.begins c.make-writer.ensures.none c.put_outcomes.ensures c.end-written.ensures.ends last in
    said_as _ _ _ _ _ _ c.run_status.result (run_status c.args.outcomes.now) c.ended.result refl c.run_status.ensures
    (said _ _ _ _ (outcomes_text 1 c.args.outcomes.now) c.run_status.result c.ended.result c.end-written.result written.whole written.front written.cause c.ended.ensures)
