use Rattle.std.proofs.Common.{rules, ◌≡◌, ◌∙◌}
use Rattle.tk_io.proofs.Putting.{puts_written}
use Rattle.command_line.specs.declared.status.Status.TheVariants.{Done}
use Rattle.command_line.proofs.Ending.{said}
use Rattle.bundle_calls.specs.Comparing.{compared_text}
use Rattle.bundle_calls.proofs.comparing.write_compared.Goals as goal

pub returns-clause-counts : goal.returns-clause-counts
returns-clause-counts g c =
    let same = c.put_compared.ensures.same ∙ c.make-writer.ensures.same_reference in
    let last : c.end-written.new.self.0 ≡ c.out-1.given.0 = search rules in
    (puts_written g.K.Sink.held g.K.Sink.faults g.K.Sink.aside c.args.out c.make-writer.result.out c.put_compared.new.out.out _ _ _ _ c.end-written.result (compared_text c.args.compared.now)
    c.make-writer.ensures.begins c.make-writer.ensures.none c.put_compared.ensures c.end-written.ensures.ends last).cause.later

pub returns-clause-says : goal.returns-clause-says
returns-clause-says g c =
    let same = c.put_compared.ensures.same ∙ c.make-writer.ensures.same_reference in
    let last : c.end-written.new.self.0 ≡ c.out-1.given.0 = search rules in
    let written = puts_written g.K.Sink.held g.K.Sink.faults g.K.Sink.aside c.args.out c.make-writer.result.out c.put_compared.new.out.out _ _ _ _ c.end-written.result (compared_text c.args.compared.now)
    c.make-writer.ensures.begins c.make-writer.ensures.none c.put_compared.ensures c.end-written.ensures.ends last in
    said _ _ _ _ (compared_text c.args.compared.now) Done c.ended.result c.end-written.result written.whole written.front written.cause c.ended.ensures
