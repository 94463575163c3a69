use Rattle.std.proofs.Common.{rules, ◌≡◌, ◌∙◌}
use Rattle.tk_io.proofs.Putting.{puts_written}
use Rattle.cert_text.proofs.outcome.write_outcome.Goals as goal

pub returns-clause-whole : goal.returns-clause-whole
returns-clause-whole g c =
    let same = c.put_outcome.ensures.same ∙ c.make-writer.ensures.same_reference in
    let last : c.end.new.self.0 ≡ c.out-1.given.0 = search rules in
    (puts_written g.K.Sink.held g.K.Sink.faults g.K.Sink.aside c.args.out c.make-writer.result.out c.put_outcome.new.out.out _ _ _ _ c.end.result _
    c.make-writer.ensures.begins c.make-writer.ensures.none c.put_outcome.ensures c.end.ensures.ends last).whole

pub returns-clause-front : goal.returns-clause-front
returns-clause-front g c =
    let same = c.put_outcome.ensures.same ∙ c.make-writer.ensures.same_reference in
    let last : c.end.new.self.0 ≡ c.out-1.given.0 = search rules in
    (puts_written g.K.Sink.held g.K.Sink.faults g.K.Sink.aside c.args.out c.make-writer.result.out c.put_outcome.new.out.out _ _ _ _ c.end.result _
    c.make-writer.ensures.begins c.make-writer.ensures.none c.put_outcome.ensures c.end.ensures.ends last).front

pub returns-clause-cause : goal.returns-clause-cause
returns-clause-cause g c =
    let same = c.put_outcome.ensures.same ∙ c.make-writer.ensures.same_reference in
    let last : c.end.new.self.0 ≡ c.out-1.given.0 = search rules in
    (puts_written g.K.Sink.held g.K.Sink.faults g.K.Sink.aside c.args.out c.make-writer.result.out c.put_outcome.new.out.out _ _ _ _ c.end.result _
    c.make-writer.ensures.begins c.make-writer.ensures.none c.put_outcome.ensures c.end.ensures.ends last).cause
