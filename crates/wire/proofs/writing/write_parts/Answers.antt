use Rattle.std.proofs.Common.{rules, ◌≡◌, ◌∙◌, Ok, Err, ap, subst}
use Rattle.tk_io.proofs.Putting.{puts_written}
use Rattle.wire.proofs.WritingLaws.{written_ok, written_err}
use Rattle.wire.proofs.writing.write_parts.Goals as goal

pub returns-in-Ok-clause-writes : goal.returns-in-Ok-clause-writes
returns-in-Ok-clause-writes g c =
    let same = c.put_parts.ensures.same ∙ c.make-writer.ensures.same_reference in
    let last : c.end.new.self.0 ≡ c.link-1.given.0 = search rules in
    written_ok _ _ _ _ c.in-Ok.field-0 _ _
    (puts_written g.K.Sink.held g.K.Sink.faults g.K.Sink.aside c.args.link c.make-writer.result.out c.put_parts.new.link.out _ _ _ _ (Ok c.in-Ok.field-0) _
    c.make-writer.ensures.begins c.make-writer.ensures.none c.put_parts.ensures c.in-Ok.ensures.ends last)

pub returns-in-Err-clause-writes : goal.returns-in-Err-clause-writes
returns-in-Err-clause-writes g c =
    let same = c.put_parts.ensures.same ∙ c.make-writer.ensures.same_reference in
    let last : c.end.new.self.0 ≡ c.link-1.given.0 = search rules in
    written_err _ _ _ _ c.in-Err.field-0 _ _
    (puts_written g.K.Sink.held g.K.Sink.faults g.K.Sink.aside c.args.link c.make-writer.result.out c.put_parts.new.link.out _ _ _ _ (Err c.in-Err.field-0) _
    c.make-writer.ensures.begins c.make-writer.ensures.none c.put_parts.ensures c.in-Err.ensures.ends last)

pub returns-in-Ok-clause-apart : goal.returns-in-Ok-clause-apart
returns-in-Ok-clause-apart g c =
    let same = c.put_parts.ensures.same ∙ c.make-writer.ensures.same_reference in
    let last : c.end.new.self.0 ≡ c.link-1.given.0 = search rules in
    subst (λ k. g.K.Sink.aside k ≡ g.K.Sink.aside c.args.link.now) last (c.end.ensures.apart ∙ c.put_parts.ensures.apart ∙ ap g.K.Sink.aside c.make-writer.ensures.begins)

pub returns-in-Err-clause-apart : goal.returns-in-Err-clause-apart
returns-in-Err-clause-apart g c =
    let same = c.put_parts.ensures.same ∙ c.make-writer.ensures.same_reference in
    let last : c.end.new.self.0 ≡ c.link-1.given.0 = search rules in
    subst (λ k. g.K.Sink.aside k ≡ g.K.Sink.aside c.args.link.now) last (c.end.ensures.apart ∙ c.put_parts.ensures.apart ∙ ap g.K.Sink.aside c.make-writer.ensures.begins)
