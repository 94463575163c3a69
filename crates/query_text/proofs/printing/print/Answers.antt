use Rattle.std.proofs.Common.{rules, ◌≡◌, Ok, Some, ap, refl, ◌∙◌, ◌++◌}
use Rattle.tk_io.specs.Sides.{no_side}
use Rattle.tk_io.proofs.Putting.{puts_written}
use Rattle.query_text.specs.declared.text.Text.{Text}
use Rattle.query_text.specs.Query.{printed}
use Rattle.query_text.proofs.printing.print.Goals as goal

pub returns-in-Ok : goal.returns-in-Ok
returns-in-Ok c =
    let same = c.put_query.ensures.same ∙ c.make-writer.ensures.same_reference in
    let written =
    puts_written {K = Text} (λ t. Some t.bytes.items) (λ t. t.faults) (λ t. no_side) c.make-writer.result.out c.make-writer.result.out c.put_query.new.out.out _ _ c.end.new.self.0 c.end.new.self.0 (Ok tt)
    (printed c.args.query.now) refl c.make-writer.ensures.none c.put_query.ensures c.in-Ok.ensures.ends refl in
    let text : c.end.new.self.0.bytes.items ≡ printed c.args.query.now =
    written.whole ∙ ap (λ xs. xs ++ printed c.args.query.now) (ap (λ (t : Text). t.bytes.items) c.make-writer.ensures.begins ∙ c.new-text.ensures) in
    search rules
