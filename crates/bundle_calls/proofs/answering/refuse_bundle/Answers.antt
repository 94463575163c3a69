use Rattle.std.proofs.Common.{rules, ◌≡◌, ◌∙◌, List, ℕ, [], ◌∷◌, codes}
use Rattle.std.specs.List.{concat}
use Rattle.std.specs.Fmt.{decimal}
use Rattle.tk_io.specs.Pieces.{Puts, written_to}
use Rattle.tk_io.proofs.Putting.{puts_then, puts_written}
use Rattle.bundle_calls.specs.Reply.{bundle_refused_text}
use Rattle.command_line.specs.declared.status.Status.TheVariants.{BadInput}
use Rattle.command_line.proofs.Ending.{said}
use Rattle.bundle_calls.proofs.answering.refuse_bundle.Goals as goal

pub returns-clause-counts : goal.returns-clause-counts
returns-clause-counts g c =
    let number = decimal c.args.line in
    let end : List ℕ = 10 ∷ [] in
    let puts : Puts (written_to g.K.Sink.held g.K.Sink.faults g.K.Sink.aside c.make-writer.result.out c.make-writer.result.pieces)
    (written_to g.K.Sink.held g.K.Sink.faults g.K.Sink.aside c.put-2.new.self.out c.put-2.new.self.pieces) (bundle_refused_text c.args.line) =
    puts_then _ _ _ (codes "refused bundle ") (concat (number ∷ end ∷ [])) c.put.ensures.puts
    (puts_then _ _ _ number (concat (end ∷ [])) c.put_number.ensures.puts c.put-2.ensures.puts) in
    let same = puts.same ∙ c.make-writer.ensures.same_reference in
    let last : c.end-written.new.self.0 ≡ c.out-1.given.0 = search rules in
    (puts_written g.K.Sink.held g.K.Sink.faults g.K.Sink.aside c.args.out c.make-writer.result.out c.put-2.new.self.out _ _ _ _ c.end-written.result (bundle_refused_text c.args.line)
    c.make-writer.ensures.begins c.make-writer.ensures.none puts c.end-written.ensures.ends last).cause.later

pub returns-clause-says : goal.returns-clause-says
returns-clause-says g c =
    let number = decimal c.args.line in
    let end : List ℕ = 10 ∷ [] in
    let puts : Puts (written_to g.K.Sink.held g.K.Sink.faults g.K.Sink.aside c.make-writer.result.out c.make-writer.result.pieces)
    (written_to g.K.Sink.held g.K.Sink.faults g.K.Sink.aside c.put-2.new.self.out c.put-2.new.self.pieces) (bundle_refused_text c.args.line) =
    puts_then _ _ _ (codes "refused bundle ") (concat (number ∷ end ∷ [])) c.put.ensures.puts
    (puts_then _ _ _ number (concat (end ∷ [])) c.put_number.ensures.puts c.put-2.ensures.puts) in
    let same = puts.same ∙ c.make-writer.ensures.same_reference in
    let last : c.end-written.new.self.0 ≡ c.out-1.given.0 = search rules in
    let written = puts_written g.K.Sink.held g.K.Sink.faults g.K.Sink.aside c.args.out c.make-writer.result.out c.put-2.new.self.out _ _ _ _ c.end-written.result (bundle_refused_text c.args.line)
    c.make-writer.ensures.begins c.make-writer.ensures.none puts c.end-written.ensures.ends last in
    said _ _ _ _ (bundle_refused_text c.args.line) BadInput c.ended.result c.end-written.result written.whole written.front written.cause c.ended.ensures
