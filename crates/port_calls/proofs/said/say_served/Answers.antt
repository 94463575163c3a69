use Rattle.std.proofs.Common.{rules, ◌≡◌, ◌∙◌, List, ℕ, [], ◌∷◌, codes}
use Rattle.std.specs.List.{concat}
use Rattle.std.specs.Fmt.{decimal}
use Rattle.tk_io.specs.Pieces.{Puts, Writes, written_to}
use Rattle.tk_io.proofs.Putting.{puts_then, puts_written}
use Rattle.command_line.specs.declared.status.Status.TheVariants.{Done}
use Rattle.command_line.proofs.Ending.{said}
use Rattle.port_calls.specs.NodeTexts.{served_text}
use Rattle.port_calls.proofs.said.say_served.Given as given
use Rattle.port_calls.proofs.said.say_served.Goals as goal

-- the line was written, or a front of it
written : (g : given.Over) (c : goal.After-ended g)
    → Writes (g.K.Sink.held c.args.out.now) (g.K.Sink.held c.out-1.given.0) (g.K.Sink.faults c.args.out.now) (g.K.Sink.faults c.out-1.given.0) c.end-written.result (served_text c.args.conns)
written g c =
    let number = decimal c.args.conns in
    let end : List ℕ = 10 ∷ [] in
    let puts : Puts (written_to g.K.Sink.held g.K.Sink.faults g.K.Sink.aside c.make-writer.result.out c.make-writer.result.pieces)
    (written_to g.K.Sink.held g.K.Sink.faults g.K.Sink.aside c.put-2.new.self.out c.put-2.new.self.pieces) (served_text c.args.conns) =
    puts_then _ _ _ (codes "served ") (concat (number ∷ end ∷ [])) c.put.ensures.puts
    (puts_then _ _ _ number (concat (end ∷ [])) c.put_number.ensures.puts c.put-2.ensures.puts) in
    let same = puts.same ∙ c.make-writer.ensures.same_reference in
    let last : c.end-written.new.self.0 ≡ c.out-1.given.0 = search rules in
    puts_written g.K.Sink.held g.K.Sink.faults g.K.Sink.aside c.args.out c.make-writer.result.out c.put-2.new.self.out _ _ _ _ c.end-written.result (served_text c.args.conns)
    c.make-writer.ensures.begins c.make-writer.ensures.none puts c.end-written.ensures.ends last

pub returns-clause-counts : goal.returns-clause-counts
returns-clause-counts g c = (written g c).cause.later

pub returns-clause-says : goal.returns-clause-says
returns-clause-says g c =
    let all = written g c in
    said _ _ _ _ (served_text c.args.conns) Done c.ended.result c.end-written.result all.whole all.front all.cause c.ended.ensures
