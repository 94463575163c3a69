use Rattle.std.proofs.Common.{rules, ◌≡◌, ◌∙◌, List, ℕ, [], ◌∷◌, codes}
use Rattle.std.specs.List.{concat}
use Rattle.std.specs.Fmt.{decimal}
use Rattle.tk_io.specs.Pieces.{Puts, written_to}
use Rattle.tk_io.proofs.Putting.{puts_then, puts_written}
use Rattle.command_line.specs.declared.status.Status.TheVariants.{BadCatalog}
use Rattle.catalog_run.specs.Running.{catalog_refused_text}
use Rattle.command_line.proofs.Ending.{said}
use Rattle.catalog_run.proofs.command.refuse_catalog.Goals as goal

pub returns-clause-counts : goal.returns-clause-counts
returns-clause-counts g c =
    let name = c.args.fault.now in
    let number = decimal c.args.record_number in
    let end : List ℕ = 10 ∷ [] in
    let puts : Puts (written_to g.K.Sink.held g.K.Sink.faults g.K.Sink.aside c.make-writer.result.out c.make-writer.result.pieces)
    (written_to g.K.Sink.held g.K.Sink.faults g.K.Sink.aside c.put-4.new.self.out c.put-4.new.self.pieces) (catalog_refused_text name c.args.record_number) =
    puts_then _ _ _ (codes "refused catalog ") (concat (name ∷ codes " " ∷ number ∷ end ∷ [])) c.put.ensures.puts
    (puts_then _ _ _ name (concat (codes " " ∷ number ∷ end ∷ [])) c.put-2.ensures.puts
    (puts_then _ _ _ (codes " ") (concat (number ∷ end ∷ [])) c.put-3.ensures.puts
    (puts_then _ _ _ number (concat (end ∷ [])) c.put_number.ensures.puts c.put-4.ensures.puts))) in
    let same = puts.same ∙ c.make-writer.ensures.same_reference in
    let last : c.end-written.new.self.0 ≡ c.out-1.given.0 = search rules in
    (puts_written g.K.Sink.held g.K.Sink.faults g.K.Sink.aside c.args.out c.make-writer.result.out c.put-4.new.self.out _ _ _ _ c.end-written.result (catalog_refused_text name c.args.record_number)
    c.make-writer.ensures.begins c.make-writer.ensures.none puts c.end-written.ensures.ends last).cause.later

pub returns-clause-says : goal.returns-clause-says
returns-clause-says g c =
    let name = c.args.fault.now in
    let number = decimal c.args.record_number in
    let end : List ℕ = 10 ∷ [] in
    let puts : Puts (written_to g.K.Sink.held g.K.Sink.faults g.K.Sink.aside c.make-writer.result.out c.make-writer.result.pieces)
    (written_to g.K.Sink.held g.K.Sink.faults g.K.Sink.aside c.put-4.new.self.out c.put-4.new.self.pieces) (catalog_refused_text name c.args.record_number) =
    puts_then _ _ _ (codes "refused catalog ") (concat (name ∷ codes " " ∷ number ∷ end ∷ [])) c.put.ensures.puts
    (puts_then _ _ _ name (concat (codes " " ∷ number ∷ end ∷ [])) c.put-2.ensures.puts
    (puts_then _ _ _ (codes " ") (concat (number ∷ end ∷ [])) c.put-3.ensures.puts
    (puts_then _ _ _ number (concat (end ∷ [])) c.put_number.ensures.puts c.put-4.ensures.puts))) in
    let same = puts.same ∙ c.make-writer.ensures.same_reference in
    let last : c.end-written.new.self.0 ≡ c.out-1.given.0 = search rules in
    let written = puts_written g.K.Sink.held g.K.Sink.faults g.K.Sink.aside c.args.out c.make-writer.result.out c.put-4.new.self.out _ _ _ _ c.end-written.result (catalog_refused_text name c.args.record_number)
    c.make-writer.ensures.begins c.make-writer.ensures.none puts c.end-written.ensures.ends last in
    said _ _ _ _ (catalog_refused_text name c.args.record_number) BadCatalog c.ended.result c.end-written.result written.whole written.front written.cause c.ended.ensures
