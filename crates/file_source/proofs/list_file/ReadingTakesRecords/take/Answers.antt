use Rattle.std.proofs.Common.{◌∙◌, ap, sym, subst}
use Rattle.csv.specs.Records.{fields_of}
use Rattle.file_source.specs.ListFile.{row_of_pair, is_header_pair}
use Rattle.file_source.specs.Taking.{Puts}
use Rattle.file_source.proofs.TakingLaws.{begun, takes_record, takes_header, not_skipped, skipped_first}
use Rattle.file_source.proofs.list_file.ReadingTakesRecords.take.Goals as goal

pub returns-in-Ok : goal.returns-in-Ok
returns-in-Ok c = λ records h.
    takes_record c.args.self.now c.put.new.self records (fields_of c.args.row.now) h
    (subst (Puts (begun c.args.self.now) c.put.new.self) (c.row_of.ensures ∙ ap row_of_pair c.pair_of-pair.ensures) c.in-Ok.ensures)
    (λ new. sym (ap is_header_pair c.pair_of-pair.ensures) ∙ not_skipped c.args.self.now.started _ c.is_skipped-skipped.result c.is_skipped-skipped.ensures c.if-skipped.false new)

pub returns-then-skipped : goal.returns-then-skipped
returns-then-skipped c = λ records h.
    let first = skipped_first c.args.self.now.started _ c.is_skipped-skipped.result c.is_skipped-skipped.ensures c.if-skipped.true in
    takes_header c.args.self.now records (fields_of c.args.row.now) h first.0 (sym (ap is_header_pair c.pair_of-pair.ensures) ∙ first.1)
