use Rattle.std.proofs.Common.{subst}
use Rattle.csv.specs.Reading.{ReadRecord}
use Rattle.csv.specs.Records.{fields_of}
use Rattle.csv_records.proofs.Reading.{left_of, begin, more, last}
use Rattle.csv_records.proofs.read.read_all.Goals as goal

pub loop-init : goal.loop-init
loop-init g c = λ text b t. begin (g.T.TakesRecords.Took c.args.into.now) c.args.reader.now text b t

pub returns-in-Ok-false : goal.returns-in-Ok-false
returns-in-Ok-false g c = λ text b t.
    let h = c.loop.invariant text b t in
    let fields = fields_of c.read_byte_record.new.row in
    last (g.T.TakesRecords.Took c.loop.into) c.loop.reader c.read_byte_record.new.self text fields h
    (subst (λ found. ReadRecord left_of c.loop.reader c.read_byte_record.new.self found fields) c.in-Ok-false.field-0-test (c.in-Ok-false.ensures.reads h.trim h.ready))

pub loop-preserved : goal.loop-preserved
loop-preserved g c = λ text b t.
    let h = c.loop.invariant text b t in
    let fields = fields_of c.read_byte_record.new.row in
    more (g.T.TakesRecords.Took c.loop.into) (g.T.TakesRecords.Took c.take.new.self) c.loop.reader c.read_byte_record.new.self text fields h
    (subst (λ found. ReadRecord left_of c.loop.reader c.read_byte_record.new.self found fields) c.in-Ok-true.field-0-test (c.in-Ok-true.ensures.reads h.trim h.ready))
    (c.in-Ok-true.ensures.ready h.trim)
    c.in_ok-take-in-Ok-true.ensures
