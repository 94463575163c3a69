use Rattle.std.proofs.Common.{sym}
use Rattle.csv.specs.Records.{fields_of}
use Rattle.catalog_text.proofs.TakingLaws.{stays, lacks_header, faulted, added_by}
use Rattle.catalog_text.proofs.SourceLaws.{header_none}
use Rattle.catalog_text.proofs.reading.ReadingTakesRecords.take.Goals as goal

pub returns-then-is_some : goal.returns-then-is_some
returns-then-is_some c = λ records h.
    let old = c.args.self.now in
    stays old.started old.wide old.catalog old.fault records (fields_of c.args.row.now) (sym c.if-is_some.ensures) h

pub returns-in_default : goal.returns-in_default
returns-in_default c = λ records h.
    let old = c.args.self.now in
    lacks_header old.started old.wide old.catalog old.fault records (fields_of c.args.row.now) (sym c.if-is_some.ensures) c.if-not-self.true h
    (header_none _ _ c.header_in.ensures c.in_default.is)

pub returns-then-is_some-2 : goal.returns-then-is_some-2
returns-then-is_some-2 c = λ records h.
    let old = c.args.self.now in
    faulted old.started old.wide old.catalog old.fault records (fields_of c.args.row.now) c.source_in-source.result c.fault_of-found.result (sym c.if-is_some.ensures) c.if-not-self.false h
    c.source_in-source.ensures c.fault_of-found.ensures (sym c.if-is_some-2.ensures)

pub returns-in-Ok : goal.returns-in-Ok
returns-in-Ok c = λ records h.
    let old = c.args.self.now in
    added_by old.started old.wide old.catalog c.push.new.self old.fault records (fields_of c.args.row.now) c.in-Some-source.parts c.source_in-source.result c.fault_of-found.result
    (sym c.if-is_some.ensures) c.if-not-self.false c.in-Some-source.is (sym c.if-is_some-2.ensures) c.source_in-source.ensures c.fault_of-found.ensures c.in-Ok.ensures h
