use Rattle.std.proofs.Common.{rules, tests}
use Rattle.csv.specs.Reading.{strip_bom}
use Rattle.file_source.proofs.PlainLaws.{row_read, all_read}
use Rattle.file_source.proofs.plain_rows.plain_rows.Goals as goal

pub loop-rest-preserved : goal.loop-rest-preserved
loop-rest-preserved c =
    row_read (strip_bom c.args.text.now) c.loop-rest.rest.now c.in-Some.more.now c.loop-rest.records.items c.push.new.self.items c.in-Some.row
    c.loop-rest.invariant c.in-Some.ensures c.in_ok-push.ensures.items

pub returns : goal.returns
returns c = all_read c.args.text.now c.loop-rest.rest.now c.loop-rest.records.items c.loop-rest.invariant (search (rules, tests))
