use Rattle.std.proofs.Common.{Err, ap, ◌∙◌, sym}
use Rattle.command_line.specs.Bulking.{bulk_app, bulk_options, bulk_takes, bulk_given, bulk_in, AreBulkOptions}
use Rattle.command_line.proofs.OptionLaws.{asked, fault_in, refused}
use Rattle.command_line.proofs.MakingLaws.{answer_read, answer_refused, answer_within}
use Rattle.command_line.proofs.BulkingLaws.{bulk_asks}
use Rattle.command_line.proofs.bulking.read_bulk.Goals as goal

pub returns-in-Ok-clause-read : goal.returns-in-Ok-clause-read
returns-in-Ok-clause-read c =
    let is = asked bulk_takes bulk_app bulk_given bulk_in bulk_asks c.args.words.now _ c.in-Ok.ensures.found in
    answer_read (bulk_options c.args.words.now) c.options_of-options.result c.ok_or.result (is ∙ sym c.options_of-options.ensures.found) c.ok_or.ensures.value

pub returns-in-Ok-clause-refused : goal.returns-in-Ok-clause-refused
returns-in-Ok-clause-refused c =
    let is = asked bulk_takes bulk_app bulk_given bulk_in bulk_asks c.args.words.now _ c.in-Ok.ensures.found in
    answer_refused (bulk_options c.args.words.now) c.options_of-options.result c.ok_or.result (is ∙ sym c.options_of-options.ensures.found) c.ok_or.ensures.value

pub returns-in-Ok-clause-within : goal.returns-in-Ok-clause-within
returns-in-Ok-clause-within c = answer_within AreBulkOptions c.options_of-options.result c.ok_or.result c.options_of-options.ensures.within c.ok_or.ensures.value

pub returns-in-Err-clause-refused : goal.returns-in-Err-clause-refused
returns-in-Err-clause-refused c =
    λ e. refused bulk_takes bulk_app bulk_given bulk_in bulk_asks c.args.words.now (c.in-Err.ensures.refused (ap Err (ap fault_in e)))
