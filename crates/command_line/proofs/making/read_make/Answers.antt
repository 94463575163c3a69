use Rattle.std.proofs.Common.{Err, ap, ◌∙◌, sym}
use Rattle.command_line.specs.Making.{make_app, make_options, make_takes, options_given, options_in}
use Rattle.command_line.proofs.OptionLaws.{asked, fault_in, refused}
use Rattle.command_line.proofs.MakingLaws.{make_asks, answer_read, answer_refused}
use Rattle.command_line.proofs.making.read_make.Goals as goal

pub returns-in-Ok-clause-read : goal.returns-in-Ok-clause-read
returns-in-Ok-clause-read c =
    let is = asked make_takes make_app options_given options_in make_asks c.args.words.now _ c.in-Ok.ensures.found in
    answer_read (make_options c.args.words.now) c.options_of-options.result c.ok_or.result (is ∙ sym c.options_of-options.ensures.found) c.ok_or.ensures.value

pub returns-in-Ok-clause-refused : goal.returns-in-Ok-clause-refused
returns-in-Ok-clause-refused c =
    let is = asked make_takes make_app options_given options_in make_asks c.args.words.now _ c.in-Ok.ensures.found in
    answer_refused (make_options c.args.words.now) c.options_of-options.result c.ok_or.result (is ∙ sym c.options_of-options.ensures.found) c.ok_or.ensures.value

pub returns-in-Err-clause-refused : goal.returns-in-Err-clause-refused
returns-in-Err-clause-refused c =
    λ e. refused make_takes make_app options_given options_in make_asks c.args.words.now (c.in-Err.ensures.refused (ap Err (ap fault_in e)))
