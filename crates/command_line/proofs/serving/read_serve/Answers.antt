use Rattle.std.proofs.Common.{Err, ap, ◌∙◌}
use Rattle.command_line.specs.Serving.{serve_app, serve_takes, serve_given, serve_in}
use Rattle.command_line.proofs.OptionLaws.{asked, fault_in, refused}
use Rattle.command_line.proofs.RunningLaws.{answer_read}
use Rattle.command_line.proofs.ServingLaws.{serve_asks}
use Rattle.command_line.proofs.serving.read_serve.Goals as goal

pub returns-in-Ok-clause-read : goal.returns-in-Ok-clause-read
returns-in-Ok-clause-read c =
    let is = asked serve_takes serve_app serve_given serve_in serve_asks c.args.words.now _ c.in-Ok.ensures.found in
    answer_read _ _ c.options_of-options.result is c.options_of-options.ensures.read

pub returns-in-Ok-clause-refused : goal.returns-in-Ok-clause-refused
returns-in-Ok-clause-refused c =
    let is = asked serve_takes serve_app serve_given serve_in serve_asks c.args.words.now _ c.in-Ok.ensures.found in
    λ e. is ∙ c.options_of-options.ensures.refused e

pub returns-in-Err-clause-refused : goal.returns-in-Err-clause-refused
returns-in-Err-clause-refused c =
    λ e. refused serve_takes serve_app serve_given serve_in serve_asks c.args.words.now (c.in-Err.ensures.refused (ap Err (ap fault_in e)))
