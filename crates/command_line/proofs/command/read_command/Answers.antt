use Rattle.std.proofs.Common.{Err, option_map, sym, ap, ◌∙◌}
use Rattle.command_line.specs.declared.command.Command.TheVariants.{Make, Run, Bulk}
use Rattle.command_line.proofs.OptionLaws.{fault_in}
use Rattle.command_line.proofs.CommandLaws.{make_named, run_named, bulk_named, none_named}
use Rattle.command_line.proofs.RunningLaws.{answer_read}
use Rattle.command_line.proofs.command.read_command.Goals as goal

pub returns-in-Ok-clause-read : goal.returns-in-Ok-clause-read
returns-in-Ok-clause-read c = make_named c.args.words.now (sym c.is_named.ensures ∙ c.if-is_named.true) ∙ ap (option_map Make) c.in-Ok.ensures.read

pub returns-in-Err-clause-refused : goal.returns-in-Err-clause-refused
returns-in-Err-clause-refused c = λ e.
    make_named c.args.words.now (sym c.is_named.ensures ∙ c.if-is_named.true) ∙ ap (option_map Make) (c.in-Err.ensures.refused (ap Err (ap fault_in e)))

pub returns-in-Ok-read_run-clause-read : goal.returns-in-Ok-read_run-clause-read
returns-in-Ok-read_run-clause-read c =
    run_named c.args.words.now (sym c.is_named.ensures ∙ c.if-is_named.false) (sym c.is_named-2.ensures ∙ c.if-is_named-2.true)
    ∙ ap (option_map Run) c.in-Ok-read_run.ensures.read

pub returns-in-Err-read_run-clause-refused : goal.returns-in-Err-read_run-clause-refused
returns-in-Err-read_run-clause-refused c = λ e.
    run_named c.args.words.now (sym c.is_named.ensures ∙ c.if-is_named.false) (sym c.is_named-2.ensures ∙ c.if-is_named-2.true)
    ∙ ap (option_map Run) (c.in-Err-read_run.ensures.refused (ap Err (ap fault_in e)))

pub returns-in-Ok-read_bulk-clause-read : goal.returns-in-Ok-read_bulk-clause-read
returns-in-Ok-read_bulk-clause-read c =
    bulk_named c.args.words.now (sym c.is_named.ensures ∙ c.if-is_named.false) (sym c.is_named-2.ensures ∙ c.if-is_named-2.false) (sym c.is_named-3.ensures ∙ c.if-is_named-3.true)
    ∙ ap (option_map Bulk) c.in-Ok-read_bulk.ensures.read

pub returns-in-Err-read_bulk-clause-refused : goal.returns-in-Err-read_bulk-clause-refused
returns-in-Err-read_bulk-clause-refused c = λ e.
    bulk_named c.args.words.now (sym c.is_named.ensures ∙ c.if-is_named.false) (sym c.is_named-2.ensures ∙ c.if-is_named-2.false) (sym c.is_named-3.ensures ∙ c.if-is_named-3.true)
    ∙ ap (option_map Bulk) (c.in-Err-read_bulk.ensures.refused (ap Err (ap fault_in e)))

pub returns-clause-read : goal.returns-clause-read
returns-clause-read c =
    let is = none_named c.args.words.now (sym c.is_named.ensures ∙ c.if-is_named.false) (sym c.is_named-2.ensures ∙ c.if-is_named-2.false) (sym c.is_named-3.ensures ∙ c.if-is_named-3.false) in
    answer_read _ _ c.read_other.result is c.read_other.ensures.read

pub returns-clause-refused : goal.returns-clause-refused
returns-clause-refused c = λ e.
    none_named c.args.words.now (sym c.is_named.ensures ∙ c.if-is_named.false) (sym c.is_named-2.ensures ∙ c.if-is_named-2.false) (sym c.is_named-3.ensures ∙ c.if-is_named-3.false)
    ∙ c.read_other.ensures.refused e
