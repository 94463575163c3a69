use Rattle.std.proofs.Common.{Err, option_map, sym, ap, ◌∙◌}
use Rattle.command_line.specs.declared.command.Command.TheVariants.{Node, Serve}
use Rattle.command_line.proofs.OptionLaws.{fault_in}
use Rattle.command_line.proofs.CommandLaws.{node_named, serve_named, none_waits}
use Rattle.command_line.proofs.RunningLaws.{answer_read}
use Rattle.command_line.proofs.command.read_other.Goals as goal

pub returns-in-Ok-clause-read : goal.returns-in-Ok-clause-read
returns-in-Ok-clause-read c = node_named c.args.words.now (sym c.is_named.ensures ∙ c.if-is_named.true) ∙ ap (option_map Node) c.in-Ok.ensures.read

pub returns-in-Err-clause-refused : goal.returns-in-Err-clause-refused
returns-in-Err-clause-refused c = λ e.
    node_named c.args.words.now (sym c.is_named.ensures ∙ c.if-is_named.true) ∙ ap (option_map Node) (c.in-Err.ensures.refused (ap Err (ap fault_in e)))

pub returns-in-Ok-read_serve-clause-read : goal.returns-in-Ok-read_serve-clause-read
returns-in-Ok-read_serve-clause-read c =
    serve_named c.args.words.now (sym c.is_named.ensures ∙ c.if-is_named.false) (sym c.is_named-2.ensures ∙ c.if-is_named-2.true)
    ∙ ap (option_map Serve) c.in-Ok-read_serve.ensures.read

pub returns-in-Err-read_serve-clause-refused : goal.returns-in-Err-read_serve-clause-refused
returns-in-Err-read_serve-clause-refused c = λ e.
    serve_named c.args.words.now (sym c.is_named.ensures ∙ c.if-is_named.false) (sym c.is_named-2.ensures ∙ c.if-is_named-2.true)
    ∙ ap (option_map Serve) (c.in-Err-read_serve.ensures.refused (ap Err (ap fault_in e)))

pub returns-clause-read : goal.returns-clause-read
returns-clause-read c =
    let is = none_waits c.args.words.now (sym c.is_named.ensures ∙ c.if-is_named.false) (sym c.is_named-2.ensures ∙ c.if-is_named-2.false) in
    answer_read _ _ c.read_bare.result is c.read_bare.ensures.read

pub returns-clause-refused : goal.returns-clause-refused
returns-clause-refused c = λ e.
    none_waits c.args.words.now (sym c.is_named.ensures ∙ c.if-is_named.false) (sym c.is_named-2.ensures ∙ c.if-is_named-2.false)
    ∙ c.read_bare.ensures.refused e
