use Rattle.std.proofs.Common.{Some, None, ap, ◌∙◌}
use Rattle.std.specs.List.{slice_get}
use Rattle.query_text.proofs.PutLaws.{puts_as, name_there}
use Rattle.query_text.proofs.printing.put_name.Goals as goal

pub returns-in-Some : goal.returns-in-Some
returns-in-Some g c =
    puts_as _ _ _ _ (name_there c.args.names.now c.args.list (Some c.in-Some.name.now) (c.in-Some.ensures ∙ ap (slice_get c.args.names.now) c.from.ensures)) c.put.ensures.puts

pub returns-in-None : goal.returns-in-None
returns-in-None g c =
    puts_as _ _ _ _ (name_there c.args.names.now c.args.list None (c.in-None.ensures ∙ ap (slice_get c.args.names.now) c.from.ensures)) c.put-in-None.ensures.puts
