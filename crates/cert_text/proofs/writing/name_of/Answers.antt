use Rattle.std.proofs.Common.{ap, ◌∙◌}
use Rattle.query_text.specs.Query.{name_of}
use Rattle.cert_text.proofs.writing.name_of.Goals as goal

pub returns : goal.returns
returns c = c.name_at.ensures ∙ ap (name_of c.args.names.now) c.from.ensures
