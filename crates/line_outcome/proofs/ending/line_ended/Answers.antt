use Rattle.std.proofs.Common.{refl, sym, ◌∙◌}
use Rattle.line_outcome.proofs.ending.line_ended.Goals as goal

pub returns : goal.returns
returns c = record { query = refl; count = refl; versions = c.from_vec.ensures; outcome = sym c.ended_outcome.ensures ∙ c.in-Some.is }
