use Rattle.std.proofs.Common.{List, ℕ, Option, ap, ◌∙◌}
use Rattle.query_text.specs.declared.query.Query.{Query}
use Rattle.cert_text.specs.declared.refusal.Refusal.{Refusal}
use Rattle.cert_text.specs.declared.outcome.Outcome.TheVariants.{Refused as RefusedAs}
use Rattle.query_admission.specs.declared.line_outcome.LineOutcome.{LineOutcome}
use Rattle.line_outcome.proofs.ending.line_refused.Goals as goal

abbrev refused_as : Option Query → Refusal → List ℕ → LineOutcome
refused_as query refusal versions = record { query = query; count = 0; versions = versions; outcome = RefusedAs refusal }

pub returns : goal.returns
returns c = ap (refused_as c.args.query c.args.refusal) (c.from_vec.ensures ∙ c.new.ensures.items)
