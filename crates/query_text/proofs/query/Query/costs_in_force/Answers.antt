use Rattle.query_text.proofs.query.Query.costs_in_force.Goals as goal

pub returns : goal.returns
returns c = c.unwrap_or.ensures
