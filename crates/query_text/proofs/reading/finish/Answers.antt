use Rattle.query_text.proofs.reading.finish.Goals as goal

pub returns-clause-made : goal.returns-clause-made
returns-clause-made c = c.refusal_of.ensures c.args.draft c.in_default.ensures c.in-Err.ensures
