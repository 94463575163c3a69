use Rattle.query_text.proofs.draft.Draft.take.Goals as goal

pub returns-in-Times-clause-taken : goal.returns-in-Times-clause-taken
returns-in-Times-clause-taken c = rw c.in-Times.is (c.take_times.ensures c.args.word.now)
