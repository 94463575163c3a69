use Rattle.query_text.proofs.TakeLaws.{takes_weight}
use Rattle.query_text.proofs.draft.Draft.take_weight.Goals as goal

pub returns-clause-taken : goal.returns-clause-taken
returns-clause-taken c =
    takes_weight c.args.self.now _ c.args.word.now
    (record { value = c.in_ok-self.ensures.ok.0; low = c.in_ok-self.ensures.ok.1; high = c.in_ok-self.ensures.ok.2 }) c.requires
