use Rattle.command_line.proofs.WordLaws.{word_put}
use Rattle.command_line.proofs.words.Words.push.Goals as goal

pub returns-clause-ok : goal.returns-clause-ok
returns-clause-ok c = rw (← c.self.view_is) (word_put c.self.inside.words.items _ c.in-Ok.word _ c.in-Ok-push.ensures.items c.in-Ok.ensures.ok)
