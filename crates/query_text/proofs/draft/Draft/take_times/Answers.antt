use Rattle.std.proofs.Common.{refl}
use Rattle.query_text.proofs.TakeLaws.{takes_times}
use Rattle.query_text.proofs.draft.Draft.take_times.Goals as goal

pub returns : goal.returns
returns c = λ w.
    takes_times c.args.self.now _ c.pop.new.self.items c.in-Some.frame w c.in-Some.ensures.items
    c.push_reserved.ensures.items refl refl refl refl c.requires
