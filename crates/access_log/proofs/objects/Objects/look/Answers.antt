use Rattle.std.proofs.Common.{sym, ◌∙◌}
use Rattle.access_log.proofs.ObjectsKept.{looked_some, looked_none}
use Rattle.access_log.proofs.objects.Objects.look.Goals as goal

pub returns-in-Some : goal.returns-in-Some
returns-in-Some c = λ m object A l h e. looked_some m object c.args.list c.in-Some.place A c.args.self.now c.index-record.result.now l h (sym c.in-Some.is ∙ e) c.index-record.ensures

pub returns-in-None : goal.returns-in-None
returns-in-None c = λ m object A l h e. looked_none m object c.args.list A (sym c.in-None.is ∙ e)
