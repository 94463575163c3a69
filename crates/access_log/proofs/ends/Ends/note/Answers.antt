use Rattle.std.proofs.Common.{sym, ◌∙◌}
use Rattle.access_log.proofs.EndsKept.{ends_then, ends_else}
use Rattle.access_log.proofs.ends.Ends.note.Goals as goal

pub returns-then-is_sorted : goal.returns-then-is_sorted
returns-then-is_sorted c = λ m A h. ends_then m A c.args.self.now c.args.access c.list-list.result c.grade.result (sym c.is_sorted.ensures ∙ c.if-is_sorted.true) c.list-list.ensures c.grade.ensures c.requires.list h

pub returns-else-is_sorted : goal.returns-else-is_sorted
returns-else-is_sorted c = λ m A h. ends_else m A c.args.self.now c.args.access (sym c.is_sorted.ensures ∙ c.if-is_sorted.false) h
