use Rattle.std.proofs.Common.{ℕ, ◌<◌, Option, Some, None, length, sym, ap, subst, ◌∙◌}
use Rattle.std.proofs.lemmas.List.{length-set}
use Rattle.access_log.proofs.AheadKept.{ahead_written, room_written, ahead_stays, ahead_read, ahead_known, ahead_was_read}
use Rattle.access_log.proofs.ahead.Ahead.note.Goals as goal

pub returns-then-is_sorted-clause-notes : goal.returns-then-is_sorted-clause-notes
returns-then-is_sorted-clause-notes c = λ m n A names some d e r h.
    ahead_written m A c.args.access names c.args.self.now.heaps.items c.list-list.result c.args.place None c.index_mut.result.now _ c.remove.new.self
    c.list-list.ensures c.index_mut.ensures.value c.remove.ensures c.requires.list c.requires.place d e (ahead_read A c.args.access (sym c.is_sorted.ensures ∙ c.if-is_sorted.true)) h

pub returns-then-not-read-clause-notes : goal.returns-then-not-read-clause-notes
returns-then-not-read-clause-notes c = λ m n A names some d e r h.
    ahead_written m A c.args.access names c.args.self.now.heaps.items c.list-list.result c.args.place (Some c.grade.result) c.index_mut-then-not-read.result.now _ c.put.new.self
    c.list-list.ensures c.index_mut-then-not-read.ensures.value c.put.ensures c.requires.list c.requires.place d e
    (ap Some c.grade.ensures ∙ ahead_known m n A c.args.access (sym c.is_sorted.ensures ∙ c.if-is_sorted.false) some (sym r ∙ c.if-not-read.true)) h

pub returns-else-not-read-clause-notes : goal.returns-else-not-read-clause-notes
returns-else-not-read-clause-notes c = λ m n A names some d e r h.
    ahead_stays m A c.args.access names c.args.self.now.heaps.items c.args.place d e (ahead_was_read A c.args.access (sym c.is_sorted.ensures ∙ c.if-is_sorted.false) (sym r ∙ c.if-not-read.false)) h

pub returns-then-is_sorted-clause-room : goal.returns-then-is_sorted-clause-room
returns-then-is_sorted-clause-room c = λ room h.
    room_written room c.args.self.now.heaps.items c.list-list.result c.index_mut.result.now _ c.remove.new.self (subst (λ list. list < length c.args.self.now.heaps.items) (sym c.list-list.ensures) c.requires.list)
    c.index_mut.ensures.value (ap (length {A = Option ℕ}) c.remove.ensures ∙ length-set c.index_mut.result.now c.args.place None) h

pub returns-then-not-read-clause-room : goal.returns-then-not-read-clause-room
returns-then-not-read-clause-room c = λ room h.
    room_written room c.args.self.now.heaps.items c.list-list.result c.index_mut-then-not-read.result.now _ c.put.new.self (subst (λ list. list < length c.args.self.now.heaps.items) (sym c.list-list.ensures) c.requires.list)
    c.index_mut-then-not-read.ensures.value (ap (length {A = Option ℕ}) c.put.ensures ∙ length-set c.index_mut-then-not-read.result.now c.args.place (Some c.grade.result)) h
