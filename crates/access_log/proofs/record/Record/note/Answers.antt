use Rattle.std.proofs.Common.{Option, ℕ, [], ◌∷◌, ◌++◌, Some, true, not, cond, sym, ◌∙◌, ap, subst, slice_set}
use Rattle.topk_theory.specs.Transcript.{object_of}
use Rattle.access_log.specs.RecordsKept.{IsRecordOf}
use Rattle.access_log.proofs.RecordKept.{record_then, record_else}
use Rattle.access_log.proofs.record.Record.note.Goals as goal

pub returns-then-is_none : goal.returns-then-is_none
returns-then-is_none c = λ m n A some s h.
    subst (λ b. IsRecordOf m (A ++ c.args.access ∷ []) (object_of c.args.access) (record { known = slice_set c.args.self.now.known c.list-list.result (Some c.grade.result); read = slice_set c.args.self.now.read c.list-list.result true; sight = cond {A = Option ℕ} b (Some c.args.seen) c.args.self.now.sight })) (ap not c.is_none.ensures ∙ ap (λ b. not (not b)) c.if-is_none.true)
    (record_then m n A c.args.access c.list-list.result c.grade.result c.args.seen c.args.self.now (sym c.is_sorted.ensures ∙ c.if-is_sorted.true) c.list-list.ensures c.grade.ensures c.requires.list some s h)

pub returns-else-is_none : goal.returns-else-is_none
returns-else-is_none c = λ m n A some s h.
    subst (λ b. IsRecordOf m (A ++ c.args.access ∷ []) (object_of c.args.access) (record { known = slice_set c.args.self.now.known c.list-list.result (Some c.grade.result); read = slice_set c.args.self.now.read c.list-list.result true; sight = cond {A = Option ℕ} b (Some c.args.seen) c.args.self.now.sight })) (ap not c.is_none.ensures ∙ ap (λ b. not (not b)) c.if-is_none.false)
    (record_then m n A c.args.access c.list-list.result c.grade.result c.args.seen c.args.self.now (sym c.is_sorted.ensures ∙ c.if-is_sorted.true) c.list-list.ensures c.grade.ensures c.requires.list some s h)

pub returns-else-is_sorted : goal.returns-else-is_sorted
returns-else-is_sorted c = λ m n A some s h.
    record_else m n A c.args.access c.list-list.result c.grade.result c.args.self.now (sym c.is_sorted.ensures ∙ c.if-is_sorted.false) c.list-list.ensures c.grade.ensures c.requires.list some h
