use Rattle.std.proofs.Common.{◌≡◌, ℕ, arith, ◌++◌, ◌∷◌, [], length, sym, ◌∙◌, ap, subst}
use Rattle.topk_theory.specs.Transcript.{object_of}
use Rattle.access_log.specs.RecordsKept.{IsRecordOf}
use Rattle.access_log.proofs.ObjectsKept.{noted, seen_then, seen_else}
use Rattle.access_log.proofs.objects.note_record.Goals as goal

pub returns-then-first-clause-notes : goal.returns-then-first-clause-notes
returns-then-first-clause-notes c = λ m n A names some distinct e h s.
    let counted : c.len.result ≡ length c.args.sights.now.items = omega (arith, c.args.sights.now.ok.0) in
    let old = subst (IsRecordOf m A (object_of c.args.access)) (sym c.index_mut-record.ensures.value) (h.1 c.args.place (object_of c.args.access) c.index_mut-record.result.now e) in
    noted m n A c.args.access names c.args.records.now.items c.args.place c.list.result c.index_mut-record.result.now c.note.new.self c.push_reserved.new.self.items some distinct e h c.list.ensures old
    (c.note.ensures m n A some (counted ∙ ap (length {A = ℕ}) s) old)
    (c.push_reserved.ensures.items ∙ ap (λ xs. xs ++ c.object.result ∷ []) s ∙ seen_then A c.args.access _ c.object.result (sym c.is_first_sight-first.ensures ∙ c.if-first.true) c.object.ensures old.sight)

pub returns-else-first-clause-notes : goal.returns-else-first-clause-notes
returns-else-first-clause-notes c = λ m n A names some distinct e h s.
    let counted : c.len.result ≡ length c.args.sights.now.items = omega (arith, c.args.sights.now.ok.0) in
    let old = subst (IsRecordOf m A (object_of c.args.access)) (sym c.index_mut-record.ensures.value) (h.1 c.args.place (object_of c.args.access) c.index_mut-record.result.now e) in
    noted m n A c.args.access names c.args.records.now.items c.args.place c.list.result c.index_mut-record.result.now c.note.new.self c.args.sights.now.items some distinct e h c.list.ensures old
    (c.note.ensures m n A some (counted ∙ ap (length {A = ℕ}) s) old)
    (s ∙ seen_else A c.args.access _ (sym c.is_first_sight-first.ensures ∙ c.if-first.false) old.sight)
