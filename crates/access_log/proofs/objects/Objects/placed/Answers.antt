use Rattle.std.proofs.Common.{sym, subst}
use Rattle.std.specs.List.{Contains}
use Rattle.topk_theory.specs.Transcript.{named_objects}
use Rattle.access_log.specs.Objects.{FitsAccess}
use Rattle.access_log.proofs.ObjectsKept.{placed_old, placed_new, absent_fits, unnamed_without}
use Rattle.access_log.proofs.objects.Objects.placed.Goals as goal

pub name-requires-clause-fits : goal.name-requires-clause-fits
name-requires-clause-fits c =
    let k = c.requires.known in
    (absent_fits k.0 k.1 k.2 c.args.access c.args.self.now (subst (λ p. FitsAccess k.0 k.1 k.2 c.args.self.now p c.args.access) c.in-None.is k.3)).1

pub name-requires-clause-absent : goal.name-requires-clause-absent
name-requires-clause-absent c =
    let k = c.requires.known in
    subst (λ o. ¬ Contains c.args.self.now.names.keys o) (sym c.object.ensures)
    (absent_fits k.0 k.1 k.2 c.args.access c.args.self.now (subst (λ p. FitsAccess k.0 k.1 k.2 c.args.self.now p c.args.access) c.in-None.is k.3)).0

pub returns-in-Some-clause-place : goal.returns-in-Some-clause-place
returns-in-Some-clause-place c = λ m n A h. placed_old m n A c.args.access c.args.self.now c.in-Some.place (subst (λ p. FitsAccess m n A c.args.self.now p c.args.access) c.in-Some.is h)

pub returns-in-None-clause-place : goal.returns-in-None-clause-place
returns-in-None-clause-place c = λ m n A h.
    let k = subst (λ p. FitsAccess m n A c.args.self.now p c.args.access) c.in-None.is h in
    placed_new m n A c.args.access c.args.self.now c.name.new.self c.object.result c.name.result k c.object.ensures c.name.ensures.names c.name.ensures.place
    (c.name.ensures.records m A h.few h.objects.records (subst (λ x. ¬ Contains (named_objects A) x) (sym c.object.ensures) (unnamed_without m n A c.args.access c.args.self.now k)))
    c.name.ensures.sights c.name.ensures.ahead c.name.ensures.same_room
