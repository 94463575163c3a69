use Rattle.std.proofs.Common.{not, sym, ap, ◌∙◌}
use Rattle.topk_theory.specs.Transcript.{seen_objects}
use Rattle.access_log.proofs.RecordKept.{not_placed}
use Rattle.ca_core.proofs.Noting.{note_known, note_new, note_same}
use Rattle.ca_core.proofs.open_highs.OpenHighs.note.Goals as goal

pub returns-in_default-clause-kept : goal.returns-in_default-clause-kept
returns-in_default-clause-kept c = absurd (not_placed c.args.object (seen_objects c.args.transcript.now.accesses) (sym c.sight_of.ensures ∙ c.in_default.is) c.requires.before.seen)

pub returns-then-is_none-clause-kept : goal.returns-then-is_none-clause-kept
returns-then-is_none-clause-kept c =
    note_known c.args.expr.now c.args.transcript.now c.args.object c.in-Some.place c.args.self.now c.next_unknown.result c.remove.new.self c.requires.agrees c.requires.before
    (sym (sym c.sight_of.ensures ∙ c.in-Some.is)) c.next_unknown.ensures (c.is_none.ensures ∙ ap not c.if-is_none.true) c.remove.ensures

pub returns-then-not-contains-clause-kept : goal.returns-then-not-contains-clause-kept
returns-then-not-contains-clause-kept c =
    note_new c.args.expr.now c.args.transcript.now c.args.object c.in-Some.place c.high-high.result c.args.self.now c.next_unknown.result c.put.new.self c.requires.agrees c.requires.before
    (sym (sym c.sight_of.ensures ∙ c.in-Some.is)) c.next_unknown.ensures (c.is_none.ensures ∙ ap not c.if-is_none.false) c.high-high.ensures c.put.ensures

pub returns-else-not-contains-clause-kept : goal.returns-else-not-contains-clause-kept
returns-else-not-contains-clause-kept c =
    note_same c.args.expr.now c.args.transcript.now c.args.object c.in-Some.place c.args.self.now c.next_unknown.result c.requires.agrees c.requires.before
    (sym (sym c.sight_of.ensures ∙ c.in-Some.is)) c.next_unknown.ensures (c.is_none.ensures ∙ ap not c.if-is_none.false) (sym c.contains.ensures ∙ c.if-not-contains.false)
