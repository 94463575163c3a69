use Rattle.std.proofs.Common.{sym, ◌∙◌, arith}
use Rattle.std.proofs.lemmas.Option.{slice_get_within}
use Rattle.topk_theory.specs.Transcript.{seen_objects}
use Rattle.access_log.proofs.RecordKept.{not_placed}
use Rattle.nra_core.proofs.Noting.{note_member, note_few, note_outside, note_known, note_exchange, leaves_within, place_in_room, leaves_in_room}
use Rattle.nra_core.proofs.late.LateBounds.note.Goals as goal

pub returns-in_default-clause-kept : goal.returns-in_default-clause-kept
returns-in_default-clause-kept c = absurd (not_placed c.args.object (seen_objects c.args.transcript.now.accesses) (sym c.sight_of.ensures ∙ c.in_default.is) c.requires.before.seen)

pub renew-requires : goal.renew-requires
renew-requires c = slice_get_within c.args.self.now.first.entries c.in-Some-slot.slot _ c.in-Some-slot.ensures.1

pub returns-in-Some-slot-clause-kept : goal.returns-in-Some-slot-clause-kept
returns-in-Some-slot-clause-kept c =
    note_member c.args.expr.now c.args.transcript.now c.args.object c.args.self.now c.in-Some.place c.in-Some-slot.slot c.low-low.result c.seen-self.result c.renew.new.self c.requires.agrees c.requires.before
    (sym c.sight_of.ensures ∙ c.in-Some.is) c.in-Some-slot.ensures c.seen-self.ensures c.low-low.ensures c.renew.ensures.renewed c.renew.ensures.distinct

pub returns-then-len-self-clause-kept : goal.returns-then-len-self-clause-kept
returns-then-len-self-clause-kept c =
    note_few c.args.expr.now c.args.transcript.now c.args.object c.args.self.now c.in-Some.place c.low-low.result c.seen-self.result c.add.new.self c.requires.agrees c.requires.before
    (sym c.sight_of.ensures ∙ c.in-Some.is) c.in_default-slot.ensures c.seen-self.ensures c.low-low.ensures (let l = c.len.ensures.len in let t = c.if-len-self.true in omega arith) c.add.ensures.added c.add.ensures.distinct

pub get-requires : goal.get-requires
get-requires c = slice_get_within c.args.self.now.first.entries c.in-Some-least.least _ c.in-Some-least.ensures.there

pub returns-then-is_new-clause-kept : goal.returns-then-is_new-clause-kept
returns-then-is_new-clause-kept c =
    note_outside c.args.expr.now c.args.transcript.now c.args.object c.args.self.now c.in-Some.place c.in-Some-least.least c.low-low.result c.high.result c.seen-self.result c.get.result c.put.new.self c.requires.agrees c.requires.before
    (sym c.sight_of.ensures ∙ c.in-Some.is) c.in_default-slot.ensures c.seen-self.ensures c.low-low.ensures (let l = c.len.ensures.len in let t = c.if-len-self.false in omega arith) c.in-Some-least.ensures c.get.ensures c.if-low-get.true c.high.ensures c.put.ensures

pub returns-else-is_new-clause-kept : goal.returns-else-is_new-clause-kept
returns-else-is_new-clause-kept c =
    note_known c.args.expr.now c.args.transcript.now c.args.object c.args.self.now c.in-Some.place c.in-Some-least.least c.low-low.result c.seen-self.result c.get.result c.requires.agrees c.requires.before
    (sym c.sight_of.ensures ∙ c.in-Some.is) c.in_default-slot.ensures c.seen-self.ensures c.low-low.ensures (let l = c.len.ensures.len in let t = c.if-len-self.false in omega arith) c.in-Some-least.ensures c.get.ensures c.if-low-get.true (let t = c.if-is_new.false in omega arith)

pub replace-leaves-requires-clause-slot : goal.replace-leaves-requires-clause-slot
replace-leaves-requires-clause-slot c = slice_get_within c.args.self.now.first.entries c.in-Some-least.least _ c.in-Some-least.ensures.there

pub object_at-left-requires : goal.object_at-left-requires
object_at-left-requires c = leaves_within c.args.expr.now c.args.transcript.now c.args.object c.args.self.now c.in-Some-least.least c.replace-leaves.result c.requires.before c.replace-leaves.ensures.leaves

pub returns-clause-kept : goal.returns-clause-kept
returns-clause-kept c =
    note_exchange c.args.expr.now c.args.transcript.now c.args.object c.args.self.now c.in-Some.place c.in-Some-least.least c.low-low.result c.high-2.result c.object_at-left.result c.replace-leaves.result c.seen-self.result c.get.result c.replace-leaves.new.self c.remove.new.self c.put-2.new.self c.requires.agrees c.requires.before
    (sym c.sight_of.ensures ∙ c.in-Some.is) c.in_default-slot.ensures c.seen-self.ensures c.low-low.ensures (let l = c.len.ensures.len in let t = c.if-len-self.false in omega arith) c.in-Some-least.ensures c.get.ensures (let t = c.if-low-get.false in omega arith)
    c.replace-leaves.ensures.leaves c.replace-leaves.ensures.replaced c.replace-leaves.ensures.distinct c.object_at-left.ensures c.high-2.ensures c.remove.ensures c.put-2.ensures

pub low-low-requires : goal.low-low-requires
low-low-requires c = sym c.requires.lists

pub slot-requires : goal.slot-requires
slot-requires c = (place_in_room c.args.expr.now c.args.transcript.now c.args.object c.args.self.now c.in-Some.place c.requires.before (sym c.sight_of.ensures ∙ c.in-Some.is)).0

pub add-requires-clause-within : goal.add-requires-clause-within
add-requires-clause-within c = (place_in_room c.args.expr.now c.args.transcript.now c.args.object c.args.self.now c.in-Some.place c.requires.before (sym c.sight_of.ensures ∙ c.in-Some.is)).0

pub add-requires-clause-absent : goal.add-requires-clause-absent
add-requires-clause-absent c = c.in_default-slot.ensures

pub add-requires-clause-free : goal.add-requires-clause-free
add-requires-clause-free c =
    let most = c.requires.before.kept.kept.most in
    let l = c.len.ensures.len in
    let t = c.if-len-self.true in
    omega arith

pub put-requires : goal.put-requires
put-requires c = (place_in_room c.args.expr.now c.args.transcript.now c.args.object c.args.self.now c.in-Some.place c.requires.before (sym c.sight_of.ensures ∙ c.in-Some.is)).1

pub high-requires : goal.high-requires
high-requires c = sym c.requires.lists

pub replace-leaves-requires-clause-within : goal.replace-leaves-requires-clause-within
replace-leaves-requires-clause-within c = (place_in_room c.args.expr.now c.args.transcript.now c.args.object c.args.self.now c.in-Some.place c.requires.before (sym c.sight_of.ensures ∙ c.in-Some.is)).0

pub replace-leaves-requires-clause-absent : goal.replace-leaves-requires-clause-absent
replace-leaves-requires-clause-absent c = c.in_default-slot.ensures

pub remove-requires : goal.remove-requires
remove-requires c = (place_in_room c.args.expr.now c.args.transcript.now c.args.object c.args.self.now c.in-Some.place c.requires.before (sym c.sight_of.ensures ∙ c.in-Some.is)).1

pub high-requires-2 : goal.high-requires-2
high-requires-2 c = sym c.requires.lists

pub put-requires-2 : goal.put-requires-2
put-requires-2 c =
    leaves_in_room c.args.expr.now c.args.transcript.now c.args.object c.args.self.now c.in-Some-least.least c.replace-leaves.result c.in-Some.place c.remove.new.self c.requires.before c.replace-leaves.ensures.leaves c.remove.ensures
