use Rattle.std.proofs.Common.{refl, sym, ◌∙◌}
use Rattle.std.specs.Vec.{vec_capacity}
use Rattle.topk_theory.specs.declared.access.Access.TheVariants.{Random}
use Rattle.machine_base.proofs.Held.{may_grade}
use Rattle.ca_core.proofs.Runs.{kept_makes}
use Rattle.ca_core.proofs.Calls.{can_grade, was_renewed, seen_grade, may_move, grade_stands}
use Rattle.ca_core.proofs.ca.Ca.feed_grade.Goals as goal
use Rattle.ca_core.specs.Course.{need_at}

pub tell-requires-clause-can : goal.tell-requires-clause-can
tell-requires-clause-can c =
    let a = c.self.inside in
    can_grade a.base a.phase a.first.items a.stage c.args.grade c.in-Grade.list c.in-Grade.object c.self.invariant.kept (may_grade a.base (need_at a.stage) c.args.self.now c.args.grade c.self.view_is c.requires) (sym c.need.ensures ∙ c.in-Grade.is)

pub note-requires-clause-before : goal.note-requires-clause-before
note-requires-clause-before c =
    let a = c.self.inside in
    was_renewed a.base c.tell.new.self (Random c.in-Grade.list c.in-Grade.object c.args.grade) c.in-Grade.object a.late c.tell.ensures.told refl
    (seen_grade a.base c.tell.new.self a.phase a.first.items a.stage c.in-Grade.list c.in-Grade.object c.args.grade c.self.invariant.kept (sym c.need.ensures ∙ c.in-Grade.is) c.tell.ensures.told) c.self.invariant.seen

pub follow-self-inside-requires-clause-may : goal.follow-self-inside-requires-clause-may
follow-self-inside-requires-clause-may c =
    let a = c.self.inside in
    may_move a.base c.tell.new.self (Random c.in-Grade.list c.in-Grade.object c.args.grade) a.phase a.late a.first.items (vec_capacity a.first) a.stage c.self.invariant c.tell.ensures.told

pub invariant_of-self : goal.invariant_of-self
invariant_of-self c =
    let a = c.self.inside in
    grade_stands a.base c.tell.new.self a.phase a.late c.follow-self-inside.new.late a.first.items c.follow-self-inside.new.first.items (vec_capacity a.first) (vec_capacity c.follow-self-inside.new.first) a.stage c.follow-self-inside.result
    c.in-Grade.list c.in-Grade.object c.args.grade c.self.invariant (sym c.need.ensures ∙ c.in-Grade.is)
    (can_grade a.base a.phase a.first.items a.stage c.args.grade c.in-Grade.list c.in-Grade.object c.self.invariant.kept (may_grade a.base (need_at a.stage) c.args.self.now c.args.grade c.self.view_is c.requires) (sym c.need.ensures ∙ c.in-Grade.is))
    c.tell.ensures.told c.tell.ensures.held c.tell.ensures.reserved c.follow-self-inside.ensures.seen c.follow-self-inside.ensures.capacity c.follow-self-inside.ensures.moved

pub returns-clause-run : goal.returns-clause-run
returns-clause-run c = kept_makes c.tell.new.self c.self.inside.phase c.follow-self-inside.new.first.items c.follow-self-inside.result (invariant_of-self c).kept (invariant_of-self c).paid

pub tell-requires-clause-held : goal.tell-requires-clause-held
tell-requires-clause-held c = c.self.invariant.kept.base

pub tell-requires-clause-reserved : goal.tell-requires-clause-reserved
tell-requires-clause-reserved c = c.self.invariant.reserved

pub note-requires-clause-held : goal.note-requires-clause-held
note-requires-clause-held c = c.tell.ensures.held

pub follow-self-inside-requires-clause-held : goal.follow-self-inside-requires-clause-held
follow-self-inside-requires-clause-held c = c.tell.ensures.held

pub follow-self-inside-requires-clause-seen : goal.follow-self-inside-requires-clause-seen
follow-self-inside-requires-clause-seen c = c.note.ensures
