use Rattle.std.specs.Vec.{vec_capacity}
use Rattle.machine_base.proofs.Held.{may_grade}
use Rattle.fa_core.specs.Course.{need_at}
use Rattle.fa_core.proofs.Runs.{kept_makes}
use Rattle.fa_core.proofs.Calls.{can_grade, grade_stands, grade_told}
use Rattle.fa_core.proofs.fa.Fa.feed_grade.Goals as goal

pub tell-requires-clause-held : goal.tell-requires-clause-held
tell-requires-clause-held c = c.self.invariant.kept.base

pub tell-requires-clause-reserved : goal.tell-requires-clause-reserved
tell-requires-clause-reserved c = c.self.invariant.reserved

pub tell-requires-clause-can : goal.tell-requires-clause-can
tell-requires-clause-can c =
    let a = c.self.inside in
    can_grade a.base a.stage c.args.grade c.in-Asking.ask c.self.invariant.kept c.in-Asking.is (may_grade a.base (need_at a.stage) c.args.self.now c.args.grade c.self.view_is c.requires)

pub invariant_of-self : goal.invariant_of-self
invariant_of-self c =
    let a = c.self.inside in
    grade_stands a.base c.tell.new.self a.items.items (vec_capacity a.items) a.stage c.ask_on-self-inside.result c.in-Asking.ask c.args.grade
    c.self.invariant c.in-Asking.is
    (can_grade a.base a.stage c.args.grade c.in-Asking.ask c.self.invariant.kept c.in-Asking.is (may_grade a.base (need_at a.stage) c.args.self.now c.args.grade c.self.view_is c.requires))
    c.tell.ensures.told c.tell.ensures.held c.tell.ensures.reserved c.ask_on-self-inside.ensures

pub returns-clause-fed : goal.returns-clause-fed
returns-clause-fed c =
    let a = c.self.inside in
    grade_told a.base c.tell.new.self a.stage c.ask_on-self-inside.result c.args.grade c.in-Asking.ask c.args.self.now c.self.view_is c.in-Asking.is c.tell.ensures.told

pub returns-clause-run : goal.returns-clause-run
returns-clause-run c = kept_makes c.tell.new.self c.ask_on-self-inside.result (invariant_of-self c).kept
