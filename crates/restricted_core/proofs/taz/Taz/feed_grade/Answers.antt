use Rattle.std.proofs.Common.{subst, sym, ap}
use Rattle.machine_base.specs.Base.{CanTake}
use Rattle.machine_base.proofs.Held.{may_grade}
use Rattle.topk_theory.specs.declared.access.Access.TheVariants.{Random}
use Rattle.restricted_core.specs.Course.{need_at}
use Rattle.restricted_core.specs.Kept.{Keeps, IsRowOver}
use Rattle.restricted_core.specs.Machine.{RestrictedState}
use Rattle.restricted_core.proofs.Runs.{kept_makes}
use Rattle.restricted_core.proofs.Calls.{can_grade, told_grade, grade_told}
use Rattle.restricted_core.proofs.taz.Taz.feed_grade.Goals as goal

pub tell-requires-clause-held : goal.tell-requires-clause-held
tell-requires-clause-held c = c.self.invariant.kept.base

pub tell-requires-clause-reserved : goal.tell-requires-clause-reserved
tell-requires-clause-reserved c = c.self.invariant.reserved

pub tell-requires-clause-can : goal.tell-requires-clause-can
tell-requires-clause-can c =
    let a = c.self.inside in
    can_grade a.base a.sorted.items a.board a.stage c.args.grade c.in-Asking.ask c.in-Asking.depth c.in-Asking.whole c.self.invariant.kept c.in-Asking.is
    (may_grade a.base (need_at a.stage) c.args.self.now.state c.args.grade (ap (λ (t : RestrictedState). t.state) c.self.view_is) c.requires)

pub ask_or_end-self-inside-requires : goal.ask_or_end-self-inside-requires
ask_or_end-self-inside-requires c =
    let a = c.self.inside in
    let can : CanTake a.base (Random c.in-Asking.ask.list c.in-Asking.ask.object c.args.grade) =
    can_grade a.base a.sorted.items a.board a.stage c.args.grade c.in-Asking.ask c.in-Asking.depth c.in-Asking.whole c.self.invariant.kept c.in-Asking.is
    (may_grade a.base (need_at a.stage) c.args.self.now.state c.args.grade (ap (λ (t : RestrictedState). t.state) c.self.view_is) c.requires) in
    subst (λ s. IsRowOver c.tell.new.self s a.board c.in-Asking.depth c.in-Asking.whole c.in-Asking.ask.place) (sym c.as_slice-sorted.ensures.value)
    (told_grade a.base c.tell.new.self a.sorted.items a.board a.stage c.in-Asking.ask c.in-Asking.depth c.in-Asking.whole c.args.grade c.self.invariant.kept c.in-Asking.is can c.tell.ensures.told c.tell.ensures.held)

pub invariant_of-self : goal.invariant_of-self
invariant_of-self c = record {
  kept = subst (λ s. Keeps c.tell.new.self s c.ask_or_end-self-inside.new.board c.ask_or_end-self-inside.result) c.as_slice-sorted.ensures.value c.ask_or_end-self-inside.ensures;
  reserved = c.tell.ensures.reserved;
}

pub returns-clause-fed : goal.returns-clause-fed
returns-clause-fed c =
    let a = c.self.inside in
    grade_told a.base c.tell.new.self a.stage c.ask_or_end-self-inside.result c.args.grade c.in-Asking.ask c.in-Asking.depth c.in-Asking.whole c.args.self.now.state (ap (λ (t : RestrictedState). t.state) c.self.view_is) c.in-Asking.is c.tell.ensures.told

pub returns-clause-run : goal.returns-clause-run
returns-clause-run c = kept_makes c.tell.new.self c.self.inside.sorted.items c.ask_or_end-self-inside.new.board c.ask_or_end-self-inside.result (invariant_of-self c).kept
