use Rattle.std.proofs.Common.{◌≡◌, refl, subst, sym, ap, ◌∙◌, arith}
use Rattle.ranked_list.specs.declared.need.Need.TheVariants.{Done}
use Rattle.machine_base.specs.Machine.{MachineState, IsSameLog}
use Rattle.nra_core.specs.Place.{need_at}
use Rattle.nra_core.specs.Machine.{MakesItsRun, IsAnswer, HaveTrueBounds}
use Rattle.nra_core.proofs.Runs.{kept_makes}
use Rattle.nra_core.proofs.Answering.{answers, true_bounds, first_of, few_items, many_seen}
use Rattle.nra_core.proofs.nra.Nra.answer.Goals as goal

pub first_items-requires-clause-enough : goal.first_items-requires-clause-enough
first_items-requires-clause-enough c =
    let a = c.self.inside in
    many_seen a.base a.late a.place c.self.invariant.kept (ap (λ (t : MachineState). t.need) c.self.view_is ∙ c.requires)

pub returns-clause-items : goal.returns-clause-items
returns-clause-items c =
    let a = c.self.inside in
    let done : need_at a.place ≡ Done = ap (λ (t : MachineState). t.need) c.self.view_is ∙ c.requires in
    subst (λ (t : MachineState). IsAnswer t c.from_vec-items.result) c.self.view_is
    (answers a.base a.late a.place c.from_vec-items.result c.self.invariant.kept done
    (first_of a.base a.late a.place c.from_vec-items.result c.self.invariant.kept (c.from_vec-items.ensures ∙ c.first_items.ensures.items)))

pub returns-clause-bounds : goal.returns-clause-bounds
returns-clause-bounds c =
    let a = c.self.inside in
    subst (λ (t : MachineState). HaveTrueBounds t c.from_vec-items.result) c.self.view_is
    (true_bounds a.base a.place c.from_vec-items.result
    (first_of a.base a.late a.place c.from_vec-items.result c.self.invariant.kept (c.from_vec-items.ensures ∙ c.first_items.ensures.items)))

pub returns-clause-run : goal.returns-clause-run
returns-clause-run c =
    let a = c.self.inside in
    subst MakesItsRun c.self.view_is (kept_makes a.base a.late a.place c.self.invariant.kept)

pub first_items-requires-clause-lists : goal.first_items-requires-clause-lists
first_items-requires-clause-lists c = c.self.invariant.kept.base.posed.lists

pub first_items-requires-clause-kept : goal.first_items-requires-clause-kept
first_items-requires-clause-kept c = c.self.invariant.kept.bounds

pub first_items-requires-clause-empty : goal.first_items-requires-clause-empty
first_items-requires-clause-empty c = c.self.invariant.none

pub first_items-requires-clause-room : goal.first_items-requires-clause-room
first_items-requires-clause-room c = omega (arith, c.self.invariant.kept.base.roomy, c.self.invariant.roomy)

pub returns-clause-transcript : goal.returns-clause-transcript
returns-clause-transcript c =
    subst (λ (t : MachineState). IsSameLog c.into_transcript.result t.log) c.self.view_is
    (subst (λ log. IsSameLog log c.self.inside.base.transcript) (sym c.into_transcript.ensures) (record { lists = refl; count = refl; accesses = refl }))

pub from_vec-items-requires : goal.from_vec-items-requires
from_vec-items-requires c =
    let a = c.self.inside in
    omega (arith, few_items a.base a.late a.place c.first_items.new.items.items c.self.invariant.kept c.first_items.ensures.items)
