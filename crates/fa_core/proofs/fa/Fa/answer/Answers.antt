use Rattle.std.proofs.Common.{◌≡◌, List, map, refl, subst, sym, ap, ◌∙◌, arith}
use Rattle.ranked_list.specs.declared.item.Item.{Item}
use Rattle.monotone_fn.specs.Value.{value}
use Rattle.topk_theory.specs.Transcript.{seen_objects}
use Rattle.ranked_list.specs.declared.need.Need.TheVariants.{Done}
use Rattle.machine_base.specs.Machine.{MachineState, IsSameLog}
use Rattle.fa_core.specs.Course.{need_at, valued}
use Rattle.fa_core.specs.Machine.{MakesItsRun, IsAnswer, ReadsNoShallower}
use Rattle.fa_core.proofs.Runs.{kept_makes}
use Rattle.fa_core.proofs.Scoring.{answers, no_shallower, few_items}
use Rattle.fa_core.proofs.fa.Fa.answer.Goals as goal

pub first_items-first-requires-clause-lists : goal.first_items-first-requires-clause-lists
first_items-first-requires-clause-lists c = c.self.invariant.kept.base.posed.lists

pub first_items-first-requires-clause-empty : goal.first_items-first-requires-clause-empty
first_items-first-requires-clause-empty c = c.self.invariant.none

pub first_items-first-requires-clause-room : goal.first_items-first-requires-clause-room
first_items-first-requires-clause-room c = omega (arith, c.self.invariant.kept.base.roomy, c.self.invariant.roomy)

pub from_vec-items-requires : goal.from_vec-items-requires
from_vec-items-requires c =
    let a = c.self.inside in
    let all : List Item = map (valued (value a.base.expr) a.base.transcript.lists a.base.transcript.accesses) (seen_objects a.base.transcript.accesses) in
    omega (arith, few_items a.base a.stage c.first_items-first.result.items all c.self.invariant.kept c.first_items-first.ensures)

pub returns-clause-items : goal.returns-clause-items
returns-clause-items c =
    let a = c.self.inside in
    let done : need_at a.stage ≡ Done = ap (λ (t : MachineState). t.need) c.self.view_is ∙ c.requires in
    subst (λ (t : MachineState). IsAnswer t c.from_vec-items.result) c.self.view_is
    (answers a.base a.stage c.from_vec-items.result c.self.invariant.kept done (c.from_vec-items.ensures ∙ c.first_items-first.ensures))

pub returns-clause-depth : goal.returns-clause-depth
returns-clause-depth c =
    let a = c.self.inside in
    let done : need_at a.stage ≡ Done = ap (λ (t : MachineState). t.need) c.self.view_is ∙ c.requires in
    subst ReadsNoShallower c.self.view_is (no_shallower a.base a.stage c.self.invariant.kept done)

pub returns-clause-run : goal.returns-clause-run
returns-clause-run c =
    let a = c.self.inside in
    subst MakesItsRun c.self.view_is (kept_makes a.base a.stage c.self.invariant.kept)

pub returns-clause-transcript : goal.returns-clause-transcript
returns-clause-transcript c =
    subst (λ (t : MachineState). IsSameLog c.into_transcript.result t.log) c.self.view_is
    (subst (λ log. IsSameLog log c.self.inside.base.transcript) (sym c.into_transcript.ensures) (record { lists = refl; count = refl; accesses = refl }))
