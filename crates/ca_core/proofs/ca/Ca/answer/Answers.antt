use Rattle.std.proofs.Common.{◌≡◌, subst, ap, ◌∙◌, arith}
use Rattle.ranked_list.specs.declared.need.Need.TheVariants.{Done}
use Rattle.monotone_fn.specs.Value.{value}
use Rattle.machine_base.specs.Machine.{MachineState}
use Rattle.ca_core.specs.Course.{need_at}
use Rattle.ca_core.specs.Machine.{MakesItsRun, IsAnswer}
use Rattle.ca_core.proofs.Runs.{kept_makes}
use Rattle.ca_core.proofs.Scoring.{finished, few_first, few_scored, answers}
use Rattle.ca_core.proofs.ca.Ca.answer.Goals as goal

pub answer_items-scored-requires-clause-apart : goal.answer_items-scored-requires-clause-apart
answer_items-scored-requires-clause-apart c =
    let a = c.self.inside in
    (finished a.base a.phase a.first.items a.stage c.self.invariant.kept (ap (λ (t : MachineState). t.need) c.self.view_is ∙ c.requires)).listed.apart

pub from_vec-items-requires : goal.from_vec-items-requires
from_vec-items-requires c =
    let a = c.self.inside in
    let few = few_first a.base a.phase a.first.items a.stage c.self.invariant.kept (ap (λ (t : MachineState). t.need) c.self.view_is ∙ c.requires) in
    let all = few_scored (value a.base.expr) a.base.transcript.lists a.base.transcript.accesses a.first.items _ few c.answer_items-scored.ensures in
    omega (arith, all)

pub returns-clause-items : goal.returns-clause-items
returns-clause-items c =
    let a = c.self.inside in
    let done : need_at a.stage ≡ Done = ap (λ (t : MachineState). t.need) c.self.view_is ∙ c.requires in
    subst (λ (t : MachineState). IsAnswer t c.from_vec-items.result) c.self.view_is
    (answers a.base a.phase a.first.items a.stage c.from_vec-items.result c.self.invariant.kept c.self.invariant.paid done (c.from_vec-items.ensures ∙ c.answer_items-scored.ensures))

pub returns-clause-run : goal.returns-clause-run
returns-clause-run c =
    let a = c.self.inside in
    subst MakesItsRun c.self.view_is (kept_makes a.base a.phase a.first.items a.stage c.self.invariant.kept c.self.invariant.paid)
