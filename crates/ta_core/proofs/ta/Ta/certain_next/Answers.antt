use Rattle.std.proofs.Common.{ℕ, List, subst, sym, ap, ◌∙◌}
use Rattle.ranked_list.specs.declared.need.Need.{Need}
use Rattle.ranked_list.specs.declared.need.Need.TheVariants as needs
use Rattle.machine_base.specs.Certain.{Foresees, first_unknown}
use Rattle.ta_core.specs.Machine.{run_halting}
use Rattle.ta_core.specs.Shown.{reading_of}
use Rattle.ta_core.proofs.Certain.{state_foresees, state_left}
use Rattle.ta_core.proofs.ta.Ta.certain_next.Goals as goal

pub returns-in-Row-clause-left : goal.returns-in-Row-clause-left
returns-in-Row-clause-left c =
    let a = c.self.inside in
    state_left a.halting a.base a.board (reading_of a.progress) c.args.list (needs.Row c.in-Row.list c.in-Row.depth) c.args.self.now c.self.invariant.kept c.self.view_is c.requires c.in-Row.ensures.need

pub returns-in-Row-clause-certain : goal.returns-in-Row-clause-certain
returns-in-Row-clause-certain c =
    let a = c.self.inside in
    subst (λ (need : Need). Foresees (run_halting c.args.self.now.halting) c.args.self.now.state c.args.list need) (sym (returns-in-Row-clause-left c))
    (state_foresees a.halting a.base a.board (reading_of a.progress) c.args.list c.args.self.now c.self.invariant.kept c.self.view_is c.requires)

pub returns-in-Grade-clause-left : goal.returns-in-Grade-clause-left
returns-in-Grade-clause-left c =
    let a = c.self.inside in
    c.first_unknown.ensures
    ∙ ap (λ (os : List ℕ). first_unknown a.base.transcript.accesses os c.args.list) c.as_slice-waiting.ensures.value
    ∙ state_left a.halting a.base a.board (reading_of a.progress) c.args.list (needs.Grade c.in-Grade.list c.in-Grade.object) c.args.self.now c.self.invariant.kept c.self.view_is c.requires c.in-Grade.ensures.need

pub returns-in-Grade-clause-certain : goal.returns-in-Grade-clause-certain
returns-in-Grade-clause-certain c =
    let a = c.self.inside in
    subst (λ (need : Need). Foresees (run_halting c.args.self.now.halting) c.args.self.now.state c.args.list need) (sym (returns-in-Grade-clause-left c))
    (state_foresees a.halting a.base a.board (reading_of a.progress) c.args.list c.args.self.now c.self.invariant.kept c.self.view_is c.requires)
