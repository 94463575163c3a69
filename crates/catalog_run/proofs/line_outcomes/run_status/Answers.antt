use Rattle.std.proofs.Common.{sym, ap, ◌∙◌, rules, tests}
use Rattle.std.specs.Prelude.{if◌then◌else◌}
use Rattle.std.proofs.lemmas.Iterator.{YieldsList-from_slice}
use Rattle.std.proofs.lemmas.Iterator.Search.{all_from_yields_List}
use Rattle.catalog_run.specs.Running.{is_answer}
use Rattle.command_line.specs.declared.status.Status.TheVariants.{Done, Partial}
use Rattle.catalog_run.proofs.line_outcomes.run_status.Goals as goal

pub returns-then-all : goal.returns-then-all
returns-then-all c =
    ap (λ b. if b then Done else Partial)
    (sym c.if-all.true ∙ all_from_yields_List (λ o. is_answer o.outcome) _ _ c.all.result c.all.ensures.ran (YieldsList-from_slice c.args.outcomes.now cc) (λ x b q k. search (rules, tests)))

pub returns : goal.returns
returns c =
    ap (λ b. if b then Done else Partial)
    (sym c.if-all.false ∙ all_from_yields_List (λ o. is_answer o.outcome) _ _ c.all.result c.all.ensures.ran (YieldsList-from_slice c.args.outcomes.now cc) (λ x b q k. search (rules, tests)))
