use Rattle.std.proofs.Common.{ℕ, List, ap, ◌∙◌}
use Rattle.monotone_fn.specs.Tree.{Tree, trees, terms}
use Rattle.made_inputs.proofs.Trees.{made_in_turn}
use Rattle.made_inputs.proofs.expression.made_root.Goals as goal

pub returns-then-number-eq4 : goal.returns-then-number-eq4
returns-then-number-eq4 c =
    ap (λ (weights : List (ℕ × Tree)). Tree.Wsum (terms weights)) c.in_ok-all_weights.ensures ∙ made_in_turn c.args.number c.args.lists 4 c.if-number-eq4.true

pub returns-in-0 : goal.returns-in-0
returns-in-0 c = ap (λ (grades : List Tree). Tree.Min (trees grades)) c.in_ok-grades.ensures ∙ made_in_turn c.args.number c.args.lists 0 c.in-0.is

pub returns-in-1 : goal.returns-in-1
returns-in-1 c = ap (λ (grades : List Tree). Tree.Max (trees grades)) c.in_ok-grades.ensures ∙ made_in_turn c.args.number c.args.lists 1 c.in-1.is

pub returns-in-2 : goal.returns-in-2
returns-in-2 c = ap (λ (grades : List Tree). Tree.Sum (trees grades)) c.in_ok-grades.ensures ∙ made_in_turn c.args.number c.args.lists 2 c.in-2.is
