use Rattle.topk_theory.proofs.AgreementLists.{all_from_members, member_of_all}
use Rattle.query_run.specs.Causes.{IsRefusedForCause}
use Rattle.query_run.specs.Kept.{IsServed}
use Rattle.topk_top.proofs.Right.{lines_right}
use Rattle.topk_top.proofs.laws_catalog.outcomes_are_right.Goals as goal

pub returns-clause-answers : goal.returns-clause-answers
returns-clause-answers c = λ r outcomes run. lines_right r outcomes run

pub returns-clause-refusals : goal.returns-clause-refusals
returns-clause-refusals c = λ r outcomes run.
    let b = run.ran.ran in
    all_from_members (IsRefusedForCause b.states) b.queries (λ q m. (member_of_all (IsServed b.states) b.queries q b.served m).cause)
