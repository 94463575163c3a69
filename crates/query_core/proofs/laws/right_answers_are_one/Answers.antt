use Rattle.std.proofs.Common.{sym, ◌∙◌}
use Rattle.query_core.proofs.laws.right_answers_are_one.Goals as goal

pub returns : goal.returns
returns c = λ method q n one other D is_one is_other agrees_one agrees_other.
    let p = is_one.every D agrees_one in
    let r = is_other.every D agrees_other in
    (p.items ∙ sym r.items, p.run ∙ sym r.run)
