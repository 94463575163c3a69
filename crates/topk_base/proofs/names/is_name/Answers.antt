use Rattle.topk_base.proofs.names.is_name.Goals as goal
use Rattle.std.proofs.Common.{sym, ◌∙◌, arith}
use Rattle.topk_base.proofs.NameLaws.{is_name_by_rest}

pub returns : goal.returns
returns c =
    let letter = sym c.is_ascii_alphabetic.ensures.value ∙ c.if-not-is_ascii_alphabetic.false in
    let e = is_name_by_rest c.args.text.now c.in-Some.first.now c.in-Some.rest.now c.in-Some.ensures.cases.0 (omega arith) letter in
    (λ t. e ∙ (sym c.are_name_bytes.ensures ∙ t), λ t. c.are_name_bytes.ensures ∙ (sym e ∙ t))
