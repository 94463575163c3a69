use Rattle.std.proofs.Common.{refl, ap, ◌∙◌}
use Rattle.cert_text.proofs.FigureLaws.{now_unwrap_or}
use Rattle.cert_text.proofs.writing.name_at.Goals as goal

pub returns : goal.returns
returns c = ap (λ r. r.now) c.unwrap_or.ensures ∙ now_unwrap_or c.args.names.now c.args.list _ _ c.get.ensures refl
