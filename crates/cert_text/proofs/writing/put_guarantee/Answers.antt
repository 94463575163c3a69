use Rattle.std.proofs.Common.{ap, ◌∙◌, append-nil, option_map}
use Rattle.topk_base.specs.Lines.{unlines}
use Rattle.tk_io.proofs.Putting.{puts_none, puts_as}
use Rattle.cert_text.specs.Guarantee.{factor_of}
use Rattle.cert_text.specs.Certificate.{guarantee_lines}
use Rattle.cert_text.proofs.writing.put_guarantee.Goals as goal

pub returns-in_default : goal.returns-in_default
returns-in_default g c = puts_as _ _ _ _ (ap (λ o. unlines (guarantee_lines (option_map factor_of o))) c.in_default.is) (puts_none _)

pub returns : goal.returns
returns g c = puts_as _ _ _ _ (ap (λ o. unlines (guarantee_lines (option_map factor_of o))) c.in-Some.is ∙ append-nil _) c.put_line.ensures
