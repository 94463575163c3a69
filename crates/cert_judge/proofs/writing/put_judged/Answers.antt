use Rattle.std.proofs.Common.{[], ◌∷◌, ◌++◌}
use Rattle.tk_io.proofs.Putting.{puts_then}
use Rattle.topk_base.specs.Lines.{unlines}
use Rattle.bundle_text.specs.Bundle.{content, bundle_lines}
use Rattle.cert_judge.specs.Text.{told_text, beaten_line}
use Rattle.cert_judge.proofs.Refusing.{not_beaten}
use Rattle.cert_judge.proofs.writing.put_judged.Goals as goal

pub returns-in-Beaten : goal.returns-in-Beaten
unfolding told_text
returns-in-Beaten g c =
    rw c.in-Beaten.is (puts_then _ _ _ (beaten_line c.in-Beaten.inside c.in-Beaten.low c.in-Beaten.outside c.in-Beaten.high ++ 10 ∷ []) (unlines (bundle_lines (content c.in-Beaten.counter))) c.put_beaten.ensures c.put_bundle.ensures)

pub returns-in_default : goal.returns-in_default
unfolding told_text
returns-in_default g c = rw (not_beaten c.args.told.now c.requires c.in_default.not-Beaten) c.put.ensures.puts
