use Rattle.tk_io.proofs.Putting.{puts_none, puts_as}
use Rattle.cert_text.proofs.VersionLines.{text_none, text_some}
use Rattle.cert_text.proofs.writing.put_version.Goals as goal

pub returns-then-version-eq0 : goal.returns-then-version-eq0
returns-then-version-eq0 g c = puts_as _ _ _ _ (text_none c.args.name.now c.args.version c.if-version-eq0.true) (puts_none _)

pub returns : goal.returns
returns g c = puts_as _ _ _ _ (text_some c.args.name.now c.args.version c.if-version-eq0.false) c.put_line.ensures
