use Rattle.std.proofs.Common.{zip, arith}
use Rattle.tk_io.proofs.Putting.{puts_none, puts_as, puts_all}
use Rattle.cert_text.proofs.VersionLines.{versions_text, lines_text, puts_version, zip_passed}
use Rattle.cert_text.proofs.writing.put_versions.Goals as goal

pub loop-list-init : goal.loop-list-init
loop-list-init g c = puts_none _

pub loop-list-preserved : goal.loop-list-preserved
loop-list-preserved g c =
    puts_version c.args.names.now c.args.versions.now c.loop-list.list _ c.name_at-name.result.now _ _ _
    (omega (arith, c.len-lists.ensures)) c.requires c.name_at-name.ensures c.loop-list.invariant c.put_version.ensures

pub returns : goal.returns
returns g c =
    let lists = zip c.args.names.now c.args.versions.now in
    puts_as _ _ _ _ (lines_text c.args.names.now c.args.versions.now)
    (puts_all versions_text lists c.loop-list.list _ _
    (zip_passed c.args.names.now c.args.versions.now c.loop-list.list (omega (arith, c.len-lists.ensures))) c.loop-list.invariant)
