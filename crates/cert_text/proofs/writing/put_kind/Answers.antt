use Rattle.std.proofs.Common.{[], ◌∷◌}
use Rattle.std.specs.Fmt.{decimal}
use Rattle.tk_io.proofs.Putting.{puts_then, puts_as}
use Rattle.cert_text.proofs.WritingLaws.{access_parts}
use Rattle.cert_text.proofs.writing.put_kind.Goals as goal

pub returns : goal.returns
returns g c =
    puts_as _ _ _ _ (access_parts c.args.kind c.args.name.now (decimal c.args.object) (decimal c.args.grade))
    (puts_then _ _ _ (c.args.kind ∷ 32 ∷ []) _ c.put.ensures.puts (puts_then _ _ _ c.args.name.now _ c.put-2.ensures.puts c.put_row.ensures))
