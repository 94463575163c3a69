use Rattle.std.specs.Fmt.{decimal}
use Rattle.tk_io.proofs.Putting.{puts_then}
use Rattle.cert_judge.proofs.writing.put_named.Goals as goal

pub returns : goal.returns
returns g c = puts_then _ _ _ c.args.word.now (decimal c.args.number) c.put.ensures.puts c.put_number.ensures.puts
