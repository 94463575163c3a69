use Rattle.std.proofs.Common.{[], ◌∷◌}
use Rattle.std.specs.Fmt.{decimal}
use Rattle.tk_io.proofs.Putting.{puts_then}
use Rattle.cert_text.proofs.words.put_further.Goals as goal

pub returns-in-Text : goal.returns-in-Text
returns-in-Text g c = rw c.in-Text.is (puts_then _ _ _ (32 ∷ []) c.in-Text.text.now c.put.ensures.puts c.put-in-Text.ensures.puts)

pub returns-in-Number : goal.returns-in-Number
returns-in-Number g c = rw c.in-Number.is (puts_then _ _ _ (32 ∷ []) (decimal c.in-Number.number) c.put.ensures.puts c.put_number.ensures.puts)
