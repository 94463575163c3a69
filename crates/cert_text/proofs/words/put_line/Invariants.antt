use Rattle.std.proofs.Common.{◌++◌, map, take}
use Rattle.tk_io.specs.Pieces.{Puts}
use Rattle.cert_text.specs.Writing.{further, word_text}
use Rattle.cert_text.proofs.words.put_line.Given as goal

-- the first word and the words so far were put
abbrev pub invariant-loop-word : goal.invariant-loop-word
invariant-loop-word g l =
    Puts (g.P.Put.at l.fn.out) (g.P.Put.at l.out)
    (l.first ++ further (map word_text (take l.word-index l.words)))
