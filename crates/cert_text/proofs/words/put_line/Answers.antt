use Rattle.std.proofs.Common.{[], ◌∷◌, ◌++◌, map, append-nil, arith}
use Rattle.std.proofs.lemmas.Option.{slice_get-get_or}
use Rattle.tk_io.proofs.Putting.{puts_then, puts_as, puts_all}
use Rattle.cert_text.specs.Writing.{further, word_text}
use Rattle.cert_text.proofs.WritingLaws.{spaced-cons, further_more}
use Rattle.cert_text.proofs.words.put_line.Goals as goal

pub loop-word-init : goal.loop-word-init
loop-word-init g c = puts_as _ _ _ _ (append-nil c.args.first.now) c.put.ensures.puts

pub loop-word-preserved : goal.loop-word-preserved
loop-word-preserved g c =
    puts_as _ _ _ _ (further_more word_text c.args.first.now c.args.words.now c.loop-word.word-index _ (slice_get-get_or c.args.words.now c.loop-word.word-index _ (omega arith)))
    (puts_then _ _ _ _ _ c.loop-word.invariant c.put_further.ensures)

pub returns : goal.returns
returns g c =
    let words = map word_text c.args.words.now in
    rw (spaced-cons c.args.first.now words)
    (puts_then _ _ _ (c.args.first.now ++ further words) (10 ∷ [])
    (puts_all (λ words. c.args.first.now ++ further (map word_text words)) c.args.words.now c.loop-word.word-index _ _ (omega arith) c.loop-word.invariant) c.put-2.ensures.puts)
