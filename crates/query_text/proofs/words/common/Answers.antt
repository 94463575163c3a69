use Rattle.std.proofs.Common.{arith}
use Rattle.query_text.proofs.LongestLaws.{front_more, longest_differs, longest_ends}
use Rattle.query_text.proofs.words.common.Goals as goal

pub returns-then-word-count : goal.returns-then-word-count
returns-then-word-count c =
    longest_differs c.loop-count.count c.args.text.now c.args.word.now (omega arith) (omega arith) c.loop-count.invariant.2 c.if-word-count.true

pub loop-count-preserved : goal.loop-count-preserved
loop-count-preserved c = (
  omega arith,
  omega arith,
  front_more c.loop-count.count c.args.text.now c.args.word.now (omega arith) (omega arith) c.loop-count.invariant.2 c.if-word-count.false,
)

pub returns-after-loop-count : goal.returns-after-loop-count
returns-after-loop-count c =
    longest_ends c.loop-count.count c.args.text.now c.args.word.now (omega arith) (λ l. omega arith) c.loop-count.invariant.2
