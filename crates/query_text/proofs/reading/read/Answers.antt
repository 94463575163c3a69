use Rattle.std.proofs.Common.{arith, Err, refl}
use Rattle.query_text.specs.declared.fault.QueryFault.TheVariants.{LongLine}
use Rattle.query_text.proofs.AnswerLaws.{draft_numbered, reads_finish, reads_fault}
use Rattle.query_text.proofs.BackLaws.{read_back}
use Rattle.query_text.proofs.reading.read.Goals as goal
use Rattle.topk_base.specs.declared.TheConstants.{MAX_LINE}

pub finish-requires-clause-numbered : goal.finish-requires-clause-numbered
finish-requires-clause-numbered c = draft_numbered c.args.bytes.now c.in-Ok.draft c.in-Ok.ensures

pub returns-then-bytes-clause-reads : goal.returns-then-bytes-clause-reads
returns-then-bytes-clause-reads c = (c.if-bytes.true, refl)

pub returns-in-Err-clause-reads : goal.returns-in-Err-clause-reads
returns-in-Err-clause-reads c = reads_fault c.args.bytes.now c.in-Err.fault (omega arith) c.in-Err.ensures

pub returns-clause-reads : goal.returns-clause-reads
returns-clause-reads c = reads_finish c.args.bytes.now c.in-Ok.draft c.finish.result (omega arith) c.in-Ok.ensures c.finish.ensures.small c.finish.ensures.made

pub returns-then-bytes-clause-again : goal.returns-then-bytes-clause-again
returns-then-bytes-clause-again c = read_back c.args.bytes.now (Err (LongLine MAX_LINE)) (c.if-bytes.true, refl)

pub returns-in-Err-clause-again : goal.returns-in-Err-clause-again
returns-in-Err-clause-again c = read_back c.args.bytes.now (Err c.in-Err.fault) (reads_fault c.args.bytes.now c.in-Err.fault (omega arith) c.in-Err.ensures)

pub returns-clause-again : goal.returns-clause-again
returns-clause-again c =
    read_back c.args.bytes.now c.finish.result (reads_finish c.args.bytes.now c.in-Ok.draft c.finish.result (omega arith) c.in-Ok.ensures c.finish.ensures.small c.finish.ensures.made)
