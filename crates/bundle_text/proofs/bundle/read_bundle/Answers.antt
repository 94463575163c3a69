use Rattle.topk_base.specs.Lines.{lines}
use Rattle.topk_base.proofs.LineLaws.{lines_have_no_end}
use Rattle.bundle_text.proofs.Outcome.{lines_of_text, result_found, result_reads, result_fault}
use Rattle.bundle_text.proofs.bundle.read_bundle.Goals as goal

pub returns-clause-found : goal.returns-clause-found
returns-clause-found c = result_found (lines c.args.bytes.now) c.read_lines.result (lines_of_text (lines c.args.bytes.now) (lines_have_no_end c.args.bytes.now)) c.read_lines.ensures

pub returns-clause-reads : goal.returns-clause-reads
returns-clause-reads c = result_reads (lines c.args.bytes.now) c.read_lines.result c.read_lines.ensures

pub returns-clause-fault : goal.returns-clause-fault
returns-clause-fault c = result_fault (lines c.args.bytes.now) c.read_lines.result (lines_of_text (lines c.args.bytes.now) (lines_have_no_end c.args.bytes.now)) c.read_lines.ensures
