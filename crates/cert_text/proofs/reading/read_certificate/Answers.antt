use Rattle.topk_base.specs.Lines.{lines}
use Rattle.cert_text.specs.Outcome.{certificate_of}
use Rattle.cert_text.proofs.CertifiedLaws.{certified_spelled}
use Rattle.cert_text.proofs.CertificateLaws.{finds_found, finds_reads, finds_fault_line}
use Rattle.cert_text.proofs.reading.read_certificate.Goals as goal

pub returns-clause-found : goal.returns-clause-found
returns-clause-found c = finds_found (lines c.args.bytes.now) c.read_lines.result c.read_lines.ensures

pub returns-clause-reads : goal.returns-clause-reads
returns-clause-reads c = finds_reads (lines c.args.bytes.now) c.read_lines.result c.read_lines.ensures

pub returns-clause-fault : goal.returns-clause-fault
returns-clause-fault c = finds_fault_line (lines c.args.bytes.now) c.read_lines.result c.read_lines.ensures

pub returns-clause-again : goal.returns-clause-again
returns-clause-again c = λ line query count versions answer is same.
    finds_reads (lines c.args.bytes.now) c.read_lines.result c.read_lines.ensures (certificate_of line query count versions answer) (certified_spelled line query count versions answer c.args.bytes.now is same)
