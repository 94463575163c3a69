use Rattle.std.proofs.Common.{sym}
use Rattle.query_admission.proofs.Admitting.{refused_many, refused_text}
use Rattle.query_admission.proofs.reading.read_line.Goals as goal

pub returns-then-line-gt-MAX_QUERIES : goal.returns-then-line-gt-MAX_QUERIES
returns-then-line-gt-MAX_QUERIES c = λ view.
    refused_many (record { view = view; number = c.args.line; bytes = c.args.bytes.now }) c.if-line-gt-MAX_QUERIES.true

pub returns-in-Some : goal.returns-in-Some
returns-in-Some c = λ view.
    refused_text (record { view = view; number = c.args.line; bytes = c.args.bytes.now }) c.in-Err.fault c.in-Some.refusal c.if-line-gt-MAX_QUERIES.false
    (sym c.in-Some.ensures) c.in-Err.ensures.reads
