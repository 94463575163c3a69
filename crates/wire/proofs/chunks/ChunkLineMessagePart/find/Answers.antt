use Rattle.std.proofs.Common.{ℕ}
use Rattle.httparse.specs.Grammar.{ChunkLine}
use Rattle.httparse.specs.Spans.{IsChunkLineAt}
use Rattle.wire.proofs.FindLaws.{complete_as, long_line}
use Rattle.wire.proofs.chunks.ChunkLineMessagePart.find.Goals as goal

pub returns-then-found : goal.returns-then-found
returns-then-found c =
    let at = complete_as c.parse_chunk_size.result c.in-Ok-Complete.field-0 c.in-Ok-Complete.found (λ (r : ℕ × ℕ). (l : ChunkLine) × IsChunkLineAt c.args.came.now r.0 r.1 l) c.parse_chunk_size.ensures.complete c.in-Ok-Complete.is c.in-Ok-Complete.field-0-is in
    long_line c.args.came.now c.in-Ok-Complete.found.0 c.in-Ok-Complete.found.1 at.0 at.1 c.if-found.true
