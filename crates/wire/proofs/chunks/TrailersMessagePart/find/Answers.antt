use Rattle.std.proofs.Common.{ℕ, Err, ap, refl}
use Rattle.httparse.specs.Spans.{IsSectionOf, IsSectionWithin}
use Rattle.wire.proofs.FindLaws.{complete_as, long_trailers, short_trailers, many_trailers}
use Rattle.wire.proofs.chunks.TrailersMessagePart.find.Goals as goal

pub returns-then-found : goal.returns-then-found
returns-then-found c =
    let at = complete_as c.parse_headers.result c.in-Ok-Complete.field-0 c.in-Ok-Complete.found (IsSectionOf c.args.came.now 0 c.parse_headers.new.headers) c.parse_headers.ensures.complete c.in-Ok-Complete.is c.in-Ok-Complete.field-0-is in
    long_trailers c.args.came.now c.parse_headers.new.headers c.in-Ok-Complete.found.0 c.in-Ok-Complete.found.1 at.0 at.1 at.2 c.if-found.true

pub returns-else-found : goal.returns-else-found
returns-else-found c =
    let at = complete_as c.parse_headers.result c.in-Ok-Complete.field-0 c.in-Ok-Complete.found (IsSectionOf c.args.came.now 0 c.parse_headers.new.headers) c.parse_headers.ensures.complete c.in-Ok-Complete.is c.in-Ok-Complete.field-0-is in
    let within = complete_as c.parse_headers.result c.in-Ok-Complete.field-0 c.in-Ok-Complete.found (λ (r : ℕ × ℕ). IsSectionWithin c.args.came.now c.parse_headers.new.headers r.0 r.1) c.parse_headers.ensures.within c.in-Ok-Complete.is c.in-Ok-Complete.field-0-is in
    short_trailers c.args.came.now c.parse_headers.new.headers c.in-Ok-Complete.found.0 c.in-Ok-Complete.found.1 at c.if-found.false within.len_fits c.parse_headers.auto.headers

pub returns-in-Err-TooManyHeaders : goal.returns-in-Err-TooManyHeaders
returns-in-Err-TooManyHeaders c = many_trailers c.args.came.now 64 refl (c.in-Err-TooManyHeaders.ensures.too_many (ap Err c.in-Err-TooManyHeaders.field-0-is)) c.in-Err-TooManyHeaders.ensures.no_room
