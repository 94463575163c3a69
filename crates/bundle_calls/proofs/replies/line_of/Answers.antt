use Rattle.std.proofs.Common.{subst}
use Rattle.bundle_text.specs.Bundle.{content}
use Rattle.query_admission.specs.Causes.{admission_causes}
use Rattle.query_admission.specs.Admission.{Admits, RefusesLine}
use Rattle.bundle_calls.specs.Bundled.{bundle_view}
use Rattle.bundle_calls.proofs.Bundling.{line_refused}
use Rattle.bundle_calls.proofs.replies.line_of.Goals as goal

pub returns-in-Ok-Refused : goal.returns-in-Ok-Refused
returns-in-Ok-Refused c =
    let bundle = content c.args.bundle.now in
    let refusal = c.in-Ok-Refused.refusal in
    let query = c.in-Ok-Refused.query in
    let refused = subst (Admits (record { view = bundle_view c.of.result; number = 1; bytes = c.deref.result.now })) c.in-Ok-Refused.field-0-is c.in-Ok-Refused.ensures in
    rw (c.from_vec.ensures, c.new.ensures.items) (line_refused bundle refusal query
    (subst (λ d. RefusesLine admission_causes (record { view = bundle_view d; number = 1; bytes = c.args.bundle.now.query.items }) refusal query) c.of.ensures
    (subst (λ bytes. RefusesLine admission_causes (record { view = bundle_view c.of.result; number = 1; bytes = bytes }) refusal query) c.deref.ensures.value refused)))
