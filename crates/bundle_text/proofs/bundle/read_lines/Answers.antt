use Rattle.std.proofs.Common.{sym, ◌∙◌, ap, subst}
use Rattle.topk_base.specs.Lines.{lines}
use Rattle.topk_base.proofs.LineLaws.{lines-nil}
use Rattle.bundle_text.specs.Reading.{read_on}
use Rattle.bundle_text.specs.Tracking.{GivesBundle}
use Rattle.bundle_text.proofs.ReadLaws.{read_all-none, read_all-first}
use Rattle.bundle_text.proofs.bundle.read_lines.Goals as goal

pub returns-in_default : goal.returns-in_default
returns-in_default c = read_all-none (lines c.args.bytes.now) (ap lines c.in_default.ensures ∙ lines-nil)

pub returns : goal.returns
returns c =
    let first = read_all-first c.in-Some.text.now (lines c.in-Some.rest.now) (lines c.args.bytes.now) c.in-Heading.name.now c.in-Some.ensures.0 c.in-Heading.ensures in
    let front = ap (λ front. read_on front 2 (lines c.in-Some.rest.now)) c.in_ok-reader.ensures.1 in
    subst (GivesBundle c.read_rest.result) (front ∙ sym first) c.read_rest.ensures
