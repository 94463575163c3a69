use Rattle.std.proofs.Common.{sym, ◌∙◌, ap, Ok, Err}
use Rattle.topk_base.specs.Lines.{lines}
use Rattle.topk_base.proofs.LineLaws.{lines-nil}
use Rattle.bundle_text.specs.Tracking.{front_of}
use Rattle.bundle_text.proofs.ReadLaws.{ends_alone, ends_before_more}
use Rattle.bundle_text.proofs.bundle.read_end.Goals as goal

pub returns-in-Some : goal.returns-in-Some
returns-in-Some c =
    ends_before_more (front_of c.args.reader) c.args.number (lines c.args.rest.now) _ _ (λ _. Err c.args.number) c.args.query.now (sym c.is_whole.ensures ∙ c.if-not-is_whole.false) c.in-Some.ensures.0

pub returns : goal.returns
returns c =
    ends_alone (front_of c.args.reader) c.args.number (lines c.args.rest.now) (λ _. Err c.args.number) c.args.query.now (sym c.is_whole.ensures ∙ c.if-not-is_whole.false) (ap lines c.in_default.ensures ∙ lines-nil)
    ∙ ap Ok (sym c.in_ok-end.ensures)
