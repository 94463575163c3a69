use Rattle.std.proofs.Common.{sym, ◌∙◌, ap, subst, arith, ◌+◌}
use Rattle.topk_base.specs.Lines.{lines}
use Rattle.topk_base.proofs.LineLaws.{lines-nil}
use Rattle.bundle_text.specs.Reading.{part_read, read_on}
use Rattle.bundle_text.specs.Tracking.{front_of, GivesBundle}
use Rattle.bundle_text.proofs.ReadLaws.{read_on-nil, read_on-takes, read_on-refuses, read_on-query, no_query}
use Rattle.bundle_text.proofs.bundle.read_rest.Goals as goal

pub returns-in-Query : goal.returns-in-Query
returns-in-Query c =
    let front = front_of c.loop-line.reader in
    let e = c.loop-line.invariant.same ∙ read_on-query front c.loop-line.number c.in-Some.ensures.line (lines c.in-Some.more.now) (lines c.loop-line.rest.now) c.in-Query.query.now c.in-Some.ensures.whole (ap part_read (sym c.in-Query.is) ∙ c.in-Some.ensures.is) in
    subst (GivesBundle c.read_end.result) (sym e) c.read_end.ensures

pub returns-then-not-took : goal.returns-then-not-took
returns-then-not-took c =
    let front = front_of c.loop-line.reader in
    let line = c.in-Some.line in
    c.loop-line.invariant.same
    ∙ read_on-refuses front c.loop-line.number c.in-Some.ensures.line (lines c.in-Some.more.now) (lines c.loop-line.rest.now) (part_read line) c.in-Some.ensures.whole c.in-Some.ensures.is
    (no_query line c.in_default-line.not-Query) (sym c.in-Ok.ensures.tells ∙ c.if-not-took.true)

pub loop-line-preserved : goal.loop-line-preserved
loop-line-preserved c =
    let front = front_of c.loop-line.reader in
    let line = c.in-Some.line in
    let takes = c.in-Ok.ensures.takes c.if-not-took.false in
    record {
      tracked = takes.0;
      same =
          c.loop-line.invariant.same
          ∙ read_on-takes front c.loop-line.number c.in-Some.ensures.line (lines c.in-Some.more.now) (lines c.loop-line.rest.now) (part_read line) c.in-Some.ensures.whole c.in-Some.ensures.is (sym c.in-Ok.ensures.tells ∙ c.if-not-took.false)
          ∙ ap (λ f. read_on f (c.loop-line.number + 1) (lines c.in-Some.more.now)) (sym takes.1);
      few = let shorter = c.in-Some.ensures.shorter in let few = c.loop-line.invariant.few in omega arith;
    }

pub returns : goal.returns
returns c =
    let none = ap lines c.in_default.ensures ∙ lines-nil in
    c.loop-line.invariant.same ∙ ap (read_on (front_of c.loop-line.reader) c.loop-line.number) none ∙ read_on-nil (front_of c.loop-line.reader) c.loop-line.number
